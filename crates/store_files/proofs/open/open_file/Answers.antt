use Rattle.std.proofs.Common.{true, false, ap₂, None}
use Rattle.sqlite_std_file.specs.File.{IsFresh}
use Rattle.store_files.specs.RefusedFiles.{IsNoStore, IsUnopened}
use Rattle.store_files.proofs.Opening.{by_error, by_store, fresh_left, fresh_read, given_back, image, is_spared, is_taken, kept_stands, none_stands, seen_again, unmade}
use Rattle.sqlite.specs.Files.{file_state}
use Rattle.sqlite_wal.specs.Files.{image_at}
use Rattle.store_files.proofs.open.open_file.Goals as goal

pub returns-in-Ok-open-clause-none : goal.returns-in-Ok-open-clause-none
returns-in-Ok-open-clause-none g c = λ clean.
    none_stands (image_at g.S.Start) (file_state c.in-Ok.connection) (file_state c.in-Ok-open.store.connection) c.in-Ok-open.store.live.attempts _ c.in-Ok-open.ensures.crash clean
    c.in-Ok.ensures.found c.in-Ok.ensures.opened (c.in-Ok-open.ensures.fresh clean) (c.in-Ok-open.ensures.left clean)

pub returns-in-Ok-open-clause-kept : goal.returns-in-Ok-open-clause-kept
returns-in-Ok-open-clause-kept g c = λ clean.
    kept_stands (image_at g.S.Start) (file_state c.in-Ok.connection) (file_state c.in-Ok-open.store.connection) c.in-Ok-open.store.live.attempts _ c.in-Ok-open.ensures.crash clean
    c.in-Ok.ensures.found c.in-Ok.ensures.opened (c.in-Ok-open.ensures.fresh clean) (c.in-Ok-open.ensures.left clean)

pub returns-in-Ok-open-clause-taken : goal.returns-in-Ok-open-clause-taken
returns-in-Ok-open-clause-taken g c = λ clean.
    is_taken (image_at g.S.Start) (file_state c.in-Ok.connection) (file_state c.in-Ok-open.store.connection) c.in-Ok-open.store.live.attempts _ c.in-Ok-open.ensures.crash clean
    c.in-Ok.ensures.found c.in-Ok.ensures.opened (c.in-Ok-open.ensures.fresh clean) (c.in-Ok-open.ensures.left clean) (c.in-Ok-open.ensures.taken clean)

pub returns-in-Err-clause-unopened : goal.returns-in-Err-clause-unopened
returns-in-Err-clause-unopened g c =
    by_error c.in-Err.error None (IsUnopened (image_at g.S.Start)) (unmade (image_at g.S.Start) c.in-Err.error c.in-Err.ensures.why)

pub returns-in-Err-open_from-clause-unopened : goal.returns-in-Err-open_from-clause-unopened
returns-in-Err-open_from-clause-unopened g c =
    by_error c.in-Err-open_from.error c.in-Err-open_from.left (IsUnopened (image_at g.S.Start)) (record {
      named = c.in-Err-open_from.ensures.named;
      none = c.in-Err-open_from.ensures.unopened;
      some = given_back (image_at g.S.Start) c.in-Err-open_from.error (IsFresh true) (IsFresh false) (λ files log db. record {
        read = ap₂ image (fresh_read g.S.Start.log g.S.Start.db _ true _ _ log.0 log.1) (fresh_read g.S.Start.log g.S.Start.db _ false _ _ db.0 db.1);
        left = λ other may. ap₂ image (fresh_left g.S.Start.is_mixing g.S.Start.log g.S.Start.db _ true _ _ other.log log.0 log.1 may.0)
            (fresh_left g.S.Start.is_mixing g.S.Start.log g.S.Start.db _ false _ _ other.db db.0 db.1 may.1);
      }) c.in-Err-open_from.left c.in-Err-open_from.ensures.cause;
    })

pub returns-in-Err-open-clause-no_store : goal.returns-in-Err-open-clause-no_store
returns-in-Err-open-clause-no_store g c =
    let was = file_state c.in-Ok.connection in
    let now = file_state c.in-Err-open.left.connection in
    let back = c.in-Err-open.ensures.refused in
    by_store c.in-Err-open.left (λ left. IsNoStore (image_at g.S.Start) left.connection left.refusal) (record {
      was = c.in-Ok.connection;
      opened = record { opened = c.in-Ok.ensures.opened; found = c.in-Ok.ensures.found };
      back = back;
      cause = c.in-Err-open.ensures.why;
      told = c.in-Err-open.ensures.cause;
      seen = λ clean is_open. seen_again (image_at g.S.Start) was now back (λ first. (c.in-Ok.ensures.opened first).0) clean c.in-Ok.ensures.found is_open;
      spared = λ clean foreign trees may. is_spared (image_at g.S.Start) was now back (λ first. (c.in-Ok.ensures.opened first).0) clean c.in-Err-open.left.refusal (c.in-Err-open.ensures.why clean) foreign trees may;
    })
