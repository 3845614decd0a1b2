-- How far the invocation is goes into its row; each other write is put behind.
use Rattle.std.proofs.Common.{◌≡◌, refl, sym, ap, ◌∙◌, List, [], ◌∷◌, ◌++◌, append-nil}
use Rattle.store_tables.specs.declared.row.Progress.{Progress}
use Rattle.store_tables.specs.declared.row.Write.{Write}
use Rattle.store_live.specs.Rows.{row_with_progress}
use Rattle.journal_store.specs.JoinedFrames.{other_writes, row_behind}
use Rattle.journal_store.proofs.JoinedWrites.{is_other, other_alone, other_row}
use Rattle.journal_store.proofs.joined.put_write.Goals as goal

pub returns-in-SetProgress-clause-writes : goal.returns-in-SetProgress-clause-writes
returns-in-SetProgress-clause-writes c = rw c.in-SetProgress.is (sym (append-nil c.args.writes.now.items))

pub returns-in-SetProgress-clause-row : goal.returns-in-SetProgress-clause-row
returns-in-SetProgress-clause-row c = rw c.in-SetProgress.is (ap (λ (progress : Progress). row_with_progress progress c.args.row.now) c.replace.ensures.after)

pub returns-in_ok-push-in_default-clause-writes : goal.returns-in_ok-push-in_default-clause-writes
returns-in_ok-push-in_default-clause-writes c =
    c.in_ok-push-in_default.ensures.items ∙ ap (λ (more : List Write). c.args.writes.now.items ++ more) (other_alone c.args.write (is_other c.args.write c.in_default.not-SetProgress))

pub returns-in_ok-push-in_default-clause-row : goal.returns-in_ok-push-in_default-clause-row
returns-in_ok-push-in_default-clause-row c = other_row c.args.write c.args.row.now (is_other c.args.write c.in_default.not-SetProgress)
