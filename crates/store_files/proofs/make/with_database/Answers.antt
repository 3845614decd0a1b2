use Rattle.std.proofs.Common.{sym, ap, ◌∙◌}
use Rattle.sqlite_wal.specs.Reads.{are_clean}
use Rattle.sqlite.proofs.OpenLemmas.{pool_files}
use Rattle.store_files.proofs.make.with_database.Goals as goal

pub returns-in-Ok-create : goal.returns-in-Ok-create
returns-in-Ok-create g c =
    let was = (pool_files c.in-Ok-with_sums.files.pool).1 ∙ ap (λ f. are_clean g.D.Disk f.0 f.1) (c.in-Ok-with_sums.ensures.files ∙ c.in-Ok.ensures.files) in
    let is = (pool_files c.in-Ok-create.store.pool).1 ∙ ap (λ f. are_clean g.D.Disk f.0 f.1) (sym c.close-in-Ok-create.ensures) in
    record { honest = λ clean. sym was ∙ c.in-Ok-create.ensures.honest (is ∙ clean) }

pub returns-in-Err-create : goal.returns-in-Err-create
returns-in-Err-create g c =
    let was = (pool_files c.in-Ok-with_sums.files.pool).1 ∙ ap (λ f. are_clean g.D.Disk f.0 f.1) (c.in-Ok-with_sums.ensures.files ∙ c.in-Ok.ensures.files) in
    let is = (pool_files c.in-Err-create.left.pool).1 ∙ ap (λ f. are_clean g.D.Disk f.0 f.1) (sym c.close-in-Err-create.ensures) in
    record { honest = λ clean. sym was ∙ c.in-Err-create.ensures.falls (is ∙ clean) }
