use Rattle.std.proofs.Common.{refl, ap, ◌∙◌}
use Rattle.sqlite_trees.specs.Objects.{catalog_tree}
use Rattle.store_files.proofs.Made.{never_in_doubt, nothing_listed, unmade_by, unopened_unmade}
use Rattle.store_files.proofs.memory.connect.Goals as goal

pub over-requires : goal.over-requires
over-requires c = λ clean. c.in_ok-database.ensures.made.fresh

pub returns-in-Ok-clause-ok : goal.returns-in-Ok-clause-ok
returns-in-Ok-clause-ok c =
    let clean = never_in_doubt c.in-Ok.connection.store (λ disk. refl) in
    let opened = c.in-Ok.ensures.opens clean in
    record {
      clean = clean;
      none = nothing_listed _ _ (ap (λ t. t catalog_tree) (c.in-Ok.ensures.trees clean) ∙ c.in_ok-database.ensures.made.unlisted) (opened.1 opened.0.is_open).0;
      idle = opened.0.autocommit;
      unlimited = c.in-Ok.ensures.fresh.unlimited;
    }

pub returns-in_err-database-clause-cause : goal.returns-in_err-database-clause-cause
returns-in_err-database-clause-cause c = unmade_by _ c.from_residual.result c.from_residual.ensures.1 (λ cause is. absurd (c.in_err-database.ensures.unasked cause is))

pub returns-in-Err-clause-cause : goal.returns-in-Err-clause-cause
returns-in-Err-clause-cause c = unopened_unmade _ c.in-Err.ensures.named
