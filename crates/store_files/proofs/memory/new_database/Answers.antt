use Rattle.std.proofs.Common.{refl, ap, ◌∙◌}
use Rattle.sqlite_store.specs.Listing.{listed_from}
use Rattle.sqlite_store.specs.Listed.{catalog_rows}
use Rattle.sqlite_trees.proofs.Doubt.{clean_of}
use Rattle.store_refusals.proofs.Causes.{unasked_by}
use Rattle.store_files.proofs.Made.{never_in_doubt}
use Rattle.store_files.proofs.memory.new_database.Goals as goal

pub returns-in-Ok-clause-made : goal.returns-in-Ok-clause-made
returns-in-Ok-clause-made c =
    let made = c.in-Ok.ensures in
    let clean = never_in_doubt c.in-Ok.database (λ disk. refl) in
    record {
      clean = clean;
      fresh = record { sound = made.ready.sound clean; numbered = made.numbered; clean = made.ready.clean; unmarked = made.ready.unmarked };
      unlisted = rw (clean_of _ clean) (catalog_rows _ _ _ ∙ ap (listed_from 0) (made.schema ∙ c.in_ok-files.ensures.none));
    }

pub returns-in_err-files-clause-unasked : goal.returns-in_err-files-clause-unasked
returns-in_err-files-clause-unasked c = unasked_by _ c.from_residual.result c.from_residual.ensures.1 c.in_err-files.ensures.unasked
