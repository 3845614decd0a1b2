-- What is written to forget invocations.
use Rattle.std.specs.Prelude.{List, [], ◌∷◌}
use Rattle.std.specs.List.{flat_map}
use Rattle.journal_model.specs.Notification.{Text}
use Rattle.store_tables.specs.declared.row.Write.{Write}
use Rattle.store_tables.specs.declared.row.Write.TheVariants.{CloseSleeps, DropEntries, DropInvocation}

-- The rows of one are removed: its own, those of its journal, and those of its sleeps. The values of its object stay.
abbrev pub forgetting_writes : Text → List Write
forgetting_writes id = DropInvocation id ∷ DropEntries id ∷ CloseSleeps id ∷ []

-- so are those of each of several
abbrev pub forgetting_writes_of_all : List Text → List Write
forgetting_writes_of_all ids = flat_map forgetting_writes ids
