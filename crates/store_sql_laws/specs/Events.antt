-- What is written of an event is not refused for a key.
use Rattle.std.specs.Prelude.{◌≡◌, ◌⊎◌, ⊤, ℕ, false, List, Option, is_some}
use Rattle.std.specs.List.{AllByRecursion}
use Rattle.journal_model.specs.Event.{Event}
use Rattle.journal_model.specs.Cause.{IsAccepted}
use Rattle.journal_model.specs.Journal.{invocation_begun}
use Rattle.sqlite.specs.Effect.{Database}
use Rattle.sql_tables.specs.Causes.{AreRefused}
use Rattle.store_tables.specs.Tables.{store_schema}
use Rattle.store_tables.specs.Records.{Holds, Records}
use Rattle.store_tables.specs.declared.row.Write.{Write}
use Rattle.store_tables.specs.Statements.{statements_of_all}
use Rattle.store_tables.specs.declared.row.Write.TheVariants.{AddInvocation}
use Rattle.store_model.specs.KeptRecords.{IsKept}
use Rattle.store_model.specs.Writes.{writes_of}
use Rattle.store_sql_laws.specs.Keys.{key_taken}

-- no invocation is added
abbrev pub AddsNone : Write → Type 0
AddsNone (AddInvocation i) = ⊥
AddsNone _ = ⊤

-- an invocation that an event begins was not begun before
abbrev pub BeginsNew : List Event → Event → Type 0
BeginsNew events (Event.Invoke new) = is_some (invocation_begun events new.id) ≡ false
BeginsNew events _ = ⊤

-- these are the writes of such an event, or writes that add no invocation, as those of a tick are in whatever order
abbrev pub AreItsWrites : List Event → Event → List Write → Type 0
AreItsWrites events event writes = (BeginsNew events event × (writes ≡ writes_of events event)) ⊎ AllByRecursion AddsNone writes

-- over tables that keep the accepted events, none of them is refused for a key
abbrev pub NoEventTakesAKey : Type 0
NoEventTakesAKey =
    (limit : Option ℕ) (events : List Event) (event : Event) (writes : List Write) (before : Database) (records : Records) → IsAccepted events → before.schema ≡ store_schema
    → Holds before.trees records → IsKept events records → AreItsWrites events event writes → AreRefused limit (statements_of_all writes) before key_taken → ⊥
