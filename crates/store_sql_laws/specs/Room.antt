-- A write of a store is refused by SQL's rules for want of room alone.
use Rattle.std.specs.Prelude.{◌≡◌, ◌⊎◌, ℕ, List, Option, IsSome}
use Rattle.journal_model.specs.Event.{Event}
use Rattle.journal_model.specs.Cause.{IsAccepted}
use Rattle.sqlite.specs.Effect.{Database}
use Rattle.sqlite.specs.declared.error.Error.{Error}
use Rattle.sqlite.specs.declared.error.Error.TheVariants.{SqliteFailure}
use Rattle.sqlite.specs.declared.error.ErrorCode.TheVariants as code
use Rattle.sql_tables.specs.Causes.{AreRefused}
use Rattle.store_tables.specs.Tables.{store_schema}
use Rattle.store_tables.specs.Records.{Holds, Records}
use Rattle.store_tables.specs.declared.row.Write.{Write}
use Rattle.store_tables.specs.Statements.{statements_of_all}
use Rattle.store_model.specs.KeptRecords.{IsKept}
use Rattle.store_sql_laws.specs.Events.{AreItsWrites}
use Rattle.store_sql_laws.specs.Keys.{AreNew, KeysAreApart}
use Rattle.store_sql_laws.specs.Rowids.{TablesAscend}

-- A row is too big to be stored, or the greatest rowid is in use; or a limit on steps is met.
abbrev pub IsWantOfRoom : Option ℕ → Error → Type 0
IsWantOfRoom limit cause =
    (cause ≡ SqliteFailure code.TooBig) ⊎ ((cause ≡ SqliteFailure code.NoRowid) ⊎ ((cause ≡ SqliteFailure code.OperationInterrupted) × IsSome limit))

-- so it is of writes over tables in order, where each invocation that they add is new
abbrev pub WritesWantRoom : Type 0
WritesWantRoom =
    (limit : Option ℕ) (writes : List Write) (before : Database) (records : Records) (cause : Error) → before.schema ≡ store_schema → Holds before.trees records → TablesAscend before.trees
    → KeysAreApart records → AreNew writes records → AreRefused limit (statements_of_all writes) before cause → IsWantOfRoom limit cause

-- and of what is written of an event, over tables that keep the accepted events
abbrev pub EventsWantRoom : Type 0
EventsWantRoom =
    (limit : Option ℕ) (events : List Event) (event : Event) (writes : List Write) (before : Database) (records : Records) (cause : Error) → IsAccepted events → before.schema ≡ store_schema
    → Holds before.trees records → TablesAscend before.trees → IsKept events records → AreItsWrites events event writes → AreRefused limit (statements_of_all writes) before cause
    → IsWantOfRoom limit cause
