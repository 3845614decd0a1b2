-- What SQL's own rules can refuse of the writes of a store.
use Rattle.std.specs.Prelude.{◌≡◌, ℕ, List, Option}
use Rattle.sqlite.specs.declared.error.Error.{Error}
use Rattle.sqlite.specs.Effect.{Database}
use Rattle.sql_tables.specs.Causes.{AreRefused}
use Rattle.sql_tables.specs.Refusals.{IsPlaceCause}
use Rattle.store_tables.specs.Tables.{store_schema}
use Rattle.store_tables.specs.Records.{Holds, Records, Write}
use Rattle.store_tables.specs.Statements.{statements_of_all}

-- Over the tables of a store, whatever is written, it is refused only where a row finds no place, or where a limit on steps is met.
abbrev pub RulesRefuse : Type 0
RulesRefuse =
    (limit : Option ℕ) (writes : List Write) (before : Database) (records : Records) (cause : Error) → before.schema ≡ store_schema → Holds before.trees records
    → AreRefused limit (statements_of_all writes) before cause → IsPlaceCause limit cause
