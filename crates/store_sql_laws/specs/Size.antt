-- Rows that are small enough to be stored.
use Rattle.std.specs.Prelude.{◌≡◌, ⊤, ℕ, ◌+◌, ◌^◌, ◌≤◌, true, length, sum_by, List, [], ◌∷◌, Option}
use Rattle.std.specs.List.{AllByRecursion}
use Rattle.sqlite_value.specs.Order.{Row, bytes}
use Rattle.sqlite.specs.declared.error.Error.{Error}
use Rattle.sqlite.specs.declared.error.Error.TheVariants.{SqliteFailure}
use Rattle.sqlite.specs.declared.error.ErrorCode.TheVariants as code
use Rattle.sqlite.specs.Effect.{Database}
use Rattle.sql_tables.specs.Causes.{AreRefused}
use Rattle.store_tables.specs.Tables.{store_schema}
use Rattle.store_tables.specs.Questions.{has_id}
use Rattle.store_tables.specs.Records.{Holds, Records, applied, entry_cells, invocation_cells, sleep_cells, state_cells}
use Rattle.store_tables.specs.Statements.{statements_of_all}
use Rattle.store_tables.specs.declared.row.Write.{Write}
use Rattle.store_tables.specs.declared.row.Write.TheVariants.{AddInvocation, AddEntry, OpenSleep, PutState, SetProgress}
use Rattle.store_sql_laws.specs.Keys.{AreNew, KeysAreApart}

-- a row takes its bytes, and eighteen for each cell, of which its rowid is one; this is a billion at most
abbrev pub IsSmall : Row → Type 0
IsSmall cells = 18 + sum_by (λ v. 18 + length (bytes v)) cells ≤ 10 ^ 9

-- so each row is that it writes
abbrev pub IsSmallIn : Records → Write → Type 0
IsSmallIn r (AddInvocation i) = IsSmall (invocation_cells i)
IsSmallIn r (SetProgress id progress) = AllByRecursion (λ i. has_id id i ≡ true → IsSmall (invocation_cells (record i { progress = progress }))) r.invocations
IsSmallIn r (AddEntry e) = IsSmall (entry_cells e)
IsSmallIn r (PutState s) = IsSmall (state_cells s)
IsSmallIn r (OpenSleep s) = IsSmall (sleep_cells s)
IsSmallIn r _ = ⊤

abbrev pub AreSmall : List Write → Records → Type 0
AreSmall [] r = ⊤
AreSmall (write ∷ writes) r = IsSmallIn r write × AreSmall writes (applied write r)

-- a row that is too big
abbrev pub too_big : Error
too_big = SqliteFailure code.TooBig

-- writes whose rows are small are not refused for one that is too big
abbrev pub NoneIsTooBig : Type 0
NoneIsTooBig =
    (limit : Option ℕ) (writes : List Write) (before : Database) (records : Records) → before.schema ≡ store_schema → Holds before.trees records → KeysAreApart records → AreNew writes records
    → AreSmall writes records → AreRefused limit (statements_of_all writes) before too_big → ⊥
