-- What a question about the tables answers, and what it leaves.
use Rattle.std.specs.Prelude.{◌≡◌, ℕ, List, None, Ok, IsTrue}
use Rattle.sqlite_value.specs.Order.{Row}
use Rattle.sqlite_resolve.specs.declared.compiled.Compiled.{Compiled}
use Rattle.sqlite.specs.Clock.{timed}
use Rattle.sqlite.specs.Effect.{Database, Reads}
use Rattle.sqlite.specs.Listing.{IsSourceOf, reads_listing}
use Rattle.sqlite.specs.State.{State, Executes, HasCleanDisk, IsStatement}

-- these rows are what the text asks for
unfoldable pub IsAnswer : List ℕ → Row → State → List Row → Type 0
IsAnswer sql params s rows =
    (c : Compiled) × (it : IsStatement s sql params c) × (c.returning ≡ None → (db : Database) × IsSourceOf (reads_listing s.now.schema sql) s.now db × Reads c.command db (timed params c.formats it.now) rows)

-- the tables are as they were; they say nothing once the connection is shut
abbrev pub AreTablesKept : State → State → Type 0
AreTablesKept old new = HasCleanDisk new → IsTrue new.is_open → IsTrue old.is_open × (new.now ≡ old.now)

-- the text was run, inside a transaction
pub record HasRun (sql : List ℕ) (params : Row) (old new : State) : Type 0 where
  pub count : ℕ
  pub ran : Executes sql params old new (Ok count)
  pub was_open : IsTrue old.is_open
  pub inside : IsTrue new.in_transaction

-- the text asks for rows that are not as wanted
abbrev pub IsOtherRow : List ℕ → Row → State → (List Row → Type 0) → Type 0
IsOtherRow sql params s Wanted = (rows : List Row) × IsAnswer sql params s rows × ¬ Wanted rows
