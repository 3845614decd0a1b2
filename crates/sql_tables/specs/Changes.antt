-- What a statement does to one table.
use Rattle.std.specs.Prelude.{◌≡◌, ◌≢◌, ℕ, List}
use Rattle.std.specs.List.{AllByRecursion}
use Rattle.sqlite.specs.Schema.{Schema}
use Rattle.sqlite_value.specs.Order.{Row}
use Rattle.sqlite.specs.Effect.{Database}
use Rattle.sql_tables.specs.Content.{HasRows}

-- the other tables stay
abbrev pub KeepsOthers : Schema → ℕ → Database → Database → Type 0
KeepsOthers schema tree old new = AllByRecursion (λ t. t.tree ≢ tree → new.trees t.tree ≡ old.trees t.tree) schema.tables

-- one table is changed so, and the others stay
pub record ChangesTable (whole : Schema) (tree : ℕ) (change : List Row → List Row) (old new : Database) : Type 0 where
  pub schema : new.schema ≡ whole
  pub rows : (rows : List Row) → HasRows (old.trees tree) rows → HasRows (new.trees tree) (change rows)
  pub others : KeepsOthers whole tree old new
