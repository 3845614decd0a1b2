-- Which records a statement asks for.
use Rattle.std.specs.Prelude.{◌≡◌, ℕ, Bool, false, List, Option, filter, map}
use Rattle.std.specs.Option.{option_to_list}
use Rattle.std.specs.List.{AllByRecursion}
use Rattle.std.specs.List.Sorted.{IsPermutation}
use Rattle.std.specs.declared.cmp.Ordering.{Ordering}
use Rattle.std.specs.Ordering.{is_eq}
use Rattle.sqlite_trees.specs.Tree.{IsAscending}
use Rattle.sqlite_keyed.specs.Lists.{sort_by}
use Rattle.sqlite_value.specs.Order.{Row}
use Rattle.sqlite.specs.State.{State}
use Rattle.sql_tables.specs.QueryAnswers.{IsAnswer}
use Rattle.sql_tables.specs.Statements.{IsFirst, cells_cmp}
use Rattle.store_tables.specs.Records.{Records, Holds}
use Rattle.store_tables.specs.Tables.{store_schema}

-- a store's tables answer it by the rows of the records that pass, and a row tells which record it is of
pub record AsksRows {X : Type 0} (cells : X → Row) (Fits : X → Type 0) (records : Records → List X) (test : X → Bool) (sql : List ℕ) (params : Row) (s : State) : Type 0 where
  pub back : Row → X
  pub told : (x : X) → Fits x → back (cells x) ≡ x
  pub fit : (r : Records) → Holds s.now.trees r → AllByRecursion Fits (records r)
  pub read : s.now.schema ≡ store_schema → (rows : List Row) → IsAnswer sql params s rows → (r : Records) → Holds s.now.trees r → IsPermutation (map cells (filter test (records r))) rows

-- the order of records by these of their cells in turn
abbrev pub by_cells : {X : Type 0} → (X → Row) → List ℕ → X → X → Ordering
by_cells cells order a b = cells_cmp order (cells a) (cells b)

-- no two records are alike in these cells
abbrev pub AreTold : {X : Type 0} → (X → Row) → List ℕ → List X → Type 0
AreTold cells order xs = IsAscending (λ a b. is_eq (by_cells cells order a b) ≡ false) xs

-- and the answer is in the order of these cells, if they tell the records apart
pub record AsksInOrder {X : Type 0} (cells : X → Row) (Fits : X → Type 0) (records : Records → List X) (test : X → Bool) (order : List ℕ) (sql : List ℕ) (params : Row) (s : State) : Type 0 where
  pub asks : AsksRows cells Fits records test sql params s
  pub ordered : s.now.schema ≡ store_schema → (rows : List Row) → IsAnswer sql params s rows → (r : Records) → Holds s.now.trees r
      → (zs : List X) → IsPermutation (filter test (records r)) zs → AreTold cells order zs → rows ≡ map cells (sort_by (by_cells cells order) zs)

-- or only the first of them is asked for, in the order of these cells
pub record AsksFirst {X : Type 0} (cells : X → Row) (Fits : X → Type 0) (records : Records → List X) (test : X → Bool) (order : List ℕ) (sql : List ℕ) (params : Row) (s : State) : Type 0 where
  pub back : Row → X
  pub told : (x : X) → Fits x → back (cells x) ≡ x
  pub fit : (r : Records) → Holds s.now.trees r → AllByRecursion Fits (records r)
  pub read : s.now.schema ≡ store_schema → (rows : List Row) → IsAnswer sql params s rows → (r : Records) → Holds s.now.trees r
      → (found : Option X) × IsFirst (by_cells cells order) (filter test (records r)) found × (rows ≡ map cells (option_to_list found))
