-- Statements over one table, as the resolver understands them.
use Rattle.std.specs.Prelude.{◌≡◌, false, [], ◌∷◌, Option, None, Some, List, ℕ, pos, negsuc}
use Rattle.std.specs.List.{AllByRecursion}
use Rattle.std.specs.declared.cmp.Ordering.{Ordering}
use Rattle.std.specs.declared.cmp.Ordering.TheVariants.{Equal}
use Rattle.std.specs.Ordering.{is_gt, ordering_then}
use Rattle.sqlite.specs.declared.types.Value.TheVariants.{Int}
use Rattle.sqlite.specs.Term.{Term, lit, col, op2}
use Rattle.sqlite_sql.specs.declared.ops.BinaryOp.TheVariants.{Compare}
use Rattle.sqlite_sql.specs.declared.ops.CompareOp.TheVariants.{Eq, Ge, Gt, Le}
use Rattle.sqlite_value.specs.Keys.{ascending}
use Rattle.sqlite_value.specs.Order.{Row, column, value_cmp}
use Rattle.sqlite_value.specs.declared.keys.Collation.TheVariants.{Binary}
use Rattle.sqlite_value.specs.declared.keys.Key.{Key}
use Rattle.sqlite.specs.Query.{Query, inner, end}
use Rattle.sqlite_rules.specs.Lists.{Has}
use Rattle.sqlite_schema.specs.declared.program.Program.{Program}

-- the rows of a table that pass each test
abbrev pub rows_of : ℕ → List Term → List Term → List (Term × Key) → Query
rows_of tree filter project order = record {
  from = inner tree end;
  filter = filter;
  group = None;
  project = project;
  distinct = false;
  collations = [];
  order = order;
  limit = lit (Int (negsuc 0));
  offset = lit (Int (pos 0));
}

-- the first of them
abbrev pub first_row_query : Query → Query
first_row_query q = record q { limit = lit (Int (pos 1)) }

abbrev pub program_of : Query → Program
program_of q = record { lets = []; body = q }

-- a column equals a parameter
abbrev pub column_equals : ℕ → ℕ → Term
column_equals column parameter = op2 (Compare Eq Binary) (col 1 column) (col 0 parameter)

-- a column is at most a parameter
abbrev pub column_at_most : ℕ → ℕ → Term
column_at_most column parameter = op2 (Compare Le Binary) (col 1 column) (col 0 parameter)

-- a column is at least a parameter
abbrev pub column_at_least : ℕ → ℕ → Term
column_at_least column parameter = op2 (Compare Ge Binary) (col 1 column) (col 0 parameter)

-- a column is above a parameter
abbrev pub column_above : ℕ → ℕ → Term
column_above column parameter = op2 (Compare Gt Binary) (col 1 column) (col 0 parameter)

-- by these columns in turn, the least first
abbrev pub by_columns : List ℕ → List (Term × Key)
by_columns [] = []
by_columns (at ∷ ats) = (col 1 at, ascending Binary) ∷ by_columns ats

-- the order of rows by these of their cells in turn
abbrev pub cells_cmp : List ℕ → Row → Row → Ordering
cells_cmp [] a b = Equal
cells_cmp (at ∷ ats) a b = ordering_then (value_cmp (column a at) (column b at)) (cells_cmp ats a b)

-- the one that comes first in an order, or none of none
abbrev pub IsFirst : {X : Type 0} → (X → X → Ordering) → List X → Option X → Type 0
IsFirst cmp xs None = xs ≡ []
IsFirst cmp xs (Some x) = Has xs x × AllByRecursion (λ y. is_gt (cmp x y) ≡ false) xs
