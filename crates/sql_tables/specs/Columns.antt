-- Tables of columns and keys alone: no check, no reference, no computed column, no rowid of its own.
use Rattle.std.specs.Prelude.{◌≡◌, ℕ, Bool, true, false, List, [], ◌∷◌, None}
use Rattle.std.specs.List.{AllByRecursion}
use Rattle.sqlite.specs.declared.types.Value.TheVariants.{Null}
use Rattle.sqlite.specs.Collation.TheVariants.{Binary}
use Rattle.sqlite.specs.Kind.{Kind}
use Rattle.sqlite.specs.Schema.{Schema}
use Rattle.sqlite.specs.Table.{Table}
use Rattle.sqlite_schema.specs.declared.schema.Column.{Column}
use Rattle.sqlite_schema.specs.declared.schema.Index.{Index}
use Rattle.sqlite_value.specs.declared.keys.Order.{Order}
use Rattle.sqlite_value.specs.Keys.{plain}
use Rattle.sql_tables.specs.declared.layout.Wanted.{Wanted}

-- a column of a strict table, which may be null or not
abbrev pub column_with : List ℕ → Kind → Bool → Column
column_with name kind not_null = record { name = name; kind = kind; is_strict = true; not_null = not_null; default = Null; collation = Binary }

abbrev pub required : List ℕ → Kind → Column
required name kind = column_with name kind true

abbrev pub optional : List ℕ → Kind → Column
optional name kind = column_with name kind false

abbrev pub wanted_column : Wanted → Column
wanted_column w = column_with w.name.now w.kind w.not_null

abbrev pub table_at : ℕ → List ℕ → List Column → List (List ℕ) → List Order → Table
table_at tree name columns uniques orders = record {
  name = name;
  tree = tree;
  columns = columns;
  key = None;
  primary = [];
  uniques = uniques;
  orders = orders;
  checks = [];
  references = [];
  computed = [];
  stamps = record { places = []; terms = []; formats = [] };
  is_counted = false;
}

-- the orders of that many keys
abbrev pub plain_orders : {A : Type 0} → List A → List Order
plain_orders [] = []
plain_orders (key ∷ keys) = plain ∷ plain_orders keys

-- a table with these keys
abbrev pub table_of : ℕ → List ℕ → List Column → List (List ℕ) → Table
table_of tree name columns uniques = table_at tree name columns uniques (plain_orders uniques)

-- an index by which rows are only looked up: no row is tested by it
abbrev pub plain_index : List ℕ → ℕ → ℕ → List ℕ → Index
plain_index name tree table columns = record { name = name; tree = tree; table = table; columns = columns; order = plain; is_unique = false }

abbrev pub no_schema : Schema
no_schema = record { tables = []; indexes = []; views = [] }

-- no table refers to another
abbrev pub NoneRefers : Schema → Type 0
NoneRefers schema = AllByRecursion (λ t. t.references ≡ []) schema.tables
