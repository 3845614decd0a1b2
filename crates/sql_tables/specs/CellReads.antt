-- What is read from a row's cell.
use Rattle.std.specs.Prelude.{◌≡◌, ◌<◌, ℕ, length}
use Rattle.sqlite.specs.declared.types.Value.{Value}
use Rattle.sql_tables.specs.declared.read.ReadError.{ReadError}
use Rattle.sql_tables.specs.declared.read.ReadError.TheVariants as read
use Rattle.sql_tables.specs.declared.read.RowError.{RowError}
use Rattle.sql_tables.specs.declared.read.RowError.TheVariants.{Foreign, OutOfMemory}
use Rattle.sqlite_value.specs.Order.{Row, column}

-- the cell at that place is this value's
abbrev pub IsCell : {X : Type 0} → (X → Value) → (X → Type 0) → Row → ℕ → X → Type 0
IsCell cell Fits row at x = (at < length row) × (cell x ≡ column row at) × Fits x

-- it is no value's
abbrev pub IsForeign : {X : Type 0} → (X → Value) → (X → Type 0) → Row → ℕ → Type 0
IsForeign {X} cell Fits row at = (x : X) → IsCell cell Fits row at x → ⊥

-- why a record cannot be read, by its row
abbrev pub read_error : RowError → ReadError
read_error Foreign = read.Foreign
read_error OutOfMemory = read.OutOfMemory
