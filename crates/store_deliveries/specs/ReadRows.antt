-- What is read of a row of the table.
use Rattle.std.specs.Prelude.{◌≡◌, ◌≤◌, ◌<◌, ◌^◌, ℕ, if◌then◌else◌, List, [], ◌∷◌, length, map, take, bytes_eq}
use Rattle.std.specs.List.{AllByRecursion}
use Rattle.delivery_laws.specs.Outbox.{given_key, hex_text, OwedRow, row_key}
use Rattle.store_tables.specs.declared.row.StateRow.{StateRow}
use Rattle.store_deliveries.specs.StoredOutbox.{FitsRow, kept_row}

-- the key spells this number, and the value begins with this place
pub record AreNumbers (row : StateRow) (number place : ℕ) : Type 0 where
  pub key : row.key ≡ row_key number
  pub number_fits : number < 2 ^ 64
  pub front : take 8 row.value ≡ hex_text 8 place
  pub place_fits : place < 2 ^ 32
  pub long : 8 ≤ length row.value

-- rows of the table are these
pub record AreKeptAs (owed : List OwedRow) (rows : List StateRow) : Type 0 where
  pub fit : AllByRecursion FitsRow owed
  pub are : rows ≡ map kept_row owed

-- how many of the first rows have the key of the greatest number that was given
abbrev pub count_given : List StateRow → ℕ
count_given [] = 0
count_given (row ∷ rows) = if bytes_eq row.key given_key then 1 else 0
