-- Parts of an invocation's row, as they are read.
use Rattle.std.specs.Prelude.{◌≡◌, ◌∷◌, [], Option, IfSome}
use Rattle.sqlite.specs.Values.{or_null}
use Rattle.sqlite.specs.declared.types.Value.TheVariants.{Text}
use Rattle.sqlite_value.specs.Order.{Row, column}
use Rattle.sql_tables.specs.Cells.{IsLong, IsShort, long_cell, short_cell}
use Rattle.store_tables.specs.declared.from_row.Counts.{Counts}
use Rattle.store_tables.specs.Records.{FitsError, FitsProgress, LastError, Progress, delay_of, progress_cells}

abbrev pub IsErrorAt : Row → Option LastError → Type 0
IsErrorAt row o =
    (or_null (λ (e : LastError). short_cell e.code) o ≡ column row 10)
    × ((or_null (λ (e : LastError). short_cell e.behavior) o ≡ column row 11)
    × ((or_null long_cell (delay_of o) ≡ column row 12)
    × ((or_null (λ (e : LastError). Text e.message) o ≡ column row 13)
    × IfSome o FitsError)))

pub record AreCounts (row : Row) (c : Counts) : Type 0 where
  pub attempts : short_cell c.attempts ≡ column row 14
  pub attempts_since_entry : short_cell c.attempts_since_entry ≡ column row 15
  pub first_moment : long_cell c.first_moment ≡ column row 16
  pub last_completion : short_cell c.last_completion ≡ column row 17
  pub entries : short_cell c.entries ≡ column row 18
  pub arrivals : short_cell c.arrivals ≡ column row 20
  pub fit : IsShort c.attempts × (IsShort c.attempts_since_entry × (IsLong c.first_moment × (IsShort c.last_completion × (IsShort c.entries × IsShort c.arrivals))))

abbrev pub progress_columns : Row → Row
progress_columns row =
    column row 5 ∷ column row 6 ∷ column row 7 ∷ column row 8 ∷ column row 9 ∷ column row 10 ∷ column row 11
    ∷ column row 12 ∷ column row 13 ∷ column row 14 ∷ column row 15 ∷ column row 16 ∷ column row 17 ∷ column row 18
    ∷ column row 19 ∷ column row 20 ∷ column row 21 ∷ []

abbrev pub IsProgressAt : Row → Progress → Type 0
IsProgressAt row p = (progress_cells p ≡ progress_columns row) × FitsProgress p
