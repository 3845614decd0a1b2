-- The columns of a row, one by one.
use Rattle.std.proofs.Common.{◌≡◌, ℕ, List, [], ◌∷◌, length, Option, None, Some, refl, arith}
use Rattle.std.specs.Prelude.{IfSome, IsUtf8}
use Rattle.protocol_types.specs.Version.{version_number}
use Rattle.protocol_types.specs.declared.version.Version.{Version}
use Rattle.protocol_types.specs.declared.version.Version.TheVariants.{V1}
use Rattle.sqlite.specs.declared.types.Value.TheVariants.{Text}
use Rattle.sqlite.specs.Values.{or_null}
use Rattle.sqlite_value.specs.Order.{Row, column}
use Rattle.sql_tables.specs.Cells.{IsShort, short_cell}
use Rattle.sql_tables.proofs.RowReads.{listed_as}
use Rattle.store_tables.specs.Parts.{progress_columns}
use Rattle.store_tables.specs.Records.{Closing, FitsError, LastError, closing_cell}
use Rattle.store_tables.specs.declared.row.Closing.TheVariants.{Ended, Failed}

pub nine : (row : Row) → length row ≡ 9 → row ≡ column row 0 ∷ column row 1 ∷ column row 2 ∷ column row 3 ∷ column row 4 ∷ column row 5 ∷ column row 6 ∷ column row 7 ∷ column row 8 ∷ []
nine row len = listed_as row 9 len

pub twenty_two : (row : Row) → length row ≡ 22 → row ≡ column row 0 ∷ column row 1 ∷ column row 2 ∷ column row 3 ∷ column row 4 ∷ progress_columns row
twenty_two row len = listed_as row 22 len

-- ---- the version

pub version_fits : (version : Version) → IsShort (version_number version)
version_fits V1 = omega arith
version_fits _ = omega arith

-- ---- what has the same cell

pub closing_number : (o : Option Closing) → (n : Option ℕ) × (or_null short_cell n ≡ or_null closing_cell o) × IfSome n IsShort
closing_number None = (None, refl, tt)
closing_number (Some Ended) = (Some 1, refl, omega arith)
closing_number (Some Failed) = (Some 2, refl, omega arith)

pub code_number : (o : Option LastError) → IfSome o FitsError → (n : Option ℕ) × (or_null short_cell n ≡ or_null (λ (e : LastError). short_cell e.code) o) × IfSome n IsShort
code_number None fits = (None, refl, tt)
code_number (Some e) fits = (Some e.code, refl, fits.code)

pub behavior_number : (o : Option LastError) → IfSome o FitsError → (n : Option ℕ) × (or_null short_cell n ≡ or_null (λ (e : LastError). short_cell e.behavior) o) × IfSome n IsShort
behavior_number None fits = (None, refl, tt)
behavior_number (Some e) fits = (Some e.behavior, refl, fits.behavior)

pub message_text : (o : Option LastError) → IfSome o FitsError → (t : Option (List ℕ)) × (or_null Text t ≡ or_null (λ (e : LastError). Text e.message) o) × IfSome t IsUtf8
message_text None fits = (None, refl, tt)
message_text (Some e) fits = (Some e.message, refl, fits.message)
