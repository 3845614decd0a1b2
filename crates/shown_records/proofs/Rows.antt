-- Rows of an object's state are shown as its values are.
use Rattle.std.proofs.Common.{◌≡◌, [], ◌∷◌, ◌++◌, map, refl}
use Rattle.std.specs.List.{flat_map}
use Rattle.journal_model.specs.Notification.{Text}
use Rattle.journal_model.specs.State.{StateMap}
use Rattle.store_model.specs.KeptRecords.{state_row}
use Rattle.shown_records.specs.Rows.{row_text}
use Rattle.shown_records.specs.ShownTexts.{state_entry}

pub rows_shown : (object : Text) (states : StateMap) → flat_map row_text (map (state_row object) states) ≡ flat_map state_entry states
rows_shown object [] = refl
rows_shown object (entry ∷ states) = let rest = rows_shown object states in λ i. state_entry entry ++ rest i
