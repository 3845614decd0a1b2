-- What is found of an object's state is what a read of it is answered.
use Rattle.std.proofs.Common.{◌≡◌, refl, ap, List, [], ◌∷◌, map, Option, Some, None, option_map}
use Rattle.sqlite.specs.State.{State}
use Rattle.journal_model.specs.Notification.{Bytes, Text}
use Rattle.journal_model.specs.declared.notification.NotificationResult.{NotificationResult}
use Rattle.journal_model.specs.Delivery.{value_or_void}
use Rattle.journal_model.specs.Event.{Event}
use Rattle.journal_model.specs.Journal.{object_state}
use Rattle.journal_model.specs.State.{StateMap, state_keys, value_of_key}
use Rattle.store_tables.specs.Records.{Records, is_at_key}
use Rattle.store_tables.specs.Questions.{IsFound}
use Rattle.store_tables.specs.declared.row.StateRow.{StateRow}
use Rattle.store_model.specs.KeptRecords.{state_row}
use Rattle.store_model.proofs.Finding.{all_found}
use Rattle.store_invocations.proofs.Reading.{KeepsOnly, found_is}
use Rattle.store_refusals.specs.Preparations.{Keeps}

-- ---- the value of a key

abbrev pub row_at_key : List Event → Text → Bytes → Option StateRow
row_at_key events object key = option_map (λ (value : Bytes). state_row object (key, value)) (value_of_key (object_state events object) key)

-- it is kept once at most
pub value_kept : (events : List Event) (object : Text) (key : Bytes) → KeepsOnly events (λ (r : Records). r.states) (is_at_key object key) (row_at_key events object key)
value_kept events object key r accepted kept = (all_found events r accepted kept).value object key

value_read : (object : Text) (key : Bytes) (o : Option Bytes) (row : StateRow) → Some row ≡ option_map (λ (value : Bytes). state_row object (key, value)) o
    → NotificationResult.Value row.value ≡ value_or_void o
value_read object key None row e = cc
value_read object key (Some value) row e = ap (λ (r : StateRow). NotificationResult.Value r.value) (same row (state_row object (key, value)) e)
  where
    same : (one other : StateRow) → Some one ≡ Some other → one ≡ other
    same one other e = cc

no_value_read : (object : Text) (key : Bytes) (o : Option Bytes) → None ≡ option_map (λ (value : Bytes). state_row object (key, value)) o → NotificationResult.Void ≡ value_or_void o
no_value_read object key None e = refl
no_value_read object key (Some value) e = cc

module _ (events : List Event) (s : State) (keeps : Keeps events s) (object : Text) (key : Bytes) where
  pub value_found : (row : StateRow) → IsFound (λ r. r.states) (is_at_key object key) s.now.trees (Some row)
      → NotificationResult.Value row.value ≡ value_or_void (value_of_key (object_state events object) key)
  value_found row found =
      value_read object key (value_of_key (object_state events object) key) row
      (found_is events s (λ r. r.states) (is_at_key object key) (row_at_key events object key) (Some row) keeps (value_kept events object key) found)

  pub none_found : IsFound (λ r. r.states) (is_at_key object key) s.now.trees None → NotificationResult.Void ≡ value_or_void (value_of_key (object_state events object) key)
  none_found found =
      no_value_read object key (value_of_key (object_state events object) key)
      (found_is events s (λ r. r.states) (is_at_key object key) (row_at_key events object key) None keeps (value_kept events object key) found)

-- ---- all keys

pub keys_read : (object : Text) (state : StateMap) → map (λ (row : StateRow). row.key) (map (state_row object) state) ≡ state_keys state
keys_read object [] = refl
keys_read object (entry ∷ state) = ap (λ (keys : List Bytes). entry.0 ∷ keys) (keys_read object state)
