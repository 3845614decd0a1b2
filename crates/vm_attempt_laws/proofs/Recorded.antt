-- A call asks for what a store records.
use Rattle.std.proofs.Common.{◌≡◌, ℕ, Bool, true, false, if◌then◌else◌, [], ◌∷◌, Some, refl}
use Rattle.journal_model.specs.declared.call.Call.{Call}
use Rattle.journal_model.specs.Notification.{Bytes, Text}
use Rattle.journal_model.specs.Request.{Request}
use Rattle.journal_model.specs.Run.{name_or_empty}
use Rattle.journal_model.specs.State.{knows_key, knows_all_keys, known_value, known_keys}
use Rattle.attempt_model.specs.Requests.{Commands, read_value, read_keys, fresh_value, fresh_keys}
use Rattle.vm_attempt_laws.specs.OutputOfAttempt.{is_recorded}
use Rattle.vm_attempt_laws.specs.AttemptSimulation.{IsOfStore}

-- a read is recorded as it was asked for, or in replay of the kind that the record has
value_stored : (left : Commands) (fresh : Request) (n : ℕ) (key : Bytes) (name : Text) → is_recorded fresh ≡ true → is_recorded (read_value left fresh n key name) ≡ true
value_stored [] fresh n key name e = e
value_stored (Some (Request.GetEagerState recorded value other) ∷ left) fresh n key name e = refl
value_stored (_ ∷ left) fresh n key name e = refl

keys_stored : (left : Commands) (fresh : Request) (n : ℕ) (name : Text) → is_recorded fresh ≡ true → is_recorded (read_keys left fresh n name) ≡ true
keys_stored [] fresh n name e = e
keys_stored (Some (Request.GetEagerStateKeys keys other) ∷ left) fresh n name e = refl
keys_stored (_ ∷ left) fresh n name e = refl

either_stored : (b : Bool) (one other : Request) → is_recorded one ≡ true → is_recorded other ≡ true → is_recorded (if b then one else other) ≡ true
either_stored true one other e f = e
either_stored false one other e f = f

-- what is told by its kind is so, whatever was asked and recorded before
pub stored : (call : Call) → IsOfStore call
stored (Call.StateGet key name options) = λ start done left completion. (
  value_stored left (fresh_value start done completion key (name_or_empty name)) completion key (name_or_empty name)
      (either_stored (knows_key start done key) (Request.GetEagerState key (known_value start done key) (name_or_empty name)) (Request.GetLazyState key completion (name_or_empty name)) refl refl),
  tt,
)
stored (Call.StateGetKeys name) = λ start done left completion. (
  keys_stored left (fresh_keys start done completion (name_or_empty name)) completion (name_or_empty name)
      (either_stored (knows_all_keys start done) (Request.GetEagerStateKeys (known_keys start done) (name_or_empty name)) (Request.GetLazyStateKeys completion (name_or_empty name)) refl refl),
  tt,
)
stored Call.Awakeable = λ start done left completion. tt
stored (Call.Signal name) = λ start done left completion. tt
stored (Call.IsCompleted handle) = λ start done left completion. tt
stored (Call.Take handle) = λ start done left completion. tt
stored (Call.Await tree) = λ start done left completion. tt
stored Call.End = λ start done left completion. tt
stored _ = λ start done left completion. (refl, tt)
