-- No take goes astray on a value of its kind.
use Rattle.std.proofs.Common.{◌≡◌, refl, ℕ, false, true, List, ◌∷◌, Some}
use Rattle.journal_model.specs.declared.call.Answer.{Answer}
use Rattle.journal_model.specs.declared.value.Value.{Value}
use Rattle.straight_line.specs.Calls.{take_outcome, take_peeked, take_state, take_keys, take_id}
use Rattle.straight_line.specs.Laws.{is_astray}
use Rattle.straight_line.specs.TakenValues.{OfOutcome, OfState, OfKeys, OfInvocationId, is_of}

pub outcome : (handle : ℕ) (value : Value) (answers : List Answer) → is_of OfOutcome value ≡ true → is_astray (take_outcome handle (Answer.Taken (Some value) ∷ answers)) ≡ false
unfolding take_outcome
outcome handle Value.Void answers e = refl
outcome handle (Value.Success bytes) answers e = refl
outcome handle (Value.Failure failure) answers e = refl
outcome handle (Value.StateKeys keys) answers e = cc
outcome handle (Value.InvocationId id) answers e = cc

pub peeked : (handle : ℕ) (value : Value) (answers : List Answer) → is_of OfOutcome value ≡ true → is_astray (take_peeked handle (Answer.Taken (Some value) ∷ answers)) ≡ false
unfolding take_peeked
peeked handle Value.Void answers e = refl
peeked handle (Value.Success bytes) answers e = refl
peeked handle (Value.Failure failure) answers e = refl
peeked handle (Value.StateKeys keys) answers e = cc
peeked handle (Value.InvocationId id) answers e = cc

pub state : (handle : ℕ) (value : Value) (answers : List Answer) → is_of OfState value ≡ true → is_astray (take_state handle (Answer.Taken (Some value) ∷ answers)) ≡ false
unfolding take_state
state handle Value.Void answers e = refl
state handle (Value.Success bytes) answers e = refl
state handle (Value.Failure failure) answers e = cc
state handle (Value.StateKeys keys) answers e = cc
state handle (Value.InvocationId id) answers e = cc

pub keys : (handle : ℕ) (value : Value) (answers : List Answer) → is_of OfKeys value ≡ true → is_astray (take_keys handle (Answer.Taken (Some value) ∷ answers)) ≡ false
unfolding take_keys
keys handle Value.Void answers e = cc
keys handle (Value.Success bytes) answers e = cc
keys handle (Value.Failure failure) answers e = cc
keys handle (Value.StateKeys names) answers e = refl
keys handle (Value.InvocationId id) answers e = cc

pub id : (handle : ℕ) (value : Value) (answers : List Answer) → is_of OfInvocationId value ≡ true → is_astray (take_id handle (Answer.Taken (Some value) ∷ answers)) ≡ false
unfolding take_id
id handle Value.Void answers e = cc
id handle (Value.Success bytes) answers e = cc
id handle (Value.Failure failure) answers e = cc
id handle (Value.StateKeys keys) answers e = cc
id handle (Value.InvocationId name) answers e = refl
