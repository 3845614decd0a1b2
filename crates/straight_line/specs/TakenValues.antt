-- What a take brings: of the kind of the call that has made its handle, and something where the handle was awaited alone, or seen to have come.
use Rattle.std.specs.Prelude.{◌≡◌, ℕ, ◌-◌, nat_lt, Bool, true, false, if◌then◌else◌, List, [], ◌∷◌, ◌++◌, Option, Some, None, slice_get}
use Rattle.std.specs.List.{list_all}
use Rattle.journal_model.specs.declared.notification.NotificationId.{NotificationId}
use Rattle.journal_model.specs.Notification.{Arrival}
use Rattle.journal_model.specs.AwaitTree.{Single}
use Rattle.journal_model.specs.Value.{as_taken}
use Rattle.journal_model.specs.declared.call.Call.{Call}
use Rattle.journal_model.specs.declared.call.Answer.{Answer}
use Rattle.journal_model.specs.declared.value.Value.{Value}
use Rattle.journal_model.specs.History.{Step, place_of, ids_created, stands_for}
use Rattle.journal_model.specs.Delivery.{results_for, known_results}
use Rattle.journal_model.specs.Await.{WokenAt, await_outcome}
use Rattle.journal_model.specs.Run.{Invocation, answer_to}
use Rattle.straight_line.specs.Calls as told
use Rattle.straight_line.specs.Laws.{is_astray}

-- of which kind a value is that a take brings
pub data ValueKind : Type 0 where
  -- a success, a failure, or nothing
  OfOutcome : ValueKind
  -- the value of a key, or nothing
  OfState : ValueKind
  OfKeys : ValueKind
  OfInvocationId : ValueKind

abbrev pub is_of : ValueKind → Value → Bool
is_of OfOutcome Value.Void = true
is_of OfOutcome (Value.Success bytes) = true
is_of OfOutcome (Value.Failure failure) = true
is_of OfOutcome _ = false
is_of OfState Value.Void = true
is_of OfState (Value.Success bytes) = true
is_of OfState _ = false
is_of OfKeys (Value.StateKeys keys) = true
is_of OfKeys _ = false
is_of OfInvocationId (Value.InvocationId id) = true
is_of OfInvocationId _ = false

-- the kinds of what comes for a call's handles, in their order
abbrev pub kinds_of : Call → List ValueKind
kinds_of (Call.StateGet key name options) = OfState ∷ []
kinds_of (Call.StateGetKeys name) = OfKeys ∷ []
kinds_of (Call.Sleep name wake_up now) = OfOutcome ∷ []
kinds_of (Call.Call target parameter name options) = OfInvocationId ∷ OfOutcome ∷ []
kinds_of (Call.Send target parameter execution_time name options) = OfInvocationId ∷ []
kinds_of Call.Awakeable = OfOutcome ∷ []
kinds_of (Call.Signal name) = OfOutcome ∷ []
kinds_of (Call.GetPromise key) = OfOutcome ∷ []
kinds_of (Call.PeekPromise key) = OfOutcome ∷ []
kinds_of (Call.CompletePromise key value options) = OfOutcome ∷ []
kinds_of (Call.Run name) = OfOutcome ∷ []
kinds_of (Call.Attach target) = OfOutcome ∷ []
kinds_of (Call.GetOutput target) = OfOutcome ∷ []
kinds_of _ = []

abbrev pub kinds_created : List Step → List ValueKind
kinds_created [] = []
kinds_created (step ∷ earlier) = kinds_created earlier ++ kinds_of step.call

-- the kind of what comes for a handle
abbrev pub kind_of_handle : List Step → ℕ → Option ValueKind
kind_of_handle steps handle = if nat_lt handle 17 then None else slice_get (kinds_created steps) (handle - 17)

-- what has come for each of these ids is of its kind
abbrev pub AreOf : List NotificationId → List ValueKind → List Arrival → Type 0
AreOf [] kinds arrivals = Unit {0}
AreOf (id ∷ ids) [] arrivals = Unit {0}
AreOf (id ∷ ids) (kind ∷ kinds) arrivals = (list_all (λ result. is_of kind (as_taken result)) (results_for arrivals id) ≡ true) × AreOf ids kinds arrivals

-- what comes for each handle of these steps is of its kind, the answers of known reads among it
abbrev pub ComesOfKind : List Step → List Arrival → Type 0
ComesOfKind steps arrivals = AreOf (ids_created steps) (kinds_created steps) (known_results steps ++ arrivals)

-- what a take brings is of its handle's kind
abbrev pub TakesAreOfKind : Type 0
TakesAreOfKind = (invocation : Invocation) (steps : List Step) (arrivals : List Arrival) → ComesOfKind steps arrivals
    → (handle : ℕ) (kind : ValueKind) (value : Value) → kind_of_handle steps handle ≡ Some kind
    → answer_to invocation steps arrivals (Call.Take handle) ≡ Answer.Taken (Some value) → is_of kind value ≡ true

-- steps with one more, that of a call which asks for nothing
abbrev pub after : Call → Answer → ℕ → List Step → List Step
after call answer place steps = record { call = call; answer = answer; requests = []; place = place } ∷ steps

-- a handle that stands for something brings it, where it was awaited alone or seen to have come in the call before
pub record TakesBring : Type 0 where
  pub awaited : (invocation : Invocation) (steps : List Step) (arrivals : List Arrival) (handle place : ℕ) (id : NotificationId) → stands_for steps handle ≡ Some id
      → await_outcome invocation.options steps arrivals (Single handle) ≡ WokenAt place
      → answer_to invocation (after (Call.Await (Single handle)) Answer.Woken place steps) arrivals (Call.Take handle) ≡ Answer.Taken None → ⊥
  pub seen : (invocation : Invocation) (steps : List Step) (arrivals : List Arrival) (handle : ℕ)
      → answer_to invocation steps arrivals (Call.IsCompleted handle) ≡ Answer.Completed true
      → answer_to invocation (after (Call.IsCompleted handle) (Answer.Completed true) (place_of steps) steps) arrivals (Call.Take handle) ≡ Answer.Taken None → ⊥

-- a take of a kind goes astray on no value of that kind
pub record TakesStayOn : Type 0 where
  pub outcomes : (handle : ℕ) (value : Value) (answers : List Answer) → is_of OfOutcome value ≡ true
      → is_astray (told.take_outcome handle (Answer.Taken (Some value) ∷ answers)) ≡ false
  pub peeked : (handle : ℕ) (value : Value) (answers : List Answer) → is_of OfOutcome value ≡ true
      → is_astray (told.take_peeked handle (Answer.Taken (Some value) ∷ answers)) ≡ false
  pub states : (handle : ℕ) (value : Value) (answers : List Answer) → is_of OfState value ≡ true
      → is_astray (told.take_state handle (Answer.Taken (Some value) ∷ answers)) ≡ false
  pub keys : (handle : ℕ) (value : Value) (answers : List Answer) → is_of OfKeys value ≡ true
      → is_astray (told.take_keys handle (Answer.Taken (Some value) ∷ answers)) ≡ false
  pub ids : (handle : ℕ) (value : Value) (answers : List Answer) → is_of OfInvocationId value ≡ true
      → is_astray (told.take_id handle (Answer.Taken (Some value) ∷ answers)) ≡ false
