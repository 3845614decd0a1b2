-- What a call does that makes a handle and puts no request.
use Rattle.std.specs.Prelude.{◌≡◌, ◌≤◌, ◌<◌, ◌+◌, ◌^◌, ◌⊎◌, ℕ, [], ◌∷◌, length, None, Bool, Result, Ok, Err}
use Rattle.journal_model.specs.declared.notification.NotificationId.{NotificationId}
use Rattle.journal_model.specs.declared.notification.NotificationId.TheVariants.{SignalId, SignalName}
use Rattle.journal_model.specs.Awakeable.{awakeable_id}
use Rattle.journal_model.specs.Notification.{Bytes, Text}
use Rattle.journal_model.specs.declared.call.Call.{Call}
use Rattle.journal_model.specs.declared.call.Answer.{Answer}
use Rattle.journal_model.specs.Refusal.{refusal_of}
use Rattle.journal_model.specs.History.{completions_of, signals_of, ids_of}
use Rattle.journal_model.specs.Await.{child_of}
use Rattle.journal_model.specs.Run.{Invocation}
use Rattle.attempt_model.specs.Requests.{requests_by}
use Rattle.attempt_model.specs.Machine.{Machine, work_of, ToMake}
use Rattle.vm_types.specs.declared.handles.AwakeableHandle.{AwakeableHandle}
use Rattle.vm_awaits.specs.Views.{results_of, slots_of}
use Rattle.vm_awaits.specs.Calls.{with_handle}
use Rattle.vm_context.specs.Journal.{after_signal}
use Rattle.vm_calls.specs.declared.active.Active.{Active}
use Rattle.vm_calls.specs.declared.call_error.NumberError.{NumberError}
use Rattle.vm_calls.specs.declared.call_error.NumberError.TheVariants.{IdsExhausted, OutOfMemory}
use Rattle.vm_calls.specs.CommandCalls.{Replies}

-- no handle is left
abbrev pub LacksHandle : Active → Type 0
LacksHandle old = 2 ^ 32 < 17 + length (slots_of old.results) + 1

-- no number of a signal is left, or no handle
abbrev pub LacksSignal : Active → Type 0
LacksSignal old = (2 ^ 32 ≤ old.journal.signals) ⊎ LacksHandle old

-- the next number of a signal is taken, and a handle that stands for it
pub record TakesSignal (made : ℕ × ℕ) (old new : Active) : Type 0 where
  pub id : made.0 ≡ old.journal.signals
  pub handle : made.1 ≡ 17 + length (slots_of old.results)
  pub results : results_of new.results ≡ with_handle (SignalId old.journal.signals) (results_of old.results)
  pub others : new ≡ record old { journal = after_signal old.journal; results = new.results }
  pub has : LacksSignal old → ⊥

-- the next handle stands for this id
pub record GivesHandle (id : NotificationId) (made : ℕ) (old new : Active) : Type 0 where
  pub handle : made ≡ 17 + length (slots_of old.results)
  pub results : results_of new.results ≡ with_handle id (results_of old.results)
  pub others : new ≡ record old { results = new.results }
  pub has : LacksHandle old → ⊥

-- In each attempt: a handle for the signal of this name; or none is left, exactly then, or memory was refused.
abbrev pub GivesSignal : Text → (old : Active) → Result ℕ NumberError → (new : Active) → Type 0
GivesSignal name old (Ok handle) new = GivesHandle (SignalName name) handle old new
GivesSignal name old (Err IdsExhausted) new = LacksHandle old × (new.output ≡ old.output)
GivesSignal name old (Err OutOfMemory) new = new.output ≡ old.output

-- the next signal, the handle that stands for it, and the text that names it
pub record GivesNext (id : Bytes) (made : AwakeableHandle) (old new : Active) : Type 0 where
  pub text : made.id ≡ awakeable_id id old.journal.signals
  pub takes : TakesSignal (old.journal.signals, made.handle) old new

-- In each attempt: an awakeable of the invocation of this id; or a number is lacking, exactly then, or memory was refused.
abbrev pub GivesAwakeable : (id : Bytes) → (old : Active) → Result AwakeableHandle NumberError → (new : Active) → Type 0
GivesAwakeable id old (Ok made) new = GivesNext id made old new
GivesAwakeable id old (Err IdsExhausted) new = LacksSignal old × (new.output ≡ old.output)
GivesAwakeable id old (Err OutOfMemory) new = new.output ≡ old.output

-- It is answered as the abstract machine answers it, and nothing is written; or a number is lacking, exactly then, or memory was
-- refused.
abbrev pub MakesHandle : (checks_off : Bool) (given : Invocation) (m : Machine) (call : Call) → {Taken : Type 0} → (Taken → Answer) → (Lacks : Active → Type 0)
    → (old : Active) → Result Taken NumberError → (new : Active) → Type 0
MakesHandle checks_off given m call answer Lacks old (Ok taken) new = Replies checks_off given m call (answer taken) old new × (new.output ≡ old.output) × (Lacks old → ⊥)
MakesHandle checks_off given m call answer Lacks old (Err IdsExhausted) new = Lacks old × (new.output ≡ old.output)
MakesHandle checks_off given m call answer Lacks old (Err OutOfMemory) new = new.output ≡ old.output

-- a call that makes one handle, for this id, takes so many numbers of signals, and puts no request
pub record HandlesOne (given : Invocation) (m : Machine) (call : Call) (id : NotificationId) (taken : ℕ) : Type 0 where
  pub refused : refusal_of given.version call ≡ None
  pub work : work_of call ≡ ToMake
  pub requests : requests_by m.start m.done m.left m.completions call ≡ []
  pub completions : completions_of call ≡ 0
  pub signals : signals_of call ≡ taken
  pub ids : ids_of m.completions m.signals call ≡ id ∷ []
  pub children : child_of given.options.implicit_cancellation m.completions call ≡ []
