-- What a call does that takes two completions.
use Rattle.std.specs.Prelude.{◌≡◌, ◌+◌, ℕ, suc, Bool, false, [], ◌∷◌, ◌++◌, map, length}
use Rattle.journal_model.specs.declared.notification.NotificationId.TheVariants.{CompletionId}
use Rattle.journal_model.specs.Notification.{Text}
use Rattle.journal_model.specs.declared.call.Call.{Call}
use Rattle.journal_model.specs.declared.call.Answer.{Answer}
use Rattle.journal_model.specs.Request.{Request}
use Rattle.journal_model.specs.History.{completions_of, signals_of, ids_of}
use Rattle.journal_model.specs.Await.{child_of}
use Rattle.journal_model.specs.Delivery.{known_result}
use Rattle.journal_model.specs.Run.{Invocation}
use Rattle.attempt_model.specs.Children.{new_child}
use Rattle.attempt_model.specs.Requests.{answer_by}
use Rattle.attempt_model.specs.Machine.{Machine}
use Rattle.protocol_types.specs.declared.message_type.MessageType.{MessageType}
use Rattle.vm_awaits.specs.Views.{results_of, slots_of}
use Rattle.vm_awaits.specs.Calls.{with_handle}
use Rattle.vm_context.specs.Journal.{after_completions}
use Rattle.vm_context.specs.StateKnowledge.{changes_state}
use Rattle.vm_calls.specs.declared.active.Active.{Active}
use Rattle.vm_calls.specs.Active.{Sees, asking, HasCompletions, TakesCompletion}
use Rattle.vm_calls.specs.CommandCalls.{AsksOne}
use Rattle.vm_awaits.specs.Children.{AreMade}
use Rattle.vm_waiting.specs.TrackedChildren.{children_kept, Tracks}

-- the next two completion ids are taken, and the two handles
pub record TakesTwo (first second : ℕ) (handles : ℕ × ℕ) (old new : Active) : Type 0 where
  pub first_id : first ≡ old.journal.completions
  pub second_id : second ≡ old.journal.completions + 1
  pub first_handle : handles.0 ≡ 17 + length (slots_of old.results)
  pub second_handle : handles.1 ≡ suc (17 + length (slots_of old.results))
  pub results : results_of new.results ≡ with_handle (CompletionId (old.journal.completions + 1)) (with_handle (CompletionId old.journal.completions) (results_of old.results))
  pub others : new ≡ record old { journal = after_completions 2 old.journal; results = new.results }
  pub has : HasCompletions 2 old

-- a call that takes two completion ids and two handles for them, and puts one request, which changes nothing of the state
pub record CompletesTwo (given : Invocation) (m : Machine) (call : Call) (request : Request) : Type 0 where
  pub asks : AsksOne given m call request
  pub completions : completions_of call ≡ 2
  pub signals : signals_of call ≡ 0
  pub ids : ids_of m.completions m.signals call ≡ CompletionId m.completions ∷ CompletionId (m.completions + 1) ∷ []
  pub known : known_result m.completions (request ∷ []) ≡ []
  pub keeps : changes_state request ≡ false
  pub answer : (id : Text) (handle signal : ℕ) → answer_by id handle signal call ≡ Answer.Handles handle (suc handle)

-- a child is kept where the call brings one, and only there
pub record KeepsChild (tracked : Bool) (given : Invocation) (m : Machine) (call : Call) : Type 0 where
  pub kept : children_kept tracked m.completions m.children ≡ m.children ++ map new_child (child_of given.options.implicit_cancellation m.completions call)
  pub made : AreMade (m.completions + completions_of call) (m.children ++ map new_child (child_of given.options.implicit_cancellation m.completions call))

-- the machine's call has begun: two completions were taken, and these handles stand for them
pub record HasBegunTwo (given : Invocation) (m : Machine) (call : Call) (handles : ℕ × ℕ) (old begun : Active) : Type 0 where
  pub sees : Sees given old m
  pub ty : MessageType
  pub name : Text
  pub first : ℕ
  pub second : ℕ
  pub tracked : Bool
  pub takes : Tracks tracked first (TakesTwo first second handles (asking ty name old)) begun
  pub child : KeepsChild tracked given m call

-- a call that takes one completion id and a handle for it, and puts one request, which changes nothing of the state
pub record CompletesTracked (given : Invocation) (m : Machine) (call : Call) (request : Request) : Type 0 where
  pub asks : AsksOne given m call request
  pub completions : completions_of call ≡ 1
  pub signals : signals_of call ≡ 0
  pub ids : ids_of m.completions m.signals call ≡ CompletionId m.completions ∷ []
  pub known : known_result m.completions (request ∷ []) ≡ []
  pub keeps : changes_state request ≡ false
  pub answer : (id : Text) (handle signal : ℕ) → answer_by id handle signal call ≡ Answer.Handle handle

-- the machine's call has begun: its completion was taken, and this handle stands for it
pub record HasBegunTracked (given : Invocation) (m : Machine) (call : Call) (handle : ℕ) (old begun : Active) : Type 0 where
  pub sees : Sees given old m
  pub ty : MessageType
  pub name : Text
  pub id : ℕ
  pub tracked : Bool
  pub takes : Tracks tracked id (TakesCompletion (id, handle) (asking ty name old)) begun
  pub child : KeepsChild tracked given m call
