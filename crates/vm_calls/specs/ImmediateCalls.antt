-- What a call does that puts one command, takes no number, and is answered at once.
use Rattle.std.specs.Prelude.{◌≡◌, ℕ, [], ◌∷◌, ◌++◌}
use Rattle.journal_model.specs.Notification.{Text}
use Rattle.journal_model.specs.declared.call.Call.{Call}
use Rattle.journal_model.specs.declared.call.Answer.{Answer}
use Rattle.journal_model.specs.Request.{Request}
use Rattle.journal_model.specs.History.{completions_of, signals_of, ids_of}
use Rattle.journal_model.specs.Await.{child_of}
use Rattle.journal_model.specs.Delivery.{known_result}
use Rattle.journal_model.specs.Run.{Invocation}
use Rattle.attempt_model.specs.Requests.{answer_by}
use Rattle.attempt_model.specs.Machine.{Machine}
use Rattle.protocol_types.specs.declared.message_type.MessageType.{MessageType}
use Rattle.vm_context.specs.StateKnowledge.{KnowsState}
use Rattle.vm_calls.specs.declared.active.Active.{Active}
use Rattle.vm_calls.specs.Active.{Sees, asking}
use Rattle.vm_calls.specs.CommandCalls.{AsksOne}

-- a call that takes no number and no handle, brings no child, and puts one request
pub record DoesOne (given : Invocation) (m : Machine) (call : Call) (request : Request) : Type 0 where
  pub asks : AsksOne given m call request
  pub completions : completions_of call ≡ 0
  pub signals : signals_of call ≡ 0
  pub ids : ids_of m.completions m.signals call ≡ []
  pub known : known_result m.completions (request ∷ []) ≡ []
  pub children : child_of given.options.implicit_cancellation m.completions call ≡ []
  pub answer : (id : Text) (handle signal : ℕ) → answer_by id handle signal call ≡ Answer.Done

-- the machine's call is asked for, and what is known of the state is what is known behind its request
pub record HasAsked (given : Invocation) (m : Machine) (request : Request) (old asked : Active) : Type 0 where
  pub sees : Sees given old m
  pub ty : MessageType
  pub name : Text
  pub others : asked ≡ record (asking ty name old) { state = asked.state }
  pub knows : KnowsState asked.state m.start (m.done ++ request ∷ [])
