-- What a call does that puts one command: what it answers, and why it fails.
use Rattle.std.specs.Prelude.{◌≡◌, ◌≤◌, ◌^◌, ◌+◌, ℕ, Bool, false, List, [], ◌∷◌, ◌++◌, length, map, Some, None, Result, Ok, Err}
use Rattle.std.specs.List.{AllByRecursion}
use Rattle.journal_model.specs.declared.notification.NotificationId.TheVariants.{CompletionId}
use Rattle.journal_model.specs.Notification.{Text}
use Rattle.journal_model.specs.declared.call.Call.{Call}
use Rattle.journal_model.specs.declared.call.Answer.{Answer}
use Rattle.journal_model.specs.Request.{Request}
use Rattle.journal_model.specs.Refusal.{refusal_of}
use Rattle.journal_model.specs.Spelling.{request_payload}
use Rattle.journal_model.specs.History.{completions_of, signals_of, ids_of}
use Rattle.journal_model.specs.Delivery.{known_result}
use Rattle.journal_model.specs.Await.{child_of}
use Rattle.journal_model.specs.Run.{Invocation}
use Rattle.attempt_model.specs.Requests.{requests_by, answer_by}
use Rattle.attempt_model.specs.Children.{new_child}
use Rattle.attempt_model.specs.Results.{ready_after_all}
use Rattle.attempt_model.specs.Machine.{Machine, Answered, FailedBy, Mismatch, work_of, ToMake, reply_to}
use Rattle.protocol_types.specs.declared.message_type.MessageType.{MessageType}
use Rattle.protocol_stream.specs.declared.encoder.EncodingError.TheVariants as unsent
use Rattle.vm_awaits.specs.Views.{results_of}
use Rattle.vm_awaits.specs.Children.{AreMade}
use Rattle.vm_context.specs.StateKnowledge.{KnowsState, changes_state}
use Rattle.vm_commands.specs.HeaderEquality.{same_header}
use Rattle.vm_commands.specs.NextCommand.{IsNextUnread}
use Rattle.vm_commands.specs.declared.replay_error.ReplayError.TheVariants as unmatched
use Rattle.vm_calls.specs.declared.active.Active.{Active}
use Rattle.vm_calls.specs.declared.call_error.CallError.{CallError}
use Rattle.vm_calls.specs.declared.call_error.CallError.TheVariants.{Number, Put, OutOfMemory}
use Rattle.vm_calls.specs.declared.call_error.NumberError.TheVariants as numbers
use Rattle.vm_calls.specs.declared.put_error.PutError.{PutError}
use Rattle.vm_calls.specs.declared.put_error.PutError.TheVariants.{Replay, Encoding}
use Rattle.vm_calls.specs.Active.{Sees, RequestFits, has_left, left_of, asking, LacksCompletions, HasCompletions, TakesCompletion, writes_frames}

module _ (checks_off : Bool) (given : Invocation) (m : Machine) (call : Call) where
  -- The call is answered as the abstract machine answers it, which is seen afterwards; written are exactly the frames of the
  -- requests by which it has written more, and each fits its frame. The numbers that it takes were left.
  pub record Replies (answer : Answer) (old new : Active) : Type 0 where
    pub machine : Machine
    pub replies : reply_to (same_header checks_off) given m call ≡ Answered answer machine
    pub sees : Sees given new machine
    pub more : List Request
    pub written : machine.written ≡ m.written ++ more
    pub frames : new.output ≡ writes_frames more old.output
    pub fit : AllByRecursion RequestFits more
    pub has : HasCompletions (completions_of call) old

  -- the call's one request is longer than a frame can be
  pub record IsLong : Type 0 where
    pub request : Request
    pub requests : requests_by m.start m.done m.left m.completions call ≡ request ∷ []
    pub long : 2 ^ 32 ≤ length (request_payload request)

  -- it is not
  pub record IsShort : Type 0 where
    pub request : Request
    pub requests : requests_by m.start m.done m.left m.completions call ≡ request ∷ []
    pub fits : RequestFits request

  -- Why its request is not put: the abstract machine fails, by what is recorded next; the request would be written, and is too long,
  -- or memory was refused for its frame; or memory was refused for what is recorded.
  abbrev pub PutFailsAs : {M : Type 0} → PutError M → Type 0
  PutFailsAs (Replay (unmatched.Unavailable error)) = ⊥
  PutFailsAs (Replay (unmatched.Decoding error)) = (reply_to (same_header checks_off) given m call ≡ FailedBy Mismatch) × IsNextUnread error m.left
  PutFailsAs (Replay (unmatched.Mismatch error)) = reply_to (same_header checks_off) given m call ≡ FailedBy Mismatch
  PutFailsAs (Replay unmatched.OutOfMemory) = Unit {0}
  PutFailsAs (Encoding unsent.PayloadTooLong) = (m.left ≡ []) × IsLong
  PutFailsAs (Encoding unsent.OutOfMemory) = (m.left ≡ []) × IsShort

  -- Why it fails: a number is lacking; or none is, and its request is not put; or memory was refused.
  abbrev pub FailsAs : {M : Type 0} → (old : Active) → CallError M → Type 0
  FailsAs old (Number numbers.IdsExhausted) = LacksCompletions (completions_of call) old
  FailsAs old (Number numbers.OutOfMemory) = Unit {0}
  FailsAs old (Put error) = PutFailsAs error × HasCompletions (completions_of call) old
  FailsAs old OutOfMemory = Unit {0}

  -- what such a call does, where it makes its answer of what it takes
  abbrev pub MakesCommand : {M Taken : Type 0} → (Taken → Answer) → (old : Active) → Result Taken (CallError M) → (new : Active) → Type 0
  MakesCommand answer old (Ok taken) new = Replies (answer taken) old new
  MakesCommand answer old (Err error) new = FailsAs old error × (new.output ≡ old.output)

-- a call that puts this one request
pub record AsksOne (given : Invocation) (m : Machine) (call : Call) (request : Request) : Type 0 where
  pub refused : refusal_of given.version call ≡ None
  pub work : work_of call ≡ ToMake
  pub requests : requests_by m.start m.done m.left m.completions call ≡ request ∷ []

-- all of such a call is done but that its request is put
pub record IsReadyToPut (given : Invocation) (m : Machine) (call : Call) (request : Request) (old ready : Active) : Type 0 where
  pub left : left_of ready ≡ m.left
  pub replaying : ready.is_replaying ≡ has_left m.left
  pub results : results_of ready.results ≡ record {
    delivery = given.options.signal_delivery;
    queue = m.queue;
    ready = ready_after_all given.options.signal_delivery m.ready (known_result m.completions (request ∷ []));
    slots = m.slots ++ map Some (ids_of m.completions m.signals call);
  }
  pub state : KnowsState ready.state m.start (m.done ++ request ∷ [])
  pub completions : ready.journal.completions ≡ m.completions + completions_of call
  pub signals : ready.journal.signals ≡ m.signals + signals_of call
  pub opened : ready.output.is_closed ≡ false
  -- the child that the call brings is kept
  pub children : ready.children ≡ m.children ++ map new_child (child_of given.options.implicit_cancellation m.completions call)
  pub made : AreMade (m.completions + completions_of call) (m.children ++ map new_child (child_of given.options.implicit_cancellation m.completions call))
  pub output : ready.output ≡ old.output
  pub has : HasCompletions (completions_of call) old

-- a call that takes one completion id and a handle for it, brings no child, and puts one request, which changes nothing of the state
pub record CompletesOne (given : Invocation) (m : Machine) (call : Call) (request : Request) : Type 0 where
  pub asks : AsksOne given m call request
  pub completions : completions_of call ≡ 1
  pub signals : signals_of call ≡ 0
  pub ids : ids_of m.completions m.signals call ≡ CompletionId m.completions ∷ []
  pub known : known_result m.completions (request ∷ []) ≡ []
  pub keeps : changes_state request ≡ false
  pub children : child_of given.options.implicit_cancellation m.completions call ≡ []
  pub answer : (id : Text) (handle signal : ℕ) → answer_by id handle signal call ≡ Answer.Handle handle

-- the machine's call has begun: its completion was taken, and this handle stands for it
pub record HasCallBegun (given : Invocation) (m : Machine) (handle : ℕ) (old begun : Active) : Type 0 where
  pub sees : Sees given old m
  pub ty : MessageType
  pub name : Text
  pub id : ℕ
  pub takes : TakesCompletion (id, handle) (asking ty name old) begun
