-- What a read of an object's state does: what it answers, and why it fails.
use Rattle.std.specs.Prelude.{◌≡◌, ◌||◌, ℕ, Bool, false, List, [], ◌∷◌, Option, Some, None, Result, Ok, Err}
use Rattle.journal_model.specs.declared.notification.NotificationId.TheVariants.{CompletionId}
use Rattle.journal_model.specs.Notification.{Text, Arrival}
use Rattle.journal_model.specs.declared.notification.NotificationResult.{NotificationResult}
use Rattle.journal_model.specs.declared.call.Call.{Call}
use Rattle.journal_model.specs.declared.call.Answer.{Answer}
use Rattle.journal_model.specs.Request.{Request}
use Rattle.journal_model.specs.History.{completions_of, signals_of, ids_of}
use Rattle.journal_model.specs.Delivery.{known_result}
use Rattle.journal_model.specs.Await.{child_of}
use Rattle.journal_model.specs.Run.{Invocation}
use Rattle.attempt_model.specs.Requests.{answer_by}
use Rattle.attempt_model.specs.Results.{ready_after_all}
use Rattle.attempt_model.specs.Machine.{Machine, FailedBy, Mismatch, reply_to}
use Rattle.vm_awaits.specs.Views.{AsyncResults, results_of}
use Rattle.vm_context.specs.StateKnowledge.{changes_state}
use Rattle.vm_commands.specs.HeaderEquality.{same_header, is_unstable}
use Rattle.vm_commands.specs.NextCommand.{IsNoRequest}
use Rattle.vm_commands.specs.declared.state_read.StateReadError.{StateReadError}
use Rattle.vm_commands.specs.declared.state_read.StateReadError.TheVariants as errors
use Rattle.vm_calls.specs.declared.active.Active.{Active}
use Rattle.vm_calls.specs.declared.call_error.CallError.TheVariants.{Put}
use Rattle.vm_calls.specs.declared.call_error.NumberError.TheVariants as numbers
use Rattle.vm_calls.specs.declared.put_error.PutError.{PutError}
use Rattle.vm_calls.specs.declared.put_error.PutError.TheVariants as puts
use Rattle.vm_calls.specs.Active.{Sees, LacksCompletions, HasCompletions}
use Rattle.vm_calls.specs.CommandCalls.{Replies, FailsAs, PutFailsAs, AsksOne, HasCallBegun}
use Rattle.vm_state_reads.specs.declared.read_error.ReadError.{ReadError}
use Rattle.vm_state_reads.specs.declared.read_error.ReadError.TheVariants.{Number, Replay, Encoding, OutOfMemory}

module _ (checks_off : Bool) (given : Invocation) (m : Machine) (call : Call) where
  -- why the recorded command is not the read; one whose answer was known, and is not there, is no request
  abbrev pub MatchFailsAs : {L E : Type 0} → StateReadError L E → Type 0
  MatchFailsAs (errors.Lazy error) = PutFailsAs checks_off given m call (puts.Replay error)
  MatchFailsAs (errors.Eager error) = PutFailsAs checks_off given m call (puts.Replay error)
  MatchFailsAs (errors.OtherType error) = reply_to (same_header checks_off) given m call ≡ FailedBy Mismatch
  MatchFailsAs errors.Empty = (reply_to (same_header checks_off) given m call ≡ FailedBy Mismatch) × IsNoRequest m.left

  -- Why it fails: a number is lacking; or none is, and it is not matched, or not written; or memory was refused.
  abbrev pub ReadFailsAs : {L E : Type 0} → (old : Active) → ReadError L E → Type 0
  ReadFailsAs old (Number numbers.IdsExhausted) = LacksCompletions (completions_of call) old
  ReadFailsAs old (Number numbers.OutOfMemory) = Unit {0}
  ReadFailsAs old (Replay error) = MatchFailsAs error × HasCompletions (completions_of call) old
  ReadFailsAs old (Encoding error) = PutFailsAs checks_off given m call {M = Unit {0}} (puts.Encoding error) × HasCompletions (completions_of call) old
  ReadFailsAs old OutOfMemory = Unit {0}

  -- what a read does
  abbrev pub Reads : {L E : Type 0} → (old : Active) → Result ℕ (ReadError L E) → (new : Active) → Type 0
  Reads old (Ok handle) new = Replies checks_off given m call (Answer.Handle handle) old new
  Reads old (Err error) new = ReadFailsAs old error × (new.output ≡ old.output)

  -- what a read does that has begun, once its command is put
  abbrev pub PutsRead : {M : Type 0} → (old : Active) → Result ℕ (PutError M) → (new : Active) → Type 0
  PutsRead old (Ok handle) new = Replies checks_off given m call (Answer.Handle handle) old new
  PutsRead old (Err error) new = FailsAs checks_off given m call old (Put error) × (new.output ≡ old.output)

-- a call that takes one completion id and a handle for it, brings no child, and puts this request, whose result may be known at once
pub record ReadsOne (given : Invocation) (m : Machine) (call : Call) (request : Request) : Type 0 where
  pub asks : AsksOne given m call request
  pub completions : completions_of call ≡ 1
  pub signals : signals_of call ≡ 0
  pub ids : ids_of m.completions m.signals call ≡ CompletionId m.completions ∷ []
  pub keeps : changes_state request ≡ false
  pub children : child_of given.options.implicit_cancellation m.completions call ≡ []
  pub answer : (id : Text) (handle signal : ℕ) → answer_by id handle signal call ≡ Answer.Handle handle

-- what the read of this call does, for every machine that the attempt is seen as
abbrev pub ReadsByCall : {L E : Type 0} → (checks_off : Bool) → Call → (old : Active) → Result ℕ (ReadError L E) → (new : Active) → Type 0
ReadsByCall checks_off call old result new = (given : Invocation) (m : Machine) → Sees given old m → Reads checks_off given m call old result new

-- what a read does that puts this request, whatever call it is of
abbrev pub ReadsFor : {L E : Type 0} → (Machine → Request) → (ignoring : Bool) → (old : Active) → Result ℕ (ReadError L E) → (new : Active) → Type 0
ReadsFor request ignoring old result new =
    (checks_off : Bool) (given : Invocation) (m : Machine) (call : Call) → ReadsOne given m call (request m) → ignoring ≡ (checks_off || is_unstable call) → Sees given old m
    → Reads checks_off given m call old result new

-- ---- what is known at once

-- what has come where this is known of a completion
abbrev pub arrivals_of : ℕ → Option NotificationResult → List Arrival
arrivals_of n None = []
arrivals_of n (Some result) = record { id = CompletionId n; result = result } ∷ []

-- these are looked at, one behind the other
abbrev pub with_known : List Arrival → AsyncResults → AsyncResults
with_known arrivals results = record results { ready = ready_after_all results.delivery results.ready arrivals }

-- the machine's read has begun, and what is known of its result is ready
pub record HasReadyResult (given : Invocation) (m : Machine) (handle : ℕ) (request : Request) (old read : Active) : Type 0 where
  pub begun : Active
  pub begins : HasCallBegun given m handle old begun
  pub results : results_of read.results ≡ with_known (known_result m.completions (request ∷ [])) (results_of begun.results)
  pub others : read ≡ record begun { results = read.results }

-- what a read does that has begun, where its command stands for this request
abbrev pub PutsReadAs : {M : Type 0} → Option Request → (ignoring : Bool) → (handle : ℕ) → (begun : Active) → Result ℕ (PutError M) → (new : Active) → Type 0
PutsReadAs made ignoring handle begun result new =
    (checks_off : Bool) (given : Invocation) (m : Machine) (call : Call) (request : Request) (old : Active) → made ≡ Some request → ReadsOne given m call request
    → ignoring ≡ (checks_off || is_unstable call) → HasReadyResult given m handle request old begun → PutsRead checks_off given m call old result new
