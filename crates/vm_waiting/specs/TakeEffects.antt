-- What a take does.
use Rattle.std.specs.Prelude.{◌≡◌, ℕ, Bool, true, false, List, Option, Some, None, Result, Ok, Err}
use Rattle.journal_model.specs.declared.notification.NotificationResult.{NotificationResult}
use Rattle.journal_model.specs.declared.value.Value.{Value}
use Rattle.journal_model.specs.declared.call.Call.{Call}
use Rattle.journal_model.specs.declared.call.Answer.{Answer}
use Rattle.journal_model.specs.Value.{as_taken}
use Rattle.journal_model.specs.Run.{Invocation}
use Rattle.attempt_model.specs.Children.{Child}
use Rattle.attempt_model.specs.Results.{are_keys_text}
use Rattle.attempt_model.specs.Machine.{Machine, Reply, Answered, FailedBy, KeysNotText, reply_to}
use Rattle.attempt_model.specs.Machine as faults
use Rattle.protocol_messages.specs.declared.taken.TakeError as untaken
use Rattle.protocol_messages.specs.declared.taken.TakeError.TheVariants as unheld
use Rattle.vm_waiting.specs.declared.taking.TakeError.{TakeError}
use Rattle.vm_waiting.specs.declared.taking.TakeError.TheVariants.{KeyNotText, ChildNotId, OutOfMemory}
use Rattle.vm_waiting.specs.TrackedChildren.{is_allowed, with_taken}
use Rattle.vm_commands.specs.HeaderEquality.{same_header}
use Rattle.vm_calls.specs.declared.active.Active.{Active}
use Rattle.vm_calls.specs.Active.{Sees}

abbrev pub taken_error : untaken.TakeError → TakeError
taken_error unheld.KeyNotText = KeyNotText
taken_error unheld.OutOfMemory = OutOfMemory

-- What is taken of a result, if there is one: state keys that are not all text are refused, and what is taken of a child and is no
-- invocation id, and nothing else is.
abbrev pub IsResultTaken : (of_child : Bool) → Option NotificationResult → Result (Option Value) TakeError → Type 0
IsResultTaken of_child None (Ok taken) = taken ≡ None
IsResultTaken of_child None (Err error) = ⊥
IsResultTaken of_child (Some brought) (Ok taken) = (are_keys_text brought ≡ true) × (is_allowed of_child (as_taken brought) ≡ true) × (taken ≡ Some (as_taken brought))
IsResultTaken of_child (Some brought) (Err KeyNotText) = are_keys_text brought ≡ false
IsResultTaken of_child (Some brought) (Err ChildNotId) = (are_keys_text brought ≡ true) × (is_allowed of_child (as_taken brought) ≡ false)
IsResultTaken of_child (Some brought) (Err OutOfMemory) = Unit {0}

-- the invocation id that was taken of a child is remembered; nothing is of what is not handed out
abbrev pub KeepsTaken : {E : Type 0} → (child : Option ℕ) → (old : List Child) → Result (Option Value) E → (new : List Child) → Type 0
KeepsTaken child old (Ok taken) new = new ≡ with_taken child taken old
KeepsTaken child old (Err error) new = new ≡ old

-- the abstract machine's reply leaves a machine that is seen afterwards; it has written nothing more
pub record Becomes (given : Invocation) (m : Machine) (reply : Reply) (leaving : Machine → Reply) (new : Active) : Type 0 where
  pub machine : Machine
  pub replies : reply ≡ leaving machine
  pub sees : Sees given new machine
  pub written : machine.written ≡ m.written

-- A take is answered as the abstract machine answers it. It fails where the machine fails, or for want of memory.
abbrev pub TakesResult : (checks_off : Bool) → Invocation → Machine → (handle : ℕ) → Result (Option Value) TakeError → (new : Active) → Type 0
TakesResult checks_off given m handle (Ok taken) new = Becomes given m (reply_to (same_header checks_off) given m (Call.Take handle)) (Answered (Answer.Taken taken)) new
TakesResult checks_off given m handle (Err KeyNotText) new = reply_to (same_header checks_off) given m (Call.Take handle) ≡ FailedBy KeysNotText
TakesResult checks_off given m handle (Err ChildNotId) new = reply_to (same_header checks_off) given m (Call.Take handle) ≡ FailedBy faults.ChildNotId
TakesResult checks_off given m handle (Err OutOfMemory) new = Unit {0}

-- what it does, for every machine that the attempt is seen as
abbrev pub TakesSeen : (handle : ℕ) → (old : Active) → Result (Option Value) TakeError → (new : Active) → Type 0
TakesSeen handle old result new = (given : Invocation) (m : Machine) (checks_off : Bool) → Sees given old m → TakesResult checks_off given m handle result new
