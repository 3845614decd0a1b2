-- What taking the recorded read does to an attempt, and what was known of it.
use Rattle.std.specs.Prelude.{◌≡◌, Bool, List, ◌∷◌, Option, Some, None, Result, Ok, Err}
use Rattle.journal_model.specs.declared.notification.NotificationResult.{NotificationResult}
use Rattle.journal_model.specs.Request.{Request}
use Rattle.journal_model.specs.Delivery.{value_or_void}
use Rattle.attempt_model.specs.Requests.{Commands, put_one}
use Rattle.protocol_records.specs.declared.state_keys.StateKeys.{StateKeys}
use Rattle.protocol_commands.specs.declared.get_eager_state_command.GetEagerStateCommandResult.{GetEagerStateCommandResult}
use Rattle.protocol_laws.specs.Requests.{state_told}
use Rattle.vm_commands.specs.declared.replay_error.ReplayError.TheVariants as unmatched
use Rattle.vm_commands.specs.declared.state_read.StateRead.{StateRead}
use Rattle.vm_commands.specs.declared.state_read.StateRead.TheVariants as reads
use Rattle.vm_commands.specs.declared.state_read.StateReadError.{StateReadError}
use Rattle.vm_commands.specs.declared.state_read.StateReadError.TheVariants as errors
use Rattle.vm_commands.specs.HeaderEquality.{header_equal}
use Rattle.vm_commands.specs.StateReads.{IsNotRead}
use Rattle.vm_commands.specs.RecordedCommands.{as_recorded}
use Rattle.vm_calls.specs.declared.active.Active.{Active}
use Rattle.vm_calls.specs.Active.{left_of, PutsOne}

-- why the read that a call makes, as it is recorded, is not matched: the abstract machine does not match it, by what is next, or memory was refused
abbrev pub MatchFails : {L E : Type 0} → (ignoring : Bool) → (made : Request) → (written : List Request) → Commands → StateReadError L E → Type 0
MatchFails ignoring made written left (errors.Lazy (unmatched.Unavailable error)) = ⊥
MatchFails ignoring made written left (errors.Lazy unmatched.OutOfMemory) = Unit {0}
MatchFails ignoring made written left (errors.Eager (unmatched.Unavailable error)) = ⊥
MatchFails ignoring made written left (errors.Eager unmatched.OutOfMemory) = Unit {0}
MatchFails ignoring made written left error = (put_one (header_equal ignoring) (as_recorded left made) left written ≡ None) × IsNotRead error left

-- it is matched
abbrev pub MatchesIn : {K L E : Type 0} → (ignoring : Bool) → (made : Request) → (written : List Request) → (old : Active) → Result (StateRead K) (StateReadError L E) → (new : Active) → Type 0
MatchesIn ignoring made written old (Ok read) new = PutsOne ignoring (as_recorded (left_of old) made) written old new
MatchesIn ignoring made written old (Err error) new = MatchFails ignoring made written (left_of old) error

-- the next recorded command is this record's request
pub record IsNext {M : Type 0} (request_of : M → Option Request) (recorded : M) (left : Commands) : Type 0 where
  pub others : Commands
  pub first : left ≡ request_of recorded ∷ others

-- a read whose answer is to come is next
pub record IsLazyNext {L : Type 0} (request_of : L → Option Request) (left : Commands) : Type 0 where
  pub recorded : L
  pub next : IsNext request_of recorded left

-- a read is next of which this was known
pub record IsEagerNext {E K : Type 0} (request_of : E → Option Request) (known : E → Option K) (found : K) (left : Commands) : Type 0 where
  pub recorded : E
  pub next : IsNext request_of recorded left
  pub is_known : known recorded ≡ Some found

-- the kind of the next recorded read, and what was known of it, are told
abbrev pub TellsNext : {L E K : Type 0} → (lazy_request_of : L → Option Request) → (request_of : E → Option Request) → (known : E → Option K) → Commands → StateRead K → Type 0
TellsNext lazy_request_of request_of known left reads.Lazy = IsLazyNext lazy_request_of left
TellsNext lazy_request_of request_of known left (reads.Eager found) = IsEagerNext request_of known found left

-- ---- the result of a recorded read, where it was known

abbrev pub value_known : StateRead GetEagerStateCommandResult → Option NotificationResult
value_known reads.Lazy = None
value_known (reads.Eager found) = Some (value_or_void (state_told found))

abbrev pub keys_known : StateRead StateKeys → Option NotificationResult
keys_known reads.Lazy = None
keys_known (reads.Eager found) = Some (NotificationResult.StateKeys found.keys)
