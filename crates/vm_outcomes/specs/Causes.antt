-- Why a handler's call fails, and what the machine fails with then.
use Rattle.std.specs.Prelude.{◌≡◌, ◌≤◌, ◌<◌, ◌+◌, ◌^◌, ◌⊎◌, ◌&&◌, ℕ, ℤ, Bool, true, false, List, [], ◌∷◌, ◌++◌, length, codes, Option, Some, None, Result, IfOk}
use Rattle.std.specs.declared.alloc.AllocError.{AllocError}
use Rattle.journal_model.specs.AwaitTree.{AwaitTree}
use Rattle.journal_model.specs.History.{completions_of, signals_of, ids_of}
use Rattle.journal_model.specs.Notification.{Bytes, Text}
use Rattle.journal_model.specs.Refusal.{refusal_of}
use Rattle.journal_model.specs.Request.{Request}
use Rattle.journal_model.specs.Run.{Invocation}
use Rattle.journal_model.specs.Spelling.{awaiting_on_payload, request_payload}
use Rattle.journal_model.specs.declared.call.Call.{Call}
use Rattle.journal_model.specs.declared.notification.NotificationId.{NotificationId}
use Rattle.attempt_model.specs.Machine.{Machine, FailedBy, Fault, Mismatch, UncompletedInReplay, EndInReplay, KeysNotText, ChildNotId, Refused, next_slot}
use Rattle.attempt_model.specs.Requests.{Commands}
use Rattle.attempt_model.specs.Results.{Slots}
use Rattle.protocol_errors.specs.Code.{internal, journal_mismatch, protocol_violation, unsupported_feature}
use Rattle.protocol_errors.specs.Error.{plain_error, decoding_code}
use Rattle.protocol_errors.specs.FixedErrors.{fixed_code, fixed_text}
use Rattle.protocol_errors.specs.Texts.{mismatch_text, type_mismatch_text}
use Rattle.protocol_errors.specs.declared.error.Error.{Error}
use Rattle.protocol_errors.specs.declared.fixed.FixedError.{FixedError}
use Rattle.protocol_errors.specs.declared.mismatch.CommandTypeMismatchError.{CommandTypeMismatchError}
use Rattle.protocol_stream.specs.ErrorText.{decoding_text, too_long_text}
use Rattle.protocol_stream.specs.declared.decoder.DecodingError.{DecodingError}
use Rattle.protocol_types.specs.declared.message_type.MessageType.{MessageType}
use Rattle.protocol_types.specs.declared.version.Version.{Version}
use Rattle.vm_awaits.specs.Views.{slots_of}
use Rattle.vm_calls.specs.Active.{Sees, TellsSame, IsAtCommand}
use Rattle.vm_calls.specs.CommandCalls.{IsLong}
use Rattle.vm_calls.specs.declared.active.Active.{Active}
use Rattle.vm_commands.specs.NextCommand.{IsNoRequest, IsNextUnread}
use Rattle.vm_context.specs.Journal.{JournalCounts, no_id_text}
use Rattle.vm_start.specs.Phases.{unexpected_error}
use Rattle.vm_start.specs.declared.phase.Phase.TheVariants as phases
use Rattle.vm_progress.specs.SleepingAwaits.{too_deep_error}
use Rattle.vm_progress.specs.AwaitedRuns.{executes_any, is_executing_for, run_for}
use Rattle.vm_progress.specs.UncompletedAwaits.{started_id, TellsUncompleted}
use Rattle.vm_refusals.specs.Refusals.{refusal_meant, refusal_code, text_of_refusal}
use Rattle.vm_refusals.specs.declared.refusal.CallRefusal.{CallRefusal}
use Rattle.vm_machine.specs.Causes.{child_not_id_error, TellsPlainError, TellsLast}
use Rattle.vm_runs.specs.Runs.{Runs}
use Rattle.vm_types.specs.declared.options.JournalReplay.TheVariants.{Disabled}
use Rattle.vm_waiting.specs.ChildCancellation.{after_cancels}
use Rattle.vm_waiting.specs.SuspensionFrames.{suspension_payload_in, is_too_deep, is_suspension_too_deep, tells_awaiting}
use Rattle.vm_waiting.specs.WaitsFor.{awaited_ids, waits_for_any, waits_as}
use Rattle.vm_waiting.specs.declared.waits_for.WaitsFor.{WaitsFor}
use Rattle.protocol_differences.specs.Mismatch.{place_text}
use Rattle.vm_machine.specs.Calls.{checks_off}
use Rattle.vm_machine.specs.declared.machine_state.MachineState.{MachineState}
use Rattle.vm_outcomes.specs.DrivenMachine.{reply_of}
use Rattle.vm_outcomes.specs.PartialCalls.{HasPut, IsUnmatchedNext}

-- why a call fails
pub data Cause : Type 0 where
  -- the abstract machine fails
  ByFault : Fault → Cause
  -- no number is left for what it makes
  NoNumber : Cause
  -- what it would write is longer than a frame can be
  TooLong : Cause
  -- what it would tell of what it waits for is nested deeper than a frame can tell
  TooDeep : Cause
  -- which awakeables were made is not known where the journal of the earlier attempts is not replayed
  NoReplay : Cause
  NoMemory : Cause

-- a completion, an awakeable's signal or a handle of this call has no number
abbrev pub LacksNumber : Machine → Call → Type 0
LacksNumber m call =
    (2 ^ 32 < m.completions + completions_of call) ⊎ ((2 ^ 32 < m.signals + signals_of call) ⊎ (2 ^ 32 < next_slot m + length (ids_of m.completions m.signals call)))

-- what it takes of completion ids, and of numbers of signals, is left
pub record NumbersLeft (m : Machine) (call : Call) : Type 0 where
  pub completions : (completions_of call ≡ 0) ⊎ (m.completions + completions_of call ≤ 2 ^ 32)
  pub signals : (signals_of call ≡ 0) ⊎ (m.signals + signals_of call ≤ 2 ^ 32)

-- what an await writes that waits for these ids: its suspension where no more input can come, else what it waits for
abbrev pub waiting_payload : (is_input_closed : Bool) → Version → AwaitTree NotificationId → Bytes
waiting_payload true version ids = suspension_payload_in version ids
waiting_payload false version ids = awaiting_on_payload ids false

-- whether that cannot be told: a list of ids can, and so can what is not to be told
abbrev pub is_wait_too_deep : (is_input_closed : Bool) → Version → (is_told : Bool) → AwaitTree NotificationId → Bool
is_wait_too_deep true version is_told ids = is_suspension_too_deep version ids
is_wait_too_deep false version is_told ids = is_told && is_too_deep ids

module _ (given : Invocation) (m : Machine) (call : Call) (vm : MachineState) where
  -- The await waits, and no run of it is to be executed; nor is one being executed where it would write its suspension.
  pub record IsAsleep : Type 0 where
    pub waits : WaitsFor
    pub machine : Machine
    pub replies : reply_of vm given m call ≡ waits_as waits machine
    pub none : run_for waits vm.runs ≡ None
    pub idle : vm.is_input_closed ≡ true → is_executing_for waits vm.runs ≡ false
    pub resolved : Active
    pub sees : Sees given resolved machine

  -- what it would write of that is too long
  abbrev pub IsLongWait : Type 0
  IsLongWait = (asleep : IsAsleep) × (2 ^ 32 ≤ length (waiting_payload vm.is_input_closed vm.version (awaited_ids asleep.resolved asleep.waits)))

  -- what it would write of that is nested too deep
  abbrev pub IsDeepWait : Type 0
  IsDeepWait = (asleep : IsAsleep)
      × (is_wait_too_deep vm.is_input_closed vm.version (tells_awaiting vm.version vm.options.awaiting_on_policy (executes_any vm.runs) (waits_for_any asleep.waits)) (awaited_ids asleep.resolved asleep.waits)
      ≡ true)

  -- it passes a cancellation on, and the next request of that would be written, and is too long
  pub record IsLongCancel (far : HasPut given m call vm) : Type 0 where
    pub next : Request
    pub rest : List Request
    pub behind : far.behind ≡ next ∷ rest
    pub left : far.put.left ≡ []
    pub long : 2 ^ 32 ≤ length (request_payload next)

  -- when it fails so, where it has come so far with its requests
  abbrev pub FailsWhen : HasPut given m call vm → Cause → Type 0
  FailsWhen far (ByFault fault) = reply_of vm given m call ≡ FailedBy fault
  FailsWhen far NoNumber = (refusal_of given.version call ≡ None) × LacksNumber m call
  FailsWhen far TooLong =
      (refusal_of given.version call ≡ None) × (((m.left ≡ []) × IsLong (checks_off vm.options.non_determinism_checks) given m call) ⊎ (IsLongWait ⊎ IsLongCancel far))
  FailsWhen far TooDeep = IsDeepWait
  FailsWhen far NoReplay = (call ≡ Call.Awakeable) × (vm.options.journal_replay ≡ Disabled)
  FailsWhen far NoMemory = Unit {0}

  -- the request is the next one that is not what is recorded next
  abbrev pub FailsAt : HasPut given m call vm → Cause → Type 0
  FailsAt far (ByFault Mismatch) = IsUnmatchedNext given m call vm far.behind far.put
  FailsAt far _ = Unit {0}

-- ---- errors

-- what the moment of a call is called in an error
abbrev pub moment_event : Call → List ℕ
moment_event (Call.Sleep name wake_up now) = codes "sleep duration"
moment_event (Call.Send target input execution_time name options) = codes "send delay"
moment_event _ = []

-- an error about no command, or about the one that was asked for last
abbrev pub TellsEither : JournalCounts → ℕ → Option (List ℕ) → Error → Type 0
TellsEither journal code text told = TellsPlainError code text told ⊎ TellsLast journal code text told

-- why the next recorded command is not the one that a call makes
pub data Unmatched : Type 0 where
  -- it is of another type, or its payload cannot be read
  Unread : DecodingError → Unmatched
  -- it is of neither type of a read of the state
  NoRead : CommandTypeMismatchError → Unmatched
  -- it is another command of the type, at this place; where they differ is told
  Differs : (index : ℤ) → (difference : List ℕ) → Unmatched
  -- it is a read of the state whose answer was known, and is not there
  Unanswered : FixedError → Unmatched

-- by what is recorded next: only what is no request is the other side's fault
abbrev pub IsUnmatched : Commands → Unmatched → Type 0
IsUnmatched left (Unread error) = IsNextUnread error left
IsUnmatched left (NoRead error) = Unit {0}
IsUnmatched left (Differs index difference) = Unit {0}
IsUnmatched left (Unanswered empty) = (fixed_code empty ≡ protocol_violation) × IsNoRequest left

abbrev pub unmatched_code : Unmatched → ℕ
unmatched_code (Unread error) = decoding_code error
unmatched_code (NoRead error) = journal_mismatch
unmatched_code (Differs index difference) = journal_mismatch
unmatched_code (Unanswered empty) = fixed_code empty

abbrev pub unmatched_text : Unmatched → List ℕ
unmatched_text (Unread error) = decoding_text error
unmatched_text (NoRead error) = type_mismatch_text error
unmatched_text (Differs index difference) = mismatch_text ++ place_text index ++ difference
unmatched_text (Unanswered empty) = fixed_text empty

-- What a call that fails is told as, of this invocation and where this version is spoken, where these recorded commands were
-- left, and in the end these were asked for, handles stand for these ids and these runs are kept: the code, the text, and the command that it is about, if one is.
module _ (version : Version) (invocation : Bytes) (left : Commands) (journal : JournalCounts) (slots : Slots) (runs : Runs) (call : Call) where
  abbrev pub FaultTells : Fault → Error → Type 0
  FaultTells Mismatch told = (why : Unmatched) × (IsUnmatched left why × TellsLast journal (unmatched_code why) (Some (unmatched_text why)) told)
  -- what is waited for is what is left of a tree, or the one completion that brings a child's invocation id
  FaultTells UncompletedInReplay told = (waits : WaitsFor) × TellsUncompleted invocation slots runs waits told
  FaultTells EndInReplay told = told ≡ unexpected_error phases.Active true (codes "end invocation")
  FaultTells KeysNotText told = told ≡ plain_error internal (codes "Cannot convert an eager state key into UTF-8 String")
  FaultTells ChildNotId told = told ≡ child_not_id_error
  FaultTells (Refused refusal) told =
      (refused : CallRefusal) × ((refusal_meant refused ≡ refusal) × TellsPlainError (refusal_code refused) (Some (text_of_refusal refused version (moment_event call))) told)

  abbrev pub CauseTells : Cause → Error → Type 0
  CauseTells (ByFault fault) told = FaultTells fault told
  CauseTells NoNumber told = TellsEither journal internal (Some no_id_text) told
  CauseTells TooLong told = TellsEither journal internal (Some too_long_text) told
  CauseTells TooDeep told = told ≡ too_deep_error
  CauseTells NoReplay told = told ≡ plain_error unsupported_feature (codes "awakeables need journal replay")
  -- no error is made where memory is refused
  CauseTells NoMemory told = ⊥

-- ---- what is left

-- these requests were put, and a command was asked for behind them, or none was
abbrev pub AreRequestsAsked : (front : List Request) → (old new : JournalCounts) → Type 0
AreRequestsAsked front old new = TellsSame (after_cancels front old) new ⊎ ((ty : MessageType) × ((name : Text) × IsAtCommand ty name (after_cancels front old) new))

-- but for what is written nothing has changed
abbrev pub IsAsBefore : (old new : Active) → Type 0
IsAsBefore old new = new ≡ record old { output = new.output }

-- nor has anything but what has come, and what handles stand for
abbrev pub IsLookedAt : (old new : Active) → Type 0
IsLookedAt old new = new ≡ record old { results = new.results; output = new.output }

abbrev pub LeavesFault : Fault → (front : List Request) → (old new : Active) → Type 0
LeavesFault Mismatch front old new = AreRequestsAsked front old.journal new.journal
LeavesFault UncompletedInReplay front old new = IsLookedAt old new
LeavesFault EndInReplay front old new = IsAsBefore old new
LeavesFault KeysNotText front old new = IsLookedAt old new
LeavesFault ChildNotId front old new = IsLookedAt old new
LeavesFault (Refused refusal) front old new = IsAsBefore old new

-- What is left of what is kept for calls, where these requests were put. Where a number was taken, a record was matched or a frame was
-- made the commands alone are told.
abbrev pub LeavesPartly : Cause → (front : List Request) → (old new : Active) → Type 0
LeavesPartly (ByFault fault) front old new = LeavesFault fault front old new
LeavesPartly NoNumber front old new = AreRequestsAsked front old.journal new.journal
LeavesPartly TooLong front old new = AreRequestsAsked front old.journal new.journal
LeavesPartly TooDeep front old new = IsLookedAt old new
LeavesPartly NoReplay front old new = IsAsBefore old new
LeavesPartly NoMemory front old new = AreRequestsAsked front old.journal new.journal

-- A cause that there is where the call has come so far with its requests, with the error that it is told by, or that memory was refused for
-- one; `after` is kept for calls then.
pub record HasCause (given : Invocation) (m : Machine) (call : Call) (vm : MachineState) (far : HasPut given m call vm) (after : Active) (told : Result Error AllocError) : Type 0 where
  pub cause : Cause
  pub when : FailsWhen given m call vm far cause
  pub at : FailsAt given m call vm far cause
  pub tells : IfOk told (λ error. CauseTells vm.version (started_id vm.start) far.put.left after.journal (slots_of after.results) vm.runs call cause error)
  pub leaves : LeavesPartly cause far.front vm.active after
