-- What is told of an await that stays asleep although the journal goes on behind it.
use Rattle.std.specs.Prelude.{◌≡◌, ◌≤◌, ℕ, max, ◌==◌, nat_lt, Bool, true, false, ◌&&◌, if◌then◌else◌, List, [], ◌∷◌, ◌++◌, map, Option, Some, None, is_some, option_map, IsPermutation, IsSortedBy}
use Rattle.std.specs.List.{flat_map}
use Rattle.std.specs.Map.{values_of}
use Rattle.journal_model.specs.Awakeable.{awakeable_id}
use Rattle.journal_model.specs.AwaitTree.{AwaitTree}
use Rattle.journal_model.specs.Future.{tree_of}
use Rattle.journal_model.specs.Notification.{Bytes}
use Rattle.journal_model.specs.declared.notification.NotificationId.{NotificationId}
use Rattle.attempt_model.specs.Results.{Slots}
use Rattle.body_laws.specs.Bodies.{has_handle}
use Rattle.protocol_errors.specs.declared.metadata.CommandMetadata.{CommandMetadata}
use Rattle.protocol_errors.specs.AwaitedIds.{comes_before}
use Rattle.protocol_errors.specs.Code.{journal_mismatch}
use Rattle.protocol_errors.specs.Texts.{uncompleted_text}
use Rattle.protocol_errors.specs.declared.error.Error.{Error}
use Rattle.protocol_errors.specs.declared.metadata.NotificationMetadata.{NotificationMetadata}
use Rattle.protocol_errors.specs.declared.metadata.NotificationMetadata.TheVariants.{RelatedToCommand, Cancellation, Awakeable}
use Rattle.protocol_errors.specs.declared.uncompleted.AwaitedId.{AwaitedId}
use Rattle.protocol_errors.specs.declared.uncompleted.AwaitedId.TheVariants.{CompletionId, SignalId, SignalName}
use Rattle.protocol_errors.specs.declared.uncompleted.UncompletedDoProgressDuringReplay.{UncompletedDoProgressDuringReplay}
use Rattle.protocol_messages.specs.Leaves.{lists_of}
use Rattle.protocol_records.specs.declared.suspension_v6.SuspensionMessageV6.{SuspensionMessageV6}
use Rattle.protocol_stream.specs.Records.{future_record}
use Rattle.vm_awaits.specs.Views.{slots_of}
use Rattle.vm_machine.specs.CallAdmission.{IsAbout}
use Rattle.vm_machine.specs.Causes.{TellsPlainError}
use Rattle.vm_machine.specs.Steps.{FailsBy}
use Rattle.vm_machine.specs.declared.machine_state.MachineState.{MachineState}
use Rattle.vm_proposals.specs.RunFailureCauses.{run_told}
use Rattle.vm_runs.specs.Runs.{Table, Runs, run_at}
use Rattle.vm_runs.specs.declared.run.Run.{Run}
use Rattle.vm_waiting.specs.WaitsFor.{ids_over}
use Rattle.vm_waiting.specs.declared.waits_for.WaitsFor.{WaitsFor}
use Rattle.vm_waiting.specs.declared.waits_for.WaitsFor.TheVariants.{Future, Child}
pub use Rattle.vm_start.specs.Starts.{started_id}

-- ---- ids

-- the ids of a tree, in a list for each kind
abbrev pub lists_over : AwaitTree NotificationId → SuspensionMessageV6
lists_over tree = lists_of (Some (future_record tree))

-- all ids of three lists
abbrev pub ids_in : SuspensionMessageV6 → List AwaitedId
ids_in lists = (map CompletionId lists.waiting_completions ++ map SignalId lists.waiting_signals) ++ map SignalName lists.waiting_named_signals

-- ---- what is known of them

-- signal 1 cancels the invocation, one above 16 is an awakeable's, and nothing is known of the others
abbrev pub known_of : (invocation : Bytes) → ℕ → List (AwaitedId × NotificationMetadata)
known_of invocation signal =
    if signal == 1 then (SignalId signal, Cancellation) ∷ []
    else (if nat_lt 16 signal then (SignalId signal, Awakeable (awakeable_id invocation signal)) ∷ [] else [])

-- of the completion of a run whose outcome was not proposed its command is known
abbrev pub known_run : Run → AwaitedId × NotificationMetadata
known_run run = (CompletionId run.completion, RelatedToCommand (run_told run))

abbrev pub known_runs : Table → List (AwaitedId × NotificationMetadata)
known_runs table = map known_run (values_of table)

-- an error over these ids, each as often as it stands there, in order, and over what is known of runs and of the signals
pub record NamesIn (invocation : Bytes) (table : Table) (lists : SuspensionMessageV6) (error : UncompletedDoProgressDuringReplay) : Type 0 where
  pub awaited : IsPermutation (ids_in lists) error.awaited.items
  pub in_order : IsSortedBy comes_before error.awaited.items
  pub known : error.known.items ≡ known_runs table ++ flat_map (known_of invocation) lists.waiting_signals

-- ---- the run

-- the greatest number that passes a test, if one does
abbrev pub IsGreatest : (ℕ → Bool) → Option ℕ → Type 0
IsGreatest test None = (n : ℕ) → test n ≡ false
IsGreatest test (Some greatest) = (test greatest ≡ true) × ((n : ℕ) → test n ≡ true → n ≤ greatest)

abbrev pub greater : Option ℕ → Option ℕ → Option ℕ
greater None other = other
greater (Some one) None = Some one
greater (Some one) (Some other) = Some (max one other)

-- whether a handle of a tree is that of a run whose outcome was not proposed
abbrev pub is_unfinished : Table → AwaitTree ℕ → ℕ → Bool
is_unfinished table tree handle = is_some (run_at table handle) && has_handle handle tree

-- the last such handle of what is waited for, if there is one: of a child there is none
abbrev pub IsLast : Table → WaitsFor → Option ℕ → Type 0
IsLast table (Future left) last = IsGreatest (is_unfinished table (tree_of left)) last
IsLast table (Child completion) last = last ≡ None

abbrev pub uncompleted_run : Table → Option ℕ → Option Run
uncompleted_run table None = None
uncompleted_run table (Some handle) = run_at table handle

-- this command is that of the run of the last such handle, or there is none
pub record IsLastRun (table : Table) (waits : WaitsFor) (command : Option CommandMetadata) : Type 0 where
  pub last : Option ℕ
  pub is_last : IsLast table waits last
  pub command_is : command ≡ option_map run_told (uncompleted_run table last)

-- an error of which this is known is told about a command, or about none
abbrev pub TellsAbout : Option CommandMetadata → (Error → Type 0) → Error → Type 0
TellsAbout None Causes told = Causes told
TellsAbout (Some command) Causes told = IsAbout command Causes told

-- ---- the machine

-- what is told of the error over the ids of this tree, about no command
pub record TellsAwaited (invocation : Bytes) (table : Table) (tree : AwaitTree NotificationId) (told : Error) : Type 0 where
  pub error : UncompletedDoProgressDuringReplay
  pub names : NamesIn invocation table (lists_over tree) error
  pub tells : TellsPlainError journal_mismatch (Some (uncompleted_text error)) told

-- It is told of the ids that are waited for, that of a run by its command, about the run of the last handle whose outcome was not proposed;
-- where there is none, about no command. A handle that stands for nothing is left out.
pub record TellsUncompleted (invocation : Bytes) (slots : Slots) (runs : Runs) (waits : WaitsFor) (told : Error) : Type 0 where
  pub run : Option CommandMetadata
  pub last : IsLastRun runs.table waits run
  pub tells : TellsAbout run (TellsAwaited invocation runs.table (ids_over slots waits)) told

-- the machine fails with the ids that are waited for
abbrev pub IsUncompleted : WaitsFor → (old : MachineState) → Error → (new : MachineState) → Type 0
IsUncompleted waits old answer new = FailsBy (TellsUncompleted (started_id old.start) (slots_of old.active.results) old.runs waits) old answer new
