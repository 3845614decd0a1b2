-- The calls that make a handle, take what it stands for, and look at it.
use Rattle.std.specs.Prelude.{◌≡◌, ℕ, Bool, false, codes, is_some, Option, Result, Ok, Err}
use Rattle.std.specs.declared.alloc.AllocError.{AllocError}
use Rattle.journal_model.specs.Awakeable.{awakeable_id}
use Rattle.journal_model.specs.Notification.{Bytes, Text}
use Rattle.journal_model.specs.Run.{Invocation}
use Rattle.journal_model.specs.declared.call.Answer.{Answer}
use Rattle.journal_model.specs.declared.call.Call.{Call}
use Rattle.journal_model.specs.declared.value.Value.{Value}
use Rattle.attempt_model.specs.Machine.{Machine, Answered, reply_to}
use Rattle.attempt_model.specs.Results.{slot_of, waiting_for}
use Rattle.protocol_errors.specs.Code.{internal, unsupported_feature}
use Rattle.protocol_errors.specs.Error.{plain_error}
use Rattle.protocol_errors.specs.declared.error.Error.{Error}
use Rattle.vm_types.specs.declared.handles.AwakeableHandle.{AwakeableHandle}
use Rattle.vm_types.specs.declared.options.JournalReplay.{JournalReplay}
use Rattle.vm_types.specs.declared.options.JournalReplay.TheVariants.{Enabled, Disabled}
use Rattle.vm_awaits.specs.Views.{results_of, slots_of, ready_of}
use Rattle.vm_awaits.specs.Calls.{results_after_take}
use Rattle.vm_commands.specs.HeaderEquality.{same_header}
use Rattle.vm_calls.specs.Active.{Sees, TellsSame}
use Rattle.vm_calls.specs.Handles.{LacksHandle, LacksSignal, GivesSignal, GivesAwakeable, MakesHandle}
use Rattle.vm_calls.specs.declared.active.Active.{Active}
use Rattle.vm_calls.specs.declared.call_error.NumberError.{NumberError}
use Rattle.vm_start.specs.declared.phase.Phase.{Phase}
use Rattle.vm_start.specs.declared.phase.Phase.TheVariants as phases
use Rattle.vm_waiting.specs.TrackedChildren.{child_of_id}
use Rattle.vm_waiting.specs.TakeEffects.{IsResultTaken, KeepsTaken, TakesResult}
use Rattle.vm_waiting.specs.declared.taking.TakeError.{TakeError}
use Rattle.vm_waiting.specs.declared.taking.TakeError.TheVariants.{KeyNotText, ChildNotId, OutOfMemory}
use Rattle.vm_machine.specs.MachineFailure.{MachineFails}
use Rattle.vm_machine.specs.Causes.{NumberCauses, child_not_id_error}
use Rattle.vm_machine.specs.Steps.{IsMissed}
use Rattle.vm_machine.specs.declared.machine_state.MachineState.{MachineState}
use Rattle.vm_feeding.specs.CommandlessCalls.{IsCalled}
pub use Rattle.vm_start.specs.Starts.{started_id}

-- ---- signals

-- As the abstract machine makes it, which was seen before; no command is counted; and in each attempt it is the next handle.
abbrev pub MakesSignal : Text → (old : Active) → Result ℕ NumberError → (new : Active) → Type 0
MakesSignal name old made new =
    ((checks_off : Bool) (given : Invocation) (m : Machine) → Sees given old m → MakesHandle checks_off given m (Call.Signal name) (λ handle. Answer.Handle handle) LacksHandle old made new)
    × TellsSame old.journal new.journal × GivesSignal name old made new

-- where no calls are made none is made: no handle is left, or the phase has no such call
abbrev pub IsNoSignal : (old : MachineState) → Error → (new : MachineState) → Type 0
IsNoSignal old answer new = IsMissed (LacksHandle old.active) (codes "named awakeable") old answer new

-- ---- awakeables

abbrev pub MakesAwakeable : (id : Bytes) → (old : Active) → Result AwakeableHandle NumberError → (new : Active) → Type 0
MakesAwakeable id old made new =
    ((checks_off : Bool) (given : Invocation) (m : Machine) → given.input.invocation_id ≡ id → Sees given old m
    → MakesHandle checks_off given m Call.Awakeable (λ made. Answer.Awakeable made.id made.handle) LacksSignal old made new)
    × TellsSame old.journal new.journal × GivesAwakeable id old made new

-- the text is that of the invocation and of the next signal
abbrev pub IsNamed : (id : Bytes) → (old : Active) → Result AwakeableHandle Error → Type 0
IsNamed id old (Ok made) = made.id ≡ awakeable_id id old.journal.signals
IsNamed id old (Err answer) = Unit {0}

-- an attempt that does not see the journal of the earlier ones does not know which signals they have made
abbrev pub IsUnsupported : (old : MachineState) → Error → (new : MachineState) → Type 0
IsUnsupported old answer new = MachineFails (Ok (plain_error unsupported_feature (codes "awakeables need journal replay"))) old answer new

abbrev pub IsAwakeableWhere : JournalReplay → (old : MachineState) → Result AwakeableHandle Error → (new : MachineState) → Type 0
IsAwakeableWhere Enabled old result new = IsCalled (MakesAwakeable (started_id old.start)) NumberCauses old result new
IsAwakeableWhere Disabled old (Ok made) new = ⊥
IsAwakeableWhere Disabled old (Err answer) new = IsUnsupported old answer new

-- an awakeable is asked for where calls are made
abbrev pub IsAwakeable : (old : MachineState) → Result AwakeableHandle Error → (new : MachineState) → Type 0
IsAwakeable old result new = IsAwakeableWhere old.options.journal_replay old result new

abbrev pub IsNoAwakeableWhere : JournalReplay → (old : MachineState) → Error → (new : MachineState) → Type 0
IsNoAwakeableWhere Enabled old answer new = IsMissed (LacksSignal old.active) (codes "awakeable") old answer new
IsNoAwakeableWhere Disabled old answer new = IsUnsupported old answer new

-- and where none are
abbrev pub IsNoAwakeable : (old : MachineState) → Error → (new : MachineState) → Type 0
IsNoAwakeable old answer new = IsNoAwakeableWhere old.options.journal_replay old answer new

-- ---- takes

-- As the abstract machine takes it, which was seen before; and in each attempt what has come first is taken, and is gone then, also
-- where it is not handed out.
pub record TakesFirstResult (handle : ℕ) (old : Active) (made : Result (Option Value) TakeError) (new : Active) : Type 0 where
  pub taken : (given : Invocation) (m : Machine) (checks_off : Bool) → Sees given old m → TakesResult checks_off given m handle made new
  pub value : IsResultTaken (is_some (child_of_id (slot_of (slots_of old.results) handle) old.children)) (waiting_for (slots_of old.results) (ready_of old.results) handle) made
  pub rest : results_of new.results ≡ results_after_take handle (waiting_for (slots_of old.results) (ready_of old.results) handle) (results_of old.results)
  -- the invocation id of a child is remembered
  pub children : KeepsTaken (child_of_id (slot_of (slots_of old.results) handle) old.children) old.children made new.children
  pub others : new ≡ record old { results = new.results; children = new.children }

abbrev pub TakeCauses : TakeError → Result Error AllocError → Type 0
TakeCauses KeyNotText cause = cause ≡ Ok (plain_error internal (codes "Cannot convert an eager state key into UTF-8 String"))
TakeCauses ChildNotId cause = cause ≡ Ok child_not_id_error
TakeCauses OutOfMemory (Ok error) = ⊥
TakeCauses OutOfMemory (Err refused) = Unit {0}

-- ---- looks

-- In each attempt, whether something waits to be taken by the handle; where the abstract machine is seen, as it looks at it.
pub record LooksAt (active : Active) (handle : ℕ) (completed : Bool) : Type 0 where
  pub held : completed ≡ is_some (waiting_for (slots_of active.results) (ready_of active.results) handle)
  pub made : (given : Invocation) (m : Machine) (checks_off : Bool) → Sees given active m
      → reply_to (same_header checks_off) given m (Call.IsCompleted handle) ≡ Answered (Answer.Completed completed) m

-- elsewhere nothing is completed
abbrev pub LooksAtHandle : Phase → Active → (handle : ℕ) → Bool → Type 0
LooksAtHandle phases.Active active handle completed = LooksAt active handle completed
LooksAtHandle _ active handle completed = completed ≡ false
