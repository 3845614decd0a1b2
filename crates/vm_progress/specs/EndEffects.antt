-- What an end does to a machine in any phase.
use Rattle.std.specs.Prelude.{◌≡◌, Bool, true, false, [], codes, Option, Some, None, Result, Ok, Err}
use Rattle.protocol_errors.specs.declared.error.Error.{Error}
use Rattle.protocol_stream.specs.declared.encoder.EncodingError.{EncodingError}
use Rattle.protocol_types.specs.declared.message_type.MessageType.TheVariants.{End}
use Rattle.vm_calls.specs.declared.active.Active.{Active}
use Rattle.vm_context.specs.Output.{Written}
use Rattle.vm_start.specs.FailureReport.{IsCopy}
use Rattle.vm_start.specs.declared.phase.Phase.{Phase}
use Rattle.vm_start.specs.declared.phase.Phase.TheVariants as phases
use Rattle.vm_machine.specs.Steps.{IsUnexpected}
use Rattle.vm_machine.specs.declared.machine_state.MachineState.{MachineState}
use Rattle.vm_waiting.specs.SuspensionFrames.{WritesFrame}
use Rattle.vm_progress.specs.SleepingAwaits.{LacksMemoryToAwait}
use Rattle.vm_progress.specs.declared.ending.EndPlace.{EndPlace}
use Rattle.vm_progress.specs.declared.ending.EndPlace.TheVariants.{Behind, Processing, Elsewhere}

abbrev pub end_place : Phase → (is_replaying : Bool) → EndPlace
end_place phases.Closed is_replaying = Behind
end_place phases.Active true = Elsewhere
end_place phases.Active false = Processing
end_place _ is_replaying = Elsewhere

-- nothing more is written, and the machine is behind its end
abbrev pub closed_active : Active → Active
closed_active active = record active { output = record active.output { is_closed = true } }

-- a machine whose end was written is closed; one whose end was not fails for want of memory, since its frame is never too long
abbrev pub ClosesEnd : (written : Result (Unit {0}) EncodingError) → (old : MachineState) → Result (Unit {0}) Error → (new : MachineState) → Type 0
ClosesEnd (Ok done) old (Ok ended) new = new ≡ record old { phase = phases.Closed; active = closed_active old.active }
ClosesEnd (Ok done) old (Err answer) new = ⊥
ClosesEnd (Err error) old (Ok ended) new = ⊥
ClosesEnd (Err error) old (Err answer) new = LacksMemoryToAwait old answer new

-- the end's frame, with an empty payload, is written, or nothing is
pub record WritesEnd (old : MachineState) (result : Result (Unit {0}) Error) (new : MachineState) : Type 0 where
  pub written : Result (Unit {0}) EncodingError
  pub output : Written
  pub writes : WritesFrame End [] old.active.output written output
  pub closes : ClosesEnd written (record old { active = record old.active { output = output } }) result new

abbrev pub EndsAt : EndPlace → (old : MachineState) → Result (Unit {0}) Error → (new : MachineState) → Type 0
EndsAt Behind old (Ok done) new = new ≡ old
EndsAt Behind old (Err answer) new = ⊥
EndsAt Processing old result new = WritesEnd old result new
EndsAt Elsewhere old (Ok done) new = ⊥
EndsAt Elsewhere old (Err answer) new = IsUnexpected (codes "end invocation") old answer new

-- One that has failed answers that again. One that has ended or was suspended does nothing; behind its journal it ends; elsewhere
-- there is no end.
abbrev pub EndsAs : (kept : Option Error) → (old : MachineState) → Result (Unit {0}) Error → (new : MachineState) → Type 0
EndsAs (Some kept) old (Ok done) new = ⊥
EndsAs (Some kept) old (Err answer) new = (new ≡ old) × IsCopy kept answer
EndsAs None old result new = EndsAt (end_place old.phase old.active.is_replaying) old result new
