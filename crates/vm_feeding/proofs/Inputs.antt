-- What reading the input of an attempt shows of its machine.
use Rattle.std.proofs.Common.{Result, refl}
use Rattle.journal_model.specs.declared.handler.Input.{Input}
use Rattle.protocol_errors.specs.declared.error.Error.{Error}
use Rattle.vm_calls.specs.declared.active.Active.{Active}
use Rattle.vm_machine.specs.declared.machine_state.MachineState.{MachineState}
use Rattle.vm_feeding.specs.InputAnswer.{ReadsAs, AnswersReading, ReadsInputs}
use Rattle.vm_feeding.specs.declared.reading.Reading.{Reading}

pub made : (old : MachineState) (active : Active) (reading : Reading) (result : Result Input Error) (new : MachineState)
    → ReadsAs old.version old.options old.active.is_replaying old.start old.active reading active → AnswersReading reading (record old { active = active }) result new → ReadsInputs old result new
made old active reading result new reads answers = record { reading = reading; between = record old { active = active }; others = refl; reads = reads; answers = answers }
