-- The text that names an awakeable.
use Rattle.std.proofs.Common.{Result, Ok, Err, ap, ◌∙◌}
use Rattle.journal_model.specs.Notification.{Bytes}
use Rattle.protocol_errors.specs.declared.error.Error.{Error}
use Rattle.vm_types.specs.declared.handles.AwakeableHandle.{AwakeableHandle}
use Rattle.vm_types.specs.declared.options.JournalReplay.{JournalReplay}
use Rattle.vm_types.specs.declared.options.JournalReplay.TheVariants.{Enabled, Disabled}
use Rattle.vm_calls.specs.declared.active.Active.{Active}
use Rattle.vm_calls.specs.declared.call_error.NumberError.{NumberError}
use Rattle.vm_machine.specs.Causes.{NumberCauses}
use Rattle.vm_machine.specs.declared.machine_state.MachineState.{MachineState}
use Rattle.vm_feeding.specs.CommandlessCalls.{AnswersBy}
use Rattle.vm_feeding.specs.Handles.{started_id, MakesAwakeable, IsAwakeableWhere, IsNamed}

answered_text : (id : Bytes) (old : MachineState) (made : Result AwakeableHandle NumberError) (active : Active) (result : Result AwakeableHandle Error) (new : MachineState)
    → MakesAwakeable id old.active made active → AnswersBy NumberCauses made (record old { active = active }) result new → IsNamed id old.active result
answered_text id old made active (Err answer) new does answers = tt
answered_text id old (Err lack) active (Ok answer) new does answers = absurd answers
answered_text id old (Ok taken) active (Ok answer) new does answers = ap (λ (handle : AwakeableHandle). handle.id) answers.0 ∙ does.2.text

pub made_text : (replay : JournalReplay) (old : MachineState) (result : Result AwakeableHandle Error) (new : MachineState) → IsAwakeableWhere replay old result new
    → IsNamed (started_id old.start) old.active result
made_text Enabled old result new made = answered_text (started_id old.start) old made.made made.active result new made.does made.answers
made_text Disabled old (Ok answer) new made = absurd made
made_text Disabled old (Err answer) new made = tt
