use Rattle.journal_model.specs.declared.call.Answer.{Answer}
use Rattle.journal_model.specs.declared.call.Call.{Call}
use Rattle.protocol_differences.specs.Control.{sleep_command_difference}
use Rattle.protocol_types.specs.declared.message_type.MessageType.TheVariants.{SleepCommand}
use Rattle.vm_machine.proofs.Admitted.{made_by}
use Rattle.vm_machine.proofs.machine_state.MachineState.make_sleep.Goals as goal

pub returns : goal.returns
returns c =
    λ wake_up now millis unrefused.
    made_by sleep_command_difference (Call.Sleep c.args.name wake_up now) (λ handle. Answer.Handle handle) SleepCommand c.args.name c.checks_off-ignoring.result c.args.self.now c.sleep-made.result c.sleep-made.new.self
    c.settle.result c.settle.new.self c.checks_off-ignoring.ensures (λ given m is_of sees. c.sleep-made.ensures.made given m wake_up now millis unrefused sees) c.sleep-made.ensures.told c.sleep-made.ensures.spent c.sleep-made.ensures.found c.settle.ensures
