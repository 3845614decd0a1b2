use Rattle.std.proofs.Common.{[], None, refl}
use Rattle.journal_model.specs.Run.{name_or_empty}
use Rattle.journal_model.specs.declared.call.Answer.{Answer}
use Rattle.journal_model.specs.declared.call.Call.{Call}
use Rattle.protocol_differences.specs.State.{clear_state_command_difference}
use Rattle.protocol_types.specs.declared.message_type.MessageType.TheVariants.{ClearStateCommand}
use Rattle.vm_machine.proofs.Admitted.{made_by, calls_made, calls_elsewhere, calls_stopped}
use Rattle.vm_syscalls.proofs.state.sys_state_clear.Goals as goal

pub returns-in-Admitted : goal.returns-in-Admitted
returns-in-Admitted c =
    calls_made clear_state_command_difference (Call.StateClear c.args.key c.args.name) (λ done. Answer.Done) [] ClearStateCommand (name_or_empty c.args.name) None c.args.vm.now c.admit.new.self c.settle.result c.settle.new.self refl c.in-Admitted.ensures
    (made_by clear_state_command_difference (Call.StateClear c.args.key c.args.name) (λ done. Answer.Done) ClearStateCommand (name_or_empty c.args.name) c.checks_off-ignoring.result c.admit.new.self c.state_clear-made.result c.state_clear-made.new.self c.settle.result c.settle.new.self c.checks_off-ignoring.ensures
    (λ given m is_of sees. c.state_clear-made.ensures.made given m sees) c.state_clear-made.ensures.told c.state_clear-made.ensures.spent c.state_clear-made.ensures.found c.settle.ensures)

pub returns-in-Elsewhere : goal.returns-in-Elsewhere
returns-in-Elsewhere c =
    calls_elsewhere clear_state_command_difference (Call.StateClear c.args.key c.args.name) (λ done. Answer.Done) [] ClearStateCommand (name_or_empty c.args.name) None c.args.vm.now c.admit.new.self c.fail_elsewhere.result c.fail_elsewhere.new.self c.or_empty.result c.or_empty.ensures refl c.in-Elsewhere.ensures c.fail_elsewhere.ensures

pub returns-in-Stopped : goal.returns-in-Stopped
returns-in-Stopped c =
    calls_stopped clear_state_command_difference (Call.StateClear c.args.key c.args.name) (λ done. Answer.Done) [] ClearStateCommand (name_or_empty c.args.name) None c.args.vm.now c.admit.new.self c.in-Stopped.error refl c.in-Stopped.ensures
