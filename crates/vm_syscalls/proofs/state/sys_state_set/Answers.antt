use Rattle.std.proofs.Common.{[], None, refl}
use Rattle.journal_model.specs.Run.{name_or_empty}
use Rattle.journal_model.specs.declared.call.Answer.{Answer}
use Rattle.journal_model.specs.declared.call.Call.{Call}
use Rattle.protocol_differences.specs.State.{set_state_command_difference}
use Rattle.protocol_types.specs.declared.message_type.MessageType.TheVariants.{SetStateCommand}
use Rattle.vm_machine.proofs.Admitted.{made_by, calls_made, calls_elsewhere, calls_stopped}
use Rattle.vm_syscalls.proofs.state.sys_state_set.Goals as goal

pub returns-in-Admitted : goal.returns-in-Admitted
returns-in-Admitted c =
    calls_made set_state_command_difference (Call.StateSet c.args.key c.args.value c.args.name c.args.options) (λ done. Answer.Done) [] SetStateCommand (name_or_empty c.args.name) None c.args.vm.now c.admit.new.self c.settle.result c.settle.new.self refl c.in-Admitted.ensures
    (made_by set_state_command_difference (Call.StateSet c.args.key c.args.value c.args.name c.args.options) (λ done. Answer.Done) SetStateCommand (name_or_empty c.args.name) c.checks_off-ignoring.result c.admit.new.self c.state_set-made.result c.state_set-made.new.self c.settle.result c.settle.new.self c.checks_off-ignoring.ensures
    (λ given m is_of sees. c.state_set-made.ensures.made given m sees) c.state_set-made.ensures.told c.state_set-made.ensures.spent c.state_set-made.ensures.found c.settle.ensures)

pub returns-in-Elsewhere : goal.returns-in-Elsewhere
returns-in-Elsewhere c =
    calls_elsewhere set_state_command_difference (Call.StateSet c.args.key c.args.value c.args.name c.args.options) (λ done. Answer.Done) [] SetStateCommand (name_or_empty c.args.name) None c.args.vm.now c.admit.new.self c.fail_elsewhere.result c.fail_elsewhere.new.self c.or_empty.result c.or_empty.ensures refl c.in-Elsewhere.ensures c.fail_elsewhere.ensures

pub returns-in-Stopped : goal.returns-in-Stopped
returns-in-Stopped c =
    calls_stopped set_state_command_difference (Call.StateSet c.args.key c.args.value c.args.name c.args.options) (λ done. Answer.Done) [] SetStateCommand (name_or_empty c.args.name) None c.args.vm.now c.admit.new.self c.in-Stopped.error refl c.in-Stopped.ensures
