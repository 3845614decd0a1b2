use Rattle.std.proofs.Common.{refl, ◌∙◌}
use Rattle.protocol_types.specs.declared.message_type.MessageType.TheVariants.{GetInvocationOutputCommand}
use Rattle.vm_calls.proofs.Calls.{unchecked}
use Rattle.vm_calls.proofs.Spending.{takes_rest}
use Rattle.vm_waiting.proofs.AnswerCalls.{get_output_completes, get_output_told}
use Rattle.vm_waiting.proofs.attaching.get_output.Goals as goal

pub returns-clause-made : goal.returns-clause-made
returns-clause-made c =
    λ given m refused sees.
    c.put_completable.ensures.makes c.args.checks_off given m _ _ c.args.active.now
    (get_output_told c.args.target _ c.in_ok-name.id c.in_ok-name.name c.to_invocation_target-target.ensures)
    (get_output_completes given m c.args.target c.in_ok-name.name c.in_ok-name.id refused (c.in_ok-name.ensures.name ∙ c.new.ensures) (c.in_ok-name.ensures.taken.id ∙ sees.completions))
    (unchecked c.args.checks_off)
    (record { sees = sees; ty = GetInvocationOutputCommand; name = c.new.result; id = c.in_ok-name.id; takes = c.in_ok-name.ensures.taken })

pub returns-clause-spent : goal.returns-clause-spent
returns-clause-spent c =
    c.put_completable.ensures.spent _ 1 c.args.active.now (get_output_told c.args.target _ c.in_ok-name.id c.in_ok-name.name c.to_invocation_target-target.ensures)
    (takes_rest GetInvocationOutputCommand c.new.result c.args.active.now c.in_ok-name.ensures.taken) c.in_ok-name.ensures.taken.has

pub returns-clause-found : goal.returns-clause-found
returns-clause-found c = c.put_completable.ensures.found GetInvocationOutputCommand c.args.active.now refl (takes_rest GetInvocationOutputCommand c.new.result c.args.active.now c.in_ok-name.ensures.taken)
