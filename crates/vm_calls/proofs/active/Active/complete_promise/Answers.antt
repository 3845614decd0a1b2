use Rattle.std.proofs.Common.{refl, ◌∙◌}
use Rattle.protocol_types.specs.declared.message_type.MessageType.TheVariants.{CompletePromiseCommand}
use Rattle.vm_calls.proofs.PromiseCalls.{promise_completes}
use Rattle.vm_calls.proofs.Spending.{takes_rest}
use Rattle.vm_calls.proofs.active.Active.complete_promise.Goals as goal

pub returns-clause-made : goal.returns-clause-made
returns-clause-made c =
    λ given m refused sees.
    let id = c.in_ok-name.ensures.taken.id ∙ sees.completions in
    c.put_completable.ensures.makes c.args.checks_off given m _ _ c.args.self.now c.in_ok-command.ensures
    (promise_completes given m c.args.key c.args.value c.args.options c.in_ok-name.name c.in_ok-name.id refused (c.in_ok-name.ensures.name ∙ c.new.ensures) id)
    c.ignores-ignoring.ensures
    (record { sees = sees; ty = CompletePromiseCommand; name = c.new.result; id = c.in_ok-name.id; takes = c.in_ok-name.ensures.taken })

pub returns-clause-spent : goal.returns-clause-spent
returns-clause-spent c = c.put_completable.ensures.spent _ 1 c.args.self.now c.in_ok-command.ensures (takes_rest CompletePromiseCommand c.new.result c.args.self.now c.in_ok-name.ensures.taken) c.in_ok-name.ensures.taken.has

pub returns-clause-found : goal.returns-clause-found
returns-clause-found c = c.put_completable.ensures.found CompletePromiseCommand c.args.self.now refl (takes_rest CompletePromiseCommand c.new.result c.args.self.now c.in_ok-name.ensures.taken)
