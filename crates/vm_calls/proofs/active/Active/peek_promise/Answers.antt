use Rattle.std.proofs.Common.{refl, ◌∙◌}
use Rattle.protocol_types.specs.declared.message_type.MessageType.TheVariants.{PeekPromiseCommand}
use Rattle.vm_calls.proofs.Calls.{unchecked}
use Rattle.vm_calls.proofs.PromiseCalls.{peek_completes}
use Rattle.vm_calls.proofs.Spending.{takes_rest}
use Rattle.vm_calls.proofs.active.Active.peek_promise.Goals as goal

pub returns-clause-made : goal.returns-clause-made
returns-clause-made c =
    λ given m sees.
    c.put_completable.ensures.makes c.args.checks_off given m _ _ c.args.self.now refl
    (peek_completes given m c.args.key c.in_ok-name.name c.in_ok-name.result_completion_id (c.in_ok-name.ensures.name ∙ c.new.ensures) (c.in_ok-name.ensures.taken.id ∙ sees.completions))
    (unchecked c.args.checks_off)
    (record { sees = sees; ty = PeekPromiseCommand; name = c.new.result; id = c.in_ok-name.result_completion_id; takes = c.in_ok-name.ensures.taken })

pub returns-clause-spent : goal.returns-clause-spent
returns-clause-spent c = c.put_completable.ensures.spent _ 1 c.args.self.now refl (takes_rest PeekPromiseCommand c.new.result c.args.self.now c.in_ok-name.ensures.taken) c.in_ok-name.ensures.taken.has

pub returns-clause-found : goal.returns-clause-found
returns-clause-found c = c.put_completable.ensures.found PeekPromiseCommand c.args.self.now refl (takes_rest PeekPromiseCommand c.new.result c.args.self.now c.in_ok-name.ensures.taken)
