use Rattle.std.proofs.Common.{refl, ◌∙◌}
use Rattle.protocol_types.specs.declared.message_type.MessageType.TheVariants.{SleepCommand}
use Rattle.vm_calls.proofs.Calls.{unchecked, sleep_completes}
use Rattle.vm_calls.proofs.Spending.{takes_rest}
use Rattle.vm_calls.proofs.active.Active.sleep.Goals as goal

pub returns-clause-made : goal.returns-clause-made
returns-clause-made c =
    λ given m wake_up now millis refused sees.
    let id = c.in_ok-name.ensures.taken.id ∙ sees.completions in
    c.put_completable.ensures.makes c.args.checks_off given m _ _ c.args.self.now refl
    (sleep_completes given m c.args.name wake_up now c.in_ok-name.name c.args.wake_up_time c.in_ok-name.result_completion_id refused c.in_ok-name.ensures.name millis id)
    (unchecked c.args.checks_off)
    (record { sees = sees; ty = SleepCommand; name = c.args.name; id = c.in_ok-name.result_completion_id; takes = c.in_ok-name.ensures.taken })

pub returns-clause-spent : goal.returns-clause-spent
returns-clause-spent c = c.put_completable.ensures.spent _ 1 c.args.self.now refl (takes_rest SleepCommand c.args.name c.args.self.now c.in_ok-name.ensures.taken) c.in_ok-name.ensures.taken.has

pub returns-clause-found : goal.returns-clause-found
returns-clause-found c = c.put_completable.ensures.found SleepCommand c.args.self.now refl (takes_rest SleepCommand c.args.name c.args.self.now c.in_ok-name.ensures.taken)
