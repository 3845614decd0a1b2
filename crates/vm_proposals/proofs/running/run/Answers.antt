use Rattle.std.proofs.Common.{refl, ◌∙◌, inl}
use Rattle.journal_model.specs.declared.call.Call.{Call}
use Rattle.protocol_types.specs.declared.message_type.MessageType.TheVariants.{RunCommand}
use Rattle.vm_calls.proofs.Calls.{unchecked}
use Rattle.vm_calls.proofs.Spending.{takes_rest}
use Rattle.vm_proposals.proofs.Runs.{run_completes, keeps_run, makes_called, spent_called, found_called}
use Rattle.vm_proposals.proofs.running.run.Goals as goal

pub returns-in-Ok-clause-made : goal.returns-in-Ok-clause-made
returns-in-Ok-clause-made c =
    λ given m refused sees.
    let id = c.in_ok-name.ensures.taken.id ∙ sees.completions in
    makes_called c.args.checks_off given m (Call.Run c.args.name) c.args.active.now c.put_completable-made.new.self c.in-Ok.known c.put_completable-made.result c.called.result c.called.ensures
    (c.put_completable-made.ensures.makes c.args.checks_off given m _ _ c.args.active.now refl
    (run_completes given m c.args.name c.in_ok-name.name c.in_ok-name.result_completion_id refused c.in_ok-name.ensures.name id)
    (unchecked c.args.checks_off)
    (record { sees = sees; ty = RunCommand; name = c.args.name; id = c.in_ok-name.result_completion_id; takes = c.in_ok-name.ensures.taken }))

pub returns-in-Ok-clause-keeps : goal.returns-in-Ok-clause-keeps
returns-in-Ok-clause-keeps c =
    keeps_run c.args.name c.args.active.now c.begin.new.self c.in_ok-name.handle c.in_ok-name.result_completion_id c.in_ok-name.ensures.taken c.args.runs.now c.keep.new.runs c.in-Ok.known c.put_completable-made.result c.called.result c.called.ensures c.in-Ok.ensures

pub returns-in-Ok-clause-spent : goal.returns-in-Ok-clause-spent
returns-in-Ok-clause-spent c =
    λ spent.
    spent_called c.args.active.now c.put_completable-made.new.self c.in-Ok.known c.put_completable-made.result c.called.result c.called.ensures
    (c.put_completable-made.ensures.spent _ 1 c.args.active.now refl (takes_rest RunCommand c.args.name c.args.active.now c.in_ok-name.ensures.taken) c.in_ok-name.ensures.taken.has spent)

pub returns-in-Ok-clause-found : goal.returns-in-Ok-clause-found
returns-in-Ok-clause-found c =
    found_called RunCommand c.args.active.now c.put_completable-made.new.self c.in-Ok.known c.put_completable-made.result c.called.result c.called.ensures
    (c.put_completable-made.ensures.found RunCommand c.args.active.now refl (takes_rest RunCommand c.args.name c.args.active.now c.in_ok-name.ensures.taken))
