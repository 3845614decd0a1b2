use Rattle.vm_proposals.proofs.Runs.{inserts}
use Rattle.vm_proposals.proofs.running.insert.Goals as goal

pub returns : goal.returns
returns c =
    inserts c.args.handle c.args.completion c.args.journal.now c.in_ok-command.command c.or_empty-name.result c.args.runs.now c.insert_run_to_execute.result c.insert_run_to_execute.new.self c.in_ok-command.ensures.told c.or_empty-name.ensures
    c.insert_run_to_execute.ensures.ok c.insert_run_to_execute.ensures.bodies c.insert_run_to_execute.ensures.err
