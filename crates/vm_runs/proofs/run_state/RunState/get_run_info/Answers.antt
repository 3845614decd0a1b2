use Rattle.vm_runs.proofs.KeptBodies.{keeps-found}
use Rattle.vm_runs.proofs.run_state.RunState.get_run_info.Goals as goal

pub returns-clause-body : goal.returns-clause-body
returns-clause-body c = rw (← c.self.view_is) (keeps-found (record { table = c.self.inside.table.entries; cached = c.self.inside.cached.entries }) c.args.handle c.run_of.result c.run_of.ensures)
