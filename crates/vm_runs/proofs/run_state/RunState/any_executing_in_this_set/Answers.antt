use Rattle.std.proofs.Common.{◌∙◌, true}
use Rattle.journal_model.specs.Future.{tree_of}
use Rattle.body_laws.specs.Bodies.{Body, has_handle}
use Rattle.vm_runs.specs.Runs.{bodies_in}
use Rattle.vm_runs.proofs.Tables.{ascends}
use Rattle.vm_runs.proofs.Awaited.{least-any}
use Rattle.vm_runs.proofs.KeptBodies.{any-same}
use Rattle.vm_runs.proofs.run_state.RunState.any_executing_in_this_set.Goals as goal

pub returns-clause-any : goal.returns-clause-any
returns-clause-any c = rw (← c.self.view_is)
    (c.is_some.ensures ∙ least-any true (tree_of c.args.awaited.now) c.self.inside.table.entries c.least_awaited.result (ascends c.self.inside.table.entries c.self.invariant.0) c.least_awaited.ensures)

pub returns-clause-bodies : goal.returns-clause-bodies
returns-clause-bodies c = rw (← c.self.view_is) (λ e keeps.
    c.is_some.ensures ∙ least-any true (tree_of c.args.awaited.now) c.self.inside.table.entries c.least_awaited.result (ascends c.self.inside.table.entries c.self.invariant.0) c.least_awaited.ensures
    ∙ any-same (λ (body : Body). has_handle body.handle (tree_of c.args.awaited.now)) (bodies_in true c.self.inside.table.entries) e.executing keeps.executing)
