use Rattle.std.proofs.Common.{ap, ◌∙◌, nat_lt, ℕ, true}
use Rattle.body_laws.specs.Bodies.{Body}
use Rattle.vm_runs.specs.Runs.{bodies_in}
use Rattle.vm_runs.proofs.Tables.{count-any}
use Rattle.vm_runs.proofs.KeptBodies.{any-same}
use Rattle.vm_runs.proofs.run_state.RunState.any_executing.Goals as goal

pub returns-clause-any : goal.returns-clause-any
returns-clause-any c = rw (← c.self.view_is) (ap (λ (n : ℕ). nat_lt 0 n) c.self.invariant.1 ∙ count-any c.self.inside.table.entries)

pub returns-clause-bodies : goal.returns-clause-bodies
returns-clause-bodies c = rw (← c.self.view_is) (λ e keeps.
    ap (λ (n : ℕ). nat_lt 0 n) c.self.invariant.1 ∙ count-any c.self.inside.table.entries ∙ any-same (λ (body : Body). true) (bodies_in true c.self.inside.table.entries) e.executing keeps.executing)
