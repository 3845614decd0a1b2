use Rattle.std.proofs.Common.{◌≡◌, sym, ap, subst, arith, ℕ}
use Rattle.vm_runs.specs.Runs.{Table, count_executing, outcome_at}
use Rattle.vm_runs.proofs.Tables.{ascends, count-out}
use Rattle.vm_runs.proofs.KeptBodies.{kept, of-completion, held-with, proposes}
use Rattle.vm_runs.proofs.run_state.RunState.notify_execution_completed.Goals as goal

pub overflow_sub-self : goal.overflow_sub-self
overflow_sub-self c =
    let sum = count-out c.args.executed c.self.inside.table.entries in
    omega (arith, sum, c.take_run.ensures.taken, c.self.invariant.1)

pub invariant_of-self-2 : goal.invariant_of-self-2
invariant_of-self-2 c =
    let sum = count-out c.args.executed c.self.inside.table.entries in
    let now = ap (λ (table : Table). count_executing table) c.take_run.ensures.entries in
    (c.take_run.ensures.ordered, omega (arith, sum, now, c.take_run.ensures.taken, c.self.invariant.1))

pub returns-clause-bodies : goal.returns-clause-bodies
returns-clause-bodies c =
    let (run, there, completion) = of-completion c.self.inside.table.entries c.args.executed c.in-Some.completion (sym c.in-Some.ensures) in
    rw (← c.self.view_is)
    (proposes (record { table = c.self.inside.table.entries; cached = c.self.inside.cached.entries }) c.args.executed c.args.outcome run c.take_run.new.table.entries c.keep_outcome.new.cached.entries
    (ascends c.self.inside.table.entries c.self.invariant.0) there c.take_run.ensures.entries
    (subst (λ (n : ℕ). (k : ℕ) → outcome_at c.keep_outcome.new.cached.entries k ≡ kept (record { table = c.self.inside.table.entries; cached = c.self.inside.cached.entries }) n c.args.outcome k) (sym completion)
    (held-with (record { table = c.self.inside.table.entries; cached = c.self.inside.cached.entries }) c.in-Some.completion c.args.outcome c.keep_outcome.new.cached.entries c.in_ok-keep_outcome.ensures.ok)))
