use Rattle.std.proofs.Common.{sym, ap, ◌∙◌, subst, arith, ℕ, ◌+◌, false, Option, None, Some}
use Rattle.journal_model.specs.Future.{tree_of}
use Rattle.vm_runs.specs.Runs.{Table, IsLeast, is_awaited, count_executing}
use Rattle.vm_runs.proofs.Tables.{ascends, count-less, count-started}
use Rattle.vm_runs.proofs.Awaited.{least-is-first}
use Rattle.vm_runs.proofs.KeptBodies.{idle-run, keeps-handed, handed-on}
use Rattle.vm_runs.proofs.run_state.RunState.try_execute_run.Goals as goal

pub returns-in_default-clause-least : goal.returns-in_default-clause-least
returns-in_default-clause-least c = rw (← c.self.view_is)
    (sym c.in_default.is ∙ least-is-first false (tree_of c.args.awaited.now) c.self.inside.table.entries c.least_awaited.result (ascends c.self.inside.table.entries c.self.invariant.0) c.least_awaited.ensures)

pub returns-in_default-clause-bodies : goal.returns-in_default-clause-bodies
returns-in_default-clause-bodies c = rw (← c.self.view_is)
    (keeps-handed (tree_of c.args.awaited.now) (record { table = c.self.inside.table.entries; cached = c.self.inside.cached.entries }) None (ascends c.self.inside.table.entries c.self.invariant.0)
    (subst (λ (found : Option ℕ). IsLeast (is_awaited false c.self.inside.table.entries (tree_of c.args.awaited.now)) found) c.in_default.is c.least_awaited.ensures))

pub prove-unreachable-requires : goal.prove-unreachable-requires
prove-unreachable-requires c =
    let least = subst (λ (found : Option ℕ). IsLeast (is_awaited false c.self.inside.table.entries (tree_of c.args.awaited.now)) found) c.in-Some.is c.least_awaited.ensures in
    let (run, there, idle) = idle-run (tree_of c.args.awaited.now) c.self.inside.table.entries c.in-Some.handle least in
    let less = count-less c.in-Some.handle c.self.inside.table.entries run there idle in
    omega (arith, less, c.if-prove.true, c.len-many.ensures.len, c.self.invariant.1)

pub invariant_of-self : goal.invariant_of-self
invariant_of-self c =
    let least = subst (λ (found : Option ℕ). IsLeast (is_awaited false c.self.inside.table.entries (tree_of c.args.awaited.now)) found) c.in-Some.is c.least_awaited.ensures in
    let (run, there, idle) = idle-run (tree_of c.args.awaited.now) c.self.inside.table.entries c.in-Some.handle least in (
      c.start.ensures.ordered,
      ap (λ (n : ℕ). n + 1) c.self.invariant.1 ∙ sym (ap (λ (table : Table). count_executing table) c.start.ensures.entries ∙ count-started c.in-Some.handle c.self.inside.table.entries run there idle),
    )

pub returns-clause-least : goal.returns-clause-least
returns-clause-least c = rw (← c.self.view_is)
    (ap (λ (n : ℕ). Some n) c.new.ensures ∙ sym c.in-Some.is
    ∙ least-is-first false (tree_of c.args.awaited.now) c.self.inside.table.entries c.least_awaited.result (ascends c.self.inside.table.entries c.self.invariant.0) c.least_awaited.ensures)

pub returns-clause-bodies : goal.returns-clause-bodies
returns-clause-bodies c =
    let least = subst (λ (found : Option ℕ). IsLeast (is_awaited false c.self.inside.table.entries (tree_of c.args.awaited.now)) found) c.in-Some.is c.least_awaited.ensures in
    rw (← c.self.view_is)
    (handed-on (tree_of c.args.awaited.now) (record { table = c.self.inside.table.entries; cached = c.self.inside.cached.entries }) c.in-Some.handle c.new.result c.start.new.table.entries
    (ascends c.self.inside.table.entries c.self.invariant.0) least c.new.ensures c.start.ensures.entries)
