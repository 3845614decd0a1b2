use Rattle.std.proofs.Common.{refl, ap, arith, false}
use Rattle.vm_runs.specs.declared.run.Run.{Run}
use Rattle.vm_runs.specs.Runs.{Table, count_executing}
use Rattle.vm_runs.proofs.Tables.{count-in}
use Rattle.vm_runs.proofs.KeptBodies.{keeps-called}
use Rattle.vm_runs.proofs.run_state.RunState.insert_run_to_execute.Goals as goal

pub overflow_sub-self : goal.overflow_sub-self
overflow_sub-self c =
    let run : Run = record { completion = c.args.completion; command_index = c.args.command_index; command_name = c.args.command_name; is_executing = false } in
    let sum = count-in c.args.handle run c.self.inside.table.entries c.self.invariant.0 refl in
    omega (arith, sum, c.in_ok-replaced.ensures.replaced, c.self.invariant.1)

pub invariant_of-self-2 : goal.invariant_of-self-2
invariant_of-self-2 c =
    let run : Run = record { completion = c.args.completion; command_index = c.args.command_index; command_name = c.args.command_name; is_executing = false } in
    let sum = count-in c.args.handle run c.self.inside.table.entries c.self.invariant.0 refl in
    let now = ap (λ (table : Table). count_executing table) c.in_ok-replaced.ensures.entries in
    (c.in_ok-replaced.ensures.ordered, omega (arith, sum, now, c.in_ok-replaced.ensures.replaced, c.self.invariant.1))

pub returns-clause-bodies : goal.returns-clause-bodies
returns-clause-bodies c =
    let run : Run = record { completion = c.args.completion; command_index = c.args.command_index; command_name = c.args.command_name; is_executing = false } in
    rw (← c.self.view_is)
    (keeps-called (record { table = c.self.inside.table.entries; cached = c.self.inside.cached.entries }) (record { table = c.put.new.table.entries; cached = c.self.inside.cached.entries }) c.args.handle run refl
    (ap (λ (table : Table). record { table = table; cached = c.self.inside.cached.entries }) c.in_ok-replaced.ensures.entries))
