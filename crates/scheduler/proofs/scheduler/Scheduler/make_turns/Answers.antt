use Rattle.std.proofs.Common.{◌≡◌, ◌-◌, ℕ, suc, arith, subst, sym}
use Rattle.scheduler.specs.declared.outcome.Outcome.{Outcome}
use Rattle.scheduler.specs.Loop.{MakesTurns, PerformsSome}
use Rattle.scheduler.proofs.Looping.{ends}
use Rattle.scheduler.proofs.scheduler.Scheduler.make_turns.Goals as goal

pub returns-in-Err : goal.returns-in-Err
returns-in-Err g c =
    let one : c.loop-left.left ≡ suc (c.loop-left.left - 1) = omega (arith, c.loop-left-test.true) in
    let over = rw c.in-Err.is at c.step.ensures in
    c.loop-left.invariant c.in-Err.told c.step.new.self c.step.new.effects
    (subst (λ (n : ℕ). PerformsSome g.S.Store g.E.Effects.executes g.H.Handler.next_call (MakesTurns c.args.id.now c.args.attempt n c.loop-left.is_closed) c.in-Err.told c.loop-left.self c.loop-left.effects c.step.new.self c.step.new.effects) (sym one)
    (over (c.loop-left.left - 1)))

pub loop-left-preserved : goal.loop-left-preserved
loop-left-preserved g c told last end rest =
    let one : c.loop-left.left ≡ suc (c.loop-left.left - 1) = omega (arith, c.loop-left-test.true) in
    let on = rw c.in-Ok.is at c.step.ensures in
    c.loop-left.invariant told last end
    (subst (λ (n : ℕ). PerformsSome g.S.Store g.E.Effects.executes g.H.Handler.next_call (MakesTurns c.args.id.now c.args.attempt n c.loop-left.is_closed) told c.loop-left.self c.loop-left.effects last end) (sym one)
    (on (c.loop-left.left - 1) told last end rest))

pub returns : goal.returns
returns g c =
    let none : c.loop-left.left ≡ 0 = omega (arith, c.loop-left-test.false) in
    c.loop-left.invariant Outcome.Unfinished c.loop-left.self c.loop-left.effects
    (subst (λ (n : ℕ). PerformsSome g.S.Store g.E.Effects.executes g.H.Handler.next_call (MakesTurns c.args.id.now c.args.attempt n c.loop-left.is_closed) Outcome.Unfinished c.loop-left.self c.loop-left.effects c.loop-left.self c.loop-left.effects)
    (sym none) (ends g.S.Store g.E.Effects.executes g.H.Handler.next_call Outcome.Unfinished c.loop-left.self c.loop-left.effects))
