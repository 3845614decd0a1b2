use Rattle.std.proofs.Common.{rules, ◌≡◌, true, Err}
use Rattle.sqlite.specs.Held.{state}
use Rattle.store_refusals.proofs.Causes.{memory_tells}
use Rattle.store_live.specs.Attempts.{attempt_of}
use Rattle.store_live_laws.specs.LiveAttempts.{has_number}
use Rattle.store_calls.specs.Calls.{Pushes}
use Rattle.journal_store.proofs.Calls.{dead, push_dead, pushes, pushes_none, is_memory}
use Rattle.journal_store.proofs.store.Store.push.Goals as goal

pub returns-clause-does : goal.returns-clause-does
returns-clause-does g c =
    let here : has_number c.args.attempt (attempt_of c.self.inside.live.attempts c.args.id.now) ≡ true = search rules in
    rw (← c.self.view_is) (pushes g.S.Store c.self.inside.tables c.self.inside.live c.args.id.now c.args.attempt here c.args.bytes.now c.push_output.new.self c.in_ok-push_output.ensures.ok)

pub returns-in_err-push_output-clause-does : goal.returns-in_err-push_output-clause-does
returns-in_err-push_output-clause-does g c =
    let here : has_number c.args.attempt (attempt_of c.self.inside.live.attempts c.args.id.now) ≡ true = search rules in
    rw (← c.self.view_is) (pushes_none g.S.Store c.self.inside.tables c.self.inside.live c.args.id.now c.args.attempt here c.args.bytes.now c.push_output.new.self c.from_residual.result c.in_err-push_output.ensures.err
    (is_memory c.from_residual.result c.from_residual.ensures.1 (λ why gives. gives)))

pub returns-then-not-is_live-clause-does : goal.returns-then-not-is_live-clause-does
returns-then-not-is_live-clause-does g c =
    rw (← c.self.view_is) (dead g.S.Store c.self.inside.tables c.stale_refusal.new.tables c.self.inside.live c.args.id.now c.args.attempt (λ why. Pushes c.args.id.now c.args.attempt c.args.bytes.now (Err why)) (λ why s t d. push_dead c.args.id.now c.args.attempt why s t d c.args.bytes.now) c.stale_refusal.result (search rules) c.stale_refusal.ensures.looks c.stale_refusal.ensures.told)

pub returns-in_err-push_output-clause-cause : goal.returns-in_err-push_output-clause-cause
returns-in_err-push_output-clause-cause g c =
    rw (← c.self.view_is) (memory_tells (state g.S.Store c.self.inside.tables) (state g.S.Store c.self.inside.tables) c.from_residual.result c.from_residual.ensures.1)
