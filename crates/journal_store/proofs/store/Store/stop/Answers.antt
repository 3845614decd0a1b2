use Rattle.std.proofs.Common.{rules, ◌≡◌, true, Err}
use Rattle.store_live.specs.Attempts.{attempt_of}
use Rattle.store_live_laws.specs.LiveAttempts.{has_number}
use Rattle.store_calls.specs.Calls.{Stops}
use Rattle.journal_store.proofs.Calls.{dead, stop_dead, stops}
use Rattle.journal_store.proofs.Waiting.{stopped_waits}
use Rattle.journal_store.proofs.store.Store.stop.Goals as goal

pub returns-clause-does : goal.returns-clause-does
returns-clause-does g c =
    let here : has_number c.args.attempt (attempt_of c.self.inside.live.attempts c.args.id.now) ≡ true = search rules in
    rw (← c.self.view_is) (stops g.S.Store c.self.inside.tables c.self.inside.live c.args.id.now c.args.attempt here c.remove.new.self c.remove.ensures)

pub returns-clause-waits : goal.returns-clause-waits
returns-clause-waits g c = rw (← c.self.view_is) (stopped_waits c.args.id.now c.self.inside.live.attempts c.remove.new.self.attempts c.remove.ensures)

pub returns-then-not-is_live-clause-does : goal.returns-then-not-is_live-clause-does
returns-then-not-is_live-clause-does g c =
    rw (← c.self.view_is) (dead g.S.Store c.self.inside.tables c.stale_refusal.new.tables c.self.inside.live c.args.id.now c.args.attempt (λ why. Stops c.args.id.now c.args.attempt (Err why)) (stop_dead c.args.id.now c.args.attempt) c.stale_refusal.result (search rules) c.stale_refusal.ensures.looks c.stale_refusal.ensures.told)
