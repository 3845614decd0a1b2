use Rattle.std.proofs.Common.{rules, ◌≡◌, true, refl, Err}
use Rattle.store_live.specs.Attempts.{attempt_of}
use Rattle.store_live_laws.specs.LiveAttempts.{has_number}
use Rattle.store_calls.specs.Frames.{StepsAttempt}
use Rattle.journal_store.specs.StoreView.{stored}
use Rattle.journal_store.specs.Causes.{TriesFrame}
use Rattle.journal_store.proofs.Calls.{dead, step_dead}
use Rattle.journal_store.proofs.Causing.{asked_unwritten}
use Rattle.journal_store.proofs.FrameAcceptance.{header_refused, none_waits, no_room}
use Rattle.journal_store.proofs.store.Store.step.Goals as goal

pub returns-in-Ok-Partial-clause-does : goal.returns-in-Ok-Partial-clause-does
returns-in-Ok-Partial-clause-does g c =
    let here : has_number c.args.attempt (attempt_of c.self.inside.live.attempts c.args.id.now) ≡ true = search rules in
    rw (← c.self.view_is) (none_waits g.S.Store c.self.inside.tables c.self.inside.live c.self.inside.live c.args.id.now c.args.attempt here refl
    (rw c.in-Ok-Partial.field-0-is at c.in-Ok-Partial.ensures.seen))

pub returns-in-Ok-Unknown-clause-does : goal.returns-in-Ok-Unknown-clause-does
returns-in-Ok-Unknown-clause-does g c =
    let here : has_number c.args.attempt (attempt_of c.self.inside.live.attempts c.args.id.now) ≡ true = search rules in
    rw (← c.self.view_is) (header_refused g.S.Store c.self.inside.tables c.self.inside.live c.remove.new.self c.args.id.now c.args.attempt here
    (rw c.in-Ok-Unknown.field-0-is at c.in-Ok-Unknown.ensures.seen) c.remove.ensures)

pub returns-in-Err-clause-does : goal.returns-in-Err-clause-does
returns-in-Err-clause-does g c =
    let here : has_number c.args.attempt (attempt_of c.self.inside.live.attempts c.args.id.now) ≡ true = search rules in
    rw (← c.self.view_is) (no_room g.S.Store c.self.inside.tables c.self.inside.live c.self.inside.live c.args.id.now c.args.attempt here refl c.in-Err.ensures.whole)

pub returns-then-not-is_live-clause-does : goal.returns-then-not-is_live-clause-does
returns-then-not-is_live-clause-does g c =
    rw (← c.self.view_is) (dead g.S.Store c.self.inside.tables c.stale_refusal.new.tables c.self.inside.live c.args.id.now c.args.attempt (λ why. StepsAttempt c.args.id.now c.args.attempt (Err why)) (step_dead c.args.id.now c.args.attempt) c.stale_refusal.result (search rules) c.stale_refusal.ensures.looks c.stale_refusal.ensures.told)

pub returns-in-Ok-Frame-clause-does : goal.returns-in-Ok-Frame-clause-does
returns-in-Ok-Frame-clause-does g c = c.take_seen.ensures.does

pub returns-in-Ok-Frame-clause-settled : goal.returns-in-Ok-Frame-clause-settled
returns-in-Ok-Frame-clause-settled g c = c.take_seen.ensures.settled

pub returns-in-Ok-Partial-clause-settled : goal.returns-in-Ok-Partial-clause-settled
returns-in-Ok-Partial-clause-settled g c = rw (← c.self.view_is) refl

pub returns-then-not-is_live-clause-cause : goal.returns-then-not-is_live-clause-cause
returns-then-not-is_live-clause-cause g c =
    rw (← c.self.view_is) (asked_unwritten g.S.Store (TriesFrame c.args.id.now c.args.attempt) (stored c.self.inside.tables c.self.inside.live) (stored c.stale_refusal.new.tables c.self.inside.live) c.stale_refusal.result c.stale_refusal.ensures.cause)
