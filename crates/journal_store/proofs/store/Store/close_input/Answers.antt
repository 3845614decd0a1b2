use Rattle.std.proofs.Common.{rules, ◌≡◌, ◌∙◌, sym, subst, true, false, [], Ok, Err, refl}
use Rattle.sqlite.specs.Held.{state}
use Rattle.journal_model.specs.Event.{Event}
use Rattle.store_refusals.specs.RefusalConditions.{IsRefused}
use Rattle.store_refusals.proofs.Causes.{cause_by}
use Rattle.store_live.specs.Attempts.{attempt_of}
use Rattle.store_live_laws.specs.LiveAttempts.{has_number}
use Rattle.store_calls.specs.Calls.{ClosesStoredInput}
use Rattle.journal_store.specs.Attempts.{has_closed, has_rest}
use Rattle.journal_store.specs.StoreView.{stored}
use Rattle.journal_store.proofs.Calls.{dead, close_dead, closes, closes_rest, closes_closed, none_read}
use Rattle.journal_store.proofs.Framed.{gives_closed, gives_none}
use Rattle.journal_store.proofs.Waiting.{closed_waits}
use Rattle.journal_store.proofs.store.Store.close_input.Goals as goal

pub returns-then-not-is_live-clause-does : goal.returns-then-not-is_live-clause-does
returns-then-not-is_live-clause-does g c =
    rw (← c.self.view_is) (dead g.S.Store c.self.inside.tables c.stale_refusal.new.tables c.self.inside.live c.args.id.now c.args.attempt (λ why. ClosesStoredInput c.args.id.now c.args.attempt (Err why)) (close_dead c.args.id.now c.args.attempt) c.stale_refusal.result (search rules) c.stale_refusal.ensures.looks c.stale_refusal.ensures.told)

pub returns-then-not-is_live-clause-frame : goal.returns-then-not-is_live-clause-frame
returns-then-not-is_live-clause-frame g c =
    rw (← c.self.view_is) (gives_none g.S.Store c.args.id.now (stored c.self.inside.tables c.self.inside.live) c.stale_refusal.new.tables c.self.inside.live
    (λ clean s is. is.stands.live c.args.id.now) (Ok []) c.self.inside.live refl refl)

-- ---- the next frame is not read

pub returns-in_err-read_next-clause-does : goal.returns-in_err-read_next-clause-does
returns-in_err-read_next-clause-does g c =
    rw (← c.self.view_is) (none_read (λ r. ClosesStoredInput c.args.id.now c.args.attempt r) (Event.Close c.args.id.now c.args.attempt) c.from_residual.result c.from_residual.ensures.1
    (λ why s t refused. refused) g.S.Store c.self.inside.tables c.read_next.new.tables c.self.inside.live c.read_next.new.live c.in_err-read_next.ensures.stays c.read_next.ensures.looks
    (λ why gives clean s is. subst (IsRefused []) (sym gives) (c.in_err-read_next.ensures.reads clean s is)))

pub returns-in_err-read_next-clause-frame : goal.returns-in_err-read_next-clause-frame
returns-in_err-read_next-clause-frame g c =
    rw (← c.self.view_is) (gives_none g.S.Store c.args.id.now (stored c.self.inside.tables c.self.inside.live) c.read_next.new.tables c.self.inside.live
    (λ clean s is. is.stands.live c.args.id.now) (Ok []) c.read_next.new.live refl c.in_err-read_next.ensures.stays)

pub returns-in_err-read_next-clause-waits : goal.returns-in_err-read_next-clause-waits
returns-in_err-read_next-clause-waits g c = rw (← c.self.view_is) c.read_next.ensures.waits

pub returns-in_err-read_next-clause-crash : goal.returns-in_err-read_next-clause-crash
returns-in_err-read_next-clause-crash g c = rw (← c.self.view_is) c.read_next.ensures.looks.crash

-- ---- something is left, or it was closed

pub returns-then-is_rest_left-clause-does : goal.returns-then-is_rest_left-clause-does
returns-then-is_rest_left-clause-does g c =
    let here : has_number c.args.attempt (attempt_of c.self.inside.live.attempts c.args.id.now) ≡ true = search rules in
    let rest : has_rest (attempt_of c.read_next.new.live.attempts c.args.id.now) ≡ true = search rules in
    rw (← c.self.view_is) (λ clean s is.
    let on = c.in_ok-read_next.ensures.reads clean s is in
    closes_rest g.S.Store c.read_next.new.tables c.read_next.new.live c.args.id.now c.args.attempt (on.number c.args.attempt ∙ here) rest s on.read on.standing)

pub returns-then-is_rest_left-clause-frame : goal.returns-then-is_rest_left-clause-frame
returns-then-is_rest_left-clause-frame g c =
    rw (← c.self.view_is) (gives_none g.S.Store c.args.id.now (stored c.self.inside.tables c.self.inside.live) c.read_next.new.tables c.read_next.new.live
    (λ clean s is. (c.in_ok-read_next.ensures.reads clean s is).standing.stands.live c.args.id.now) (Ok []) c.read_next.new.live refl refl)

pub returns-then-is_rest_left-clause-waits : goal.returns-then-is_rest_left-clause-waits
returns-then-is_rest_left-clause-waits g c = rw (← c.self.view_is) c.read_next.ensures.waits

pub returns-then-is_rest_left-clause-crash : goal.returns-then-is_rest_left-clause-crash
returns-then-is_rest_left-clause-crash g c = rw (← c.self.view_is) c.read_next.ensures.looks.crash

pub returns-then-is_closed-clause-does : goal.returns-then-is_closed-clause-does
returns-then-is_closed-clause-does g c =
    let here : has_number c.args.attempt (attempt_of c.self.inside.live.attempts c.args.id.now) ≡ true = search rules in
    let rest : has_rest (attempt_of c.read_next.new.live.attempts c.args.id.now) ≡ false = search rules in
    let closed : has_closed (attempt_of c.read_next.new.live.attempts c.args.id.now) ≡ true = search rules in
    rw (← c.self.view_is) (λ clean s is.
    let on = c.in_ok-read_next.ensures.reads clean s is in
    closes_closed g.S.Store c.read_next.new.tables c.read_next.new.live c.args.id.now c.args.attempt (on.number c.args.attempt ∙ here) rest closed s on.read on.standing)

pub returns-then-is_closed-clause-frame : goal.returns-then-is_closed-clause-frame
returns-then-is_closed-clause-frame g c =
    rw (← c.self.view_is) (gives_none g.S.Store c.args.id.now (stored c.self.inside.tables c.self.inside.live) c.read_next.new.tables c.read_next.new.live
    (λ clean s is. (c.in_ok-read_next.ensures.reads clean s is).standing.stands.live c.args.id.now) (Ok []) c.read_next.new.live refl refl)

pub returns-then-is_closed-clause-waits : goal.returns-then-is_closed-clause-waits
returns-then-is_closed-clause-waits g c = rw (← c.self.view_is) c.read_next.ensures.waits

pub returns-then-is_closed-clause-crash : goal.returns-then-is_closed-clause-crash
returns-then-is_closed-clause-crash g c = rw (← c.self.view_is) c.read_next.ensures.looks.crash

-- ---- it is closed

pub returns-clause-does : goal.returns-clause-does
returns-clause-does g c =
    let here : has_number c.args.attempt (attempt_of c.self.inside.live.attempts c.args.id.now) ≡ true = search rules in
    let rest : has_rest (attempt_of c.read_next.new.live.attempts c.args.id.now) ≡ false = search rules in
    let opened : has_closed (attempt_of c.read_next.new.live.attempts c.args.id.now) ≡ false = search rules in
    rw (← c.self.view_is) (λ clean s is.
    let on = c.in_ok-read_next.ensures.reads clean s is in
    closes g.S.Store c.read_next.new.tables c.read_next.new.live c.args.id.now c.args.attempt (on.number c.args.attempt ∙ here) c.close_input.new.self rest opened c.close_input.ensures s on.read on.standing)

pub returns-clause-frame : goal.returns-clause-frame
returns-clause-frame g c =
    rw (← c.self.view_is) (gives_closed g.S.Store c.args.id.now (stored c.self.inside.tables c.self.inside.live) c.read_next.new.tables c.read_next.new.live
    (λ clean s is. (c.in_ok-read_next.ensures.reads clean s is).standing.stands.live c.args.id.now) c.close_input.new.self c.close_input.ensures)

pub returns-clause-waits : goal.returns-clause-waits
returns-clause-waits g c =
    rw (← c.self.view_is) (λ one. closed_waits c.args.id.now c.read_next.new.live.attempts c.close_input.new.self.attempts c.close_input.ensures one ∙ c.read_next.ensures.waits one)

pub returns-clause-crash : goal.returns-clause-crash
returns-clause-crash g c = rw (← c.self.view_is) c.read_next.ensures.looks.crash

pub returns-in_err-read_next-clause-cause : goal.returns-in_err-read_next-clause-cause
returns-in_err-read_next-clause-cause g c =
    rw (← c.self.view_is) (cause_by (state g.S.Store c.self.inside.tables) (state g.S.Store c.read_next.new.tables) _ c.from_residual.result c.from_residual.ensures.1 c.in_err-read_next.ensures.cause)
