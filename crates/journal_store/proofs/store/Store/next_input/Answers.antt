use Rattle.std.proofs.Common.{rules, ◌≡◌, ◌∙◌, sym, ap, subst, true, false, [], Result, Err, refl}
use Rattle.sqlite.specs.Held.{state}
use Rattle.journal_model.specs.Notification.{Bytes}
use Rattle.journal_model.specs.Event.{Event}
use Rattle.journal_model.specs.declared.cause.Cause.{Cause}
use Rattle.store_refusals.specs.declared.refusal.Refusal.{Refusal}
use Rattle.store_refusals.specs.RefusalConditions.{IsRefused}
use Rattle.store_refusals.proofs.Causes.{cause_by, memory_tells}
use Rattle.store_live.specs.Attempts.{attempt_of}
use Rattle.store_live_laws.specs.LiveAttempts.{has_number}
use Rattle.store_calls.specs.Calls.{HandsOut}
use Rattle.journal_store.specs.Attempts.{has_closed}
use Rattle.journal_store.specs.StoreView.{stored}
use Rattle.journal_store.proofs.Calls.{dead, hand_out_dead, hands_out, hands_closed, hands_none, is_memory, none_read}
use Rattle.journal_store.proofs.Framed.{few_given, gives_bytes, gives_none, none_given}
use Rattle.journal_store.proofs.Waiting.{handed_waits, same_waits}
use Rattle.journal_store.proofs.store.Store.next_input.Goals as goal

-- ---- it is not live

pub returns-then-not-is_live-clause-does : goal.returns-then-not-is_live-clause-does
returns-then-not-is_live-clause-does g c =
    rw (← c.self.view_is) (dead g.S.Store c.self.inside.tables c.stale_refusal.new.tables c.self.inside.live c.args.id.now c.args.attempt (λ why. HandsOut c.args.id.now c.args.attempt c.args.most (Err why)) (λ why s t d. hand_out_dead c.args.id.now c.args.attempt why s t d c.args.most) c.stale_refusal.result (search rules) c.stale_refusal.ensures.looks c.stale_refusal.ensures.told)

pub returns-then-not-is_live-clause-frame : goal.returns-then-not-is_live-clause-frame
returns-then-not-is_live-clause-frame g c =
    rw (← c.self.view_is) (gives_none g.S.Store c.args.id.now (stored c.self.inside.tables c.self.inside.live) c.stale_refusal.new.tables c.self.inside.live
    (λ clean s is. is.stands.live c.args.id.now) (Err c.stale_refusal.result) c.self.inside.live refl refl)

-- ---- its input was closed

pub returns-then-is_closed-clause-does : goal.returns-then-is_closed-clause-does
returns-then-is_closed-clause-does g c =
    let here : has_number c.args.attempt (attempt_of c.self.inside.live.attempts c.args.id.now) ≡ true = search rules in
    let closed : has_closed (attempt_of c.self.inside.live.attempts c.args.id.now) ≡ true = search rules in
    rw (← c.self.view_is) (hands_closed g.S.Store c.self.inside.tables c.self.inside.live c.args.id.now c.args.attempt here c.args.most closed)

pub returns-then-is_closed-clause-frame : goal.returns-then-is_closed-clause-frame
returns-then-is_closed-clause-frame g c =
    rw (← c.self.view_is) (gives_none g.S.Store c.args.id.now (stored c.self.inside.tables c.self.inside.live) c.self.inside.tables c.self.inside.live
    (λ clean s is. is.stands.live c.args.id.now) (Err (Refusal.Cause Cause.InputAlreadyClosed)) c.self.inside.live refl refl)

-- ---- the next frame is not read

pub returns-in_err-read_next-clause-does : goal.returns-in_err-read_next-clause-does
returns-in_err-read_next-clause-does g c =
    rw (← c.self.view_is) (none_read (λ (r : Result Bytes Refusal). HandsOut c.args.id.now c.args.attempt c.args.most r) (Event.Feed c.args.id.now c.args.attempt c.args.most) c.from_residual.result c.from_residual.ensures.1
    (λ why s t refused. refused) g.S.Store c.self.inside.tables c.read_next.new.tables c.self.inside.live c.read_next.new.live c.in_err-read_next.ensures.stays c.read_next.ensures.looks
    (λ why gives clean s is. subst (IsRefused []) (sym gives) (c.in_err-read_next.ensures.reads clean s is)))

pub returns-in_err-read_next-clause-frame : goal.returns-in_err-read_next-clause-frame
returns-in_err-read_next-clause-frame g c =
    rw (← c.self.view_is) (gives_none g.S.Store c.args.id.now (stored c.self.inside.tables c.self.inside.live) c.read_next.new.tables c.self.inside.live
    (λ clean s is. is.stands.live c.args.id.now) c.from_residual.result c.read_next.new.live (none_given _ c.from_residual.result c.from_residual.ensures.1) c.in_err-read_next.ensures.stays)

pub returns-in_err-read_next-clause-waits : goal.returns-in_err-read_next-clause-waits
returns-in_err-read_next-clause-waits g c = rw (← c.self.view_is) c.read_next.ensures.waits

pub returns-in_err-read_next-clause-crash : goal.returns-in_err-read_next-clause-crash
returns-in_err-read_next-clause-crash g c = rw (← c.self.view_is) c.read_next.ensures.looks.crash

-- ---- memory lacks

pub returns-in_err-bytes-clause-does : goal.returns-in_err-bytes-clause-does
returns-in_err-bytes-clause-does g c =
    let here : has_number c.args.attempt (attempt_of c.self.inside.live.attempts c.args.id.now) ≡ true = search rules in
    rw (← c.self.view_is) (λ clean s is.
    let on = c.in_ok-read_next.ensures.reads clean s is in
    hands_none g.S.Store c.read_next.new.tables c.read_next.new.live c.args.id.now c.args.attempt (on.number c.args.attempt ∙ here) c.args.most c.hand_out.new.self c.from_residual-in_err-bytes.result
    c.in_err-bytes.ensures.err (is_memory c.from_residual-in_err-bytes.result c.from_residual-in_err-bytes.ensures.1 (λ why gives. gives)) clean s on.standing)

pub returns-in_err-bytes-clause-frame : goal.returns-in_err-bytes-clause-frame
returns-in_err-bytes-clause-frame g c =
    rw (← c.self.view_is) (gives_none g.S.Store c.args.id.now (stored c.self.inside.tables c.self.inside.live) c.read_next.new.tables c.read_next.new.live
    (λ clean s is. (c.in_ok-read_next.ensures.reads clean s is).standing.stands.live c.args.id.now) c.from_residual-in_err-bytes.result c.hand_out.new.self
    (none_given _ c.from_residual-in_err-bytes.result c.from_residual-in_err-bytes.ensures.1) c.in_err-bytes.ensures.err)

pub returns-in_err-bytes-clause-waits : goal.returns-in_err-bytes-clause-waits
returns-in_err-bytes-clause-waits g c =
    rw (← c.self.view_is) (λ one. same_waits c.read_next.new.live.attempts c.hand_out.new.self.attempts (ap (λ it. it.attempts) c.in_err-bytes.ensures.err) one ∙ c.read_next.ensures.waits one)

pub returns-in_err-bytes-clause-crash : goal.returns-in_err-bytes-clause-crash
returns-in_err-bytes-clause-crash g c = rw (← c.self.view_is) c.read_next.ensures.looks.crash

-- ---- bytes are handed out

pub returns-clause-does : goal.returns-clause-does
returns-clause-does g c =
    let here : has_number c.args.attempt (attempt_of c.self.inside.live.attempts c.args.id.now) ≡ true = search rules in
    let opened : has_closed (attempt_of c.self.inside.live.attempts c.args.id.now) ≡ false = search rules in
    rw (← c.self.view_is) (λ clean s is.
    let on = c.in_ok-read_next.ensures.reads clean s is in
    hands_out g.S.Store c.read_next.new.tables c.read_next.new.live c.args.id.now c.args.attempt (on.number c.args.attempt ∙ here) c.args.most c.in_ok-bytes.bytes c.hand_out.new.self
    (on.closed ∙ opened) c.in_ok-bytes.ensures.bytes c.in_ok-bytes.ensures.rest s on.read on.standing)

pub returns-clause-few : goal.returns-clause-few
returns-clause-few g c = few_given c.args.most c.in_ok-bytes.bytes (attempt_of c.read_next.new.live.attempts c.args.id.now) c.in_ok-bytes.ensures.bytes

pub returns-clause-frame : goal.returns-clause-frame
returns-clause-frame g c =
    rw (← c.self.view_is) (gives_bytes g.S.Store c.args.id.now (stored c.self.inside.tables c.self.inside.live) c.read_next.new.tables c.read_next.new.live
    (λ clean s is. (c.in_ok-read_next.ensures.reads clean s is).standing.stands.live c.args.id.now) c.args.most c.in_ok-bytes.bytes c.hand_out.new.self
    c.in_ok-bytes.ensures.bytes c.in_ok-bytes.ensures.rest)

pub returns-clause-waits : goal.returns-clause-waits
returns-clause-waits g c =
    rw (← c.self.view_is) (λ one.
    handed_waits c.args.id.now c.args.most c.read_next.new.live.attempts c.hand_out.new.self.attempts c.in_ok-bytes.ensures.rest one ∙ c.read_next.ensures.waits one)

pub returns-clause-crash : goal.returns-clause-crash
returns-clause-crash g c = rw (← c.self.view_is) c.read_next.ensures.looks.crash

pub returns-in_err-read_next-clause-cause : goal.returns-in_err-read_next-clause-cause
returns-in_err-read_next-clause-cause g c =
    rw (← c.self.view_is) (cause_by (state g.S.Store c.self.inside.tables) (state g.S.Store c.read_next.new.tables) _ c.from_residual.result c.from_residual.ensures.1 c.in_err-read_next.ensures.cause)

pub returns-in_err-bytes-clause-cause : goal.returns-in_err-bytes-clause-cause
returns-in_err-bytes-clause-cause g c =
    rw (← c.self.view_is) (memory_tells (state g.S.Store c.self.inside.tables) (state g.S.Store c.read_next.new.tables) c.from_residual-in_err-bytes.result c.from_residual-in_err-bytes.ensures.1)
