use Rattle.std.proofs.Common.{◌≢◌, arith, List, [], ℕ, refl, subst, ap, ◌∙◌, length, Option, IfSome, Ok, Err}
use Rattle.sqlite.specs.Held.{state}
use Rattle.store_refusals.specs.declared.refusal.Refusal.{Refusal}
use Rattle.store_steps.specs.declared.frame.FrameReply.{FrameReply}
use Rattle.store_calls.specs.Calls.{PutsBehind}
use Rattle.store_calls.specs.Frames.{Accepts, AcceptsFirst, TakesEach}
use Rattle.store_calls.proofs.Taking.{same_stays}
use Rattle.journal_store.specs.OutputAcceptance.{OutlastsFrames}
use Rattle.journal_store.specs.Causes.{TellsWhyUnwritten, TriesFrameOf}
use Rattle.journal_store.specs.StoreStanding.{Endures}
use Rattle.store_calls.specs.AbstractStore.{Standing}
use Rattle.journal_store.proofs.Enduring.{same_endures}
use Rattle.schedule_model.specs.Lends.{held_as}
use Rattle.schedule_model.specs.declared.event.Reply.TheVariants as reply
use Rattle.schedule_model.specs.declared.event.EventRefusal.TheVariants as refusal
use Rattle.scheduler.specs.SchedulerCalls.{MovesSome}
use Rattle.scheduler.proofs.Lasting.{rest_lasts}
use Rattle.scheduler.proofs.Moving.{memory_refuses, moves_crashed, moves_shown, shown_cause}
use Rattle.scheduler.proofs.held.move_output.Goals as goal

-- no bytes were shown
pub returns-in-Err-clause-does : goal.returns-in-Err-clause-does
returns-in-Err-clause-does g c clean s is = (s, is, (memory_refuses c.args.invocation.now c.args.number s s (same_stays s), c.in-Err.ensures))

pub returns-in-Err-clause-settled : goal.returns-in-Err-clause-settled
returns-in-Err-clause-settled g c taken = absurd taken

pub returns-in-Err-clause-crash : goal.returns-in-Err-clause-crash
returns-in-Err-clause-crash g c = same_endures g.S.Store (MovesSome c.args.count (held_as c.args.invocation.now c.args.number c.args.attempt.now)) c.args.store.now

-- they are accepted
pub advance_output-requires : goal.advance_output-requires
advance_output-requires g c = omega (arith, c.len-len.ensures.value, c.in-Ok.ensures.taken)

pub returns-in-Ok-accepted-clause-does : goal.returns-in-Ok-accepted-clause-does
returns-in-Ok-accepted-clause-does g c clean s is =
    let one = held_as c.args.invocation.now c.args.number c.args.attempt.now in
    let accepted = c.in-Ok-accepted.accepted in
    let told : List FrameReply × Option Refusal = (accepted.replies.items, accepted.refusal) in
    let it = c.in-Ok-accepted.ensures.does clean s is in (
      it.0,
      it.1,
      moves_shown c.args.count c.in-Ok.bytes one c.first_output.new.self c.in-Ok.ensures s it.0 (reply.Moved c.len-len.result c.len-frames.result accepted.refusal) c.advance_output.new.self
          (accepted.replies.items, omega (arith, c.len-frames.ensures, accepted.replies.ok.0), c.len-len.ensures.value, subst (λ (bytes : List ℕ). Accepts one.invocation one.number bytes (Ok told) s it.0) c.as_slice.ensures it.2, c.advance_output.ensures),
    )

pub returns-in-Ok-accepted-clause-settled : goal.returns-in-Ok-accepted-clause-settled
unfolding returns-in-Ok-accepted-clause-does
returns-in-Ok-accepted-clause-settled g c taken clean s is =
    let id = c.args.invocation.now in
    let n = c.args.number in
    let accepted = c.in-Ok-accepted.accepted in
    let replies = accepted.replies.items in
    let did = returns-in-Ok-accepted-clause-does g c clean s is in
    let it = c.in-Ok-accepted.ensures.does clean s is in
    let some : replies ≢ [] = λ none. taken (omega (arith, c.len-frames.ensures, accepted.replies.ok.0) ∙ ap (λ (all : List FrameReply). length all) none) in
    let lasts = c.in-Ok-accepted.ensures.settled some clean s is in (
      did.0,
      did.1,
      (
        did.2,
        rest_lasts id n c.in-Ok.bytes replies accepted.refusal s it.0 (state g.S.Store c.accept-accepted.new.self.connection)
            (subst (λ (bytes : List ℕ). (m : Standing) × PutsBehind id n bytes s m × ((k : Standing) × TakesEach id n replies m k × OutlastsFrames id n accepted.refusal k (state g.S.Store c.accept-accepted.new.self.connection)))
            c.as_slice.ensures lasts)
            (subst (λ (bytes : List ℕ). Accepts id n bytes (Ok (replies, accepted.refusal)) s it.0) c.as_slice.ensures it.2),
      ),
    )

pub returns-in-Ok-accepted-clause-cause : goal.returns-in-Ok-accepted-clause-cause
returns-in-Ok-accepted-clause-cause g c =
    let id = c.args.invocation.now in
    let n = c.args.number in
    let accepted = c.in-Ok-accepted.accepted in
    let replies = accepted.replies.items in
    let old = c.args.store.now in
    let new = c.accept-accepted.new.self in
    shown_cause g.S.Store c.args.count c.in-Ok.bytes (held_as id n c.args.attempt.now) c.first_output.new.self c.in-Ok.ensures old new c.len-len.result c.len-frames.result replies
    (omega (arith, c.len-frames.ensures, accepted.replies.ok.0)) accepted.refusal
    (subst (λ (bytes : List ℕ). IfSome accepted.refusal (TellsWhyUnwritten g.S.Store old new (TriesFrameOf id n bytes replies))) c.as_slice.ensures c.in-Ok-accepted.ensures.cause_of_frame)

-- or refused
pub returns-in-Err-accepted-clause-does : goal.returns-in-Err-accepted-clause-does
returns-in-Err-accepted-clause-does g c clean s is =
    let it = c.in-Err-accepted.ensures.does clean s is in (
      it.0,
      it.1,
      moves_shown c.args.count c.in-Ok.bytes (held_as c.args.invocation.now c.args.number c.args.attempt.now) c.first_output.new.self c.in-Ok.ensures s it.0 (reply.Refused (refusal.Store c.in-Err-accepted.refusal)) c.first_output.new.self
          (subst (λ (bytes : List ℕ). Accepts c.args.invocation.now c.args.number bytes (Err c.in-Err-accepted.refusal) s it.0) c.as_slice.ensures it.2, refl),
    )

pub returns-in-Err-accepted-clause-cause : goal.returns-in-Err-accepted-clause-cause
returns-in-Err-accepted-clause-cause g c = c.in-Err-accepted.ensures.cause

pub returns-in-Err-accepted-clause-settled : goal.returns-in-Err-accepted-clause-settled
returns-in-Err-accepted-clause-settled g c taken = absurd taken

-- where a crash comes
pub returns-in-Ok-accepted-clause-crash : goal.returns-in-Ok-accepted-clause-crash
returns-in-Ok-accepted-clause-crash g c =
    moves_crashed g.S.Store c.args.count c.in-Ok.bytes (held_as c.args.invocation.now c.args.number c.args.attempt.now) c.first_output.new.self c.in-Ok.ensures c.args.store.now c.accept-accepted.new.self
    (subst (λ (bytes : List ℕ). Endures g.S.Store (AcceptsFirst c.args.invocation.now c.args.number bytes) c.args.store.now c.accept-accepted.new.self) c.as_slice.ensures c.accept-accepted.ensures.crash)

pub returns-in-Err-accepted-clause-crash : goal.returns-in-Err-accepted-clause-crash
returns-in-Err-accepted-clause-crash g c =
    moves_crashed g.S.Store c.args.count c.in-Ok.bytes (held_as c.args.invocation.now c.args.number c.args.attempt.now) c.first_output.new.self c.in-Ok.ensures c.args.store.now c.accept-accepted.new.self
    (subst (λ (bytes : List ℕ). Endures g.S.Store (AcceptsFirst c.args.invocation.now c.args.number bytes) c.args.store.now c.accept-accepted.new.self) c.as_slice.ensures c.accept-accepted.ensures.crash)
