-- A move: bytes of an attempt that were shown are accepted and let go; and what a crash leaves of it.
use Rattle.std.proofs.Common.{◌≡◌, ◌∙◌, refl, sym, ap, subst, ℕ, List, ◌∷◌, length, min, take, Bool, true, false, Option, Some, None, IfSome, Ok, Err, inl, inr}
use Rattle.sqlite_trees.specs.declared.store.Store.{Ghosts}
use Rattle.journal_model.specs.Notification.{Bytes, Text}
use Rattle.journal_model.specs.Event.{Event}
use Rattle.journal_model.specs.Attempt.{is_live}
use Rattle.store_refusals.specs.declared.refusal.Refusal.{Refusal}
use Rattle.store_refusals.specs.declared.refusal.Refusal.TheVariants.{OutOfMemory}
use Rattle.schedule_model.specs.declared.event.Reply.{Reply}
use Rattle.schedule_model.specs.declared.event.Reply.TheVariants as reply
use Rattle.schedule_model.specs.declared.event.EventRefusal.TheVariants as refusal
use Rattle.schedule_model.specs.declared.held.HeldAttempt.{HeldAttempt}
use Rattle.store_steps.specs.declared.frame.FrameReply.{FrameReply}
use Rattle.schedule_model.specs.Schedule.{MovesOne}
use Rattle.schedule_model.specs.Attempts.{Attempt, output_of, Advances, Gathers, ShowsFirst}
use Rattle.vm_attempt.proofs.Advancing.{gathered_advances, lets_first_go, shown_count, shown_bytes, without}
use Rattle.store_calls.specs.AbstractStore.{Standing, StaysStanding}
use Rattle.store_calls.specs.Calls.{PutsBehind, RefusesBytes}
use Rattle.store_calls.specs.Frames.{Accepts, AcceptsFirst, Rests}
use Rattle.store_calls.proofs.Taking.{live_or_over, same_stays}
use Rattle.journal_store.specs.StoreView.{Stored}
use Rattle.journal_store.specs.Causes.{TellsWhyUnwritten, TriesFrameOf}
use Rattle.journal_store.specs.StoreStanding.{Endures}
use Rattle.journal_store.proofs.Enduring.{endures_so}
use Rattle.scheduler.specs.SchedulerCalls.{MovesSome, TellsCauseOfMove}

-- these bytes were moved, and leave the attempt; or they are refused, and it is as it was
abbrev AcceptsOne : {H : Type 0} → Bytes → HeldAttempt H → Standing → Reply → Standing → Attempt H → Type 0
AcceptsOne bytes one old (reply.Moved moved frames why) new changed =
    (replies : List FrameReply) × (frames ≡ length replies) × (moved ≡ length bytes) × Accepts one.invocation one.number bytes (Ok (replies, why)) old new × Advances moved one.attempt changed
AcceptsOne bytes one old (reply.Refused (refusal.Store why)) new changed = Accepts one.invocation one.number bytes (Err why) old new × (changed ≡ one.attempt)
AcceptsOne bytes one old _ new changed = ⊥

-- bytes that were shown first are what the move asks for
pub moves_shown : {H : Type 0} (count : ℕ) (bytes : Bytes) (one : HeldAttempt H) (between : Attempt H) → ShowsFirst count bytes one.attempt between → (s t : Standing) (answer : Reply) (changed : Attempt H)
    → AcceptsOne bytes (record one { attempt = between }) s answer t changed → MovesOne count one s answer t changed
moves_shown {H} count bytes one between shows s t (reply.Moved moved frames why) changed it = (
  it.0,
  it.1,
  it.2 ∙ shown_count count bytes one.attempt between shows,
  subst (λ (some : Bytes). Accepts one.invocation one.number some (Ok (it.0, why)) s t) (shown_bytes count bytes one.attempt between shows ∙ ap (λ (n : ℕ). take n (output_of one.attempt)) (sym it.2)) it.3,
  gathered_advances moved one.attempt between changed shows.gathers it.4,
)
moves_shown {H} count bytes one between shows s t (reply.Refused (refusal.Store why)) changed it = (
  subst (λ (some : Bytes). Accepts one.invocation one.number some (Err why) s t)
      (shown_bytes count bytes one.attempt between shows ∙ ap (λ (n : ℕ). take n (output_of one.attempt)) (shown_count count bytes one.attempt between shows)) it.0,
  subst (λ (a : Attempt H). Gathers one.attempt a) (sym it.1) shows.gathers,
)
moves_shown {H} count bytes one between shows s t _ changed it = absurd it

-- a frame of them is what a move tried
pub shown_cause : {H S : Type 0} (g : Ghosts S) (count : ℕ) (bytes : Bytes) (one : HeldAttempt H) (between : Attempt H) → ShowsFirst count bytes one.attempt between
    → (old new : Stored S) (len frames : ℕ) (replies : List FrameReply) → frames ≡ length replies → (told : Option Refusal)
    → IfSome told (TellsWhyUnwritten g old new (TriesFrameOf one.invocation one.number bytes replies)) → IfSome told (TellsCauseOfMove g count one (reply.Moved len frames told) old new)
shown_cause g count bytes one between shows old new len frames replies many None tells = tt
shown_cause g count bytes one between shows old new len frames replies many (Some why) tells =
    (replies, many, subst (λ (some : Bytes). TellsWhyUnwritten g old new (TriesFrameOf one.invocation one.number some replies) why) shows.first tells)

-- memory was refused, and nothing has changed
pub memory_refuses : (id : Text) (n : ℕ) (s t : Standing) → StaysStanding s t → RefusesBytes (is_live s.events id n) id n OutOfMemory s t
memory_refuses id n s t stays = by_live (is_live s.events id n)
  where
    by_live : (b : Bool) → RefusesBytes b id n OutOfMemory s t
    by_live true = (refl, stays)
    by_live false = record { cause = inr refl; stays = stays }

-- ---- a crash

-- the first frames are taken, and then no further one
rests_behind : {H : Type 0} (count : ℕ) (one : HeldAttempt H) (moved : Bytes) → moved ≡ take (min count (length (output_of one.attempt))) (output_of one.attempt)
    → (s t : Standing) → AcceptsFirst one.invocation one.number moved s t → (why : Option Refusal) → Rests one.invocation one.number why t t → MovesSome count one s t
rests_behind count one moved same s t it why rests =
    let bytes : ℕ = min count (length (output_of one.attempt)) in (
      reply.Moved bytes (length (it.2.0 ∷ it.2.1)) why,
      without bytes one.attempt,
      (
        it.2.0 ∷ it.2.1,
        refl,
        refl,
        (it.0, subst (λ (all : Bytes). PutsBehind one.invocation one.number all s it.0) same it.1, record { between = t; taken = it.2.2; rests = rests }),
        lets_first_go bytes one.attempt,
      ),
    )

-- the last of them ended the attempt, or no room is left for more answers
pub moves_first : {H : Type 0} (count : ℕ) (one : HeldAttempt H) (moved : Bytes) → moved ≡ take (min count (length (output_of one.attempt))) (output_of one.attempt)
    → (s t : Standing) → AcceptsFirst one.invocation one.number moved s t → MovesSome count one s t
moves_first count one moved same s t it =
    let id = one.invocation in
    let live = subst (λ (events : List Event). is_live events id one.number ≡ true) (sym it.1.events) it.1.live in
    elim (live_or_over id one.number (it.2.0 ∷ it.2.1) it.0 t live it.2.2) [
      | inl goes ↦ rests_behind count one moved same s t it (Some OutOfMemory) (inl (record { live = goes; memory = refl; stays = same_stays t }))
      | inr over ↦ rests_behind count one moved same s t it None (inl (record { over = over; stays = same_stays t }))
    ]

-- so it is of the bytes that were shown
pub moves_crashed : {H S : Type 0} (g : Ghosts S) (count : ℕ) (bytes : Bytes) (one : HeldAttempt H) (between : Attempt H) → ShowsFirst count bytes one.attempt between
    → (old new : Stored S) → Endures g (AcceptsFirst one.invocation one.number bytes) old new → Endures g (MovesSome count one) old new
moves_crashed g count bytes one between shows old new lives =
    endures_so g (AcceptsFirst one.invocation one.number bytes) (MovesSome count one) old new
    (moves_first count one bytes
    (shown_bytes count bytes one.attempt between shows ∙ ap (λ (n : ℕ). take n (output_of one.attempt)) (shown_count count bytes one.attempt between shows))) lives
