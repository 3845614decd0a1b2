-- What schedules leave, and what that gives.
use Rattle.std.proofs.Common.{◌≡◌, ℕ, false, List, [], ◌∷◌, Option, Some, None, refl, sym, ap, subst, ◌∙◌, inl, inr}
use Rattle.std.specs.List.{AllByRecursion}
use Rattle.journal_model.specs.Notification.{Text}
use Rattle.journal_model.specs.Run.{Handler}
use Rattle.run_laws.proofs.Holding.{headline, holds_wakes}
use Rattle.vm_types.specs.Options.{run_options}
use Rattle.vm_types.specs.declared.options.VMOptions.{VMOptions}
use Rattle.store_calls.specs.AbstractStore.{Standing}
use Rattle.store_refusals.specs.declared.refusal.Refusal.{Refusal}
use Rattle.store_refusals.specs.declared.refusal.Refusal.TheVariants.{OutOfMemory}
use Rattle.store_steps.specs.PreparedFrames.{lies_in_frame}
use Rattle.store_calls.specs.Frames.{Rests}
use Rattle.schedule_laws.specs.InvocationInRun.{ReplaysInLine, HoldsOf, given_of, Follows}
use Rattle.schedule_laws.specs.Laws.{KeptByEach, NoneRefused, RefusesNoFrame, RefuseNoFrame, HoldsHeadline, HoldsNeverLate, HoldsWakesExactly}
use Rattle.schedule_laws.proofs.Beginning.{holds_follows, follows_holds}
use Rattle.schedule_laws.proofs.Schedules.{found_is, held_is, held_with}
use Rattle.schedule_laws.proofs.Moving.{moved, none_refused}
use Rattle.schedule_laws.proofs.Serving.{ServingLaws}
use Rattle.schedule_laws.proofs.Taking.{took_each}
use Rattle.schedule_laws.specs.Attempts.{Attempt}
use Rattle.schedule_laws.specs.Schedules.event
use Rattle.schedule_laws.specs.Schedules.reply
use Rattle.schedule_laws.specs.Schedules.{Event, Reply, HeldAttempt, held_of, with_attempt, IfHeld, MovesOne, Does, Scheduled, Brings, AppliesAll, FitsEvent}

module _ {H : Type 0} (function : H → Handler) (next : Handler) (options : VMOptions) (id : Text) (each : KeptByEach function) (in_line : ReplaysInLine options) where
  -- a list of events keeps an invocation in its run
  pub keeps_all : (events : List (Event H)) (replies : List Reply) (old new : Scheduled H) → AppliesAll function options events replies old new → AllByRecursion FitsEvent events
      → AllByRecursion (Brings function id next) events → Follows function next options id old.standing old.held → Follows function next options id new.standing new.held
  keeps_all [] [] old new same fit brings f = subst (λ (s : Scheduled H). Follows function next options id s.standing s.held) (sym same) f
  keeps_all (one ∷ events) (answer ∷ replies) old new applies fit brings f =
      keeps_all events replies applies.0 new applies.2 fit.1 brings.1
      (each next options id one answer old.standing applies.0.standing old.held applies.0.held in_line fit.0 brings.0 applies.1 f)
  keeps_all [] (answer ∷ replies) old new applies fit brings f = absurd applies
  keeps_all (one ∷ events) [] old new applies fit brings f = absurd applies

  pub leaves : (events : List (Event H)) (replies : List Reply) (old new : Scheduled H) → old.held ≡ [] → AppliesAll function options events replies old new → AllByRecursion FitsEvent events
      → AllByRecursion (Brings function id next) events → HoldsOf next options id old.standing.events → HoldsOf next options id new.standing.events
  leaves events replies old new none applies fit brings holds =
      follows_holds function next options id new.standing new.held
      (keeps_all events replies old new applies fit brings
      (subst (λ (held : List (HeldAttempt H)). Follows function next options id old.standing held) (sym none) (holds_follows function next options id old.standing holds)))

  -- ---- and what they answer of frames

  module _ (none_refused_of : NoneRefused function) where
    -- the bytes are those of an attempt that is held
    move_refuses : (other : Text) (n count bytes frames : ℕ) (why : Refusal) (s t : Standing) (held more : List (HeldAttempt H))
        → IfHeld (MovesOne count) (held_of held other n) s held (reply.Moved bytes frames (Some why)) t more → Follows function next options id s held → other ≡ id → lies_in_frame why ≡ false
    move_refuses other n count bytes frames why s t held more does f same = by_held (held_of held other n) refl does
      where
        by_held : (o : Option (HeldAttempt H)) → held_of held other n ≡ o → IfHeld (MovesOne count) o s held (reply.Moved bytes frames (Some why)) t more → lies_in_frame why ≡ false
        by_held None there d = let clash = d.0 in absurd cc
        by_held (Some one) there d =
            let is = held_is other n one (found_is other n held one there) in
            none_refused_of next options s t held count bytes frames why one d.0 in_line
            (ap (λ (i : Text). held_of held i one.number) is.0 ∙ ap (λ (m : ℕ). held_of held other m) is.1 ∙ there) d.1
            (subst (λ (i : Text). Follows function next options i s held) (sym (is.0 ∙ same)) f)

    refuses_none : (one : Event H) (answer : Reply) (s t : Standing) (held more : List (HeldAttempt H)) → Does function options one s held answer t more
        → Follows function next options id s held → RefusesNoFrame id one answer
    refuses_none (event.Move other n count) (reply.Moved bytes frames (Some why)) s t held more does f = move_refuses other n count bytes frames why s t held more does f
    refuses_none (event.Move other n count) (reply.Moved bytes frames None) s t held more does f = tt
    refuses_none (event.Move other n count) _ s t held more does f = tt
    refuses_none _ answer s t held more does f = tt

    refuse_none : (events : List (Event H)) (replies : List Reply) (old new : Scheduled H) → AppliesAll function options events replies old new → AllByRecursion FitsEvent events
        → AllByRecursion (Brings function id next) events → Follows function next options id old.standing old.held → RefuseNoFrame id events replies
    refuse_none [] [] old new same fit brings f = tt
    refuse_none (one ∷ events) (answer ∷ replies) old new applies fit brings f = (
      refuses_none one answer old.standing applies.0.standing old.held applies.0.held applies.1 f,
      refuse_none events replies applies.0 new applies.2 fit.1 brings.1
          (each next options id one answer old.standing applies.0.standing old.held applies.0.held in_line fit.0 brings.0 applies.1 f),
    )
    refuse_none [] (answer ∷ replies) old new applies fit brings f = absurd applies
    refuse_none (one ∷ events) [] old new applies fit brings f = absurd applies

    pub take_frames : (events : List (Event H)) (replies : List Reply) (old new : Scheduled H) → old.held ≡ [] → AppliesAll function options events replies old new → AllByRecursion FitsEvent events
        → AllByRecursion (Brings function id next) events → HoldsOf next options id old.standing.events → RefuseNoFrame id events replies
    take_frames events replies old new none applies fit brings holds =
        refuse_none events replies old new applies fit brings
        (subst (λ (held : List (HeldAttempt H)). Follows function next options id old.standing held) (sym none) (holds_follows function next options id old.standing holds))

-- no frame is refused for what it is
no_room : (why : Refusal) → why ≡ OutOfMemory → lies_in_frame why ≡ false
no_room why is = ap lies_in_frame is

pub frames_taken : {H : Type 0} (function : H → Handler) (next : Handler) (options : VMOptions) (laws : ServingLaws function next options) (old new : Standing) (held : List (HeldAttempt H))
    (count bytes frames : ℕ) (why : Refusal) (one : HeldAttempt H) (changed : Attempt H) → held_of held one.invocation one.number ≡ Some one
    → MovesOne count one old (reply.Moved bytes frames (Some why)) new changed → Follows function next options one.invocation old held → lies_in_frame why ≡ false
frames_taken {H} function next options laws old new held count bytes frames why one changed there d f = by_rest d.3.2.rests
  where
    now : HeldAttempt H
    now = record one { attempt = changed }

    here : held_of (with_attempt held one changed) one.invocation one.number ≡ Some now
    here = held_with one.invocation one.number held one now there refl refl

    by_rest : Rests one.invocation one.number (Some why) d.3.2.between new → lies_in_frame why ≡ false
    by_rest (inl room) = no_room why room.memory
    by_rest (inr r) =
        none_refused function next options one.invocation f.0 one.number now why d.3.2.between new (with_attempt held one changed) here r
        (took_each function next options one.invocation f.0 laws one.invocation one.number now d.0 d.3.0 d.3.2.between (with_attempt held one changed) here d.3.2.taken
        (moved function next options one.invocation f.0 laws one bytes changed old d.3.0 held there d.3.1 d.4 f.1))

pub holds_headline : HoldsHeadline
holds_headline next options id events accepted holds = headline next (run_options options) options.fallback_random_seed events id accepted (λ new is. (holds new is).holds)

pub holds_never_late : HoldsNeverLate
holds_never_late next options id events new is holds = (holds_wakes next (given_of options id events new) id events (holds new is).holds).0

pub holds_wakes_exactly : HoldsWakesExactly
holds_wakes_exactly next options id events new is holds = (holds_wakes next (given_of options id events new) id events (holds new is).holds).1
