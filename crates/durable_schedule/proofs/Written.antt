-- What a crash leaves keeps every event that was answered as written, behind one event after another.
use Rattle.std.proofs.Common.{◌≡◌, ◌≢◌, ◌⊎◌, refl, sym, ap, subst, ◌∙◌, ◌++◌, append_assoc, append-nil, zero, suc, arith, Bool, true, false, true≢false, List, [], ◌∷◌, Option, Some, None, inl, inr}
use Rattle.sqlite_trees.specs.declared.store.Store.{Ghosts}
use Rattle.sqlite_trees.specs.Tree.{Trees}
use Rattle.sqlite.specs.Held.{state}
use Rattle.sqlite.specs.State.{HasCleanDisk}
use Rattle.journal_model.specs.Run.{Handler}
use Rattle.vm_types.specs.declared.options.VMOptions.{VMOptions}
use Rattle.store_refusals.specs.declared.refusal.Refusal.{Refusal}
use Rattle.store_refusals.specs.RefusalConditions.{is_circumstance}
use Rattle.journal_store.specs.StoreView.{Stored}
use Rattle.journal_store.specs.StoreStanding.{Endures, KeepsStanding, Outlasts}
use Rattle.store_calls.specs.AbstractStore.{Standing}
use Rattle.schedule_laws.proofs.Schedules.{schedules_grow}
use Rattle.schedule_laws.specs.Schedules.event
use Rattle.schedule_laws.specs.Schedules.reply
use Rattle.schedule_laws.specs.Schedules.refusal
use Rattle.schedule_laws.specs.Schedules.{Event, Reply, HeldAttempt, Scheduled, AppliesAll}
use Rattle.scheduler.specs.declared.scheduler.Scheduler.{Scheduler}
use Rattle.scheduler.specs.SchedulerCalls.{AppliesWith}
use Rattle.durable_schedule.specs.Runs.{AppliesAnswered, AppliesFirst, AreCertain, EnduresUnwritten, HasTakenOf, IsCertain, IsWrittenSo, LastsBehind, LastsBy, LastsNext, NoneWritten, at_first}
use Rattle.durable_schedule.proofs.PartlyTaken.{so_written, taken_left, taken_or_not}
use Rattle.durable_schedule.proofs.Running.{LeadsFirst, all_first, first_of_more}
use Rattle.durable_schedule.proofs.Settling.{SettlesOne}

-- ---- what lasts

by_more : (P Q : Type 0) → (P → Q) → (answer : Reply) → LastsBy P answer → LastsBy Q answer
by_more P Q f (reply.Refused (refusal.Store why)) it = (it.0, f it.1)
by_more P Q f (reply.Refused refusal.AttemptNotHeld) it = f it
by_more P Q f (reply.Moved bytes frames why) it = (it.0, elim it.1 [ inl some ↦ inl some | inr before ↦ inr (f before) ])
by_more P Q f _ it = tt

certain_or_not : (why : Option Refusal) → AreCertain why ⊎ (AreCertain why → ⊥)
certain_or_not None = inl tt
certain_or_not (Some why) = by_kind (is_circumstance why) refl
  where
    by_kind : (b : Bool) → is_circumstance why ≡ b → IsCertain why ⊎ (IsCertain why → ⊥)
    by_kind false e = inl e
    by_kind true e = inr (λ is. true≢false (sym e ∙ is))

by_or_not : (answer : Reply) → LastsBy ⊥ answer ⊎ (LastsBy ⊥ answer → ⊥)
by_or_not (reply.Refused (refusal.Store why)) = inr (λ it. it.1)
by_or_not (reply.Refused refusal.AttemptNotHeld) = inr (λ it. it)
by_or_not (reply.Moved bytes zero why) = inr (λ it. elim it.1 [ inl some ↦ some refl | inr never ↦ never ])
by_or_not (reply.Moved bytes (suc frames) why) = elim (certain_or_not why) [ inl is ↦ inl (is, inl (λ none. omega (arith, none))) | inr not ↦ inr (λ it. not it.0) ]
by_or_not _ = inl tt

module _ {H : Type 0} where
  pub next_more : (P Q : Type 0) → (P → Q) → (one : Event H) (answer : Reply) → LastsNext P one answer → LastsNext Q one answer
  next_more P Q f (event.Feed id attempt count) answer it = f it
  next_more P Q f (event.Close id attempt) answer it = f it
  next_more P Q f (event.Turn id attempt outcome) answer it = f it
  next_more P Q f (event.Stop id attempt) answer it = f it
  next_more P Q f _ answer it = by_more P Q f answer it

  -- what lasts whatever did before lasts
  pub behind_more : (P Q : Type 0) → (P → Q) → (asked : List (Event H)) (replies : List Reply) → LastsBehind P asked replies → LastsBehind Q asked replies
  behind_more P Q f (one ∷ asked) (answer ∷ replies) it =
      behind_more (LastsNext P one answer) (LastsNext Q one answer) (next_more P Q f one answer) asked replies it
  behind_more P Q f [] replies it = f it
  behind_more P Q f (one ∷ asked) [] it = f it

  -- all of an event was answered as written, or not
  whole_or_not : (one : Event H) (answer : Reply) → LastsNext ⊥ one answer ⊎ (LastsNext ⊥ one answer → ⊥)
  whole_or_not (event.Feed id attempt count) answer = inr (λ it. it)
  whole_or_not (event.Close id attempt) answer = inr (λ it. it)
  whole_or_not (event.Turn id attempt outcome) answer = inr (λ it. it)
  whole_or_not (event.Stop id attempt) answer = inr (λ it. it)
  whole_or_not _ answer = by_or_not answer

  none_more : (events : List (Event H)) (replies : List Reply) (one : Event H) (answer : Reply) → NoneWritten events replies → (IsWrittenSo one answer → ⊥) → NoneWritten (events ++ one ∷ []) (replies ++ answer ∷ [])
  none_more [] [] one answer none not = (not, tt)
  none_more (first ∷ events) (told ∷ replies) one answer none not = (none.0, none_more events replies one answer none.1 not)
  none_more [] (told ∷ replies) one answer none not = absurd none
  none_more (first ∷ events) [] one answer none not = absurd none

module _ {H : Type 0} (function : H → Handler) (options : VMOptions) where
  behind_one : (Before : Type 0) (events : List (Event H)) (replies : List Reply) (one : Event H) (answer : Reply) (old new : Scheduled H) → AppliesAll function options events replies old new
      → LastsNext (LastsBehind Before events replies) one answer → LastsBehind Before (events ++ one ∷ []) (replies ++ answer ∷ [])
  behind_one Before [] [] one answer old new applies it = it
  behind_one Before (first ∷ events) (told ∷ replies) one answer old new applies it = behind_one (LastsNext Before first told) events replies one answer applies.0 new applies.2 it
  behind_one Before [] (told ∷ replies) one answer old new applies it = absurd applies
  behind_one Before (first ∷ events) [] one answer old new applies it = absurd applies

  -- ---- how far events were applied

  -- all of them, each with its reply
  all_answered : (events : List (Event H)) (replies : List Reply) (s : Standing) (new : Scheduled H) → AppliesAll function options events replies (at_first s) new
      → AppliesAnswered function options events replies s new.standing
  unfolding all_first
  all_answered events replies s new applies = record {
    applies = all_first function options events replies new.held s new.standing applies;
    answered = replies;
    later = [];
    replies_are = sym (append-nil replies);
    but_last = inl refl;
    unwritten = tt;
  }

  -- all of them, of which the last was answered otherwise
  last_otherwise : (events : List (Event H)) (replies : List Reply) (one : Event H) (answer other : Reply) (s : Standing) (new : Scheduled H)
      → AppliesAll function options (events ++ one ∷ []) (replies ++ other ∷ []) (at_first s) new → AppliesAnswered function options (events ++ one ∷ []) (replies ++ answer ∷ []) s new.standing
  unfolding all_first
  last_otherwise events replies one answer other s new applies = record {
    applies = all_first function options (events ++ one ∷ []) (replies ++ other ∷ []) new.held s new.standing applies;
    answered = replies ++ answer ∷ [];
    later = [];
    replies_are = sym (append-nil (replies ++ answer ∷ []));
    but_last = inr (replies, other, answer, refl, refl);
    unwritten = tt;
  }

  -- no more of them than before
  no_further : (events : List (Event H)) (replies : List Reply) (one : Event H) (answer : Reply) (s t : Standing) → (IsWrittenSo one answer → ⊥) → AppliesAnswered function options events replies s t
      → AppliesAnswered function options (events ++ one ∷ []) (replies ++ answer ∷ []) s t
  unfolding first_of_more
  no_further events replies one answer s t not it = record {
    applies = first_of_more function options events one s t it.applies;
    answered = it.answered;
    later = it.later ++ answer ∷ [];
    replies_are = ap (λ (rs : List Reply). rs ++ answer ∷ []) it.replies_are ∙ append_assoc it.answered it.later (answer ∷ []);
    but_last = it.but_last;
    unwritten = none_more it.applies.rest it.later one answer it.unwritten not;
  }

  module _ {S : Type 0} (g : Ghosts S) where
    abbrev pub LeavesAnswered : List (Event H) → List Reply → (first new : Stored S) → Type 0
    LeavesAnswered events replies first new = EnduresUnwritten g events replies (AppliesAnswered function options events replies) first new

    pub none_left : (first : Stored S) → LeavesAnswered [] [] first first
    none_left first clean trees may = inl (tt, may)

    -- one more event
    module _ (events : List (Event H)) (replies : List Reply) (one : Event H) (answer : Reply) (first : Stored S) (old new : Scheduler H S)
        (early : HasCleanDisk (state g new.store.connection) → HasCleanDisk (state g old.store.connection)) (leads : LeadsFirst function options g events replies first old)
        (now : LeadsFirst function options g (events ++ one ∷ []) (replies ++ answer ∷ []) first new) (left : LeavesAnswered events replies first old.store)
        (second : Endures g (AppliesWith function options one old.held) old.store new.store) (settled : SettlesOne function options g one answer old new)
        (clean : HasCleanDisk (state g new.store.connection)) (trees : Trees) (may : (state g new.store.connection).may_leave trees) where
      abbrev Left : Type 0
      Left =
          (NoneWritten (events ++ one ∷ []) (replies ++ answer ∷ []) × (state g first.connection).may_leave trees)
          ⊎ KeepsStanding g (AppliesAnswered function options (events ++ one ∷ []) (replies ++ answer ∷ [])) first trees

      -- it was written: all lasts
      written : LastsNext ⊥ one answer → Left
      written is_so = inr (λ s is.
          let First : Type 0 = Outlasts s.events (state g first.connection) in
          let before = leads (early clean) s is in
          let it = now clean s is in
          let lasts = it.3 (behind_one First events replies one answer (at_first s) before.0 before.2
          (next_more ⊥ (LastsBehind First events replies) (λ never. absurd never) one answer is_so)) in
          (it.0.standing, all_answered (events ++ one ∷ []) (replies ++ answer ∷ []) s it.0 it.2, lasts trees may))

      unwritten : (IsWrittenSo one answer → ⊥) → Left
      unwritten not = elim (second.crash clean trees may) [
        | inl was ↦ elim (left (early clean) trees was) [
          | inl none ↦ inl (none_more events replies one answer none.0 not, none.1)
          | inr keeps ↦ inr (λ s is. let kept = keeps s is in (kept.0, no_further events replies one answer s kept.0 not kept.1, kept.2))
        ]
        | inr keeps ↦ inr (λ s is.
            let before = leads (early clean) s is in
            let kept = keeps before.0.standing before.1.standing in
            let applies = subst (λ (held : List (HeldAttempt H)). AppliesAll function options events replies (at_first s) (record { standing = before.0.standing; held = held })) before.1.held before.2 in (
              kept.0,
              last_otherwise events replies one answer kept.1.0 s (record { standing = kept.0; held = kept.1.1 })
                  (schedules_grow function options events replies (at_first s) (record { standing = before.0.standing; held = old.held }) (record { standing = kept.0; held = kept.1.1 }) one kept.1.0 applies kept.1.2),
              kept.2,
            ))
      ]

      -- frames of it were: they last, and the next one may have been written too
      partly : HasTakenOf one answer → Left
      partly some = inr (λ s is.
          let before = leads (early clean) s is in
          let to = settled (so_written one answer some) clean before.0 before.1 in
          elim (taken_left function options (state g new.store.connection) clean trees may one answer before.0 to.0 some to.2 to.3) [
            | inl kept ↦ (
              to.0.standing,
              all_answered (events ++ one ∷ []) (replies ++ answer ∷ []) s to.0 (schedules_grow function options events replies (at_first s) before.0 to.0 one answer before.2 to.2),
              kept,
            )
            | inr late ↦ (
              late.0,
              last_otherwise events replies one answer late.1.0 s (record { standing = late.0; held = late.1.1 })
                  (schedules_grow function options events replies (at_first s) before.0 (record { standing = late.0; held = late.1.1 }) one late.1.0 before.2 late.1.2),
              late.2,
            )
          ])

      pub one_left : Left
      one_left = elim (whole_or_not one answer) [
        | inl whole ↦ written whole
        | inr not_whole ↦ elim (taken_or_not one answer) [
          | inl some ↦ partly some
          | inr none ↦ unwritten (λ it. elim it [ inl whole ↦ not_whole whole | inr some ↦ none some ])
        ]
      ]

    -- so a crash leaves what it could leave before, or what was answered so
    pub answered_endures : (events : List (Event H)) (replies : List Reply) (old new : Stored S) → Endures g (AppliesFirst function options events) old new → LeavesAnswered events replies old new
        → Endures g (AppliesAnswered function options events replies) old new
    answered_endures events replies old new lives left = record {
      clean = lives.clean;
      shield = lives.shield;
      counts = lives.counts;
      limit = lives.limit;
      closes = lives.closes;
      crash = λ clean trees may. elim (left clean trees may) [ inl before ↦ inl before.1 | inr keeps ↦ inr keeps ];
    }
