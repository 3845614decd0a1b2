-- Beside all accepted events go those that an invocation would have been told, had only its own events and the ticks come since.
use Rattle.std.proofs.Common.{true≢false, ◌≡◌, refl, sym, ap, subst, ◌∙◌, Bool, true, false, ◌||◌, if◌then◌else◌, List, [], ◌∷◌, ◌++◌, Option, Some, None}
use Rattle.std.specs.List.{AllByRecursion}
use Rattle.journal_model.specs.Notification.{Text}
use Rattle.journal_model.specs.Run.{Handler}
use Rattle.journal_model.specs.Event.{Event}
use Rattle.journal_model.specs.Journal.{begins, invoked_by, is_of, is_text, is_tick, starting_state, view_of}
use Rattle.journal_model.specs.Cause.{IsAccepted}
use Rattle.schedule_laws.proofs.Isolation.{own_followed}
use Rattle.vm_types.specs.declared.options.VMOptions.{VMOptions}
use Rattle.schedule_laws.specs.Isolation.{AllAnswerAlone, AllKeepState, AllStandAlone, IsAlike, KeepsState}
use Rattle.schedule_laws.specs.Schedules.scheduled
use Rattle.schedule_laws.specs.Schedules.{Reply, Scheduled}
use Rattle.durable_schedule.specs.Runs.{AppliesEach, IsApart, IsOneOf, StandsApart, StandsBehind, invocation_named, is_seen_by, told_alone}

module _ (id : Text) where
  -- ---- one event more

  seen_own : (event : Event) (name : Option Text) → IsOneOf name event → is_seen_by id name ≡ true → (is_of id event || is_tick event) ≡ true
  seen_own event (Some other) is seen = rw (ap (is_text id) is ∙ seen) refl
  seen_own (Event.Tick now) None is seen = refl
  seen_own event None is seen = cc

  unseen_own : (event : Event) (name : Option Text) → IsOneOf name event → is_seen_by id name ≡ false → is_of id event ≡ false
  unseen_own event (Some other) is unseen = ap (is_text id) is ∙ unseen
  unseen_own event None is unseen = cc

  unseen_tick : (event : Event) (name : Option Text) → IsOneOf name event → is_seen_by id name ≡ false → is_tick event ≡ false
  unseen_tick event None is unseen = cc
  unseen_tick (Event.Tick now) (Some other) is unseen = cc
  unseen_tick event (Some other) is unseen = refl

  not_begun : (event : Event) → is_of id event ≡ false → begins id event ≡ false
  not_begun (Event.Invoke new) e = e
  not_begun event e = refl

  not_invoked : (event : Event) (name : Option Text) → IsOneOf name event → begins id event ≡ false → is_seen_by id name ≡ true → invoked_by event ≡ None
  not_invoked (Event.Invoke new) None is other seen = cc
  not_invoked (Event.Invoke new) (Some x) is other seen = absurd (true≢false (sym (ap (is_seen_by id) is ∙ seen) ∙ other))
  not_invoked event name is other seen = refl

  -- what is shown of the invocation is the same, its object's state at its start is, and it keeps its object's state in what is told alone
  record IsBeside (all alone : List Event) : Type 0 where
    view : view_of id all ≡ view_of id alone
    start : starting_state all id ≡ starting_state alone id
    state : KeepsState alone id

  module _ (stand : AllStandAlone) (keep : AllKeepState) (answer : AllAnswerAlone) where
    alike : (all alone : List Event) → IsAccepted all → IsBeside all alone → IsAlike all alone id
    alike all alone accepted it = (stand all id alone it.view it.start, answer all alone id (keep all id accepted) it.state it.view it.start)

    same_beside : (all : List Event) → IsAccepted all → IsBeside all all
    same_beside all accepted = record { view = refl; start = refl; state = keep all id accepted }

    one_more : (name : Option Text) (event : Event) (all alone : List Event) → IsOneOf name event → IsAccepted (event ∷ all) → IsBeside all alone
        → IsBeside (event ∷ all) (if begins id event then event ∷ all else (if is_seen_by id name then event ∷ alone else alone))
    one_more name event all alone is accepted it = by_cases (begins id event) refl (is_seen_by id name) refl
      where
        by_cases : (a : Bool) → begins id event ≡ a → (b : Bool) → is_seen_by id name ≡ b → IsBeside (event ∷ all) (if a then event ∷ all else (if b then event ∷ alone else alone))
        by_cases true e b f = same_beside (event ∷ all) accepted
        by_cases false e true f = record {
          view = ap (λ (view : List Event). if is_of id event || is_tick event then event ∷ view else view) it.view;
          start = rw e it.start;
          state = own_followed event alone id (not_invoked event name is e f) (seen_own event name is f) it.state;
        }
        by_cases false e false f = record { view = rw (unseen_own event name is f, unseen_tick event name is f) it.view; start = rw e it.start; state = it.state }

    -- ---- what one event of a schedule adds

    module _ (name : Option Text) where
      through : (added all alone : List Event) → AllByRecursion (IsOneOf name) added → IsAccepted (added ++ all) → IsBeside all alone
          → IsBeside (added ++ all) (told_alone id (is_seen_by id name) added all alone)
      through [] all alone own accepted it = it
      through (event ∷ added) all alone own accepted it =
          one_more name event (added ++ all) (told_alone id (is_seen_by id name) added all alone) own.0 accepted (through added all alone own.1 accepted.1 it)

      behind_each : (added all alone : List Event) → AllByRecursion (IsOneOf name) added → IsAccepted (added ++ all) → IsBeside all alone → StandsBehind id (is_seen_by id name) added all alone
      behind_each [] all alone own accepted it = alike all alone accepted it
      behind_each (event ∷ added) all alone own accepted it = (
        behind_each added all alone own.1 accepted.1 it,
        alike (event ∷ (added ++ all)) (told_alone id (is_seen_by id name) (event ∷ added) all alone) accepted (through (event ∷ added) all alone own accepted it),
      )

      told_none : is_seen_by id name ≡ false → (added all alone : List Event) → AllByRecursion (IsOneOf name) added → told_alone id (is_seen_by id name) added all alone ≡ alone
      told_none unseen [] all alone own = refl
      told_none unseen (event ∷ added) all alone own =
          rw (not_begun event (unseen_own event name own.0 unseen), unseen) (told_none unseen added all alone own.1)

    -- ---- a schedule

    module _ {H : Type 0} (function : H → Handler) (options : VMOptions) where
      apart_each : (events : List (scheduled.Event H)) (replies : List Reply) (added : List (List Event)) (old new : Scheduled H) → AppliesEach function options events replies added old new
          → (alone : List Event) → IsBeside old.standing.events alone → StandsApart id events added old.standing.events alone
      apart_each [] [] [] old new it alone beside = alike old.standing.events alone old.standing.accepted beside
      apart_each (one ∷ events) (answer ∷ replies) (some ∷ added) old new it alone beside =
          let name = invocation_named one in
          let all = old.standing.events in
          let accepted = subst (λ (es : List Event). IsAccepted es) it.2 it.0.standing.accepted in
          let told = told_alone id (is_seen_by id name) some all alone in (
            behind_each name some all alone it.3 accepted beside,
            subst (λ (es : List Event). StandsApart id events added es told) it.2
                (apart_each events replies added it.0 new it.4 told (subst (λ (es : List Event). IsBeside es told) (sym it.2) (through name some all alone it.3 accepted beside))),
          )
      apart_each [] [] (some ∷ added) old new it alone beside = absurd it
      apart_each [] (answer ∷ replies) added old new it alone beside = absurd it
      apart_each (one ∷ events) [] added old new it alone beside = absurd it
      apart_each (one ∷ events) (answer ∷ replies) [] old new it alone beside = absurd it

      untold_end : (events : List (scheduled.Event H)) (replies : List Reply) (added : List (List Event)) (old new : Scheduled H) → AppliesEach function options events replies added old new
          → AllByRecursion (IsApart id) events → (alone : List Event) → IsBeside old.standing.events alone → IsBeside new.standing.events alone
      untold_end [] [] [] old new it apart alone beside = subst (λ (s : Scheduled H). IsBeside s.standing.events alone) (sym it) beside
      untold_end (one ∷ events) (answer ∷ replies) (some ∷ added) old new it apart alone beside =
          let name = invocation_named one in
          let all = old.standing.events in
          let accepted = subst (λ (es : List Event). IsAccepted es) it.2 it.0.standing.accepted in
          untold_end events replies added it.0 new it.4 apart.1 alone
          (subst (λ (es : List Event). IsBeside es alone) (sym it.2)
          (subst (λ (told : List Event). IsBeside (some ++ all) told) (told_none name apart.0 some all alone it.3) (through name some all alone it.3 accepted beside)))
      untold_end [] [] (some ∷ added) old new it apart alone beside = absurd it
      untold_end [] (answer ∷ replies) added old new it apart alone beside = absurd it
      untold_end (one ∷ events) [] added old new it apart alone beside = absurd it
      untold_end (one ∷ events) (answer ∷ replies) [] old new it apart alone beside = absurd it

      -- the same stands of the invocation as if only its own events and the ticks had come
      pub stands_apart : (events : List (scheduled.Event H)) (replies : List Reply) (added : List (List Event)) (old new : Scheduled H) → AppliesEach function options events replies added old new
          → StandsApart id events added old.standing.events old.standing.events
      stands_apart events replies added old new it = apart_each events replies added old new it old.standing.events (same_beside old.standing.events old.standing.accepted)

      -- and where none of them come, as stood
      pub stands_still : (events : List (scheduled.Event H)) (replies : List Reply) (added : List (List Event)) (old new : Scheduled H) → AppliesEach function options events replies added old new
          → AllByRecursion (IsApart id) events → IsAlike new.standing.events old.standing.events id
      stands_still events replies added old new it apart =
          alike new.standing.events old.standing.events new.standing.accepted
          (untold_end events replies added old new it apart old.standing.events (same_beside old.standing.events old.standing.accepted))
