-- A schedule in terms of accepted events: what stands of each invocation, of all accepted events, and of what a crash leaves.
use Rattle.std.proofs.Common.{◌≡◌, refl, sym, ap, subst, ◌∙◌, inl, inr, Bool, true, false, ◌||◌, if◌then◌else◌, List, [], ◌∷◌, option_map, filter_map}
use Rattle.sqlite_trees.specs.declared.store.Store.{Ghosts}
use Rattle.sqlite_trees.specs.Tree.{Trees}
use Rattle.sqlite.specs.Held.{state}
use Rattle.sqlite.specs.State.{HasCleanDisk, Survives}
use Rattle.sqlite.proofs.StateLemmas.{survives_weaker}
use Rattle.journal_model.specs.Notification.{Bytes, Text}
use Rattle.journal_model.specs.Event.{Event, Frame}
use Rattle.journal_model.specs.Journal.{Entry, begins, is_of, is_tick, starting_state, view_of}
use Rattle.journal_model.specs.Run.{Handler}
use Rattle.journal_laws.proofs.Isolation.{frames_of-view}
use Rattle.vm_types.specs.declared.options.VMOptions.{VMOptions}
use Rattle.store_calls.specs.AbstractStore.{Standing}
use Rattle.store_model.specs.Progress.{last_error_of, error_in, first_item}
use Rattle.store_invocations.specs.JournalContent.{told_from}
use Rattle.store_invocations.specs.InvocationAnswers.{value_taken}
use Rattle.journal_store.specs.StoreView.{Stored}
use Rattle.journal_store.specs.StoreStanding.{Endures, IsStanding, KeepsStanding, Outlasts}
use Rattle.journal_store.proofs.Leading.{stood}
use Rattle.schedule_laws.specs.Isolation.{AllStandAlone}
use Rattle.schedule_laws.specs.Schedules.event
use Rattle.schedule_laws.specs.Schedules.reply
use Rattle.schedule_laws.specs.Schedules.refusal
use Rattle.schedule_laws.specs.Schedules.{Event as Asked, Reply, Scheduled, AppliesAll}
use Rattle.scheduler.specs.declared.scheduler.Scheduler.{Scheduler}
use Rattle.scheduler.specs.SchedulerCalls.{IsScheduled}
use Rattle.durable_schedule.specs.Runs.{EnduresUnwritten, LastsBehind, Leaves, LeavesFirst, at_first}
use Rattle.durable_schedule.specs.Front.{IsFaithful, IsToldAlike, KeepsFirst, KeepsWritten, RecordsFaithfully, StandsFor, without_others}
use Rattle.durable_schedule.specs.HandedBytes.{AreHandedBy, HandsEach, HandsOne, IsHandedBy}
use Rattle.durable_schedule.specs.MovedBytes.{AreMovedBy}
use Rattle.durable_schedule.proofs.Adding.{all_accepted}
use Rattle.durable_schedule.proofs.Moving.{one_moved}
use Rattle.durable_schedule.proofs.Written.{behind_more}

-- ---- what came of others

module _ (id : Text) where
  same_view : (events : List Event) → view_of id (without_others id events) ≡ view_of id events
  same_view [] = refl
  same_view (event ∷ earlier) = by_cases (begins id event) (is_of id event || is_tick event) refl (same_view earlier)
    where
      by_cases : (a b : Bool) → (is_of id event || is_tick event) ≡ b → view_of id (without_others id earlier) ≡ view_of id earlier
          → view_of id (if a then event ∷ earlier else (if b then event ∷ without_others id earlier else without_others id earlier)) ≡ view_of id (event ∷ earlier)
      by_cases true b e same = refl
      by_cases false true e same = rw e (ap (λ (view : List Event). event ∷ view) same)
      by_cases false false e same = rw e same

  same_start : (events : List Event) → starting_state (without_others id events) id ≡ starting_state events id
  same_start [] = refl
  same_start (event ∷ earlier) = by_cases (begins id event) refl (is_of id event || is_tick event) (same_start earlier)
    where
      by_cases : (a : Bool) → begins id event ≡ a → (b : Bool) → starting_state (without_others id earlier) id ≡ starting_state earlier id
          → starting_state (if a then event ∷ earlier else (if b then event ∷ without_others id earlier else without_others id earlier)) id ≡ starting_state (event ∷ earlier) id
      by_cases true e b same = refl
      by_cases false e true same = rw e same
      by_cases false e false same = rw e same

  error-view : (events : List Event) → last_error_of (view_of id events) id ≡ last_error_of events id
  error-view events = ap (λ (frames : List Frame). first_item (filter_map error_in frames)) (frames_of-view id events)

  pub told_alike : AllStandAlone → (events : List Event) → IsToldAlike id events (without_others id events)
  told_alike stand events =
      let others = without_others id events in
      let views = sym (same_view events) in
      let it = stand events id others views (sym (same_start events)) in
      record {
        entries = ap (λ (entries : List Entry). told_from entries 1 entries) it.entries;
        answer = ap (option_map value_taken) it.answer;
        failure = sym (error-view events) ∙ ap (λ (view : List Event). last_error_of view id) views ∙ error-view others;
        is_open = it.openness;
        is_due = it.dueness;
      }

-- ---- what is handed

module _ {H : Type 0} (function : H → Handler) (options : VMOptions) where
  one_handed : (one : Asked H) (answer : Reply) (bytes : Bytes) (old new : Scheduled H) → HandsOne function options one answer bytes old new → IsHandedBy one answer bytes
  one_handed (event.Begin id handler now) (reply.Begun number) bytes old new it = tt
  one_handed (event.Feed id number count) (reply.Fed fed why) bytes old new it = it.4
  one_handed one answer bytes old new it = it.1

  all_handed : (asked : List (Asked H)) (replies : List Reply) (added : List (List Event)) (handed moved : List Bytes) (old new : Scheduled H) → HandsEach function options asked replies added handed moved old new
      → AreHandedBy asked replies handed
  all_handed [] [] [] [] [] old new it = tt
  all_handed (one ∷ asked) (answer ∷ replies) (some ∷ added) (bytes ∷ handed) (gone ∷ moved) old new it =
      (one_handed one answer bytes old it.0 it.1, all_handed asked replies added handed moved it.0 new it.3)
  all_handed _ _ _ _ _ old new it = absurd it

  -- and what is moved
  all_moved : (asked : List (Asked H)) (replies : List Reply) (added : List (List Event)) (handed moved : List Bytes) (old new : Scheduled H) → HandsEach function options asked replies added handed moved old new
      → AreMovedBy asked replies moved
  all_moved [] [] [] [] [] old new it = tt
  all_moved (one ∷ asked) (answer ∷ replies) (some ∷ added) (bytes ∷ handed) (gone ∷ moved) old new it =
      (one_moved function options one answer bytes gone old it.0 it.1 it.4, all_moved asked replies added handed moved it.0 new it.3)
  all_moved _ _ _ _ _ old new it = absurd it

-- ---- a schedule

module _ {H : Type 0} (function : H → Handler) (options : VMOptions) (stand : AllStandAlone) where
  faithful : (asked : List (Asked H)) (replies : List Reply) (s : Standing) (new : Scheduled H) → Leaves function options asked replies (at_first s) new
      → IsFaithful function options s.events asked replies new.standing.events
  faithful asked replies s new leaves = record {
    accepted = new.standing.accepted;
    added = leaves.added;
    told = all_accepted function options asked replies leaves.added (at_first s) new leaves.each;
    handed = leaves.handed;
    hands = all_handed function options asked replies leaves.added leaves.handed leaves.moved (at_first s) new leaves.hands;
    fed = leaves.fed;
    moved = leaves.moved;
    moves = all_moved function options asked replies leaves.added leaves.handed leaves.moved (at_first s) new leaves.hands;
    taken = leaves.taken;
    turns = leaves.turns;
    in_run = λ next id in_line brings holds.
        let it = leaves.in_run next id in_line brings holds in
        record { holds = it.holds; headline = it.headline; closed = it.closed; listed = it.listed; never_late = it.never_late; wakes_exactly = it.wakes_exactly };
    isolated = λ id. told_alike id stand new.standing.events;
  }

  module _ {S : Type 0} (g : Ghosts S) (asked : List (Asked H)) (store : Stored S) (before : List Event) (stands : StandsFor g before store) where
    -- what is told of a schedule over any store, said of accepted events
    pub records : (replies : List Reply) (scheduler : Scheduler H S) → (HasCleanDisk (state g scheduler.store.connection) → (s : Standing) → IsStanding g s store
        → (new : Scheduled H) × IsScheduled g new scheduler × AppliesAll function options asked replies (at_first s) new × Leaves function options asked replies (at_first s) new
        × (LastsBehind (Outlasts s.events (state g store.connection)) asked replies → Outlasts new.standing.events (state g scheduler.store.connection)))
        → HasCleanDisk (state g scheduler.store.connection) → RecordsFaithfully g function options before asked replies scheduler
    records replies scheduler applies clean =
        let first = stood g before store stands in
        let it = applies clean first.0 first.1.standing in
        record {
          events = it.0.standing.events;
          readers = record { store = it.1.standing.stands; scheduled = it.0; is = it.1; same = refl };
          faithful = subst (λ (events : List Event). IsFaithful function options events asked replies it.0.standing.events) first.1.same (faithful asked replies first.0 it.0 it.3);
          lasts = λ written. it.4 (behind_more ⊥ (Outlasts first.0.events (state g store.connection)) (λ never. absurd never) asked replies written);
        }

    -- of what tables keep
    kept_first : (replies : List Reply) (trees : Trees) → KeepsStanding g (LeavesFirst function options asked replies) store trees → KeepsFirst function options before asked replies trees
    kept_first replies trees it =
        let first = stood g before store stands in
        let kept = it first.0 first.1.standing in
        let answered = kept.1.applied in
        let applied = answered.applies in
        record {
          first = applied.first;
          rest = applied.rest;
          first_are = applied.beginning;
          answers = applied.answers;
          answered = answered.answered;
          later = answered.later;
          replies_are = answered.replies_are;
          but_last = answered.but_last;
          unwritten = answered.unwritten;
          events = kept.0.events;
          faithful = subst (λ (events : List Event). IsFaithful function options events applied.first applied.answers kept.0.events) first.1.same
              (faithful applied.first applied.answers first.0 (record { standing = kept.0; held = applied.held }) kept.1.leaves);
          keeps = kept.2;
        }

    -- and of what a crash leaves of it
    pub keeps : (replies : List Reply) (new : Stored S) → Endures g (LeavesFirst function options asked replies) store new
        → Survives (state g store.connection) (state g new.connection) (KeepsFirst function options before asked replies)
    keeps replies new lives =
        survives_weaker (state g store.connection) (state g new.connection) (KeepsStanding g (LeavesFirst function options asked replies) store) (KeepsFirst function options before asked replies)
        (λ clean trees it. kept_first replies trees it) lives

    pub keeps_written : (replies : List Reply) (new : Stored S) → EnduresUnwritten g asked replies (LeavesFirst function options asked replies) store new → HasCleanDisk (state g new.connection) → (trees : Trees)
        → (state g new.connection).may_leave trees → KeepsWritten function options before asked replies (state g store.connection).may_leave trees
    keeps_written replies new left clean trees may = elim (left clean trees may) [ inl none ↦ inl none | inr it ↦ inr (kept_first replies trees it) ]
