-- Events of which nothing is written: what the tables keep, they keep with such an event too.
use Rattle.std.proofs.Common.{◌≡◌, refl, sym, ap, subst, Bool, true, false, ℕ, List, [], ◌∷◌, length, Option, Some, None}
use Rattle.sqlite_trees.specs.Tree.{Trees}
use Rattle.sqlite.specs.State.{State, HasCleanDisk}
use Rattle.journal_model.specs.Notification.{Bytes, Text}
use Rattle.journal_model.specs.Event.{Event}
use Rattle.journal_model.specs.Cause.{IsAccepted}
use Rattle.journal_model.specs.Journal.{object_of}
use Rattle.journal_model.specs.Run.{Handler}
use Rattle.journal_store.specs.StoreStanding.{KeepsAll}
use Rattle.journal_store.proofs.Quiet.{none_written}
use Rattle.journal_store.proofs.Standing.{landed}
use Rattle.store_calls.specs.AbstractStore.{Standing}
use Rattle.store_calls.specs.Calls.{Stops}
use Rattle.schedule_laws.specs.Attempts.{Attempt, RunOutcome}
use Rattle.schedule_laws.specs.Schedules.reply
use Rattle.schedule_laws.specs.Schedules.refusal
use Rattle.schedule_laws.specs.Schedules.{Reply, HeldAttempt, RepliesDone, IfHeld, UnlessMismatch, HandsOutEach, FeedsOne, ClosesOne, StopsOne, TurnsOne}
use Rattle.durable_schedule.proofs.Feeding.{stopped_events}

-- whatever tables keep of one, they keep of the other
abbrev pub KeepsAsWell : Standing → Standing → Type 0
KeepsAsWell s t = (trees : Trees) → KeepsAll s.events trees → KeepsAll t.events trees

pub same_kept : (s t : Standing) → t.events ≡ s.events → KeepsAsWell s t
same_kept s t same trees it = subst (λ (events : List Event). KeepsAll events trees) (sym same) it

-- nothing is asked of this database but that it is clean: it stands for any that has such tables
module _ (database : State) (clean : HasCleanDisk database) where
  abbrev over : Trees → State
  over trees = record database { now = record database.now { trees = trees }; is_open = true }

  module _ (s t : Standing) where
    behind : (event : Event) → t.events ≡ event ∷ s.events → (IsAccepted (event ∷ s.events) → (trees : Trees) → KeepsAll s.events trees → KeepsAll (event ∷ s.events) trees) → KeepsAsWell s t
    behind event more kept trees it =
        subst (λ (events : List Event). KeepsAll events trees) (sym more) (kept (subst (λ (events : List Event). IsAccepted events) more t.accepted) trees it)

    pub handed_kept : (id : Text) (n most : ℕ) → t.events ≡ Event.Feed id n most ∷ s.events → KeepsAsWell s t
    handed_kept id n most more = behind (Event.Feed id n most) more (λ accepted trees it.
        landed s.events (Event.Feed id n most) (over trees) [] trees
        (record { accepted = accepted.1; read = it.read; keeps = λ _ _. record { accepted = accepted.1; records = it.records; held = it.held; kept = it.kept } })
        tt clean accepted.0 (sym (none_written (object_of s.events (Event.Feed id n most)))) refl (λ r holds. holds))

    pub closed_kept : (id : Text) (n : ℕ) → t.events ≡ Event.Close id n ∷ s.events → KeepsAsWell s t
    closed_kept id n more = behind (Event.Close id n) more (λ accepted trees it.
        landed s.events (Event.Close id n) (over trees) [] trees
        (record { accepted = accepted.1; read = it.read; keeps = λ _ _. record { accepted = accepted.1; records = it.records; held = it.held; kept = it.kept } })
        tt clean accepted.0 (sym (none_written (object_of s.events (Event.Close id n)))) refl (λ r holds. holds))

    pub stopped_kept : (id : Text) (n : ℕ) → t.events ≡ Event.Stop id n ∷ s.events → KeepsAsWell s t
    stopped_kept id n more = behind (Event.Stop id n) more (λ accepted trees it.
        landed s.events (Event.Stop id n) (over trees) [] trees
        (record { accepted = accepted.1; read = it.read; keeps = λ _ _. record { accepted = accepted.1; records = it.records; held = it.held; kept = it.kept } })
        tt clean accepted.0 (sym (none_written (object_of s.events (Event.Stop id n)))) refl (λ r holds. holds))

  -- parts of an input that are handed out one after another
  parts_kept : (id : Text) (n count : ℕ) (parts : List Bytes) (s t : Standing) → HandsOutEach id n count parts s t → KeepsAsWell s t
  parts_kept id n count [] s t it = same_kept s t (ap (λ (m : Standing). m.events) it)
  parts_kept id n count (last ∷ earlier) s t it = λ trees kept. handed_kept it.0 t id n (length last) it.3.1.events trees (parts_kept id n count earlier s it.0 it.1 trees kept)

  -- ---- calls that commit nothing

  module _ (s t : Standing) where
    stop_kept : (id : Text) (n : ℕ) (answer : Reply) → RepliesDone (λ result. Stops id n result s t) answer → KeepsAsWell s t
    stop_kept id n reply.Done it = stopped_kept s t id n it.events
    stop_kept id n (reply.Refused (refusal.Store why)) it = same_kept s t it.stays.events
    stop_kept id n _ it = absurd it

    module _ {H : Type 0} where
      feed_kept : (count : ℕ) (one : HeldAttempt H) (answer : Reply) (changed : Attempt H) → FeedsOne count one s answer t changed → KeepsAsWell s t
      feed_kept count one (reply.Fed bytes why) changed it = λ trees kept.
          same_kept it.2.0 t (stopped_events one.invocation one.number count it.0 why it.2.0 t it.2.3) trees (parts_kept one.invocation one.number count it.0 s it.2.0 it.2.1 trees kept)
      feed_kept count one (reply.Refused (refusal.Store why)) changed it = same_kept s t it.0.stays.events
      feed_kept count one _ changed it = absurd it

      close_kept : (one : HeldAttempt H) (answer : Reply) (changed : Attempt H) → ClosesOne one s answer t changed → KeepsAsWell s t
      close_kept one reply.Done changed it = closed_kept s t one.invocation one.number it.0.events
      close_kept one (reply.Refused (refusal.Store why)) changed it = same_kept s t it.0.stays.events
      close_kept one _ changed it = absurd it

      turn_kept : (function : H → Handler) (outcome : RunOutcome) (one : HeldAttempt H) (answer : Reply) (changed : Attempt H) → TurnsOne function outcome one s answer t changed → KeepsAsWell s t
      turn_kept function outcome one (reply.Turned turn) changed it = same_kept s t it.1.events
      turn_kept function outcome one _ changed it = absurd it

      module _ (found : Option (HeldAttempt H)) (held more : List (HeldAttempt H)) (answer : Reply) where
        if_held : (Change : HeldAttempt H → Standing → Reply → Standing → Attempt H → Type 0) → ((one : HeldAttempt H) (changed : Attempt H) → Change one s answer t changed → KeepsAsWell s t)
            → IfHeld Change found s held answer t more → KeepsAsWell s t
        if_held Change each = by_found found
          where
            by_found : (o : Option (HeldAttempt H)) → IfHeld Change o s held answer t more → KeepsAsWell s t
            by_found None it = same_kept s t it.1.events
            by_found (Some one) it = each one it.0 it.1

        pub fed_kept : (count : ℕ) → IfHeld (FeedsOne count) found s held answer t more → KeepsAsWell s t
        fed_kept count = if_held (FeedsOne count) (λ one. feed_kept count one answer)

        pub shut_kept : IfHeld ClosesOne found s held answer t more → KeepsAsWell s t
        shut_kept = if_held ClosesOne (λ one. close_kept one answer)

        pub ended_kept : IfHeld StopsOne found s held answer t more → KeepsAsWell s t
        ended_kept = if_held StopsOne (λ one changed it. stop_kept one.invocation one.number answer it.0)

        -- one that is refused at once too
        pub turned_kept : (function : H → Handler) (outcome : RunOutcome) (is_mismatch : Bool) → UnlessMismatch is_mismatch (TurnsOne function outcome) found s held answer t more → KeepsAsWell s t
        turned_kept function outcome true it = same_kept s t it.1.events
        turned_kept function outcome false it = if_held (TurnsOne function outcome) (λ one. turn_kept function outcome one answer) it
