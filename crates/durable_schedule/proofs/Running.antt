-- What is applied in a row, what that leaves of each invocation, when it lasts, and where a crash comes into it.
use Rattle.std.proofs.Common.{refl, sym, ap, subst, ◌∙◌, ◌++◌, append_assoc, append-nil, List, [], ◌∷◌, None, inl, inr}
use Rattle.std.specs.List.{AllByRecursion}
use Rattle.sqlite_trees.specs.declared.store.Store.{Ghosts}
use Rattle.sqlite.specs.Held.{state}
use Rattle.sqlite.specs.State.{HasCleanDisk}
use Rattle.sqlite.proofs.StateLemmas.{survives_weaker}
use Rattle.journal_model.specs.Notification.{Text}
use Rattle.journal_model.specs.Run.{Handler}
use Rattle.vm_types.specs.declared.options.VMOptions.{VMOptions}
use Rattle.journal_store.specs.StoreView.{Stored}
use Rattle.journal_store.specs.StoreStanding.{IsStanding, KeepsStanding, Endures, Outlasts}
use Rattle.store_calls.specs.AbstractStore.{Standing}
use Rattle.schedule_laws.proofs.Schedules.{schedules_grow}
use Rattle.schedule_laws.specs.Isolation.{AllAnswerAlone, AllKeepState, AllStandAlone}
use Rattle.schedule_laws.specs.Laws.{FramesAreTaken, HoldsClosed, HoldsHeadline, HoldsNeverLate, HoldsTold, HoldsWakesExactly, LeavesHolds, ToldByEach}
use Rattle.schedule_laws.specs.Schedules.{Event, Reply, HeldAttempt, Scheduled, AppliesAll, Brings, FitsEvent}
use Rattle.schedule_laws.specs.InvocationInRun.{HoldsOf, ReplaysInLine}
use Rattle.scheduler.specs.declared.scheduler.Scheduler.{Scheduler}
use Rattle.scheduler.specs.SchedulerCalls.{IsScheduled, AppliesWith}
use Rattle.due_laws.proofs.DueList.{due_tells}
use Rattle.durable_schedule.specs.Runs.{AppliesAnswered, AppliesFirst, EnduresUnwritten, LastsBehind, Leaves, LeavesFirst, StandsInRun, at_first}
use Rattle.journal_store.proofs.Enduring.{endures_on}
use Rattle.durable_schedule.proofs.Apart.{stands_apart, stands_still}
use Rattle.durable_schedule.proofs.Growing.{all_add, each_grow}
use Rattle.durable_schedule.proofs.Handing.{all_hand, each_handed}
use Rattle.durable_schedule.proofs.Moving.{each_taken}
use Rattle.durable_schedule.proofs.Telling.{begins_tell}

pub each_more : {A : Type 0} (P : A → Type 0) (xs : List A) (x : A) → AllByRecursion P xs → P x → AllByRecursion P (xs ++ x ∷ [])
each_more P [] x all one = (one, tt)
each_more P (y ∷ ys) x all one = (all.0, each_more P ys x all.1 one)

first_all : {A : Type 0} (P : A → Type 0) (xs ys : List A) → AllByRecursion P (xs ++ ys) → AllByRecursion P xs
first_all P [] ys all = tt
first_all P (x ∷ xs) ys all = (all.0, first_all P xs ys all.1)

module _ {H : Type 0} (function : H → Handler) (options : VMOptions) where
  -- what is applied to a store, by a scheduler that held nothing at first, and when all of that lasts
  abbrev pub LeadsFirst : {S : Type 0} → Ghosts S → List (Event H) → List Reply → Stored S → Scheduler H S → Type 0
  LeadsFirst g events replies first new =
      HasCleanDisk (state g new.store.connection) → (s : Standing) → IsStanding g s first
      → (to : Scheduled H) × IsScheduled g to new × AppliesAll function options events replies (at_first s) to
      × (LastsBehind (Outlasts s.events (state g first.connection)) events replies → Outlasts to.standing.events (state g new.store.connection))

  -- what the laws of schedules give of all that is applied
  module _ (leaves : LeavesHolds function) (headline : HoldsHeadline) (closed : HoldsClosed) (late : HoldsNeverLate) (exact : HoldsWakesExactly) (taken : FramesAreTaken function)
      (stand : AllStandAlone) (keep : AllKeepState) (answer : AllAnswerAlone) (first_told : HoldsTold function) (each_told : ToldByEach function) where
    leaves_in_run : (events : List (Event H)) (replies : List Reply) (s : Standing) (new : Scheduled H) → AllByRecursion FitsEvent events → AppliesAll function options events replies (at_first s) new
        → (next : Handler) (id : Text) → ReplaysInLine options → AllByRecursion (Brings function id next) events → HoldsOf next options id s.events → StandsInRun next options id events replies new.standing.events
    leaves_in_run events replies s new fits applies next id in_line brings before =
        let holds = leaves options events replies (at_first s) new refl applies fits next id in_line brings before in
        record {
          holds = holds;
          headline = headline next options id new.standing.events new.standing.accepted holds;
          closed = λ begun is. closed next options id new.standing.events begun is holds;
          listed = due_tells new.standing.events id;
          never_late = λ begun is. late next options id new.standing.events begun is holds;
          wakes_exactly = λ begun is. exact next options id new.standing.events begun is holds;
          frames = taken options events replies (at_first s) new refl applies fits next id in_line brings before;
        }

    pub all_left : (events : List (Event H)) (replies : List Reply) (s : Standing) (new : Scheduled H) → AllByRecursion FitsEvent events → AppliesAll function options events replies (at_first s) new
        → Leaves function options events replies (at_first s) new
    all_left events replies s new fits applies =
        let each = all_add function options events replies (at_first s) new applies in
        let grown = each_grow function options events replies each.0 (at_first s) new each.1 in
        let hand = all_hand function options events replies each.0 (at_first s) new each.1 in
        record {
          more = grown.0;
          grows = grown.1;
          in_run = leaves_in_run events replies s new fits applies;
          added = each.0;
          each = each.1;
          isolated = λ id. stands_apart id stand keep answer function options events replies each.0 (at_first s) new each.1;
          untouched = λ id apart. stands_still id stand keep answer function options events replies each.0 (at_first s) new each.1 apart;
          handed = hand.0;
          moved = hand.1;
          hands = hand.2;
          fed = λ id number. each_handed id number function options events replies each.0 hand.0 hand.1 (at_first s) new [] hand.2 (inl (refl, refl));
          taken = λ id number. each_taken id number function options events replies each.0 hand.0 hand.1 (at_first s) new [] hand.2 (inl (refl, refl));
          turns = λ next id in_line brings before.
              begins_tell function options next id each_told in_line events replies each.0 hand.0 hand.1 (at_first s) new (λ number. None) hand.2 fits brings (first_told next options id s before);
        }

    -- and of the first of the events
    first_left : (events : List (Event H)) (replies : List Reply) → AllByRecursion FitsEvent events → (s t : Standing) → AppliesAnswered function options events replies s t
        → LeavesFirst function options events replies s t
    first_left events replies fits s t it =
        let first = it.applies in
        record {
          applied = it;
          leaves = all_left first.first first.answers s (record { standing = t; held = first.held })
              (first_all FitsEvent first.first first.rest (subst (λ (es : List (Event H)). AllByRecursion FitsEvent es) first.beginning fits)) first.applies;
        }

    -- so it is of what a crash leaves
    pub all_kept : {S : Type 0} (g : Ghosts S) (events : List (Event H)) (replies : List Reply) → AllByRecursion FitsEvent events → (old new : Stored S)
        → Endures g (AppliesAnswered function options events replies) old new → Endures g (LeavesFirst function options events replies) old new
    all_kept g events replies fits old new lives =
        survives_weaker (state g old.connection) (state g new.connection) (KeepsStanding g (AppliesAnswered function options events replies) old) (KeepsStanding g (LeavesFirst function options events replies) old)
        (λ clean db it s is. let kept = it s is in (kept.0, first_left events replies fits s kept.0 kept.1, kept.2)) lives

    pub all_written : {S : Type 0} (g : Ghosts S) (events : List (Event H)) (replies : List Reply) → AllByRecursion FitsEvent events → (old new : Stored S)
        → EnduresUnwritten g events replies (AppliesAnswered function options events replies) old new → EnduresUnwritten g events replies (LeavesFirst function options events replies) old new
    all_written g events replies fits old new left clean trees may = elim (left clean trees may) [
      | inl none ↦ inl none
      | inr it ↦ inr (λ s is. let kept = it s is in (kept.0, first_left events replies fits s kept.0 kept.1, kept.2))
    ]

  -- fewer events are the first of more
  unfoldable pub first_of_more : (events : List (Event H)) (one : Event H) (s t : Standing) → AppliesFirst function options events s t → AppliesFirst function options (events ++ one ∷ []) s t
  first_of_more events one s t it = record {
    first = it.first;
    rest = it.rest ++ one ∷ [];
    beginning = ap (λ (es : List (Event H)). es ++ one ∷ []) it.beginning ∙ append_assoc it.first it.rest (one ∷ []);
    answers = it.answers;
    held = it.held;
    applies = it.applies;
  }

  -- all of them are
  unfoldable pub all_first : (events : List (Event H)) (replies : List Reply) (held : List (HeldAttempt H)) (s t : Standing) → AppliesAll function options events replies (at_first s) (record { standing = t; held = held })
      → AppliesFirst function options events s t
  all_first events replies held s t applies = record { first = events; rest = []; beginning = sym (append-nil events); answers = replies; held = held; applies = applies }

  module _ {S : Type 0} (g : Ghosts S) where
    -- where a crash comes when one more event is applied
    pub one_endures : (events : List (Event H)) (replies : List Reply) (one : Event H) (first : Stored S) (old new : Scheduler H S) → LeadsFirst g events replies first old
        → Endures g (AppliesFirst function options events) first old.store → Endures g (AppliesWith function options one old.held) old.store new.store
        → Endures g (AppliesFirst function options (events ++ one ∷ [])) first new.store
    one_endures events replies one first old new leads before second =
        endures_on g (AppliesFirst function options events) (λ s m. AppliesAll function options events replies (at_first s) (record { standing = m; held = old.held }))
        (AppliesWith function options one old.held) (AppliesFirst function options (events ++ one ∷ [])) first old.store new.store (first_of_more events one)
        (λ s m t applies more.
        all_first (events ++ one ∷ []) (replies ++ more.0 ∷ []) more.1 s t
        (schedules_grow function options events replies (at_first s) (record { standing = m; held = old.held }) (record { standing = t; held = more.1 }) one more.0 applies more.2))
        before
        (λ clean s is.
        let it = leads clean s is in
        (it.0.standing, it.1.standing, subst (λ (held : List (HeldAttempt H)). AppliesAll function options events replies (at_first s) (record { standing = it.0.standing; held = held })) it.1.held it.2))
        second
