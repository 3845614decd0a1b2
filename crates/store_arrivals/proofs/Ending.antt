-- The groups of the rows that are due are the invocations of which a tick ends sleeps, and what is made of one is what the tick adds.
use Rattle.std.proofs.Common.{ℕ, ◌+◌, ◌==◌, ◌≡◌, refl, sym, ap, ap₂, subst, ◌∙◌, true≢false, Bool, true, false, ◌||◌, ◌&&◌, not, if◌then◌else◌, List, [], ◌∷◌, ◌++◌, append-nil, append_assoc, length, map, filter, Option, Some, None, bytes_eq}
use Rattle.std.specs.List.{AllByRecursion, list_any, find}
use Rattle.sqlite_keyed.specs.Lists.{sort_by}
use Rattle.sqlite_keyed.proofs.ListLemmas.{all_weaker, all-filter, filter-map}
use Rattle.journal_model.specs.Notification.{Text, Arrival}
use Rattle.journal_model.specs.declared.notification.NotificationId.TheVariants.{CompletionId}
use Rattle.journal_model.specs.Request.{Request}
use Rattle.journal_model.specs.Event.{Event}
use Rattle.journal_model.specs.Journal.{Entry, Recorded, Arrived, asks_for, is_open, requests_in, request_asking, sleeps_in, sorted_by_moment, is_sleep_over, slept, entries_of, arrivals_in, recorded_arrivals}
use Rattle.journal_model.specs.Attempt.{notification_type, type_of_completion}
use Rattle.journal_model.specs.Cause.{IsAccepted, is_empty}
use Rattle.journal_laws.proofs.ObjectState.{requests_in-append}
use Rattle.protocol_types.specs.declared.message_type.MessageType.{MessageType}
use Rattle.protocol_types.specs.declared.message_type.MessageType.TheVariants.{SleepCompletionNotification}
use Rattle.store_tables.specs.Records.{Records, is_sleep_of}
use Rattle.store_tables.specs.Orders.{sleep_cmp}
use Rattle.store_tables.specs.declared.row.EntryRow.{EntryRow}
use Rattle.store_tables.specs.declared.row.SleepRow.{SleepRow}
use Rattle.store_model.specs.Sleeps.{sleep_row}
use Rattle.store_model.specs.KeptRecords.{entry_row, rows_from, IsKept}
use Rattle.store_model.proofs.Following.{arrived_more}
use Rattle.store_model.specs.Writes.{AreEnding, ends_sleep, rows_added}
use Rattle.store_model.specs.Lookups.{due_sleeps, ended_sleeps}
use Rattle.store_model.proofs.Asking.{ascends}
use Rattle.store_model.proofs.DueSleeps.{all_sorted, ended_found, sleep_cmp_total}
use Rattle.store_model.proofs.Opening.{any-filter, is_some_of}
use Rattle.store_model.proofs.AwaitedSleeps.{asked_asleep, is_sleep}
use Rattle.store_model.proofs.OpenSleeps.{all_alone}
use Rattle.store_model.proofs.Sleeping.{answer_of_sleep, ends_at}
use Rattle.store_model.proofs.Sorting.{sorted_rises}
use Rattle.store_arrivals.specs.Groups.{AllEndingGrouped, AllRowsEnded, Group, group_of, those_ended}
use Rattle.store_arrivals.specs.SleepEnds.{end_row, end_rows}
use Rattle.store_arrivals.proofs.SideBySide.{are_grouped}

-- ---- which invocations

abbrev pub id_of : Group → Text
id_of group = group.0

module _ (events : List Event) (now : ℕ) (r : Records) (accepted : IsAccepted events) (kept : IsKept events r) where
  pub found : (id : Text) → filter (λ (group : Group). bytes_eq group.0 id) (those_ended now r) ≡ group_of id (map (sleep_row id) (ended_sleeps events now id))
  found id =
      are_grouped (sort_by sleep_cmp (due_sleeps now r)) (sorted_rises sleep_cmp sleep_cmp_total (due_sleeps now r) (ended_found events now r accepted kept).apart) id
      ∙ ap (group_of id) ((ended_found events now r accepted kept).ended id)

  by_open : (id : Text) (o : Bool) (sleeps : List (ℕ × ℕ))
      → map id_of (group_of id (map (sleep_row id) (if o then sleeps else []))) ≡ (if o && not (is_empty (map answer_of_sleep sleeps)) then id ∷ [] else [])
  by_open id true [] = refl
  by_open id true (sleep ∷ sleeps) = refl
  by_open id false sleeps = refl

  ending : AreEnding events now (map id_of (those_ended now r))
  ending id =
      filter-map (λ x. bytes_eq x id) id_of (those_ended now r)
      ∙ ap (map id_of) (found id)
      ∙ by_open id (is_open events id) (filter (is_sleep_over (entries_of events id) now) (sorted_by_moment (sleeps_in (requests_in (entries_of events id)))))

pub all_ending : AllEndingGrouped
all_ending = ending

-- ---- what is added to one

type_asleep : (o : Option Request) (n : ℕ) → is_sleep o ≡ true → type_of_completion o n ≡ SleepCompletionNotification
type_asleep None n e = cc
type_asleep (Some (Request.Sleep moment k name)) n e = refl
type_asleep (Some _) n e = cc

-- the type of a sleep's end, also behind arrivals
type_of_end : (entries more : List Entry) (n : ℕ) → requests_in more ≡ [] → is_sleep (request_asking entries n) ≡ true
    → notification_type (entries ++ more) (CompletionId n) ≡ SleepCompletionNotification
type_of_end entries more n nothing e =
    ap (λ (requests : List Request). type_of_completion (find (asks_for n) requests) n)
    (requests_in-append entries more ∙ ap (λ (rest : List Request). requests_in entries ++ rest) nothing ∙ append-nil (requests_in entries))
    ∙ type_asleep (request_asking entries n) n e

one_arrived : (more : List Entry) (arrival : Arrival) → requests_in more ≡ [] → requests_in (more ++ Arrived arrival ∷ []) ≡ []
one_arrived more arrival e = requests_in-append more (Arrived arrival ∷ []) ∙ append-nil (requests_in more) ∙ e

one_counted : (before : List Entry) (arrival : Arrival) (known : ℕ) → length (arrivals_in before) ≡ known → length (arrivals_in (before ++ Arrived arrival ∷ [])) ≡ known + 1
one_counted before arrival known e = arrived_more before (Arrived arrival ∷ []) ∙ ap (λ (n : ℕ). n + 1) e

rows_ended : (id : Text) (before more : List Entry) (place known : ℕ) (sleeps : List (ℕ × ℕ)) → requests_in more ≡ [] → length (arrivals_in (before ++ more)) ≡ known
    → AllByRecursion (λ (sleep : ℕ × ℕ). is_sleep (request_asking before sleep.1) ≡ true) sleeps
    → rows_from id (before ++ more) place (map Arrived (map answer_of_sleep sleeps)) ≡ end_rows id place known (map (λ (sleep : ℕ × ℕ). sleep.1) sleeps)
rows_ended id before more place known [] nothing count asleep = refl
rows_ended id before more place known (sleep ∷ sleeps) nothing count asleep =
    ap₂ (λ (kind : MessageType) (rows : List EntryRow). record (end_row id place (length (arrivals_in (before ++ more))) sleep.1) { kind = kind } ∷ rows)
    (type_of_end before more sleep.1 nothing asleep.0)
    (ap (λ (all : List Entry). rows_from id all (place + 1) (map Arrived (map answer_of_sleep sleeps))) (append_assoc before more (Arrived (answer_of_sleep sleep) ∷ []))
    ∙ rows_ended id before (more ++ Arrived (answer_of_sleep sleep) ∷ []) (place + 1) (known + 1) sleeps (one_arrived more (answer_of_sleep sleep) nothing)
    (ap (λ (all : List Entry). length (arrivals_in all)) (sym (append_assoc before more (Arrived (answer_of_sleep sleep) ∷ []))) ∙ one_counted (before ++ more) (answer_of_sleep sleep) known count)
    asleep.1)
    ∙ ap (λ (n : ℕ). end_row id place n sleep.1 ∷ end_rows id (place + 1) (known + 1) (map (λ (one : ℕ × ℕ). one.1) sleeps)) count

-- each sleep is asked for by a sleep
all_asleep : (events : List Event) (id : Text) → IsAccepted events
    → AllByRecursion (λ (sleep : ℕ × ℕ). is_sleep (request_asking (entries_of events id) sleep.1) ≡ true) (sleeps_in (requests_in (entries_of events id)))
all_asleep events id accepted =
    let sleeps = sleeps_in (requests_in (entries_of events id)) in
    all_weaker (λ (sleep : ℕ × ℕ). filter (ends_at sleep.1) sleeps ≡ sleep ∷ []) (λ (sleep : ℕ × ℕ). is_sleep (request_asking (entries_of events id) sleep.1) ≡ true)
    (λ sleep alone. asked_asleep sleep.1 0 (requests_in (entries_of events id)) (ascends id events accepted) (any-filter (ends_at sleep.1) sleeps ∙ ap is_some_of alone)) sleeps (all_alone events id accepted)

-- what a tick adds to an open invocation, of the sleeps that it ends of it
pub rows_of_tick : AllRowsEnded
rows_of_tick events now id accepted opened =
    let ended = filter (is_sleep_over (entries_of events id) now) (sorted_by_moment (sleeps_in (requests_in (entries_of events id)))) in
    ap (λ (all : List Entry). rows_from id all (1 + length (entries_of events id)) (map Arrived (slept (entries_of events id) now))) (sym (append-nil (entries_of events id)))
    ∙ rows_ended id (entries_of events id) [] (1 + length (entries_of events id)) (length (recorded_arrivals events id)) ended refl
    (ap (λ (all : List Entry). length (arrivals_in all)) (append-nil (entries_of events id)))
    (all-filter (λ (sleep : ℕ × ℕ). is_sleep (request_asking (entries_of events id) sleep.1) ≡ true) (is_sleep_over (entries_of events id) now) (sorted_by_moment (sleeps_in (requests_in (entries_of events id))))
    (all_sorted (λ (sleep : ℕ × ℕ). is_sleep (request_asking (entries_of events id) sleep.1) ≡ true) (sleeps_in (requests_in (entries_of events id))) (all_asleep events id accepted)))
    ∙ ap (λ (b : Bool). end_rows id (1 + length (entries_of events id)) (length (recorded_arrivals events id)) (map (λ (sleep : ℕ × ℕ). sleep.1) (if b then ended else []))) (sym opened)
