-- The rows of the arrivals of an invocation are heard as these arrivals.
use Rattle.std.proofs.Common.{◌≡◌, ◌<◌, ◌^◌, ℕ, ◌+◌, Bool, true, false, if◌then◌else◌, arith, List, [], ◌∷◌, ◌++◌, map, filter, drop, length, Option, IsTrue, refl, sym, ap, subst, ◌∙◌}
use Rattle.std.specs.List.{AllByRecursion}
use Rattle.sqlite.specs.State.{State}
use Rattle.journal_model.specs.Notification.{Text, Arrival}
use Rattle.journal_model.specs.declared.notification.NotificationId.{NotificationId}
use Rattle.journal_model.specs.declared.notification.NotificationId.TheVariants.{CompletionId, SignalId, SignalName}
use Rattle.journal_model.specs.declared.notification.NotificationResult.{NotificationResult}
use Rattle.journal_model.specs.State.{StateMap, state_after}
use Rattle.journal_model.specs.Request.{Request}
use Rattle.journal_model.specs.declared.notification.SignalKey.{SignalKey}
use Rattle.journal_model.specs.Event.{Frame, Event}
use Rattle.journal_model.specs.Journal.{Entry, Recorded, Arrived, adds_to, arrivals_in, completion, entries_added, entries_from, entries_of, entries_of_event, id_of_signal, is_sleep_over, read_answer, recorded_arrivals, requests_in, slept, sleeps_in, sorted_by_moment, starting_state}
use Rattle.store_frames.specs.ReadFrames.{AreRead, IsReadIn, SignalKeyFits}
use Rattle.store_tables.specs.Questions.{AreArrivals, AreNoArrivals, AreCounted, is_arrival_after}
use Rattle.store_tables.specs.declared.row.EntryRow.{EntryRow}
use Rattle.store_model.specs.KeptRecords.{answered_by, entry_row}
use Rattle.store_model.specs.Lookups.{arrival_rows, rows_of_arrivals}
use Rattle.store_model.proofs.Ordinals.{arrivals_found}
use Rattle.sql_tables.specs.declared.read.ReadError.{ReadError}
use Rattle.sql_tables.specs.declared.read.ReadError.TheVariants as reading
use Rattle.store_refusals.specs.Preparations.{Keeps}
use Rattle.store_refusals.specs.RefusalConditions.{is_circumstance, reading_refusal}
use Rattle.store_frames.specs.KeptArrivals.{SignalFits, completion_in}
use Rattle.store_arrivals.specs.ArrivalRows.{AreRowsOf, IsHeardAs}
use Rattle.store_arrivals.proofs.Hearing.{those_behind}

-- ---- the numbers of signals fit

abbrev ArrivalFits : Arrival → Type 0
ArrivalFits arrival = SignalFits arrival.id

abbrev EntryFits : Entry → Type 0
EntryFits (Recorded request) = Unit {0}
EntryFits (Arrived arrival) = ArrivalFits arrival

abbrev EntriesFit : List Entry → Type 0
EntriesFit entries = AllByRecursion EntryFits entries

both_fit : (xs ys : List Entry) → EntriesFit xs → EntriesFit ys → EntriesFit (xs ++ ys)
both_fit [] ys first later = later
both_fit (x ∷ xs) ys first later = (first.0, both_fit xs ys first.1 later)

signal_fits : (key : SignalKey) → SignalKeyFits key → SignalFits (id_of_signal key)
signal_fits (SignalKey.ByIndex n) h = h
signal_fits (SignalKey.ByName name) h = tt

ends_fit : (sleeps : List (ℕ × ℕ)) → EntriesFit (map Arrived (map (λ (sleep : ℕ × ℕ). completion sleep.1 NotificationResult.Void) sleeps))
ends_fit [] = tt
ends_fit (sleep ∷ sleeps) = (tt, ends_fit sleeps)

answer_fits : (state : StateMap) (request : Request) → EntriesFit (map Arrived (read_answer state request))
answer_fits state (Request.GetLazyState key n name) = (tt, tt)
answer_fits state (Request.GetLazyStateKeys n name) = (tt, tt)
answer_fits state _ = tt

event_fits : (earlier : List Event) (start : StateMap) (entries : List Entry) (event : Event) → IsReadIn earlier event → EntriesFit (entries_of_event start entries event)
event_fits earlier start entries (Event.Result id n result) read = (tt, tt)
event_fits earlier start entries (Event.Signal id key result) read = (signal_fits key read, tt)
event_fits earlier start entries (Event.Cancel id) read = (omega arith, tt)
event_fits earlier start entries (Event.Tick now) read = ends_fit (filter (is_sleep_over entries now) (sorted_by_moment (sleeps_in (requests_in entries))))
event_fits earlier start entries (Event.Move id attempt (Frame.Command request)) read = (tt, answer_fits (state_after (requests_in entries) start) request)
event_fits earlier start entries (Event.Move id attempt (Frame.RunOutcome n value is_acknowledged)) read = (tt, tt)
event_fits earlier start entries (Event.Move id attempt _) read = tt
event_fits earlier start entries _ read = tt

added_fit : (start : StateMap) (earlier : List Event) (id : Text) (event : Event) (entries : List Entry) → IsReadIn earlier event → EntriesFit (entries_added start earlier id event entries)
added_fit start earlier id event entries read = by_test (adds_to earlier id event)
  where
    by_test : (b : Bool) → EntriesFit (if b then entries_of_event start entries event else [])
    by_test true = event_fits earlier start entries event read
    by_test false = tt

entries_fit : (start : StateMap) (events : List Event) (id : Text) → AreRead events → EntriesFit (entries_from start events id)
entries_fit start [] id read = tt
entries_fit start (event ∷ earlier) id read =
    both_fit (entries_from start earlier id) (entries_added start earlier id event (entries_from start earlier id)) (entries_fit start earlier id read.1)
    (added_fit start earlier id event (entries_from start earlier id) read.0)

-- ---- the rows

answered_is : (id : NotificationId) → answered_by id ≡ completion_in id
answered_is (CompletionId n) = refl
answered_is (SignalId n) = refl
answered_is (SignalName name) = refl

rows_told : (id : Text) (before : List Entry) (place : ℕ) (entries : List Entry) → EntriesFit entries → AreRowsOf (arrivals_in entries) (rows_of_arrivals id before place entries)
rows_told id before place [] fit = tt
rows_told id before place (Recorded request ∷ entries) fit = rows_told id (before ++ Recorded request ∷ []) (place + 1) entries fit.1
rows_told id before place (Arrived arrival ∷ entries) fit =
    (record { answered = answered_is arrival.id; payload = refl; fits = fit.0 }, rows_told id (before ++ Arrived arrival ∷ []) (place + 1) entries fit.1)

pub rows_heard : (events : List Event) (id : Text) (k : ℕ) → AreRead events → AreRowsOf (drop k (recorded_arrivals events id)) (drop k (arrival_rows events id))
rows_heard events id k read = those_behind k (recorded_arrivals events id) (arrival_rows events id) (rows_told id [] 1 (entries_of events id) (entries_fit (starting_state events id) events id read))

-- ---- as they are found

module _ (events : List Event) (s : State) (id : Text) (k : ℕ) (keeps : Keeps events s) where
  behind : filter (is_arrival_after id k) keeps.records.entries ≡ drop k (arrival_rows events id)
  behind = (arrivals_found events keeps.records id keeps.accepted keeps.kept).behind k

  counted : AreCounted (k + 1) (filter (is_arrival_after id k) keeps.records.entries)
  counted = subst (AreCounted (k + 1)) (sym behind) ((arrivals_found events keeps.records id keeps.accepted keeps.kept).counted k)

  pub rows_found : (rows : List EntryRow) → AreArrivals id k s.now.trees rows → rows ≡ drop k (arrival_rows events id)
  rows_found rows are = are keeps.records keeps.held counted ∙ behind

  pub none_foreign : AreNoArrivals id k s.now.trees → ⊥
  none_foreign none = none keeps.records keeps.held counted

pub foreign_never : (events : List Event) (s : State) (id : Text) (k : ℕ) (e : ReadError) → (e ≡ reading.Foreign → IsTrue s.is_open) → (e ≡ reading.Foreign → AreNoArrivals id k s.now.trees)
    → (IsTrue s.is_open → Keeps events s) → IsTrue (is_circumstance (reading_refusal e))
foreign_never events s id k (reading.Refused cause) is_open none keeps = refl
foreign_never events s id k reading.OutOfMemory is_open none keeps = refl
foreign_never events s id k reading.Foreign is_open none keeps = absurd (none_foreign events s id k (keeps (is_open refl)) (none refl))
