-- What is written of an event adds no invocation but one that is new.
use Rattle.std.proofs.Common.{◌≡◌, ◌∙◌, ◌++◌, ◌≤◌, ℕ, inl, inr, Bool, true, false, List, [], ◌∷◌, length, map, flat_map, Option, None, Some, is_some, if◌then◌else◌, option_map, option_to_list, true≢false, refl, sym, subst, arith}
use Rattle.std.specs.List.{AllByRecursion}
use Rattle.journal_model.specs.Notification.{Bytes, Text}
use Rattle.journal_model.specs.Request.{Request}
use Rattle.journal_model.specs.Event.{Event, Frame}
use Rattle.journal_model.specs.State.{value_of_key}
use Rattle.journal_model.specs.Journal.{closes, invocation_begun, object_state, version_of}
use Rattle.journal_model.specs.Cause.{IsAccepted}
use Rattle.sqlite_keyed.proofs.ListLemmas.{all-append}
use Rattle.store_tables.specs.Records.{Records, applied}
use Rattle.store_tables.specs.declared.row.Write.{Write}
use Rattle.store_tables.specs.declared.row.Write.TheVariants.{AddInvocation, AddEntry, CloseSleeps, CloseSleepsUntil, DropEntries, DropInvocation, DropState, DropStates, OpenSleep, PutState, SetProgress}
use Rattle.store_tables.specs.declared.row.EntryRow.{EntryRow}
use Rattle.store_tables.specs.declared.row.SleepRow.{SleepRow}
use Rattle.store_model.specs.KeptRecords.{IsKept, invocation_row, state_row}
use Rattle.store_model.specs.Sleeps.{sleeps_opened}
use Rattle.store_model.specs.Writes.{changed_by, invocation_writes, object_changed, rows_added, sleep_writes, sleep_writes_of, state_requests, state_write, state_writes, writes_of}
use Rattle.store_model.proofs.Finding.{all_found}
use Rattle.store_sql_laws.specs.Events.{AddsNone, BeginsNew, NoEventTakesAKey}
use Rattle.store_sql_laws.specs.Keys.{AreNew, IsNewIn, KeysAreApart}
use Rattle.store_sql_laws.proofs.Laws.{no_key_is_taken}

-- ---- no invocation is added

one_new : (write : Write) (r : Records) → AddsNone write → IsNewIn r write
one_new (AddInvocation i) r none = absurd none
one_new (SetProgress id progress) r none = tt
one_new (AddEntry entry) r none = tt
one_new (PutState state) r none = tt
one_new (DropState object key) r none = tt
one_new (DropStates object) r none = tt
one_new (OpenSleep sleep) r none = tt
one_new (CloseSleeps invocation) r none = tt
one_new (CloseSleepsUntil moment) r none = tt
one_new (DropInvocation id) r none = tt
one_new (DropEntries invocation) r none = tt

all_new : (writes : List Write) (r : Records) → AllByRecursion AddsNone writes → AreNew writes r
all_new [] r none = tt
all_new (write ∷ writes) r none = (one_new write r none.0, all_new writes (applied write r) none.1)

each_adds_none : {X : Type 0} (f : X → List Write) → ((x : X) → AllByRecursion AddsNone (f x)) → (xs : List X) → AllByRecursion AddsNone (flat_map f xs)
each_adds_none f none [] = tt
each_adds_none f none (x ∷ xs) = all-append AddsNone (f x) (flat_map f xs) (none x) (each_adds_none f none xs)

entries_add_none : (rows : List EntryRow) → AllByRecursion AddsNone (map AddEntry rows)
entries_add_none [] = tt
entries_add_none (row ∷ rows) = (tt, entries_add_none rows)

sleeps_add_none : (rows : List SleepRow) → AllByRecursion AddsNone (map OpenSleep rows)
sleeps_add_none [] = tt
sleeps_add_none (row ∷ rows) = (tt, sleeps_add_none rows)

module _ (events : List Event) (event : Event) where
  invocation_adds_none : (id : Text) → AllByRecursion AddsNone (invocation_writes events event id)
  invocation_adds_none id = all-append AddsNone (map AddEntry (rows_added events event id)) _ (entries_add_none (rows_added events event id)) (tt, tt)

closing_adds_none : (b : Bool) (id : Text) → AllByRecursion AddsNone (if b then CloseSleeps id ∷ [] else [])
closing_adds_none true id = (tt, tt)
closing_adds_none false id = tt

frame_adds_none : (version : ℕ) (id : Text) (frame : Frame) → AllByRecursion AddsNone (sleep_writes_of version id frame)
frame_adds_none version id (Frame.Command request) = sleeps_add_none (sleeps_opened id request)
frame_adds_none version id frame = closing_adds_none (closes version frame) id

closed_add_none : (events : List Event) (event : Event) → AllByRecursion AddsNone (sleep_writes events event)
closed_add_none events (Event.Move id attempt frame) = frame_adds_none (version_of events id) id frame
closed_add_none events (Event.Tick now) = (tt, tt)
closed_add_none events event = tt

request_adds_none : (object : Text) (request : Request) → AllByRecursion AddsNone (state_write object request)
request_adds_none object (Request.SetState key value name) = (tt, tt)
request_adds_none object (Request.ClearState key name) = (tt, tt)
request_adds_none object (Request.ClearAllState name) = (tt, tt)
request_adds_none object request = tt

states_add_none : (object : Option Text) (requests : List Request) → AllByRecursion AddsNone (state_writes object requests)
states_add_none None requests = tt
states_add_none (Some object) requests = each_adds_none (state_write object) (request_adds_none object) requests

-- what is written behind the begin of an invocation
abbrev behind : List Event → Event → List Write
behind events event = flat_map (invocation_writes events event) (changed_by events event) ++ (sleep_writes events event ++ state_writes (object_changed events event) (state_requests event))

behind_adds_none : (events : List Event) (event : Event) → AllByRecursion AddsNone (behind events event)
behind_adds_none events event =
    all-append AddsNone (flat_map (invocation_writes events event) (changed_by events event)) _ (each_adds_none (invocation_writes events event) (invocation_adds_none events event) (changed_by events event))
    (all-append AddsNone (sleep_writes events event) _ (closed_add_none events event) (states_add_none (object_changed events event) (state_requests event)))

-- ---- the records that are kept

few : {A : Type 0} (o : Option A) → length (option_to_list o) ≤ 1
few None = omega arith
few (Some x) = omega arith

kept_apart : (events : List Event) (r : Records) → IsAccepted events → IsKept events r → KeysAreApart r
kept_apart events r accepted kept =
    let found = all_found events r accepted kept in
    record {
      ids = λ id. subst (λ l. length l ≤ 1) (sym (found.invocation id)) (few (option_map (invocation_row events) (invocation_begun events id)));
      keys = λ object key. subst (λ l. length l ≤ 1) (sym (found.value object key)) (few (option_map (λ (value : Bytes). state_row object (key, value)) (value_of_key (object_state events object) key)));
    }

none_there : {A B : Type 0} (f : A → B) (o : Option A) → is_some o ≡ false → option_to_list (option_map f o) ≡ []
none_there f None none = refl
none_there f (Some x) none = absurd (true≢false none)

event_writes_new : (events : List Event) (event : Event) (r : Records) → IsAccepted events → IsKept events r → BeginsNew events event → AreNew (writes_of events event) r
event_writes_new events (Event.Invoke new) r accepted kept unbegun =
    let found = all_found events r accepted kept in
    (found.invocation new.id ∙ none_there (invocation_row events) (invocation_begun events new.id) unbegun, (tt, all_new (behind events (Event.Invoke new)) _ (behind_adds_none events (Event.Invoke new))))
event_writes_new events event r accepted kept unbegun = all_new (behind events event) r (behind_adds_none events event)

pub no_event_takes_a_key : NoEventTakesAKey
no_event_takes_a_key limit events event writes before records accepted has held kept written =
    no_key_is_taken limit writes before records has held (kept_apart events records accepted kept) (elim written [
      | inl of_event ↦ subst (λ l. AreNew l records) (sym of_event.1) (event_writes_new events event records accepted kept of_event.0)
      | inr none ↦ all_new writes records none
    ])
