-- The frames of the rows of a journal are what an attempt that is begun is handed.
use Rattle.std.proofs.Common.{ℕ, ◌+◌, ◌≡◌, refl, sym, ap, ap₂, subst, ◌∙◌, Bool, true, false, ◌||◌, ◌&&◌, if◌then◌else◌, List, [], ◌∷◌, ◌++◌, append-nil, append_assoc, map, flat_map, Option, Some, None}
use Rattle.std.specs.List.{find, list_any}
use Rattle.std.proofs.lemmas.Bool.{eq-eqb}
use Rattle.std.proofs.lemmas.List.Folds.{list_any-append}
use Rattle.journal_model.specs.Notification.{Bytes, Text, Arrival, same_id, cancel_id}
use Rattle.journal_model.specs.declared.notification.NotificationResult.{NotificationResult}
use Rattle.journal_model.specs.Value.{result_of_value}
use Rattle.journal_model.specs.declared.notification.NotificationId.{NotificationId}
use Rattle.journal_model.specs.declared.notification.NotificationId.TheVariants.{CompletionId, SignalId, SignalName}
use Rattle.journal_model.specs.declared.invocation.NewInvocation.{NewInvocation}
use Rattle.journal_model.specs.Request.{Request}
use Rattle.journal_model.specs.State.{StateMap, state_after}
use Rattle.journal_model.specs.Event.{Frame, Event}
use Rattle.journal_model.specs.Journal.{Entry, Recorded, Arrived, asks_for, is_of, is_tick, invocation_begun, starting_state, is_open, requests_in, completes, read_answer, slept, entries_of, entries_of_event, id_of_signal, completion}
use Rattle.journal_model.specs.Attempt.{type_of_completion, notification_type, input_bytes, entry_piece, journal_pieces}
use Rattle.journal_model.specs.Cause.{IsAccepted}
use Rattle.journal_laws.proofs.ObjectState.{requests_in-append}
use Rattle.protocol_types.specs.declared.message_type.MessageType.{MessageType}
use Rattle.store_model.specs.KeptRecords.{entry_row, rows_from, input_row, rows_of_journal}
use Rattle.store_model.proofs.Journals.{added_to}
use Rattle.store_model.specs.Lookups.{row_frame, AllFrames}
use Rattle.store_model.proofs.Opening.{or_nothing}
use Rattle.store_model.proofs.Growing.{by_growth}
use Rattle.store_model.proofs.Answering.{Fits, is_asked, arrivals_in-arrived, answers_once, fits_event}

-- ---- each arrival stands behind the request that asked for it

abbrev pub IsAskedIn : List Entry → Entry → Type 0
IsAskedIn before (Recorded request) = Unit {0}
IsAskedIn before (Arrived arrival) = (n : ℕ) → completes n arrival ≡ true → is_asked n before ≡ true

abbrev pub AreAskedBefore : List Entry → List Entry → Type 0
AreAskedBefore before [] = Unit {0}
AreAskedBefore before (entry ∷ entries) = IsAskedIn before entry × AreAskedBefore (before ++ entry ∷ []) entries

asked_behind : (before entries more : List Entry) → AreAskedBefore before entries → AreAskedBefore (before ++ entries) more → AreAskedBefore before (entries ++ more)
asked_behind before [] more h k = subst (λ (all : List Entry). AreAskedBefore all more) (append-nil before) k
asked_behind before (entry ∷ entries) more h k =
    (h.0, asked_behind (before ++ entry ∷ []) entries more h.1 (subst (λ (all : List Entry). AreAskedBefore all more) (sym (append_assoc before (entry ∷ []) entries)) k))

-- arrivals ask for nothing
asked_as_before : (n : ℕ) (before : List Entry) (arrival : Arrival) → is_asked n (before ++ Arrived arrival ∷ []) ≡ is_asked n before
asked_as_before n before arrival =
    ap (list_any (asks_for n)) (requests_in-append before (Arrived arrival ∷ []) ∙ append-nil (requests_in before))

arrivals_asked : (before : List Entry) (arrivals : List Arrival) → ((n : ℕ) → list_any (completes n) arrivals ≡ true → is_asked n before ≡ true)
    → AreAskedBefore before (map Arrived arrivals)
arrivals_asked before [] h = tt
arrivals_asked before (arrival ∷ arrivals) h = (
  (λ n e. h n (or_left (completes n arrival) (list_any (completes n) arrivals) e)),
  arrivals_asked (before ++ Arrived arrival ∷ []) arrivals (λ n e. asked_as_before n before arrival ∙ h n (or_right (completes n arrival) (list_any (completes n) arrivals) e)),
)
  where
    or_left : (a b : Bool) → a ≡ true → (a || b) ≡ true
    or_left true b e = refl
    or_left false b e = cc

    or_right : (a b : Bool) → b ≡ true → (a || b) ≡ true
    or_right true b h = refl
    or_right false b h = h

-- what an event adds: arrivals alone, or behind one request
data HasShape : List Entry → Type 0 where
  alone : (arrivals : List Arrival) → HasShape (map Arrived arrivals)
  behind : (request : Request) (arrivals : List Arrival) → HasShape (Recorded request ∷ map Arrived arrivals)

shape_of_event : (start : StateMap) (entries : List Entry) (event : Event) → HasShape (entries_of_event start entries event)
shape_of_event start entries (Event.Result x n result) = alone (completion n result ∷ [])
shape_of_event start entries (Event.Signal x key result) = alone (record { id = id_of_signal key; result = result } ∷ [])
shape_of_event start entries (Event.Cancel x) = alone (record { id = cancel_id; result = NotificationResult.Void } ∷ [])
shape_of_event start entries (Event.Tick now) = alone (slept entries now)
shape_of_event start entries (Event.Move x attempt (Frame.Command request)) = behind request (read_answer (state_after (requests_in entries) start) request)
shape_of_event start entries (Event.Move x attempt (Frame.RunOutcome n value is_acknowledged)) = alone (completion n (result_of_value value) ∷ [])
shape_of_event start entries (Event.Move x attempt _) = alone []
shape_of_event start entries _ = alone []

shape_if : (b : Bool) (more : List Entry) → HasShape more → HasShape (if b then more else [])
shape_if true more shape = shape
shape_if false more shape = alone []

no_requests : (arrivals : List Arrival) → requests_in (map Arrived arrivals) ≡ []
no_requests [] = refl
no_requests (arrival ∷ arrivals) = no_requests arrivals

shape_asked : (before more : List Entry) → HasShape more → ((n : ℕ) → Fits n before more) → AreAskedBefore before more
shape_asked before _ (alone arrivals) fits =
    arrivals_asked before arrivals
    (λ n e.
    sym (or_nothing (is_asked n before))
    ∙ sym (ap (λ (requests : List Request). is_asked n before || list_any (asks_for n) requests) (no_requests arrivals))
    ∙ (fits n).asked (ap (list_any (completes n)) (arrivals_in-arrived arrivals) ∙ e))
shape_asked before _ (behind request arrivals) fits = (
  tt,
  arrivals_asked (before ++ Recorded request ∷ []) arrivals
      (λ n e.
      ap (list_any (asks_for n)) (requests_in-append before (Recorded request ∷ []))
      ∙ list_any-append (asks_for n) (requests_in before) (request ∷ [])
      ∙ sym (ap (λ (requests : List Request). is_asked n before || list_any (asks_for n) (request ∷ requests)) (no_requests arrivals))
      ∙ (fits n).asked (ap (list_any (completes n)) (arrivals_in-arrived arrivals) ∙ e)),
)

pub all_asked_before : (id : Text) (events : List Event) → IsAccepted events → AreAskedBefore [] (entries_of events id)
all_asked_before id events accepted =
    by_growth id (AreAskedBefore []) tt
    (λ events event accepted e before.
    asked_behind [] (entries_of events id) (added_to events event id) before
    (shape_asked (entries_of events id) (added_to events event id)
    (shape_if (is_of id event || (is_tick event && is_open events id)) (entries_of_event (starting_state events id) (entries_of events id) event)
    (shape_of_event (starting_state events id) (entries_of events id) event))
    (λ n. fits_event n events event id accepted e ((answers_once n id events accepted.1).0))))
    events accepted

-- ---- so its kind is what it is among all entries

found_before : (p : Request → Bool) (xs ys : List Request) → list_any p xs ≡ true → find p xs ≡ find p (xs ++ ys)
found_before p [] ys e = cc
found_before p (x ∷ xs) ys e = by_test (p x) e (found_before p xs ys)
  where
    by_test : (b : Bool) → (b || list_any p xs) ≡ true → (list_any p xs ≡ true → find p xs ≡ find p (xs ++ ys)) → (if b then Some x else find p xs) ≡ (if b then Some x else find p (xs ++ ys))
    by_test true e later = refl
    by_test false e later = later e

pub kind_stays : (before more : List Entry) (id : NotificationId) → ((n : ℕ) → same_id id (CompletionId n) ≡ true → is_asked n before ≡ true)
    → notification_type before id ≡ notification_type (before ++ more) id
kind_stays before more (CompletionId n) h =
    ap (λ (o : Option Request). type_of_completion o n)
    (found_before (asks_for n) (requests_in before) (requests_in more) (h n (eq-eqb n n refl))
    ∙ ap (find (asks_for n)) (sym (requests_in-append before more)))
kind_stays before more (SignalId n) h = refl
kind_stays before more (SignalName name) h = refl

-- the frames of rows are the frames of their entries
pub frames_of_rows : (id : Text) (before : List Entry) (place : ℕ) (entries all : List Entry) → AreAskedBefore before entries → (before ++ entries) ≡ all
    → flat_map row_frame (rows_from id before place entries) ≡ input_bytes (map (entry_piece all) entries)
frames_of_rows id before place [] all h e = refl
frames_of_rows id before place (Recorded request ∷ entries) all h e =
    ap (λ (rest : Bytes). row_frame (entry_row id before place (Recorded request)) ++ rest)
    (frames_of_rows id (before ++ Recorded request ∷ []) (place + 1) entries all h.1 (append_assoc before (Recorded request ∷ []) entries ∙ e))
frames_of_rows id before place (Arrived arrival ∷ entries) all h e =
    ap₂ (λ (first rest : Bytes). first ++ rest)
    (ap (λ (kind : MessageType). row_frame (record (entry_row id before place (Arrived arrival)) { kind = kind }))
    (kind_stays before (Arrived arrival ∷ entries) arrival.id h.0 ∙ ap (λ (some : List Entry). notification_type some arrival.id) e))
    (frames_of_rows id (before ++ Arrived arrival ∷ []) (place + 1) entries all h.1 (append_assoc before (Arrived arrival ∷ []) entries ∙ e))

pub frames_found : AllFrames
frames_found events id accepted = by_begun (invocation_begun events id)
  where
    by_begun : (o : Option NewInvocation) → flat_map row_frame (rows_of_journal o id (entries_of events id)) ≡ input_bytes (journal_pieces o (entries_of events id))
    by_begun None = refl
    by_begun (Some new) =
        ap (λ (rest : Bytes). row_frame (input_row new) ++ rest)
        (frames_of_rows id [] 1 (entries_of events id) (entries_of events id) (all_asked_before id events accepted) refl)
