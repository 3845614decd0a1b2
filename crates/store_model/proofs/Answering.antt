-- A completion is answered once at most: an accepted event brings a result only where it is asked for and awaited.
use Rattle.std.proofs.Common.{ℕ, suc, ◌+◌, max, ◌≤◌, arith, ◌==◌, nat_lt, ltb-true, ◌≡◌, refl, sym, ap, subst, ◌∙◌, Bool, true, false, ◌||◌, ◌&&◌, not, if◌then◌else◌, List, [], ◌∷◌, ◌++◌, length, length-append, map, filter, Option, Some, None, is_some, bytes_eq}
use Rattle.std.specs.List.{find, list_any}
use Rattle.std.proofs.lemmas.Bool.{eqb-true}
use Rattle.std.proofs.lemmas.List.Elements.{filter-append}
use Rattle.std.proofs.lemmas.List.Folds.{list_any-append}
use Rattle.std.proofs.lemmas.Slice.Eq.{bytes_eq-Decides}
use Rattle.journal_model.specs.Notification.{Text, Arrival}
use Rattle.journal_model.specs.declared.notification.NotificationId.{NotificationId}
use Rattle.journal_model.specs.declared.notification.NotificationId.TheVariants.{CompletionId, SignalId, SignalName}
use Rattle.journal_model.specs.declared.notification.NotificationResult.{NotificationResult}
use Rattle.journal_model.specs.declared.value.NonEmptyValue.{NonEmptyValue}
use Rattle.journal_model.specs.declared.invocation.NewInvocation.{NewInvocation}
use Rattle.journal_model.specs.Request.{Request, completions_asked}
use Rattle.journal_model.specs.declared.notification.SignalKey.{SignalKey}
use Rattle.journal_model.specs.State.{StateMap, state_after, state_keys, value_of_key}
use Rattle.journal_model.specs.Value.{result_of_value}
use Rattle.journal_model.specs.Delivery.{value_or_void}
use Rattle.journal_model.specs.Event.{Frame, Event}
use Rattle.journal_model.specs.Journal.{Entry, Recorded, Arrived, asks_for, is_of, is_tick, invoked_by, invocation_begun, starting_state, is_open, id_of_signal, requests_in, arrivals_in, completes, completion, is_awaited, request_asking, open_request, read_answer, slept, entries_of, entries_of_event}
use Rattle.journal_model.specs.Cause.{IsAccepted, causes_of, tests_of, do_ascend, greatest, last_completion, is_run}
use Rattle.journal_laws.proofs.ObjectState.{holds-head, holds-tail, tail_of, not-false, requests_in-append, no_entries}
use Rattle.store_tables.specs.declared.row.EntryRow.{EntryRow}
use Rattle.store_tables.specs.Questions.{is_number, answers}
use Rattle.store_model.specs.KeptRecords.{answered_by, entry_row, rows_from, rows_of_journal, journal_rows}
use Rattle.store_model.proofs.Journals.{added_to}
use Rattle.store_model.specs.Lookups.{AllAnswerOnce}
use Rattle.store_model.proofs.Only.{filter_both}
use Rattle.store_model.proofs.Opening.{is_some_of, is_some-find, any-filter, both_parts, or_nothing}
use Rattle.store_model.proofs.Growing.{by_growth}
use Rattle.store_model.proofs.Asking.{ascends, below_greatest}
use Rattle.store_model.proofs.Sleeping.{slept_awaited, slept_once}

-- ---- of the arrivals among entries, those for one completion

abbrev pub has_come : ℕ → List Entry → Bool
has_come n entries = list_any (completes n) (arrivals_in entries)

abbrev pub is_asked : ℕ → List Entry → Bool
is_asked n entries = list_any (asks_for n) (requests_in entries)

abbrev times_come : ℕ → List Entry → ℕ
times_come n entries = length (filter (completes n) (arrivals_in entries))

pub arrivals_in-append : (xs ys : List Entry) → arrivals_in (xs ++ ys) ≡ arrivals_in xs ++ arrivals_in ys
arrivals_in-append [] ys = refl
arrivals_in-append (Recorded request ∷ xs) ys = arrivals_in-append xs ys
arrivals_in-append (Arrived arrival ∷ xs) ys = ap (λ (rest : List Arrival). arrival ∷ rest) (arrivals_in-append xs ys)

pub arrivals_in-arrived : (arrivals : List Arrival) → arrivals_in (map Arrived arrivals) ≡ arrivals
arrivals_in-arrived [] = refl
arrivals_in-arrived (arrival ∷ arrivals) = ap (λ (rest : List Arrival). arrival ∷ rest) (arrivals_in-arrived arrivals)

count_none : {A : Type 0} (p : A → Bool) (xs : List A) → list_any p xs ≡ false → length (filter p xs) ≡ 0
count_none p [] e = refl
count_none {A} p (x ∷ xs) e = by_test (p x) e (count_none p xs)
  where
    by_test : (b : Bool) → (b || list_any p xs) ≡ false → (list_any p xs ≡ false → length (filter p xs) ≡ 0) → length (if b then x ∷ filter p xs else filter p xs) ≡ 0
    by_test true e later = cc
    by_test false e later = later e

-- what has come was asked for, and came once
abbrev pub AreAnswers : ℕ → List Entry → Type 0
AreAnswers n entries = (has_come n entries ≡ true → is_asked n entries ≡ true) × (times_come n entries ≤ 1)

-- entries to be added: what comes by them is asked for then, did not come before, and comes once
pub record Fits (n : ℕ) (entries more : List Entry) : Type 0 where
  pub asked : has_come n more ≡ true → (is_asked n entries || is_asked n more) ≡ true
  pub new : has_come n more ≡ true → has_come n entries ≡ false
  pub once : times_come n more ≤ 1

or_either : (a b c d : Bool) → (a ≡ true → c ≡ true) → (b ≡ true → (c || d) ≡ true) → (a || b) ≡ true → (c || d) ≡ true
or_either true b c d f g e = rw (f refl) refl
or_either false b c d f g e = g e

fits_more : (n : ℕ) (entries more : List Entry) → AreAnswers n entries → Fits n entries more → AreAnswers n (entries ++ more)
fits_more n entries more before fits = (asked_then, once_then (has_come n more) refl)
  where
    come : has_come n (entries ++ more) ≡ (has_come n entries || has_come n more)
    come = ap (list_any (completes n)) (arrivals_in-append entries more) ∙ list_any-append (completes n) (arrivals_in entries) (arrivals_in more)

    asked : is_asked n (entries ++ more) ≡ (is_asked n entries || is_asked n more)
    asked = ap (list_any (asks_for n)) (requests_in-append entries more) ∙ list_any-append (asks_for n) (requests_in entries) (requests_in more)

    asked_then : has_come n (entries ++ more) ≡ true → is_asked n (entries ++ more) ≡ true
    asked_then e = asked ∙ or_either (has_come n entries) (has_come n more) (is_asked n entries) (is_asked n more) before.0 fits.asked (sym come ∙ e)

    times : times_come n (entries ++ more) ≡ times_come n entries + times_come n more
    times =
        ap (λ (all : List Arrival). length (filter (completes n) all)) (arrivals_in-append entries more)
        ∙ ap length (filter-append (completes n) (arrivals_in entries) (arrivals_in more))
        ∙ length-append (filter (completes n) (arrivals_in entries)) (filter (completes n) (arrivals_in more))

    once_then : (b : Bool) → has_come n more ≡ b → times_come n (entries ++ more) ≤ 1
    once_then true e =
        let none : times_come n entries ≡ 0 = count_none (completes n) (arrivals_in entries) (fits.new e) in
        let one = fits.once in
        let all = times in
        omega arith
    once_then false e =
        let none : times_come n more ≡ 0 = count_none (completes n) (arrivals_in more) e in
        let one = before.1 in
        let all = times in
        omega arith

fits_nothing : (n : ℕ) (entries : List Entry) → Fits n entries []
fits_nothing n entries = record { asked = λ e. cc; new = λ e. cc; once = omega arith }

fits_if : (n : ℕ) (entries more : List Entry) (b : Bool) → (b ≡ true → Fits n entries more) → Fits n entries (if b then more else [])
fits_if n entries more true h = h refl
fits_if n entries more false h = fits_nothing n entries

fits_none : (n : ℕ) (entries : List Entry) (b : Bool) → Fits n entries (if b then [] else [])
fits_none n entries b = fits_if n entries [] b (λ e. fits_nothing n entries)

-- one arrival
fits_one : (n : ℕ) (entries : List Entry) (arrival : Arrival) → (completes n arrival ≡ true → (is_asked n entries ≡ true) × (has_come n entries ≡ false))
    → Fits n entries (Arrived arrival ∷ [])
fits_one n entries arrival h = record {
  asked = λ e. or_left (is_asked n entries) ((h (sym (or_nothing (completes n arrival)) ∙ e)).0);
  new = λ e. (h (sym (or_nothing (completes n arrival)) ∙ e)).1;
  once = one_or_none (completes n arrival);
}
  where
    or_left : (a : Bool) → a ≡ true → (a || false) ≡ true
    or_left true e = refl
    or_left false e = e

    one_or_none : (b : Bool) → length (if b then arrival ∷ [] else []) ≤ 1
    one_or_none true = omega arith
    one_or_none false = omega arith

-- a request whose completion is open was recorded, and is not answered
asked_open : (n : ℕ) (entries : List Entry) → is_some (open_request entries n) ≡ true → (is_asked n entries ≡ true) × (has_come n entries ≡ false)
asked_open n entries e = by_come (has_come n entries) refl e
  where
    by_come : (b : Bool) → has_come n entries ≡ b → is_some (if not b then request_asking entries n else None) ≡ true → (is_asked n entries ≡ true) × (has_come n entries ≡ false)
    by_come true f e = cc
    by_come false f e = (any-filter (asks_for n) (requests_in entries) ∙ sym (is_some-find (asks_for n) (requests_in entries)) ∙ e, f)

-- ---- each event

run_is_some : (o : Option Request) → is_run o ≡ true → is_some o ≡ true
run_is_some None e = cc
run_is_some (Some request) e = refl

pub completed_open : (events : List Event) (x : Text) (m : ℕ) (result : NotificationResult) → causes_of events (Event.Result x m result) ≡ []
    → is_some (open_request (entries_of events x) m) ≡ true
completed_open events x m result accepted =
    let tests = tests_of events (Event.Result x m result) in
    not-false (is_some (open_request (entries_of events x) m)) (holds-head (tail_of (tail_of tests)) (holds-tail (tail_of tests) (holds-tail tests accepted)))

pub outcome_open : (events : List Event) (x : Text) (attempt m : ℕ) (value : NonEmptyValue) (is_acknowledged : Bool)
    → causes_of events (Event.Move x attempt (Frame.RunOutcome m value is_acknowledged)) ≡ [] → is_some (open_request (entries_of events x) m) ≡ true
outcome_open events x attempt m value is_acknowledged accepted =
    let tests = tests_of events (Event.Move x attempt (Frame.RunOutcome m value is_acknowledged)) in
    run_is_some (open_request (entries_of events x) m)
    (not-false (is_run (open_request (entries_of events x) m))
    (holds-head (tail_of (tail_of (tail_of tests))) (holds-tail (tail_of (tail_of tests)) (holds-tail (tail_of tests) (holds-tail tests accepted)))))

pub command_above : (events : List Event) (x : Text) (attempt : ℕ) (request : Request) → causes_of events (Event.Move x attempt (Frame.Command request)) ≡ []
    → do_ascend (last_completion (requests_in (entries_of events x))) (completions_asked request) ≡ true
command_above events x attempt request accepted =
    let tests = tests_of events (Event.Move x attempt (Frame.Command request)) in
    not-false (do_ascend (last_completion (requests_in (entries_of events x))) (completions_asked request))
    (holds-head (tail_of (tail_of (tail_of tests))) (holds-tail (tail_of (tail_of tests)) (holds-tail (tail_of tests) (holds-tail tests accepted))))

-- an arrival for a completion that is open
fits_open : (n m : ℕ) (entries : List Entry) (result : NotificationResult) → is_some (open_request entries m) ≡ true → Fits n entries (Arrived (completion m result) ∷ [])
fits_open n m entries result opened =
    fits_one n entries (completion m result)
    (λ e. subst (λ (k : ℕ). (is_asked k entries ≡ true) × (has_come k entries ≡ false)) (eqb-true m n e) (asked_open m entries opened))

fits_signal : (n : ℕ) (entries : List Entry) (key : SignalKey) (result : NotificationResult) → Fits n entries (Arrived (record { id = id_of_signal key; result = result }) ∷ [])
fits_signal n entries (SignalKey.ByIndex k) result = fits_one n entries (record { id = SignalId k; result = result }) (λ e. cc)
fits_signal n entries (SignalKey.ByName name) result = fits_one n entries (record { id = SignalName name; result = result }) (λ e. cc)

-- a request that is new, and is answered with it: its completion is above all earlier ones
pub asked_below : (n : ℕ) (requests : List Request) → list_any (asks_for n) requests ≡ true → n ≤ last_completion requests
asked_below n [] e = cc
asked_below n (request ∷ requests) e = by_test (asks_for n request) refl e (asked_below n requests)
  where
    by_test : (b : Bool) → asks_for n request ≡ b → (b || list_any (asks_for n) requests) ≡ true → (list_any (asks_for n) requests ≡ true → n ≤ last_completion requests)
        → n ≤ max (greatest (completions_asked request)) (last_completion requests)
    by_test true f e later = let under = below_greatest n (completions_asked request) f in omega arith
    by_test false f e later = let under = later e in omega arith

pub not_yet : (n k : ℕ) (entries : List Entry) → (has_come n entries ≡ true → is_asked n entries ≡ true) → do_ascend (last_completion (requests_in entries)) (k ∷ []) ≡ true
    → (k == n) ≡ true → has_come n entries ≡ false
not_yet n k entries known up e = by_come (has_come n entries) refl
  where
    apart : is_asked n entries ≡ true → ⊥
    apart f =
        let same : k ≡ n = eqb-true k n e in
        let above = ltb-true (last_completion (requests_in entries)) k ((both_parts (nat_lt (last_completion (requests_in entries)) k) true up).0) in
        let under = asked_below n (requests_in entries) f in
        omega arith

    by_come : (b : Bool) → has_come n entries ≡ b → b ≡ false
    by_come true f = absurd (apart (known f))
    by_come false f = refl

fits_answered : (n k : ℕ) (entries : List Entry) (request : Request) (result : NotificationResult) → completions_asked request ≡ k ∷ []
    → (has_come n entries ≡ true → is_asked n entries ≡ true) → do_ascend (last_completion (requests_in entries)) (completions_asked request) ≡ true
    → Fits n entries (Recorded request ∷ Arrived (completion k result) ∷ [])
fits_answered n k entries request result asks known up = record {
  asked = λ e. or_right (is_asked n entries) (asks_for n request || false) (ap (λ (ids : List ℕ). list_any (λ m. m == n) ids || false) asks ∙ or_nothing ((k == n) || false) ∙ e);
  new = λ e. not_yet n k entries known (sym (ap (do_ascend (last_completion (requests_in entries))) asks) ∙ up) (sym (or_nothing (k == n)) ∙ e);
  once = one_or_none (k == n);
}
  where
    or_right : (a b : Bool) → b ≡ true → (a || b) ≡ true
    or_right true b h = refl
    or_right false b h = h

    one_or_none : (b : Bool) → length (if b then completion k result ∷ [] else []) ≤ 1
    one_or_none true = omega arith
    one_or_none false = omega arith

fits_alone : (n : ℕ) (entries : List Entry) (request : Request) → Fits n entries (Recorded request ∷ [])
fits_alone n entries request = record { asked = λ e. cc; new = λ e. cc; once = omega arith }

fits_command : (n : ℕ) (entries : List Entry) (state : StateMap) (request : Request) → (has_come n entries ≡ true → is_asked n entries ≡ true)
    → do_ascend (last_completion (requests_in entries)) (completions_asked request) ≡ true → Fits n entries (Recorded request ∷ map Arrived (read_answer state request))
fits_command n entries state (Request.GetLazyState key k name) known up =
    fits_answered n k entries (Request.GetLazyState key k name) (value_or_void (value_of_key state key)) refl known up
fits_command n entries state (Request.GetLazyStateKeys k name) known up =
    fits_answered n k entries (Request.GetLazyStateKeys k name) (NotificationResult.StateKeys (state_keys state)) refl known up
fits_command n entries state request known up = fits_alone n entries request

fits_slept : (n now : ℕ) (events : List Event) (id : Text) → IsAccepted events → Fits n (entries_of events id) (map Arrived (slept (entries_of events id) now))
fits_slept n now events id accepted = record { asked = asked; new = new; once = once }
  where
    come : has_come n (map Arrived (slept (entries_of events id) now)) ≡ list_any (completes n) (slept (entries_of events id) now)
    come = ap (list_any (completes n)) (arrivals_in-arrived (slept (entries_of events id) now))

    or_left : (a b : Bool) → a ≡ true → (a || b) ≡ true
    or_left true b e = refl
    or_left false b e = cc

    not-true : (b : Bool) → not b ≡ true → b ≡ false
    not-true true e = sym e
    not-true false e = refl

    asked : has_come n (map Arrived (slept (entries_of events id) now)) ≡ true → (is_asked n (entries_of events id) || is_asked n (map Arrived (slept (entries_of events id) now))) ≡ true
    asked e = or_left (is_asked n (entries_of events id)) (is_asked n (map Arrived (slept (entries_of events id) now))) ((slept_awaited (entries_of events id) now n (sym come ∙ e)).1)

    new : has_come n (map Arrived (slept (entries_of events id) now)) ≡ true → has_come n (entries_of events id) ≡ false
    new e = not-true (has_come n (entries_of events id)) ((slept_awaited (entries_of events id) now n (sym come ∙ e)).0)

    once : times_come n (map Arrived (slept (entries_of events id) now)) ≤ 1
    once =
        subst (λ (arrivals : List Arrival). length (filter (completes n) arrivals) ≤ 1) (sym (arrivals_in-arrived (slept (entries_of events id) now)))
        (slept_once (entries_of events id) now n (ascends id events accepted))

-- an event of one invocation, by what it adds to that one
fits_own : (n : ℕ) (events : List Event) (x id : Text) (event : Event) → is_tick event ≡ false → is_of id event ≡ bytes_eq x id
    → Fits n (entries_of events x) (entries_of_event (starting_state events x) (entries_of events x) event) → Fits n (entries_of events id) (added_to events event id)
fits_own n events x id event ticks named fits =
    fits_if n (entries_of events id) (entries_of_event (starting_state events id) (entries_of events id) event) (is_of id event || (is_tick event && is_open events id)) own
  where
    plain : (a t o : Bool) → t ≡ false → (a || (t && o)) ≡ true → a ≡ true
    plain true t o f e = refl
    plain false true o f e = sym f
    plain false false o f e = e

    own : (is_of id event || (is_tick event && is_open events id)) ≡ true → Fits n (entries_of events id) (entries_of_event (starting_state events id) (entries_of events id) event)
    own e =
        let same : x ≡ id = (bytes_eq-Decides x id).0 (sym named ∙ plain (is_of id event) (is_tick event) (is_open events id) ticks e) in
        subst (λ (y : Text). Fits n (entries_of events y) (entries_of_event (starting_state events y) (entries_of events y) event)) same fits

fits_frame : (n : ℕ) (events : List Event) (x id : Text) (attempt : ℕ) (frame : Frame) → causes_of events (Event.Move x attempt frame) ≡ []
    → (has_come n (entries_of events id) ≡ true → is_asked n (entries_of events id) ≡ true) → Fits n (entries_of events id) (added_to events (Event.Move x attempt frame) id)
fits_frame n events x id attempt (Frame.Command request) accepted known =
    fits_if n (entries_of events id) (entries_of_event (starting_state events id) (entries_of events id) (Event.Move x attempt (Frame.Command request))) (bytes_eq x id || (false && is_open events id)) own
  where
    own : (bytes_eq x id || (false && is_open events id)) ≡ true
        → Fits n (entries_of events id) (entries_of_event (starting_state events id) (entries_of events id) (Event.Move x attempt (Frame.Command request)))
    own e =
        let same : x ≡ id = (bytes_eq-Decides x id).0 (sym (or_nothing (bytes_eq x id)) ∙ e) in
        let up : do_ascend (last_completion (requests_in (entries_of events id))) (completions_asked request) ≡ true =
        subst (λ (y : Text). do_ascend (last_completion (requests_in (entries_of events y))) (completions_asked request) ≡ true) same (command_above events x attempt request accepted) in
        fits_command n (entries_of events id) (state_after (requests_in (entries_of events id)) (starting_state events id)) request known up
fits_frame n events x id attempt (Frame.RunOutcome m value is_acknowledged) accepted known =
    fits_own n events x id (Event.Move x attempt (Frame.RunOutcome m value is_acknowledged)) refl refl
    (fits_open n m (entries_of events x) (result_of_value value) (outcome_open events x attempt m value is_acknowledged accepted))
fits_frame n events x id attempt frame accepted known = fits_none n (entries_of events id) (bytes_eq x id || (false && is_open events id))

pub fits_event : (n : ℕ) (events : List Event) (event : Event) (id : Text) → IsAccepted (event ∷ events) → invoked_by event ≡ None
    → (has_come n (entries_of events id) ≡ true → is_asked n (entries_of events id) ≡ true) → Fits n (entries_of events id) (added_to events event id)
fits_event n events (Event.Result x m result) id accepted e known =
    fits_own n events x id (Event.Result x m result) refl refl (fits_open n m (entries_of events x) result (completed_open events x m result accepted.0))
fits_event n events (Event.Signal x key result) id accepted e known =
    fits_own n events x id (Event.Signal x key result) refl refl (fits_signal n (entries_of events x) key result)
fits_event n events (Event.Cancel x) id accepted e known =
    fits_own n events x id (Event.Cancel x) refl refl (fits_one n (entries_of events x) (record { id = SignalId 1; result = NotificationResult.Void }) (λ e. cc))
fits_event n events (Event.Tick now) id accepted e known =
    fits_if n (entries_of events id) (map Arrived (slept (entries_of events id) now)) (is_open events id) (λ opened. fits_slept n now events id accepted.1)
fits_event n events (Event.Move x attempt frame) id accepted e known = fits_frame n events x id attempt frame accepted.0 known
fits_event n events event id accepted e known = fits_none n (entries_of events id) (is_of id event || (is_tick event && is_open events id))

pub answers_once : (n : ℕ) (id : Text) (events : List Event) → IsAccepted events → AreAnswers n (entries_of events id)
answers_once n id events accepted =
    by_growth id (AreAnswers n) ((λ e. cc), omega arith)
    (λ events event accepted e before. fits_more n (entries_of events id) (added_to events event id) before (fits_event n events event id accepted e before.0))
    events accepted

-- ---- the rows of arrivals

answers_number : (n : ℕ) (id : NotificationId) (result : NotificationResult) → is_number n (answered_by id) ≡ completes n (record { id = id; result = result })
answers_number n (CompletionId m) result = refl
answers_number n (SignalId m) result = refl
answers_number n (SignalName name) result = refl

abbrev answers_it : ℕ → EntryRow → Bool
answers_it n e = is_number n e.answered

rows_come : (n : ℕ) (id : Text) (before : List Entry) (place : ℕ) (entries : List Entry)
    → length (filter (answers_it n) (rows_from id before place entries)) ≡ times_come n entries
rows_come n id before place [] = refl
rows_come n id before place (Recorded request ∷ entries) = rows_come n id (before ++ Recorded request ∷ []) (place + 1) entries
rows_come n id before place (Arrived arrival ∷ entries) =
    ap (λ (b : Bool). length (if b then entry_row id before place (Arrived arrival) ∷ filter (answers_it n) (rows_from id (before ++ Arrived arrival ∷ []) (place + 1) entries)
    else filter (answers_it n) (rows_from id (before ++ Arrived arrival ∷ []) (place + 1) entries))) (answers_number n arrival.id arrival.result)
    ∙ by_test (completes n arrival) (rows_come n id (before ++ Arrived arrival ∷ []) (place + 1) entries)
  where
    by_test : (b : Bool) → length (filter (answers_it n) (rows_from id (before ++ Arrived arrival ∷ []) (place + 1) entries)) ≡ times_come n entries
        → length (if b then entry_row id before place (Arrived arrival) ∷ filter (answers_it n) (rows_from id (before ++ Arrived arrival ∷ []) (place + 1) entries)
        else filter (answers_it n) (rows_from id (before ++ Arrived arrival ∷ []) (place + 1) entries))
        ≡ length (if b then arrival ∷ filter (completes n) (arrivals_in entries) else filter (completes n) (arrivals_in entries))
    by_test true h = ap suc h
    by_test false h = h

journal_come : (n : ℕ) (id : Text) (events : List Event) → IsAccepted events → length (filter (answers_it n) (journal_rows events id)) ≡ times_come n (entries_of events id)
journal_come n id events accepted = by_begun (invocation_begun events id) refl
  where
    by_begun : (o : Option NewInvocation) → invocation_begun events id ≡ o
        → length (filter (answers_it n) (rows_of_journal o id (entries_of events id))) ≡ times_come n (entries_of events id)
    by_begun None e = sym (ap (times_come n) (no_entries (starting_state events id) events accepted id e))
    by_begun (Some new) e = rows_come n id [] 1 (entries_of events id)

some_by_length : {A B : Type 0} (xs : List A) (ys : List B) → length xs ≡ length ys → is_some_of xs ≡ is_some_of ys
some_by_length [] [] e = refl
some_by_length (x ∷ xs) (y ∷ ys) e = refl
some_by_length [] (y ∷ ys) e = absurd (omega arith)
some_by_length (x ∷ xs) [] e = absurd (omega arith)

not_twice : (b : Bool) → b ≡ not (not b)
not_twice true = refl
not_twice false = refl

pub answer_found : AllAnswerOnce
answer_found events r id n accepted kept = (some, one)
  where
    rows : filter (answers id n) r.entries ≡ filter (answers_it n) (journal_rows events id)
    rows =
        filter_both (λ (e : EntryRow). bytes_eq e.invocation id) (answers_it n) r.entries
        ∙ ap (filter (answers_it n)) (kept.journals id)

    times : length (filter (answers id n) r.entries) ≡ times_come n (entries_of events id)
    times = ap length rows ∙ journal_come n id events accepted

    some : is_some (find (answers id n) r.entries) ≡ not (is_awaited (entries_of events id) n)
    some =
        is_some-find (answers id n) r.entries
        ∙ some_by_length (filter (answers id n) r.entries) (filter (completes n) (arrivals_in (entries_of events id))) times
        ∙ sym (any-filter (completes n) (arrivals_in (entries_of events id)))
        ∙ not_twice (has_come n (entries_of events id))

    one : length (filter (answers id n) r.entries) ≤ 1
    one = subst (λ (k : ℕ). k ≤ 1) (sym times) ((answers_once n id events accepted).1)
