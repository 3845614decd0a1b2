-- The frames of an attempt's input are those of the entries known at its begin, then those of the later arrivals.
use Rattle.std.proofs.Common.{ℕ, zero, suc, ◌+◌, ◌≤◌, ◌<◌, ◌==◌, arith, ◌≡◌, refl, sym, ap, ap₂, subst, ◌∙◌, true≢false, Bool, true, false, ◌||◌, ◌&&◌, if◌then◌else◌, List, [], ◌∷◌, ◌++◌, append-nil, append_assoc, length, length-append, map, take, drop, Option, Some, None, is_some, option_map, bytes_eq, ◌⊎◌, inl, inr}
use Rattle.std.specs.List.{list_any, find, slice_get}
use Rattle.std.proofs.lemmas.Bool.{eq-eqb}
use Rattle.std.proofs.lemmas.List.{map-append, length-map, take-append-le, drop-append-le, drop_all}
use Rattle.std.proofs.Math.Seq.{take-length}
use Rattle.std.proofs.lemmas.Option.{slice_get-map}
use Rattle.protocol_types.specs.Feature.{has_feature}
use Rattle.protocol_types.specs.declared.feature.Feature.TheVariants.{Acknowledgement}
use Rattle.protocol_types.specs.declared.message_type.MessageType.{MessageType}
use Rattle.journal_model.specs.declared.invocation.NewInvocation.{NewInvocation}
use Rattle.journal_model.specs.declared.notification.NotificationId.{NotificationId}
use Rattle.journal_model.specs.declared.notification.NotificationId.TheVariants.{CompletionId, SignalId, SignalName}
use Rattle.journal_model.specs.declared.value.NonEmptyValue.{NonEmptyValue}
use Rattle.journal_model.specs.Notification.{Text, Arrival, same_id}
use Rattle.journal_model.specs.Value.{result_of_value}
use Rattle.journal_model.specs.Request.{Request}
use Rattle.journal_model.specs.State.{StateMap}
use Rattle.journal_model.specs.Event.{Frame, Event}
use Rattle.journal_model.specs.Journal.{Entry, Recorded, Arrived, completion, begins, invocation_begun, version_of, starting_state, asks_for, completes, requests_in, arrivals_in, entries_from, entries_of, entries_added, recorded_requests, recorded_arrivals}
use Rattle.journal_model.specs.Attempt.{Piece, begins_attempt, acknowledged, type_of_completion, notification_type, arrival_piece, entry_piece, journal_pieces, later_pieces, input_from, input_pieces}
use Rattle.journal_model.specs.Cause.{IsAccepted}
use Rattle.journal_laws.proofs.ObjectState.{requests_in-append, no_entries}
use Rattle.input_laws.proofs.Events.{added_by, begun_same, start_same, entries_now, arrivals_now, arrivals_append, entries_first, not_begun}
use Rattle.input_laws.proofs.Handed.{brought, pieces_now, first_input, begin_added, begun_is}
use Rattle.input_laws.specs.CompletionsOnce.{count_of, completion_numbers_of, numbers_come}
use Rattle.input_laws.proofs.Once.{count-append, recorded_once}
use Rattle.input_laws.proofs.Results.{count-results, recorded_when_asked}
use Rattle.due_laws.specs.Rows.{known_from, frames_known, arrivals_known_from, arrivals_known, with_outcome_noted, outcomes_noted, noted_number, as_told, later_piece, PiecesAreRows, AllKnownStays}

-- ---- a completion comes once, behind the request that asks for it

come_some : (n : ℕ) (arrivals : List Arrival) → list_any (completes n) arrivals ≡ true → 1 ≤ count_of n (numbers_come arrivals)
come_some n [] e = absurd (true≢false (sym e))
come_some n (arrival ∷ arrivals) e = by_id arrival.id e (come_some n arrivals)
  where
    by_id : (i : NotificationId) → (same_id i (CompletionId n) || list_any (completes n) arrivals) ≡ true
        → (list_any (completes n) arrivals ≡ true → 1 ≤ count_of n (numbers_come arrivals)) → 1 ≤ count_of n (completion_numbers_of i ++ numbers_come arrivals)
    by_id (CompletionId m) e later = by_test (m == n) e
      where
        by_test : (b : Bool) → (b || list_any (completes n) arrivals) ≡ true → 1 ≤ (if b then 1 else 0) + count_of n (numbers_come arrivals)
        by_test true e = omega arith
        by_test false e = let rest = later e in omega (arith, rest)
    by_id (SignalId m) e later = later e
    by_id (SignalName name) e later = later e

come_both : (xs ys : List Arrival) → numbers_come (xs ++ ys) ≡ numbers_come xs ++ numbers_come ys
come_both [] ys = refl
come_both (x ∷ xs) ys = ap (λ (rest : List ℕ). completion_numbers_of x.id ++ rest) (come_both xs ys) ∙ sym (append_assoc (completion_numbers_of x.id) (numbers_come xs) (numbers_come ys))

asked_of : (events : List Event) (id : Text) → IsAccepted events → (n : ℕ) → list_any (completes n) (recorded_arrivals events id) ≡ true
    → list_any (asks_for n) (recorded_requests events id) ≡ true
asked_of events id accepted n e =
    (recorded_when_asked events id accepted).asked n
    (let same = count-results n (recorded_arrivals events id) in let come = come_some n (recorded_arrivals events id) e in omega (arith, same, come))

-- what has come does not come again
pub never_again : (events : List Event) (event : Event) (id : Text) → IsAccepted (event ∷ events) → begins id event ≡ false → (n : ℕ)
    → list_any (completes n) (recorded_arrivals events id) ≡ true → list_any (completes n) (arrivals_in (added_by events id event)) ≡ true → ⊥
never_again events event id accepted old n e f =
    let once = recorded_once (event ∷ events) id accepted in
    let few = once.come n in
    let one = once.asked n in
    let some = come_some n (recorded_arrivals events id) e in
    let more = come_some n (arrivals_in (added_by events id event)) f in
    let all : count_of n (numbers_come (recorded_arrivals (event ∷ events) id))
    ≡ count_of n (numbers_come (recorded_arrivals events id)) + count_of n (numbers_come (arrivals_in (added_by events id event))) =
    ap (λ (arrivals : List Arrival). count_of n (numbers_come arrivals)) (arrivals_now event events id old)
    ∙ ap (count_of n) (come_both (recorded_arrivals events id) (arrivals_in (added_by events id event)))
    ∙ count-append n (numbers_come (recorded_arrivals events id)) (numbers_come (arrivals_in (added_by events id event))) in
    omega (arith, few, one, some, more, all)

-- ---- the frames of entries among more of them

found_before : (p : Request → Bool) (xs ys : List Request) → list_any p xs ≡ true → find p (xs ++ ys) ≡ find p xs
found_before p [] ys e = absurd (true≢false (sym e))
found_before p (x ∷ xs) ys e = by_test (p x) e (found_before p xs ys)
  where
    by_test : (b : Bool) → (b || list_any p xs) ≡ true → (list_any p xs ≡ true → find p (xs ++ ys) ≡ find p xs) → (if b then Some x else find p (xs ++ ys)) ≡ (if b then Some x else find p xs)
    by_test true e later = refl
    by_test false e later = later e

kind_same : (entries more : List Entry) (i : NotificationId) → ((n : ℕ) → same_id i (CompletionId n) ≡ true → list_any (asks_for n) (requests_in entries) ≡ true)
    → notification_type (entries ++ more) i ≡ notification_type entries i
kind_same entries more (CompletionId n) h =
    ap (λ (o : Option Request). type_of_completion o n)
    (ap (find (asks_for n)) (requests_in-append entries more) ∙ found_before (asks_for n) (requests_in entries) (requests_in more) (h n (eq-eqb n n refl)))
kind_same entries more (SignalId n) h = refl
kind_same entries more (SignalName name) h = refl

pub or_first : (a b : Bool) → a ≡ true → (a || b) ≡ true
or_first true b e = refl
or_first false b e = cc

pub or_second : (a b : Bool) → b ≡ true → (a || b) ≡ true
or_second true b e = refl
or_second false b e = e

entries_same : (entries more some : List Entry) → ((n : ℕ) → list_any (completes n) (arrivals_in some) ≡ true → list_any (asks_for n) (requests_in entries) ≡ true)
    → map (entry_piece (entries ++ more)) some ≡ map (entry_piece entries) some
entries_same entries more [] h = refl
entries_same entries more (Recorded request ∷ some) h = ap (λ (rest : List Piece). entry_piece entries (Recorded request) ∷ rest) (entries_same entries more some h)
entries_same entries more (Arrived arrival ∷ some) h =
    ap₂ (λ (type : MessageType) (rest : List Piece). as_told None type arrival ∷ rest)
    (kind_same entries more arrival.id (λ n e. h n (or_first (completes n arrival) (list_any (completes n) (arrivals_in some)) e)))
    (entries_same entries more some (λ n e. h n (or_second (completes n arrival) (list_any (completes n) (arrivals_in some)) e)))

pub noted_same : (noted others : List ℕ) (i : NotificationId) → ((n : ℕ) → same_id i (CompletionId n) ≡ true → list_any (λ m. m == n) others ≡ list_any (λ m. m == n) noted)
    → noted_number others i ≡ noted_number noted i
noted_same noted others (CompletionId n) h = ap (λ (b : Bool). if b then Some n else None) (h n (eq-eqb n n refl))
noted_same noted others (SignalId n) h = refl
noted_same noted others (SignalName name) h = refl

later_same : (entries more : List Entry) (noted others : List ℕ) (arrivals : List Arrival)
    → ((n : ℕ) → list_any (completes n) arrivals ≡ true → (list_any (asks_for n) (requests_in entries) ≡ true) × (list_any (λ m. m == n) others ≡ list_any (λ m. m == n) noted))
    → map (later_piece (entries ++ more) others) arrivals ≡ map (later_piece entries noted) arrivals
later_same entries more noted others [] h = refl
later_same entries more noted others (arrival ∷ arrivals) h =
    ap₂ (λ (piece : Piece) (rest : List Piece). piece ∷ rest)
    (ap₂ (λ (o : Option ℕ) (type : MessageType). as_told o type arrival)
    (noted_same noted others arrival.id (λ n e. (h n (or_first (completes n arrival) (list_any (completes n) arrivals) e)).1))
    (kind_same entries more arrival.id (λ n e. (h n (or_first (completes n arrival) (list_any (completes n) arrivals) e)).0)))
    (later_same entries more noted others arrivals (λ n e. h n (or_second (completes n arrival) (list_any (completes n) arrivals) e)))

none_noted : (entries : List Entry) (noted : List ℕ) (arrivals : List Arrival) → ((n : ℕ) → list_any (completes n) arrivals ≡ true → list_any (λ m. m == n) noted ≡ false)
    → map (later_piece entries noted) arrivals ≡ map (arrival_piece entries) arrivals
none_noted entries noted [] h = refl
none_noted entries noted (arrival ∷ arrivals) h =
    ap₂ (λ (o : Option ℕ) (rest : List Piece). as_told o (notification_type entries arrival.id) arrival ∷ rest)
    (by_id arrival.id (λ n e. h n (or_first (completes n arrival) (list_any (completes n) arrivals) e)))
    (none_noted entries noted arrivals (λ n e. h n (or_second (completes n arrival) (list_any (completes n) arrivals) e)))
  where
    by_id : (i : NotificationId) → ((n : ℕ) → same_id i (CompletionId n) ≡ true → list_any (λ m. m == n) noted ≡ false) → noted_number noted i ≡ None
    by_id (CompletionId n) h = ap (λ (b : Bool). if b then Some n else None) (h n (eq-eqb n n refl))
    by_id (SignalId n) h = refl
    by_id (SignalName name) h = refl

pub any_drop : (p : Arrival → Bool) (n : ℕ) (xs : List Arrival) → list_any p (drop n xs) ≡ true → list_any p xs ≡ true
any_drop p zero xs e = e
any_drop p (suc n) [] e = e
any_drop p (suc n) (x ∷ xs) e = or_second (p x) (list_any p xs) (any_drop p n xs e)

journal_grows : (o : Option NewInvocation) (entries more : List Entry)
    → ((n : ℕ) → list_any (completes n) (arrivals_in entries) ≡ true → list_any (asks_for n) (requests_in entries) ≡ true)
    → (rest : List Piece) × (journal_pieces o (entries ++ more) ≡ journal_pieces o entries ++ rest)
journal_grows None entries more h = ([], refl)
journal_grows (Some new) entries more h = (
  map (entry_piece (entries ++ more)) more,
  ap (λ (rest : List Piece). journal_pieces (Some new) [] ++ rest)
      (map-append (entry_piece (entries ++ more)) entries more ∙ ap (λ (some : List Piece). some ++ map (entry_piece (entries ++ more)) more) (entries_same entries more entries h)),
)

-- ---- how many were known

journal_length : (o : Option NewInvocation) (entries : List Entry) → is_some o ≡ true → length (journal_pieces o entries) ≡ 1 + length entries
journal_length None entries e = absurd (true≢false (sym e))
journal_length (Some new) entries e = let same = length-map entries (entry_piece entries) in omega (arith, same)

journal_longer : (o : Option NewInvocation) (entries more : List Entry) → length (journal_pieces o entries) ≤ length (journal_pieces o (entries ++ more))
journal_longer None entries more = omega arith
journal_longer (Some new) entries more =
    let a = length-map entries (entry_piece entries) in
    let b = length-map (entries ++ more) (entry_piece (entries ++ more)) in
    let c = length-append entries more in
    omega (arith, a, b, c)

known_step : (start : StateMap) (event : Event) (events : List Event) (id : Text) → IsAccepted (event ∷ events)
    → invocation_begun (event ∷ events) id ≡ invocation_begun events id
    → known_from start events id ≤ length (journal_pieces (invocation_begun events id) (entries_from start events id))
    → known_from start (event ∷ events) id ≤ length (journal_pieces (invocation_begun (event ∷ events) id) (entries_from start (event ∷ events) id))
known_step start event events id accepted same before = by_begin (begins_attempt id event) refl
  where
    added : List Entry
    added = entries_added start events id event (entries_from start events id)

    grown : length (journal_pieces (invocation_begun events id) (entries_from start events id))
        ≤ length (journal_pieces (invocation_begun (event ∷ events) id) (entries_from start (event ∷ events) id))
    grown =
        subst (λ (o : Option NewInvocation). length (journal_pieces (invocation_begun events id) (entries_from start events id)) ≤ length (journal_pieces o (entries_from start (event ∷ events) id)))
        (sym same)
        (journal_longer (invocation_begun events id) (entries_from start events id) (entries_added start events id event (entries_from start events id)))

    by_begin : (b : Bool) → begins_attempt id event ≡ b → (if b then 1 + length (entries_from start events id) else known_from start events id)
        ≤ length (journal_pieces (invocation_begun (event ∷ events) id) (entries_from start (event ∷ events) id))
    by_begin true e =
        let more = grown in
        let count = journal_length (invocation_begun events id) (entries_from start events id) (begun_is events event id e accepted.0) in
        omega (arith, more, count)
    by_begin false e = let more = grown in omega (arith, more, before)

pub known_within : (start : StateMap) (events : List Event) (id : Text) → IsAccepted events
    → known_from start events id ≤ length (journal_pieces (invocation_begun events id) (entries_from start events id))
known_within start [] id accepted = omega arith
known_within start (Event.Invoke new ∷ events) id accepted = by_id (bytes_eq new.id id) refl (known_within start events id accepted.1)
  where
    by_id : (b : Bool) → bytes_eq new.id id ≡ b → known_from start events id ≤ length (journal_pieces (invocation_begun events id) (entries_from start events id))
        → known_from start (Event.Invoke new ∷ events) id ≤ length (journal_pieces (invocation_begun (Event.Invoke new ∷ events) id) (entries_from start (Event.Invoke new ∷ events) id))
    by_id true e before =
        let none : length (journal_pieces (invocation_begun events id) (entries_from start events id)) ≡ 0 =
        ap (λ (o : Option NewInvocation). length (journal_pieces o (entries_from start events id))) (not_begun (Event.Invoke new) events id accepted e) in
        omega (arith, none, before)
    by_id false e before = known_step start (Event.Invoke new) events id accepted (begun_same (Event.Invoke new) events id e) before
known_within start (event ∷ events) id accepted = known_step start event events id accepted (begun_same event events id refl) (known_within start events id accepted.1)

arrived_within : (start : StateMap) (events : List Event) (id : Text) → arrivals_known_from start events id ≤ length (arrivals_in (entries_from start events id))
arrived_within start [] id = omega arith
arrived_within start (event ∷ events) id = by_begin (begins_attempt id event) (arrived_within start events id)
  where
    grown : length (arrivals_in (entries_from start (event ∷ events) id))
        ≡ length (arrivals_in (entries_from start events id)) + length (arrivals_in (entries_added start events id event (entries_from start events id)))
    grown =
        ap (λ (arrivals : List Arrival). length arrivals) (arrivals_append (entries_from start events id) (entries_added start events id event (entries_from start events id)))
        ∙ length-append (arrivals_in (entries_from start events id)) (arrivals_in (entries_added start events id event (entries_from start events id)))

    by_begin : (b : Bool) → arrivals_known_from start events id ≤ length (arrivals_in (entries_from start events id))
        → (if b then length (arrivals_in (entries_from start events id)) else arrivals_known_from start events id) ≤ length (arrivals_in (entries_from start (event ∷ events) id))
    by_begin true before = let more = grown in omega (arith, more)
    by_begin false before = let more = grown in omega (arith, more, before)

-- ---- what is proposed so that it is to be acknowledged

pub record Acknowledges (events : List Event) (event : Event) (id : Text) (n : ℕ) : Type 0 where
  pub value : NonEmptyValue
  pub brings : arrivals_in (added_by events id event) ≡ completion n (result_of_value value) ∷ []

pub acknowledges : (events : List Event) (event : Event) (id : Text) (n : ℕ) → acknowledged (version_of events id) id event ≡ Some n → Acknowledges events event id n
acknowledges events (Event.Move other attempt (Frame.RunOutcome m value true)) id n e = by_tests (has_feature (version_of events id) Acknowledgement) (bytes_eq other id) refl e
  where
    by_tests : (a b : Bool) → bytes_eq other id ≡ b → (if a && b then Some m else None) ≡ Some n → Acknowledges events (Event.Move other attempt (Frame.RunOutcome m value true)) id n
    by_tests true true f e =
        let same : m ≡ n = cc in record {
          value = value;
          brings =
              ap (λ (b : Bool). arrivals_in (if b || false then Arrived (completion m (result_of_value value)) ∷ [] else [])) f
              ∙ ap (λ (k : ℕ). completion k (result_of_value value) ∷ []) same;
        }
    by_tests true false f e = cc
    by_tests false b f e = cc
acknowledges events _ id n e = cc

-- ---- all frames

pub record RowsSoFar (events : List Event) (id : Text) : Type 0 where
  pub all : input_pieces events id
      ≡ take (frames_known events id) (journal_pieces (invocation_begun events id) (entries_of events id))
      ++ map (later_piece (entries_of events id) (outcomes_noted events id)) (drop (arrivals_known events id) (recorded_arrivals events id))
  pub noted : (n : ℕ) → list_any (λ m. m == n) (outcomes_noted events id) ≡ true → list_any (completes n) (recorded_arrivals events id) ≡ true

module _ (events : List Event) (event : Event) (id : Text) (accepted : IsAccepted (event ∷ events)) (old : begins id event ≡ false) where
  pub known_now : (b : Bool) → begins_attempt id event ≡ b → frames_known (event ∷ events) id ≡ (if b then 1 + length (entries_of events id) else frames_known events id)
  known_now b e =
      ap (λ (start : StateMap). known_from start (event ∷ events) id) (start_same event events id old)
      ∙ ap (λ (c : Bool). if c then 1 + length (entries_of events id) else frames_known events id) e

  pub arrived_now : (b : Bool) → begins_attempt id event ≡ b → arrivals_known (event ∷ events) id ≡ (if b then length (recorded_arrivals events id) else arrivals_known events id)
  arrived_now b e =
      ap (λ (start : StateMap). arrivals_known_from start (event ∷ events) id) (start_same event events id old)
      ∙ ap (λ (c : Bool). if c then length (recorded_arrivals events id) else arrivals_known events id) e

  noted_now : (o : Option ℕ) → begins_attempt id event ≡ false → acknowledged (version_of events id) id event ≡ o → outcomes_noted (event ∷ events) id ≡ with_outcome_noted o (outcomes_noted events id)
  noted_now o going e =
      ap (λ (c : Bool). if c then [] else with_outcome_noted (acknowledged (version_of events id) id event) (outcomes_noted events id)) going
      ∙ ap (λ (p : Option ℕ). with_outcome_noted p (outcomes_noted events id)) e

  -- a begin
  rows_begun : begins_attempt id event ≡ true → RowsSoFar (event ∷ events) id
  rows_begun e = record {
    all =
        let entries_are : entries_of (event ∷ events) id ≡ entries_of events id =
        entries_now event events id old ∙ ap (λ (added : List Entry). entries_of events id ++ added) (begin_added events event id e) ∙ append-nil (entries_of events id) in
        let count = journal_length (invocation_begun events id) (entries_of events id) (begun_is events event id e accepted.0) in
        let journal : input_pieces (event ∷ events) id ≡ journal_pieces (invocation_begun events id) (entries_of events id) =
        ap (λ (start : StateMap). input_from start (event ∷ events) id) (start_same event events id old) ∙ rw e refl in
        journal
        ∙ sym (take-length (journal_pieces (invocation_begun events id) (entries_of events id)))
        ∙ sym (append-nil (take (length (journal_pieces (invocation_begun events id) (entries_of events id))) (journal_pieces (invocation_begun events id) (entries_of events id))))
        ∙ ap₂ (λ (some more : List Piece). some ++ more)
        (ap₂ (λ (n : ℕ) (pieces : List Piece). take n pieces) (count ∙ sym (known_now true e))
        (ap₂ (λ (o : Option NewInvocation) (entries : List Entry). journal_pieces o entries) (sym (begun_same event events id old)) (sym entries_are)))
        (ap (λ (arrivals : List Arrival). map (later_piece (entries_of (event ∷ events) id) (outcomes_noted (event ∷ events) id)) arrivals)
        (sym (ap₂ (λ (n : ℕ) (entries : List Entry). drop n (arrivals_in entries)) (arrived_now true e) entries_are
        ∙ drop_all (length (recorded_arrivals events id)) (recorded_arrivals events id) (omega arith))));
    noted = λ n f.
        absurd (true≢false (sym f ∙ ap (λ (c : Bool). list_any (λ m. m == n) (if c then [] else with_outcome_noted (acknowledged (version_of events id) id event) (outcomes_noted events id))) e));
  }

  -- an event that begins nothing
  module _ (going : begins_attempt id event ≡ false) (before : RowsSoFar events id) where
    new : List Arrival
    new = arrivals_in (added_by events id event)

    all_asked : (n : ℕ) → list_any (completes n) (recorded_arrivals events id) ≡ true → list_any (asks_for n) (recorded_requests events id) ≡ true
    all_asked = asked_of events id accepted.1

    pub same_numbers : (o : Option ℕ) → acknowledged (version_of events id) id event ≡ o → (n : ℕ) → list_any (completes n) (recorded_arrivals events id) ≡ true
        → list_any (λ m. m == n) (with_outcome_noted o (outcomes_noted events id)) ≡ list_any (λ m. m == n) (outcomes_noted events id)
    same_numbers None e n come = refl
    same_numbers (Some m) e n come = by_test (m == n) refl
      where
        brings : arrivals_in (added_by events id event) ≡ completion m (result_of_value (acknowledges events event id m e).value) ∷ []
        brings = (acknowledges events event id m e).brings

        by_test : (b : Bool) → (m == n) ≡ b → (b || list_any (λ m. m == n) (outcomes_noted events id)) ≡ list_any (λ m. m == n) (outcomes_noted events id)
        by_test true f =
            absurd (never_again events event id accepted old n come (ap (list_any (completes n)) brings ∙ ap (λ (b : Bool). b || false) f))
        by_test false f = refl

    new_pieces : (o : Option ℕ) → acknowledged (version_of events id) id event ≡ o
        → map (later_piece (entries_of events id ++ added_by events id event) (with_outcome_noted o (outcomes_noted events id))) (arrivals_in (added_by events id event))
        ≡ later_pieces (entries_of events id ++ added_by events id event) o (arrivals_in (added_by events id event))
    new_pieces None e =
        none_noted (entries_of events id ++ added_by events id event) (outcomes_noted events id) (arrivals_in (added_by events id event)) (λ n come. off n come (list_any (λ m. m == n) (outcomes_noted events id)) refl)
      where
        off : (n : ℕ) → list_any (completes n) (arrivals_in (added_by events id event)) ≡ true → (b : Bool) → list_any (λ m. m == n) (outcomes_noted events id) ≡ b → b ≡ false
        off n come true f = absurd (never_again events event id accepted old n (before.noted n f) come)
        off n come false f = refl
    new_pieces (Some m) e =
        let is = acknowledges events event id m e in
        ap (map (later_piece (entries_of events id ++ added_by events id event) (m ∷ outcomes_noted events id))) is.brings
        ∙ ap (λ (b : Bool).
        as_told (if b || list_any (λ k. k == m) (outcomes_noted events id) then Some m else None)
        (notification_type (entries_of events id ++ added_by events id event) (CompletionId m)) (completion m (result_of_value is.value)) ∷ [])
        (eq-eqb m m refl)

    rows_on : RowsSoFar (event ∷ events) id
    rows_on = record {
      all =
          let grows = journal_grows (invocation_begun events id) (entries_of events id) (added_by events id event) all_asked in
          let journal_now : journal_pieces (invocation_begun (event ∷ events) id) (entries_of (event ∷ events) id) ≡ journal_pieces (invocation_begun events id) (entries_of events id) ++ grows.0 =
          ap₂ (λ (o : Option NewInvocation) (entries : List Entry). journal_pieces o entries) (begun_same event events id old) (entries_now event events id old) ∙ grows.1 in
          let first : take (frames_known (event ∷ events) id) (journal_pieces (invocation_begun (event ∷ events) id) (entries_of (event ∷ events) id))
          ≡ take (frames_known events id) (journal_pieces (invocation_begun events id) (entries_of events id)) =
          ap₂ (λ (n : ℕ) (pieces : List Piece). take n pieces) (known_now false going) journal_now
          ∙ take-append-le (frames_known events id) (journal_pieces (invocation_begun events id) (entries_of events id)) grows.0
          (known_within (starting_state events id) events id accepted.1) in
          let dropped : drop (arrivals_known (event ∷ events) id) (recorded_arrivals (event ∷ events) id)
          ≡ drop (arrivals_known events id) (recorded_arrivals events id) ++ arrivals_in (added_by events id event) =
          ap₂ (λ (n : ℕ) (arrivals : List Arrival). drop n arrivals) (arrived_now false going) (arrivals_now event events id old)
          ∙ drop-append-le (arrivals_known events id) (recorded_arrivals events id) (arrivals_in (added_by events id event)) (arrived_within (starting_state events id) events id) in
          let later : map (later_piece (entries_of (event ∷ events) id) (outcomes_noted (event ∷ events) id)) (drop (arrivals_known (event ∷ events) id) (recorded_arrivals (event ∷ events) id))
          ≡ map (later_piece (entries_of events id) (outcomes_noted events id)) (drop (arrivals_known events id) (recorded_arrivals events id)) ++ brought events event id old going =
          ap₂ (λ (entries : List Entry) (numbers : List ℕ). map (later_piece entries numbers) (drop (arrivals_known (event ∷ events) id) (recorded_arrivals (event ∷ events) id)))
          (entries_now event events id old) (noted_now (acknowledged (version_of events id) id event) going refl)
          ∙ ap (map (later_piece (entries_of events id ++ added_by events id event) (with_outcome_noted (acknowledged (version_of events id) id event) (outcomes_noted events id)))) dropped
          ∙ map-append (later_piece (entries_of events id ++ added_by events id event) (with_outcome_noted (acknowledged (version_of events id) id event) (outcomes_noted events id)))
          (drop (arrivals_known events id) (recorded_arrivals events id)) (arrivals_in (added_by events id event))
          ∙ ap₂ (λ (some more : List Piece). some ++ more)
          (later_same (entries_of events id) (added_by events id event) (outcomes_noted events id) (with_outcome_noted (acknowledged (version_of events id) id event) (outcomes_noted events id))
          (drop (arrivals_known events id) (recorded_arrivals events id))
          (λ n e.
          let come = any_drop (completes n) (arrivals_known events id) (recorded_arrivals events id) e in
          (all_asked n come, same_numbers (acknowledged (version_of events id) id event) refl n come)))
          (new_pieces (acknowledged (version_of events id) id event) refl) in
          pieces_now events event id old going
          ∙ ap (λ (pieces : List Piece). pieces ++ brought events event id old going) before.all
          ∙ append_assoc (take (frames_known events id) (journal_pieces (invocation_begun events id) (entries_of events id)))
          (map (later_piece (entries_of events id) (outcomes_noted events id)) (drop (arrivals_known events id) (recorded_arrivals events id))) (brought events event id old going)
          ∙ ap₂ (λ (some more : List Piece). some ++ more) (sym first) (sym later);
      noted = λ n f.
          ap (list_any (completes n)) (arrivals_now event events id old) ∙ any_both n (by_outcome n (acknowledged (version_of events id) id event) refl
          (sym (ap (list_any (λ m. m == n)) (noted_now (acknowledged (version_of events id) id event) going refl)) ∙ f));
    }
      where
        any_more : (n : ℕ) (xs ys : List Arrival) → (list_any (completes n) xs ≡ true) ⊎ (list_any (completes n) ys ≡ true) → list_any (completes n) (xs ++ ys) ≡ true
        any_more n [] ys (inl e) = absurd (true≢false (sym e))
        any_more n [] ys (inr e) = e
        any_more n (x ∷ xs) ys (inl e) = by_test (completes n x) e (λ f. any_more n xs ys (inl f))
          where
            by_test : (b : Bool) → (b || list_any (completes n) xs) ≡ true → (list_any (completes n) xs ≡ true → list_any (completes n) (xs ++ ys) ≡ true)
                → (b || list_any (completes n) (xs ++ ys)) ≡ true
            by_test true e later = refl
            by_test false e later = later e
        any_more n (x ∷ xs) ys (inr e) = or_second (completes n x) (list_any (completes n) (xs ++ ys)) (any_more n xs ys (inr e))

        any_both : (n : ℕ) → (list_any (completes n) (recorded_arrivals events id) ≡ true) ⊎ (list_any (completes n) (arrivals_in (added_by events id event)) ≡ true)
            → list_any (completes n) (recorded_arrivals events id ++ arrivals_in (added_by events id event)) ≡ true
        any_both n h = any_more n (recorded_arrivals events id) (arrivals_in (added_by events id event)) h

        by_outcome : (n : ℕ) (o : Option ℕ) → acknowledged (version_of events id) id event ≡ o → list_any (λ m. m == n) (with_outcome_noted o (outcomes_noted events id)) ≡ true
            → (list_any (completes n) (recorded_arrivals events id) ≡ true) ⊎ (list_any (completes n) (arrivals_in (added_by events id event)) ≡ true)
        by_outcome n None e f = inl (before.noted n f)
        by_outcome n (Some m) e f = by_test (m == n) refl f
          where
            by_test : (b : Bool) → (m == n) ≡ b → (b || list_any (λ m. m == n) (outcomes_noted events id)) ≡ true
                → (list_any (completes n) (recorded_arrivals events id) ≡ true) ⊎ (list_any (completes n) (arrivals_in (added_by events id event)) ≡ true)
            by_test true g f = inr (ap (list_any (completes n)) (acknowledges events event id m e).brings ∙ ap (λ (b : Bool). b || false) g)
            by_test false g f = inl (before.noted n f)

rows_step : (events : List Event) (event : Event) (id : Text) → IsAccepted (event ∷ events) → begins id event ≡ false → RowsSoFar events id → RowsSoFar (event ∷ events) id
rows_step events event id accepted old before = by_begin (begins_attempt id event) refl
  where
    by_begin : (b : Bool) → begins_attempt id event ≡ b → RowsSoFar (event ∷ events) id
    by_begin true e = rows_begun events event id accepted old e
    by_begin false e = rows_on events event id accepted old e before

rows_first : (events : List Event) (new : NewInvocation) (id : Text) → IsAccepted (Event.Invoke new ∷ events) → bytes_eq new.id id ≡ true → RowsSoFar events id → RowsSoFar (Event.Invoke new ∷ events) id
rows_first events new id accepted e before = record {
  all =
      first_input events (Event.Invoke new) id accepted e
      ∙ sym (ap₂ (λ (n : ℕ) (arrivals : List Arrival). take n (journal_pieces (invocation_begun (Event.Invoke new ∷ events) id) (entries_of (Event.Invoke new ∷ events) id))
      ++ map (later_piece (entries_of (Event.Invoke new ∷ events) id) (outcomes_noted (Event.Invoke new ∷ events) id)) (drop (arrivals_known (Event.Invoke new ∷ events) id) arrivals)) none arrived
      ∙ ap (map (later_piece (entries_of (Event.Invoke new ∷ events) id) (outcomes_noted (Event.Invoke new ∷ events) id))) (drop_none (arrivals_known (Event.Invoke new ∷ events) id)));
  noted = λ n f.
      absurd (true≢false (sym (before.noted n f) ∙ ap (λ (entries : List Entry). list_any (completes n) (arrivals_in entries)) (no_entries (starting_state events id) events accepted.1 id unborn)));
}
  where
    unborn : invocation_begun events id ≡ None
    unborn = not_begun (Event.Invoke new) events id accepted e

    start : StateMap
    start = starting_state (Event.Invoke new ∷ events) id

    none : known_from (starting_state (Event.Invoke new ∷ events) id) events id ≡ 0
    none =
        let within = known_within (starting_state (Event.Invoke new ∷ events) id) events id accepted.1 in
        let nothing : length (journal_pieces (invocation_begun events id) (entries_from (starting_state (Event.Invoke new ∷ events) id) events id)) ≡ 0 =
        ap (λ (o : Option NewInvocation). length (journal_pieces o (entries_from (starting_state (Event.Invoke new ∷ events) id) events id))) unborn in
        omega (arith, within, nothing)

    arrived : recorded_arrivals (Event.Invoke new ∷ events) id ≡ []
    arrived = ap arrivals_in (entries_first (Event.Invoke new) events id accepted e)

    drop_none : (n : ℕ) → ◌≡◌ {A = List Arrival} (drop n []) []
    drop_none zero = refl
    drop_none (suc n) = refl

pub rows_so_far : (events : List Event) (id : Text) → IsAccepted events → RowsSoFar events id
rows_so_far [] id accepted = record { all = refl; noted = λ n f. absurd (true≢false (sym f)) }
rows_so_far (Event.Invoke new ∷ events) id accepted = by_id (bytes_eq new.id id) refl (rows_so_far events id accepted.1)
  where
    by_id : (b : Bool) → bytes_eq new.id id ≡ b → RowsSoFar events id → RowsSoFar (Event.Invoke new ∷ events) id
    by_id true e before = rows_first events new id accepted e before
    by_id false e before = rows_step events (Event.Invoke new) id accepted e before
rows_so_far (event ∷ events) id accepted = rows_step events event id accepted refl (rows_so_far events id accepted.1)

-- ---- by their places

pub get_first : {A : Type 0} (n k : ℕ) (xs ys : List A) → k < n → n ≤ length xs → slice_get (take n xs ++ ys) k ≡ slice_get xs k
get_first zero k xs ys low within = absurd (omega arith)
get_first (suc n) k [] ys low within = absurd (omega arith)
get_first (suc n) zero (x ∷ xs) ys low within = refl
get_first (suc n) (suc k) (x ∷ xs) ys low within = get_first n k xs ys (omega arith) (omega arith)

pub get_behind : {A : Type 0} (n m k : ℕ) (xs ys : List A) → m ≡ n + k → n ≤ length xs → slice_get (take n xs ++ ys) m ≡ slice_get ys k
get_behind zero m k xs ys e within = let same : m ≡ k = omega (arith, e) in ap (slice_get ys) same
get_behind (suc n) m k [] ys e within = absurd (omega arith)
get_behind (suc n) zero k (x ∷ xs) ys e within = absurd (omega (arith, e))
get_behind (suc n) (suc m) k (x ∷ xs) ys e within = get_behind n m k xs ys (omega (arith, e)) (omega arith)

pub get_drop : {A : Type 0} (n m k : ℕ) (xs : List A) → m ≡ n + k → slice_get (drop n xs) k ≡ slice_get xs m
get_drop zero m k xs e = let same : k ≡ m = omega (arith, e) in ap (slice_get xs) same
get_drop (suc n) m k [] e = refl
get_drop (suc n) zero k (x ∷ xs) e = absurd (omega (arith, e))
get_drop (suc n) (suc m) k (x ∷ xs) e = get_drop n m k xs (omega (arith, e))

pub pieces_are_rows : PiecesAreRows
pieces_are_rows events id accepted =
    let rows = rows_so_far events id accepted in
    let within = known_within (starting_state events id) events id accepted in
    let journal = journal_pieces (invocation_begun events id) (entries_of events id) in
    let later = later_piece (entries_of events id) (outcomes_noted events id) in
    let arrivals = drop (arrivals_known events id) (recorded_arrivals events id) in record {
      known = within;
      arrived = arrived_within (starting_state events id) events id;
      all = rows.all;
      at_begin = λ k low.
          ap (λ (pieces : List Piece). slice_get pieces k) rows.all ∙ get_first (frames_known events id) k journal (map later arrivals) low within;
      behind = λ k.
          ap (λ (pieces : List Piece). slice_get pieces (frames_known events id + k)) rows.all
          ∙ get_behind (frames_known events id) (frames_known events id + k) k journal (map later arrivals) refl within
          ∙ slice_get-map later arrivals k
          ∙ ap (option_map later) (get_drop (arrivals_known events id) (arrivals_known events id + k) k (recorded_arrivals events id) refl);
    }

pub all_known_stays : AllKnownStays
all_known_stays events event id old going = record {
  frames =
      ap (λ (start : StateMap). known_from start (event ∷ events) id) (start_same event events id old)
      ∙ ap (λ (c : Bool). if c then 1 + length (entries_of events id) else frames_known events id) going;
  arrivals =
      ap (λ (start : StateMap). arrivals_known_from start (event ∷ events) id) (start_same event events id old)
      ∙ ap (λ (c : Bool). if c then length (recorded_arrivals events id) else arrivals_known events id) going;
  noted = ap (λ (c : Bool). if c then [] else with_outcome_noted (acknowledged (version_of events id) id event) (outcomes_noted events id)) going;
}
