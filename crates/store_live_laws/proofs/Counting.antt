-- The frames of an attempt's input and their places, one by one.
use Rattle.std.proofs.Common.{ℕ, suc, ◌+◌, ◌≤◌, arith, ◌≡◌, refl, sym, ap, ap₂, ◌∙◌, Bool, true, false, ◌||◌, ◌&&◌, if◌then◌else◌, List, [], ◌∷◌, ◌++◌, length, length-append, map, Option, Some, None, bytes_eq}
use Rattle.std.proofs.lemmas.List.{length-map}
use Rattle.journal_model.specs.Notification.{Text, Arrival}
use Rattle.journal_model.specs.Value.{result_of_value}
use Rattle.journal_model.specs.State.{StateMap}
use Rattle.journal_model.specs.declared.invocation.NewInvocation.{NewInvocation}
use Rattle.journal_model.specs.Event.{Frame, Event}
use Rattle.journal_model.specs.Journal.{Entry, Recorded, Arrived, completion, invocation_begun, version_of, starting_state, arrivals_in, entries_from, entries_of, entries_added, entries_after}
use Rattle.journal_model.specs.Attempt.{begins_attempt, entry_piece, arrival_piece, journal_pieces, later_pieces, event_pieces, input_from, input_pieces}
use Rattle.protocol_types.specs.declared.feature.Feature.TheVariants.{Acknowledgement}
use Rattle.protocol_types.specs.Feature.{has_feature}
use Rattle.store_model.specs.Places.{places_of, places_of_arrivals, journal_places, places_from, input_places}

-- ---- each frame has its place

arrivals_count : (all : List Entry) (place : ℕ) (entries : List Entry) → length (map (arrival_piece all) (arrivals_in entries)) ≡ length (places_of_arrivals place entries)
arrivals_count all place [] = refl
arrivals_count all place (Recorded request ∷ entries) = arrivals_count all (place + 1) entries
arrivals_count all place (Arrived arrival ∷ entries) = ap suc (arrivals_count all (place + 1) entries)

event_count : (start : StateMap) (earlier : List Event) (id : Text) (event : Event) (entries : List Entry)
    → length (event_pieces start earlier id event entries) ≡ length (places_of_arrivals (1 + length entries) (entries_added start earlier id event entries))
event_count start earlier id (Event.Move other attempt (Frame.RunOutcome n value true)) entries =
    by_tests (entries_after start earlier id (Event.Move other attempt (Frame.RunOutcome n value true)) entries) (1 + length entries) (completion n (result_of_value value))
    (has_feature (version_of earlier id) Acknowledgement) (bytes_eq other id)
  where
    by_tests : (all : List Entry) (place : ℕ) (arrival : Arrival) (a b : Bool)
        → length (later_pieces all (if a && b then Some n else None) (arrivals_in (if b || false then Arrived arrival ∷ [] else [])))
        ≡ length (places_of_arrivals place (if b || false then Arrived arrival ∷ [] else []))
    by_tests all place arrival true true = refl
    by_tests all place arrival true false = refl
    by_tests all place arrival false true = refl
    by_tests all place arrival false false = refl
event_count start earlier id event entries =
    arrivals_count (entries_after start earlier id event entries) (1 + length entries) (entries_added start earlier id event entries)

map_count : (all : List Entry) (place : ℕ) (entries : List Entry) → length (map (entry_piece all) entries) ≡ length (places_of place entries)
map_count all place [] = refl
map_count all place (entry ∷ entries) = ap suc (map_count all (place + 1) entries)

journal_count : (o : Option NewInvocation) (entries : List Entry) → length (journal_pieces o entries) ≡ length (journal_places o entries)
journal_count None entries = refl
journal_count (Some new) entries = ap suc (map_count entries 1 entries)

count_from : (start : StateMap) (events : List Event) (id : Text) → length (input_from start events id) ≡ length (places_from start events id)
count_from start [] id = refl
count_from start (event ∷ earlier) id = by_test (begins_attempt id event) (count_from start earlier id)
  where
    by_test : (b : Bool) → length (input_from start earlier id) ≡ length (places_from start earlier id)
        → length (if b then journal_pieces (invocation_begun earlier id) (entries_from start earlier id)
        else input_from start earlier id ++ event_pieces start earlier id event (entries_from start earlier id))
        ≡ length (if b then journal_places (invocation_begun earlier id) (entries_from start earlier id)
        else places_from start earlier id
        ++ places_of_arrivals (1 + length (entries_from start earlier id)) (entries_added start earlier id event (entries_from start earlier id)))
    by_test true e = journal_count (invocation_begun earlier id) (entries_from start earlier id)
    by_test false e =
        length-append (input_from start earlier id) (event_pieces start earlier id event (entries_from start earlier id))
        ∙ ap₂ (λ (m n : ℕ). m + n) e (event_count start earlier id event (entries_from start earlier id))
        ∙ sym (length-append (places_from start earlier id) (places_of_arrivals (1 + length (entries_from start earlier id)) (entries_added start earlier id event (entries_from start earlier id))))

pub same_count : (events : List Event) (id : Text) → length (input_pieces events id) ≡ length (input_places events id)
same_count events id = count_from (starting_state events id) events id

-- ---- they are at most as many as the entries, and the input's

few_places : (place : ℕ) (entries : List Entry) → length (places_of_arrivals place entries) ≤ length entries
few_places place [] = omega arith
few_places place (Recorded request ∷ entries) = let few = few_places (place + 1) entries in omega (arith, few)
few_places place (Arrived arrival ∷ entries) = let few = few_places (place + 1) entries in omega (arith, few)

few_in_journal : (o : Option NewInvocation) (entries : List Entry) → length (journal_pieces o entries) ≤ 1 + length entries
few_in_journal None entries = omega arith
few_in_journal (Some new) entries = let same = length-map entries (entry_piece entries) in omega (arith, same)

few_from : (start : StateMap) (events : List Event) (id : Text) → length (input_from start events id) ≤ 1 + length (entries_from start events id)
few_from start [] id = omega arith
few_from start (event ∷ earlier) id = by_test (begins_attempt id event) (few_from start earlier id)
  where
    by_test : (b : Bool) → length (input_from start earlier id) ≤ 1 + length (entries_from start earlier id)
        → length (if b then journal_pieces (invocation_begun earlier id) (entries_from start earlier id)
        else input_from start earlier id ++ event_pieces start earlier id event (entries_from start earlier id)) ≤ 1 + length (entries_after start earlier id event (entries_from start earlier id))
    by_test true few =
        let journal = few_in_journal (invocation_begun earlier id) (entries_from start earlier id) in
        let sum = length-append (entries_from start earlier id) (entries_added start earlier id event (entries_from start earlier id)) in
        omega (arith, journal, sum)
    by_test false few =
        let sum = length-append (entries_from start earlier id) (entries_added start earlier id event (entries_from start earlier id)) in
        let pieces = length-append (input_from start earlier id) (event_pieces start earlier id event (entries_from start earlier id)) in
        let count = event_count start earlier id event (entries_from start earlier id) in
        let places = few_places (1 + length (entries_from start earlier id)) (entries_added start earlier id event (entries_from start earlier id)) in
        omega (arith, few, sum, pieces, count, places)

pub pieces_few : (events : List Event) (id : Text) → length (input_pieces events id) ≤ 1 + length (entries_of events id)
pieces_few events id = few_from (starting_state events id) events id
