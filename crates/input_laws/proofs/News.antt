-- What one more event tells the live attempt.
use Rattle.std.proofs.Common.{◌≡◌, refl, sym, ap, ◌∙◌, Bool, true, false, ◌&&◌, ◌||◌, if◌then◌else◌, List, [], ◌∷◌, ◌++◌, append_assoc, map, Some, None, bytes_eq}
use Rattle.std.specs.List.{AllByRecursion}
use Rattle.protocol_types.specs.Feature.{has_feature}
use Rattle.protocol_types.specs.declared.feature.Feature.TheVariants.{Acknowledgement}
use Rattle.journal_model.specs.Notification.{Text, Arrival}
use Rattle.journal_model.specs.Value.{result_of_value}
use Rattle.journal_model.specs.State.{StateMap}
use Rattle.journal_model.specs.Request.{Request}
use Rattle.journal_model.specs.Event.{Event, Frame}
use Rattle.journal_model.specs.Journal.{Entry, Arrived, completion, begins, version_of, starting_state, arrivals_in, entries_of, entries_added, entries_after}
use Rattle.journal_model.specs.Attempt.{Piece, begins_attempt, notification_type, arrival_piece, later_pieces, event_pieces}
use Rattle.input_laws.specs.Message.{InputMessage, IsBroughtBy, CarriesArrival, CarriesOutcome, piece_of, arrivals_carried, request_carried, requests_carried}
use Rattle.input_laws.proofs.Events.{added_by}
use Rattle.input_laws.proofs.Handed.{brought}

pub requests_carried-append : (xs ys : List InputMessage) → requests_carried (xs ++ ys) ≡ requests_carried xs ++ requests_carried ys
requests_carried-append [] ys = refl
requests_carried-append (x ∷ xs) ys = ap (λ (rest : List Request). request_carried x ++ rest) (requests_carried-append xs ys) ∙ sym (append_assoc (request_carried x) (requests_carried xs) (requests_carried ys))

-- messages that an event brings carry no request
pub record BringsNews (all : List Entry) (id : Text) (event : Event) (pieces : List Piece) (arrivals : List Arrival) : Type 0 where
  pub messages : List InputMessage
  pub pieces_are : pieces ≡ map piece_of messages
  pub arrivals_are : arrivals_carried messages ≡ arrivals
  pub none : requests_carried messages ≡ []
  pub brought : AllByRecursion (IsBroughtBy all id event) messages

arrivals_bring : (all : List Entry) (id : Text) (event : Event) (arrivals : List Arrival) → BringsNews all id event (map (arrival_piece all) arrivals) arrivals
arrivals_bring all id event [] = record { messages = []; pieces_are = refl; arrivals_are = refl; none = refl; brought = tt }
arrivals_bring all id event (arrival ∷ arrivals) =
    let later = arrivals_bring all id event arrivals in record {
      messages = CarriesArrival (notification_type all arrival.id) arrival ∷ later.messages;
      pieces_are = ap (λ (rest : List Piece). arrival_piece all arrival ∷ rest) later.pieces_are;
      arrivals_are = ap (λ (rest : List Arrival). arrival ∷ rest) later.arrivals_are;
      none = later.none;
      brought = (refl, later.brought);
    }

pub event_brings : (start : StateMap) (earlier : List Event) (id : Text) (event : Event) (entries : List Entry)
    → BringsNews (entries_after start earlier id event entries) id event (event_pieces start earlier id event entries) (arrivals_in (entries_added start earlier id event entries))
event_brings start earlier id (Event.Move other attempt (Frame.RunOutcome n value true)) entries =
    by_tests (entries_after start earlier id (Event.Move other attempt (Frame.RunOutcome n value true)) entries) (has_feature (version_of earlier id) Acknowledgement) (bytes_eq other id) refl
  where
    by_tests : (all : List Entry) (a b : Bool) → bytes_eq other id ≡ b
        → BringsNews all id (Event.Move other attempt (Frame.RunOutcome n value true))
        (later_pieces all (if a && b then Some n else None) (arrivals_in (if b || false then Arrived (completion n (result_of_value value)) ∷ [] else [])))
        (arrivals_in (if b || false then Arrived (completion n (result_of_value value)) ∷ [] else []))
    by_tests all true true e = record { messages = CarriesOutcome n value ∷ []; pieces_are = refl; arrivals_are = refl; none = refl; brought = ((e, refl, refl), tt) }
    by_tests all true false e = arrivals_bring all id (Event.Move other attempt (Frame.RunOutcome n value true)) []
    by_tests all false true e = arrivals_bring all id (Event.Move other attempt (Frame.RunOutcome n value true)) (completion n (result_of_value value) ∷ [])
    by_tests all false false e = arrivals_bring all id (Event.Move other attempt (Frame.RunOutcome n value true)) []
event_brings start earlier id event entries =
    arrivals_bring (entries_after start earlier id event entries) id event (arrivals_in (entries_added start earlier id event entries))

-- the messages that one more event brings the live attempt
pub news : (events : List Event) (id : Text) (event : Event) (old : begins id event ≡ false) (going : begins_attempt id event ≡ false)
    → BringsNews (entries_of events id ++ added_by events id event) id event (brought events event id old going) (arrivals_in (added_by events id event))
news events id event old going = event_brings (starting_state events id) events id event (entries_of events id)
