-- The messages of an attempt's input carry the recorded arrivals, by place.
use Rattle.std.proofs.Common.{ℕ, ◌≡◌, refl, sym, ap, ap₂, ◌∙◌, arith, Bool, true, false, true≢false, if◌then◌else◌, List, [], ◌∷◌, ◌++◌, append-nil, append_assoc, length, take, map, Option, Some, None, is_some}
use Rattle.std.proofs.Math.Seq.{take-append_seam}
use Rattle.journal_model.specs.declared.invocation.NewInvocation.{NewInvocation}
use Rattle.journal_model.specs.Notification.{Bytes, Text, Arrival}
use Rattle.journal_model.specs.State.{StateMap}
use Rattle.journal_model.specs.Request.{Request}
use Rattle.journal_model.specs.Event.{Event}
use Rattle.journal_model.specs.Journal.{Entry, Recorded, Arrived, begins, invocation_begun, starting_state, requests_in, arrivals_in, entries_of, recorded_arrivals}
use Rattle.journal_model.specs.Attempt.{Piece, begins_attempt, notification_type, entry_piece, journal_pieces, event_pieces, input_from, input_pieces}
use Rattle.journal_model.specs.Cause.{IsAccepted}
use Rattle.input_laws.specs.ArrivalsRead.{arrivals_among, HasReadPieces, arrivals_read}
use Rattle.input_laws.specs.Message.{InputMessage, CarriesInput, CarriesRequest, CarriesArrival, CarriesOutcome, piece_of, arrival_carried, arrivals_carried, requests_carried, message_of, HasReadMessages}
use Rattle.input_laws.proofs.News.{news}
use Rattle.input_laws.proofs.Events.{added_by, start_same, entries_first, arrivals_now}
use Rattle.input_laws.proofs.Handed.{brought, pieces_now, first_input, begin_added, begun_is}

pub arrivals_carried-append : (xs ys : List InputMessage) → arrivals_carried (xs ++ ys) ≡ arrivals_carried xs ++ arrivals_carried ys
arrivals_carried-append [] ys = refl
arrivals_carried-append (x ∷ xs) ys = ap (λ (rest : List Arrival). arrival_carried x ++ rest) (arrivals_carried-append xs ys) ∙ sym (append_assoc (arrival_carried x) (arrivals_carried xs) (arrivals_carried ys))

pub pieces-append : (xs ys : List InputMessage) → map piece_of (xs ++ ys) ≡ map piece_of xs ++ map piece_of ys
pieces-append [] ys = refl
pieces-append (x ∷ xs) ys = ap (λ (rest : List Piece). piece_of x ∷ rest) (pieces-append xs ys)

pub carried_among : (messages : List InputMessage) → arrivals_among (map piece_of messages) ≡ length (arrivals_carried messages)
carried_among [] = refl
carried_among (CarriesInput new ∷ messages) = let later = carried_among messages in omega arith
carried_among (CarriesRequest request ∷ messages) = let later = carried_among messages in omega arith
carried_among (CarriesArrival type arrival ∷ messages) = let later = carried_among messages in omega arith
carried_among (CarriesOutcome number value ∷ messages) = let later = carried_among messages in omega arith

-- ---- a journal

pub entries_pieces : (all entries : List Entry) → map (entry_piece all) entries ≡ map piece_of (map (message_of all) entries)
entries_pieces all [] = refl
entries_pieces all (Recorded request ∷ entries) = ap (λ (rest : List Piece). piece_of (CarriesRequest request) ∷ rest) (entries_pieces all entries)
entries_pieces all (Arrived arrival ∷ entries) = ap (λ (rest : List Piece). piece_of (CarriesArrival (notification_type all arrival.id) arrival) ∷ rest) (entries_pieces all entries)

pub entries_arrivals : (all entries : List Entry) → arrivals_carried (map (message_of all) entries) ≡ arrivals_in entries
entries_arrivals all [] = refl
entries_arrivals all (Recorded request ∷ entries) = entries_arrivals all entries
entries_arrivals all (Arrived arrival ∷ entries) = ap (λ (rest : List Arrival). arrival ∷ rest) (entries_arrivals all entries)

pub entries_requests : (all entries : List Entry) → requests_carried (map (message_of all) entries) ≡ requests_in entries
entries_requests all [] = refl
entries_requests all (Recorded request ∷ entries) = ap (λ (rest : List Request). request ∷ rest) (entries_requests all entries)
entries_requests all (Arrived arrival ∷ entries) = entries_requests all entries

-- ---- what an event brings

pub record Brings (pieces : List Piece) (arrivals : List Arrival) : Type 0 where
  pub messages : List InputMessage
  pub pieces_are : pieces ≡ map piece_of messages
  pub arrivals_are : arrivals_carried messages ≡ arrivals

journal_brings : (o : Option NewInvocation) (entries : List Entry) → is_some o ≡ true → Brings (journal_pieces o entries) (arrivals_in entries)
journal_brings None entries e = absurd (true≢false (sym e))
journal_brings (Some new) entries e = record {
  messages = CarriesInput new ∷ map (message_of entries) entries;
  pieces_are = ap (λ (rest : List Piece). piece_of (CarriesInput new) ∷ rest) (entries_pieces entries entries);
  arrivals_are = entries_arrivals entries entries;
}

brings-append : (some more : List Piece) (first later : List Arrival) → Brings some first → Brings more later → Brings (some ++ more) (first ++ later)
brings-append some more first later a b = record {
  messages = a.messages ++ b.messages;
  pieces_are = ap₂ (λ (xs ys : List Piece). xs ++ ys) a.pieces_are b.pieces_are ∙ sym (pieces-append a.messages b.messages);
  arrivals_are = arrivals_carried-append a.messages b.messages ∙ ap₂ (λ (xs ys : List Arrival). xs ++ ys) a.arrivals_are b.arrivals_are;
}

brings-same : (pieces pieces' : List Piece) (arrivals arrivals' : List Arrival) → pieces' ≡ pieces → arrivals' ≡ arrivals → Brings pieces arrivals → Brings pieces' arrivals'
brings-same pieces pieces' arrivals arrivals' e f brings = record { messages = brings.messages; pieces_are = e ∙ brings.pieces_are; arrivals_are = brings.arrivals_are ∙ sym f }

-- the messages of the last attempt's input carry the recorded arrivals
pub input_brings : (events : List Event) → IsAccepted events → (id : Text) → Brings (input_pieces events id) (recorded_arrivals events id)
input_brings [] accepted id = record { messages = []; pieces_are = refl; arrivals_are = refl }
input_brings (event ∷ events) accepted id = by_begin (begins id event) refl (begins_attempt id event) refl (input_brings events accepted.1 id)
  where
    news_bring : (event : Event) (old : begins id event ≡ false) (going : begins_attempt id event ≡ false) → Brings (brought events event id old going) (arrivals_in (added_by events id event))
    news_bring event old going =
        let new = news events id event old going in
        record { messages = new.messages; pieces_are = new.pieces_are; arrivals_are = new.arrivals_are }

    by_begin : (a : Bool) → begins id event ≡ a → (b : Bool) → begins_attempt id event ≡ b → Brings (input_pieces events id) (recorded_arrivals events id)
        → Brings (input_pieces (event ∷ events) id) (recorded_arrivals (event ∷ events) id)
    by_begin true e b f before =
        brings-same [] (input_pieces (event ∷ events) id) [] (recorded_arrivals (event ∷ events) id) (first_input events event id accepted e)
        (ap arrivals_in (entries_first event events id accepted e)) (record { messages = []; pieces_are = refl; arrivals_are = refl })
    by_begin false e true f before =
        brings-same (journal_pieces (invocation_begun events id) (entries_of events id)) (input_pieces (event ∷ events) id) (arrivals_in (entries_of events id)) (recorded_arrivals (event ∷ events) id)
        (ap (λ (start : StateMap). input_from start (event ∷ events) id) (start_same event events id e)
        ∙ ap (λ (b : Bool). if b then journal_pieces (invocation_begun events id) (entries_of events id)
        else input_pieces events id ++ event_pieces (starting_state events id) events id event (entries_of events id)) f)
        (arrivals_now event events id e ∙ ap (λ (added : List Entry). recorded_arrivals events id ++ arrivals_in added) (begin_added events event id f) ∙ append-nil (recorded_arrivals events id))
        (journal_brings (invocation_begun events id) (entries_of events id) (begun_is events event id f accepted.0))
    by_begin false e false f before =
        brings-same (input_pieces events id ++ brought events event id e f) (input_pieces (event ∷ events) id)
        (recorded_arrivals events id ++ arrivals_in (added_by events id event)) (recorded_arrivals (event ∷ events) id)
        (pieces_now events event id e f) (arrivals_now event events id e)
        (brings-append (input_pieces events id) (brought events event id e f) (recorded_arrivals events id) (arrivals_in (added_by events id event)) before
        (news_bring event e f))

-- the frames of messages that were read were read
pub messages_read : (events : List Event) (id : Text) (held : Bytes) (read unread : List InputMessage) → HasReadMessages events id held read unread → HasReadPieces events id held (map piece_of read) (map piece_of unread)
messages_read events id held read unread was = record { pieces = was.all.pieces ∙ pieces-append read unread; bytes = was.bytes }

pub arrivals_of_read : (events : List Event) (id : Text) (held : Bytes) (read unread : List InputMessage) → HasReadMessages events id held read unread → arrivals_read events id (map piece_of read) ≡ arrivals_carried read
arrivals_of_read events id held read unread was =
    ap₂ (λ (n : ℕ) (arrivals : List Arrival). take n arrivals) (carried_among read) (sym was.all.arrivals ∙ arrivals_carried-append read unread)
    ∙ take-append_seam (arrivals_carried read) (arrivals_carried unread)
