-- The live attempt between turns, after one more event.
use Rattle.std.proofs.Common.{ℕ, ◌≡◌, refl, sym, ap, ap₂, subst, ◌∙◌, ◌⊎◌, inl, inr, Bool, true, false, List, [], ◌∷◌, ◌++◌, append_assoc, append-nil, length, map, Option, bytes_eq}
use Rattle.std.proofs.lemmas.List.{append_cancel_left}
use Rattle.journal_model.specs.Notification.{Bytes, Text, Arrival}
use Rattle.journal_model.specs.Request.{Request}
use Rattle.journal_model.specs.Run.{Handler, Invocation, run_requests}
use Rattle.journal_model.specs.Event.{Suspension, Event, Frame}
use Rattle.journal_model.specs.Journal.{begins, requests_in, recorded_requests}
use Rattle.journal_model.specs.Attempt.{Piece, begins_attempt, input_left, input_bytes, is_input_closed, arrivals_within}
use Rattle.journal_model.specs.Headline.{arrivals_handed}
use Rattle.live_laws.specs.RequestsInFlight.{request_sent, requests_sent, SendsOfRun, FollowsSo, PassesOn}
use Rattle.run_laws.specs.SuspensionContent.{WaitsAll}
use Rattle.live_laws.specs.TurnWrites.{WritesOfRun, nothing, answers, notes, fails, awaits, suspends, ends}
use Rattle.input_laws.specs.Message.{InputMessage, piece_of, arrivals_carried, requests_carried, IsInput, HasReadMessages}
use Rattle.live_laws.specs.Live.{IsPosition, IsLive, TurnsOfRun}
use Rattle.live_laws.specs.TurnLaws.{TurnsKeep, PositionsAreAtCalls}
use Rattle.input_laws.proofs.News.{requests_carried-append}
use Rattle.input_laws.specs.ArrivalsRead.{HasReadPieces, arrivals_read}
use Rattle.input_laws.proofs.Events.{added_by, requests_now, no_request, all_requests, nothing_added}
use Rattle.input_laws.proofs.Handed.{bytes_more}
use Rattle.input_laws.proofs.Telling.{pieces-append, messages_read, arrivals_of_read}
use Rattle.input_laws.proofs.ArrivalsRead.{read_first, read_all}
use Rattle.live_laws.proofs.RequestsInFlight.{sends-more, sends-closes, sends-append}
use Rattle.live_laws.proofs.TurnWrites.{writes_send}

module _ (next : Handler) (given : Invocation) (id : Text) (events : List Event) where
  same_asked : (event : Event) (coming left : List Frame) → begins id event ≡ false → requests_in (added_by events id event) ≡ [] → left ≡ coming
      → recorded_requests (event ∷ events) id ++ requests_sent left ≡ recorded_requests events id ++ requests_sent coming
  same_asked event coming left old adds e =
      ap₂ (λ (requests : List Request) (some : List Frame). requests ++ requests_sent some)
      (requests_now event events id old ∙ ap (λ (more : List Request). recorded_requests events id ++ more) adds ∙ append-nil (recorded_requests events id)) e

  -- what was recorded and what is on its way stay the same together
  pub asked_same : (event : Event) (coming left : List Frame) → begins id event ≡ false → begins_attempt id event ≡ false → PassesOn id event coming left
      → recorded_requests (event ∷ events) id ++ requests_sent left ≡ recorded_requests events id ++ requests_sent coming
  asked_same (Event.Move other attempt frame) coming left old going passes = by_id (bytes_eq other id) refl
    where
      event : Event
      event = Event.Move other attempt frame

      by_id : (b : Bool) → bytes_eq other id ≡ b
          → recorded_requests (Event.Move other attempt frame ∷ events) id ++ requests_sent left ≡ recorded_requests events id ++ requests_sent coming
      by_id true e =
          ap (λ (requests : List Request). requests ++ requests_sent left)
          (requests_now (Event.Move other attempt frame) events id old
          ∙ ap (λ (more : List Request). recorded_requests events id ++ more) (all_requests events id (Event.Move other attempt frame) e))
          ∙ append_assoc (recorded_requests events id) (request_sent frame) (requests_sent left)
          ∙ ap (λ (some : List Frame). recorded_requests events id ++ requests_sent some) (sym (passes.0 e))
      by_id false e = same_asked (Event.Move other attempt frame) coming left old (ap requests_in (nothing_added events id (Event.Move other attempt frame) e refl)) (passes.1 e)
  asked_same (Event.Begin other now) coming left old going passes =
      same_asked (Event.Begin other now) coming left old (no_request events id (Event.Begin other now) refl) (passes.1 going)
  asked_same event coming left old going passes = same_asked event coming left old (no_request events id event refl) passes

-- what a turn may write over what the attempt has read is of the run over what it was handed, if a suspension has read all of it
pub turn_sends : (next : Handler) (given : Invocation) (id : Text) (events : List Event) (held : Bytes) (read unread : List Piece) (asked : List Request) (written : List Frame)
    → HasReadPieces events id held read unread → ((suspension : Option Suspension) → written ≡ Frame.Suspend suspension ∷ [] → arrivals_within unread (length held) ≡ 0)
    → WritesOfRun next given (arrivals_read events id read) (is_input_closed events id) asked written
    → SendsOfRun next given (arrivals_handed events id) (is_input_closed events id) asked written
turn_sends next given id events held read unread asked written reads whole writes = by_written written writes whole
  where
    -- frames that are of the run over what was read, whether the input is closed or not
    unclosed : (frames : List Frame) → SendsOfRun next given (arrivals_read events id read) false asked frames → SendsOfRun next given (arrivals_handed events id) (is_input_closed events id) asked frames
    unclosed frames sends =
        let (rest, more) = read_first events id held read unread reads in
        let over_handed : SendsOfRun next given (arrivals_handed events id) false asked frames =
        subst (λ (arrivals : List Arrival). SendsOfRun next given arrivals false asked frames) (sym more) (sends-more next given (arrivals_read events id read) rest asked frames sends) in
        by_closed (is_input_closed events id) over_handed (sends-closes next given (arrivals_handed events id) false asked frames over_handed)
      where
        by_closed : (b : Bool) → SendsOfRun next given (arrivals_handed events id) false asked frames → SendsOfRun next given (arrivals_handed events id) true asked frames
            → SendsOfRun next given (arrivals_handed events id) b asked frames
        by_closed true open_so closed_so = closed_so
        by_closed false open_so closed_so = open_so

    by_written : (frames : List Frame) → WritesOfRun next given (arrivals_read events id read) (is_input_closed events id) asked frames
        → ((suspension : Option Suspension) → frames ≡ Frame.Suspend suspension ∷ [] → arrivals_within unread (length held) ≡ 0)
        → SendsOfRun next given (arrivals_handed events id) (is_input_closed events id) asked frames
    by_written frames nothing whole = tt
    by_written frames (answers some left calls stands turn) whole =
        unclosed (map Frame.Command some) (writes_send next given (arrivals_read events id read) false asked (map Frame.Command some) (answers some left calls stands turn))
    by_written frames (notes some all) whole =
        unclosed some (writes_send next given (arrivals_read events id read) false asked some (notes some all))
    by_written frames (fails some more begins all) whole =
        unclosed (map Frame.Command some ++ more) (writes_send next given (arrivals_read events id read) false asked (map Frame.Command some ++ more) (fails some more begins all))
    by_written frames (awaits awaited waits) whole = (tt, tt)
    by_written frames (suspends suspension closed waits) whole =
        ((closed, subst (λ (arrivals : List Arrival). WaitsAll next given arrivals asked suspension) (sym (read_all events id held read unread reads (whole suspension refl))) waits), tt)
    by_written frames (ends over) whole =
        unclosed (Frame.End ∷ []) (writes_send next given (arrivals_read events id read) false asked (Frame.End ∷ []) (ends over))

pub requests_sent-append : (xs ys : List Frame) → requests_sent (xs ++ ys) ≡ requests_sent xs ++ requests_sent ys
requests_sent-append [] ys = refl
requests_sent-append (x ∷ xs) ys = ap (λ (rest : List Request). request_sent x ++ rest) (requests_sent-append xs ys) ∙ sym (append_assoc (request_sent x) (requests_sent xs) (requests_sent ys))

-- ---- a turn

-- the attempt reads messages of which it holds all bytes
pub reads_messages : (events : List Event) (id : Text) (held held' : Bytes) (read unread some still : List InputMessage) → unread ≡ some ++ still → held ≡ input_bytes (map piece_of some) ++ held'
    → HasReadMessages events id held read unread → HasReadMessages events id held' (read ++ some) still
reads_messages events id held held' read unread some still parts bytes reads = record {
  all =
      subst (λ (all : List InputMessage). IsInput events id all)
      (ap (λ (rest : List InputMessage). read ++ rest) parts ∙ sym (append_assoc read some still)) reads.all;
  bytes =
      append_cancel_left (input_bytes (map piece_of some)) (held' ++ input_left events id) (input_bytes (map piece_of still))
      (sym (append_assoc (input_bytes (map piece_of some)) held' (input_left events id)) ∙ ap (λ (all : Bytes). all ++ input_left events id) (sym bytes)
      ∙ reads.bytes ∙ ap (λ (all : List InputMessage). input_bytes (map piece_of all)) parts
      ∙ ap input_bytes (pieces-append some still) ∙ bytes_more (map piece_of some) (map piece_of still));
}

module _ (next : Handler) (given : Invocation) (id : Text) (events : List Event) (coming : List Frame) (held held' : Bytes) (read unread : List InputMessage) (calls : ℕ)
    (left written : List Request) (sent : List Frame) (live : IsLive next given id events coming held read unread calls left written)
    (turn : TurnsOfRun next given (is_input_closed events id) held read unread (recorded_requests events id ++ requests_sent coming) held' sent) where
  all_messages : read ++ unread ≡ (read ++ turn.some) ++ turn.still
  all_messages = ap (λ (rest : List InputMessage). read ++ rest) turn.parts ∙ sym (append_assoc read turn.some turn.still)

  now_read : HasReadMessages events id held' (read ++ turn.some) turn.still
  now_read = reads_messages events id held held' read unread turn.some turn.still turn.parts turn.bytes live.input

  pub turn_follows : FollowsSo next given id events coming → FollowsSo next given id events (coming ++ sent)
  turn_follows f = record {
    accepted = f.accepted;
    holds = f.holds;
    flies = λ attempt is. sends-append next given (arrivals_handed events id) (is_input_closed events id) (recorded_requests events id) coming sent (f.flies attempt is) sends;
  }
    where
      sends : SendsOfRun next given (arrivals_handed events id) (is_input_closed events id) (recorded_requests events id ++ requests_sent coming) sent
      sends =
          turn_sends next given id events held' (map piece_of (read ++ turn.some)) (map piece_of turn.still) (recorded_requests events id ++ requests_sent coming) sent
          (messages_read events id held' (read ++ turn.some) turn.still now_read)
          turn.whole
          (subst (λ (arrivals : List Arrival). WritesOfRun next given arrivals (is_input_closed events id) (recorded_requests events id ++ requests_sent coming) sent)
          (sym (arrivals_of_read events id held' (read ++ turn.some) turn.still now_read)) turn.writes)

  pub turn_lives : (calls' : ℕ) (left' : List Request) → IsPosition next given (read ++ turn.some) turn.still calls' left' (written ++ requests_sent sent)
      → IsLive next given id events (coming ++ sent) held' (read ++ turn.some) turn.still calls' left' (written ++ requests_sent sent)
  turn_lives calls' left' position = record {
    input = now_read;
    position = position;
    asked =
        ap (λ (some : List Request). recorded_requests events id ++ some) (requests_sent-append coming sent)
        ∙ sym (append_assoc (recorded_requests events id) (requests_sent coming) (requests_sent sent))
        ∙ ap (λ (some : List Request). some ++ requests_sent sent) live.asked
        ∙ append_assoc (requests_carried (read ++ unread)) written (requests_sent sent)
        ∙ ap (λ (all : List InputMessage). requests_carried all ++ (written ++ requests_sent sent)) all_messages;
  }

pub turn_keeps : TurnsKeep
turn_keeps next given id events coming held held' read unread calls left written sent f live turn = (
  turn_follows next given id events coming held held' read unread calls left written sent live turn f,
  turn_lives next given id events coming held held' read unread calls left written sent live turn,
)

-- ---- positions

pub position_at_call : PositionsAreAtCalls
position_at_call next given read unread calls left written position = record { going = position.going; asked_is = by_replay position.replays }
  where
    so_far : List Request
    so_far = run_requests next given (arrivals_carried read) calls

    by_replay : ((left ≡ []) × (requests_carried unread ≡ [])) ⊎ (written ≡ [])
        → requests_carried (read ++ unread) ++ written ≡ run_requests next given (arrivals_carried read) calls ++ (left ++ requests_carried unread)
    by_replay (inl (none, all)) =
        ap (λ (some : List Request). some ++ written) (requests_carried-append read unread ∙ ap (λ (some : List Request). requests_carried read ++ some) all ∙ append-nil (requests_carried read))
        ∙ sym position.requests
        ∙ ap (λ (some : List Request). run_requests next given (arrivals_carried read) calls ++ some) (sym (append-nil left) ∙ ap (λ (some : List Request). left ++ some) (sym all))
    by_replay (inr none) =
        ap (λ (some : List Request). requests_carried (read ++ unread) ++ some) none ∙ append-nil (requests_carried (read ++ unread))
        ∙ requests_carried-append read unread
        ∙ ap (λ (some : List Request). some ++ requests_carried unread)
        (sym (append-nil (requests_carried read)) ∙ ap (λ (some : List Request). requests_carried read ++ some) (sym none) ∙ sym position.requests)
        ∙ append_assoc (run_requests next given (arrivals_carried read) calls) left (requests_carried unread)
