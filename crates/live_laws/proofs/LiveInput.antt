-- The live attempt, after one more event.
use Rattle.std.proofs.Common.{subst, ℕ, ◌≡◌, refl, sym, ap, ap₂, ◌∙◌, ◌⊎◌, inl, inr, Bool, true, false, ◌||◌, if◌then◌else◌, List, [], ◌∷◌, ◌++◌, append-nil, append_assoc, take, map, Option, Some, None, bytes_eq}
use Rattle.journal_model.specs.declared.invocation.NewInvocation.{NewInvocation}
use Rattle.journal_model.specs.Notification.{Bytes, Text, Arrival}
use Rattle.journal_model.specs.Request.{Request}
use Rattle.journal_model.specs.Run.{Handler, Invocation}
use Rattle.journal_model.specs.Event.{Event, Frame}
use Rattle.journal_model.specs.Journal.{Entry, requests_in, begins, invocation_begun, starting_state, arrivals_in, entries_of, recorded_requests, recorded_arrivals}
use Rattle.journal_model.specs.Attempt.{Piece, begins_attempt, bytes_asked, journal_pieces, input_pieces, input_bytes, input_left}
use Rattle.journal_model.specs.Cause.{IsAccepted}
use Rattle.live_laws.specs.RequestsInFlight.{PassesOn}
use Rattle.input_laws.specs.Message.{InputMessage, CarriesInput, piece_of, arrivals_carried, requests_carried, message_of, IsBroughtBy}
use Rattle.live_laws.specs.Live.{IsLive}
use Rattle.std.specs.List.{AllByRecursion}
use Rattle.input_laws.specs.CompletionsOnce.{ComeWhenAsked}
use Rattle.input_laws.proofs.Results.{recorded_when_asked}
use Rattle.input_laws.proofs.Events.{entries_now, itself, arrivals_now, requests_now}
use Rattle.live_laws.specs.TurnLaws.{MessagesComeWhenAsked, AttemptsBeginLive, EventsKeepLive, HandingOutKeepsLive}
use Rattle.input_laws.proofs.News.{news, requests_carried-append}
use Rattle.input_laws.proofs.Handed.{brought, pieces_now, quiet_pieces, begin_added}
use Rattle.input_laws.proofs.ArrivalsRead.{reads_on, reads_more, reads_first}
use Rattle.input_laws.proofs.Telling.{pieces-append, arrivals_carried-append, entries_pieces, entries_arrivals, entries_requests, messages_read}
use Rattle.live_laws.proofs.LiveTurns.{asked_same}

module _ (next : Handler) (given : Invocation) (id : Text) (events : List Event) where
  -- an event that hands nothing to it
  pub live_on : (event : Event) (coming coming' : List Frame) (held : Bytes) (read unread : List InputMessage) (calls : ℕ) (left written : List Request) → IsAccepted events
      → (old : begins id event ≡ false) (going : begins_attempt id event ≡ false) → bytes_asked id event ≡ None → PassesOn id event coming coming'
      → IsLive next given id events coming held read unread calls left written
      → IsLive next given id (event ∷ events) coming' held read (unread ++ (news events id event old going).messages) calls left written
  live_on event coming coming' held read unread calls left written accepted old going asks passes live =
      let new = news events id event old going in
      let reads = reads_on events id held (map piece_of read) (map piece_of unread) (messages_read events id held read unread live.input) event accepted old going asks in
      let no_more : requests_carried (unread ++ new.messages) ≡ requests_carried unread =
      requests_carried-append unread new.messages ∙ ap (λ (some : List Request). requests_carried unread ++ some) new.none ∙ append-nil (requests_carried unread) in record {
        input = record {
          all = record {
            pieces =
                pieces_now events event id old going ∙ ap₂ (λ (xs ys : List Piece). xs ++ ys) live.input.all.pieces new.pieces_are
                ∙ sym (pieces-append (read ++ unread) new.messages) ∙ ap (λ (all : List InputMessage). map piece_of all) (append_assoc read unread new.messages);
            arrivals =
                ap arrivals_carried (sym (append_assoc read unread new.messages)) ∙ arrivals_carried-append (read ++ unread) new.messages
                ∙ ap₂ (λ (xs ys : List Arrival). xs ++ ys) live.input.all.arrivals new.arrivals_are ∙ sym (arrivals_now event events id old);
          };
          bytes =
              reads.bytes ∙ ap (λ (pieces : List Piece). input_bytes (map piece_of unread ++ pieces)) new.pieces_are ∙ ap input_bytes (sym (pieces-append unread new.messages));
        };
        position = record {
          going = live.position.going;
          requests = live.position.requests;
          replays = by_replay (requests_carried (unread ++ new.messages)) no_more live.position.replays;
        };
        asked =
            asked_same next given id events event coming coming' old going passes ∙ live.asked
            ∙ ap (λ (some : List Request). some ++ written)
            (requests_carried-append read unread ∙ ap (λ (some : List Request). requests_carried read ++ some) (sym no_more) ∙ sym (requests_carried-append read (unread ++ new.messages)));
      }
    where
      by_replay : (some : List Request) → some ≡ requests_carried unread → ((left ≡ []) × (requests_carried unread ≡ [])) ⊎ (written ≡ []) → ((left ≡ []) × (some ≡ [])) ⊎ (written ≡ [])
      by_replay some e (inl (none, all)) = inl (none, e ∙ all)
      by_replay some e (inr none) = inr none

  -- one that hands it the next bytes
  pub live_more : (attempt most : ℕ) (coming : List Frame) (held : Bytes) (read unread : List InputMessage) (calls : ℕ) (left written : List Request) → IsAccepted events → bytes_eq id id ≡ true
      → IsLive next given id events coming held read unread calls left written
      → IsLive next given id (Event.Feed id attempt most ∷ events) coming (held ++ take most (input_left events id)) read unread calls left written
  live_more attempt most coming held read unread calls left written accepted itself live =
      let event = Event.Feed id attempt most in
      let nothing : brought events event id refl refl ≡ [] = quiet_pieces (starting_state events id) events id event (entries_of events id) refl (both (bytes_eq id id || false)) in
      let reads = reads_more events id held (map piece_of read) (map piece_of unread) (messages_read events id held read unread live.input) event accepted refl refl most
      (ap (λ (b : Bool). if b then Some most else None) itself) nothing in record {
        input = record {
          all = record {
            pieces = pieces_now events event id refl refl ∙ ap (λ (pieces : List Piece). input_pieces events id ++ pieces) nothing ∙ append-nil (input_pieces events id) ∙ live.input.all.pieces;
            arrivals =
                live.input.all.arrivals
                ∙ sym (arrivals_now event events id refl ∙ ap (λ (added : List Entry). recorded_arrivals events id ++ arrivals_in added) (both (bytes_eq id id || false)) ∙ append-nil (recorded_arrivals events id));
          };
          bytes = reads.bytes;
        };
        position = live.position;
        asked = asked_same next given id events event coming coming refl refl refl ∙ live.asked;
      }
    where
      both : (b : Bool) → ◌≡◌ {A = List Entry} (if b then [] else []) []
      both true = refl
      both false = refl

  -- a new attempt: all of the journal is left to be replayed
  pub live_first : (event : Event) (new : NewInvocation) → begins id event ≡ false → begins_attempt id event ≡ true → invocation_begun events id ≡ Some new
      → IsLive next given id (event ∷ events) [] [] [] (CarriesInput new ∷ map (message_of (entries_of events id)) (entries_of events id)) 0 [] []
  live_first event new old e begun =
      let entries = entries_of events id in
      let reads = reads_first events event id old e in
      let pieces = ap (λ (o : Option NewInvocation). journal_pieces o (entries_of events id)) begun ∙ ap (λ (rest : List Piece). piece_of (CarriesInput new) ∷ rest) (entries_pieces entries entries) in record {
        input = record {
          all = record {
            pieces = reads.pieces ∙ pieces;
            arrivals =
                entries_arrivals entries entries
                ∙ sym (arrivals_now event events id old ∙ ap (λ (added : List Entry). recorded_arrivals events id ++ arrivals_in added) (begin_added events event id e) ∙ append-nil (recorded_arrivals events id));
          };
          bytes = reads.bytes ∙ ap input_bytes pieces;
        };
        position = record { going = refl; requests = refl; replays = inr refl };
        asked =
            ap (λ (some : List Request). some ++ [])
            (requests_now event events id old ∙ ap (λ (added : List Entry). recorded_requests events id ++ requests_in added) (begin_added events event id e) ∙ append-nil (recorded_requests events id)
            ∙ sym (entries_requests entries entries));
      }

pub begin_live : AttemptsBeginLive
begin_live next given id event events new old e begun = live_first next given id events event new old e begun

pub keep_live : EventsKeepLive
keep_live next given id event events coming coming' held read unread calls left written accepted old going asks passes live =
    let new = news events id event old going in (
      new.messages,
      subst (λ (entries : List Entry). AllByRecursion (IsBroughtBy entries id event) new.messages) (sym (entries_now event events id old)) new.brought,
      live_on next given id events event coming coming' held read unread calls left written accepted old going asks passes live,
    )

pub live_asked : MessagesComeWhenAsked
live_asked next given id events coming held read unread calls left written accepted live =
    subst (λ (arrivals : List Arrival). ComeWhenAsked (recorded_requests events id) arrivals) (sym live.input.all.arrivals) (recorded_when_asked events id accepted)

pub hand_live : HandingOutKeepsLive
hand_live next given id events attempt most coming held read unread calls left written accepted live =
    live_more next given id events attempt most coming held read unread calls left written accepted (itself id) live
