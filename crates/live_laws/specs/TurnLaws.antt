-- The laws of this crate.
use Rattle.std.specs.Prelude.{◌≡◌, ℕ, true, false, List, [], ◌∷◌, ◌++◌, take, Option, Some, None, length}
use Rattle.std.specs.List.{AllByRecursion}
use Rattle.protocol_types.specs.declared.message_type.MessageType.TheVariants.{Start}
use Rattle.journal_model.specs.declared.value.NonEmptyValue.{NonEmptyValue}
use Rattle.journal_model.specs.Spelling.{frame_bytes}
use Rattle.journal_model.specs.Start.{start_payload}
use Rattle.journal_model.specs.Notification.{Bytes, Text}
use Rattle.journal_model.specs.Request.{Request}
use Rattle.journal_model.specs.declared.invocation.NewInvocation.{NewInvocation}
use Rattle.journal_model.specs.declared.options.RunOptions.{RunOptions}
use Rattle.journal_model.specs.Run.{Handler, Invocation, BeginsRun}
use Rattle.journal_model.specs.Event.{Suspension, Event, Frame}
use Rattle.journal_model.specs.Journal.{begins, invocation_begun, starting_state, entries_of, recorded_requests}
use Rattle.journal_model.specs.Attempt.{Piece, begins_attempt, bytes_asked, is_input_closed, input_left, arrivals_within}
use Rattle.journal_model.specs.Cause.{causes_of, IsAccepted}
use Rattle.journal_model.specs.Headline.{run_of, Headline, NeverLate, WakesExactly, arrivals_handed}
use Rattle.run_laws.specs.Position.{IsAtCall}
use Rattle.input_laws.specs.ArrivalsRead.{HasReadPieces, arrivals_read}
use Rattle.input_laws.specs.Message.{InputMessage, CarriesInput, arrivals_carried, requests_carried, IsBroughtBy}
use Rattle.input_laws.specs.CompletionsOnce.{ComeWhenAsked}
use Rattle.run_laws.specs.HeldInvocations.{Holds}
use Rattle.live_laws.specs.RequestsInFlight.{requests_sent, SendsOfRun, FollowsSo, PassesOn, ScheduleOfRun}
use Rattle.live_laws.specs.TurnWrites.{WritesOfRun}
use Rattle.live_laws.specs.BegunAttempts.{journal_after, BegunWith, proposals_in, HasInput}
use Rattle.live_laws.specs.Live.{IsPosition, IsLive, TurnsOfRun}

-- ---- schedules

-- an event that is accepted keeps an invocation in its run
abbrev pub EventsKeep : Type 0
EventsKeep = (next : Handler) (given : Invocation) (id : Text) (event : Event) (events : List Event) (coming left : List Frame)
    → causes_of events event ≡ [] → PassesOn id event coming left → FollowsSo next given id events coming → FollowsSo next given id (event ∷ events) left

-- so does a schedule whose attempts write frames of the run alone
abbrev pub SchedulesFollow : Type 0
SchedulesFollow = (next : Handler) (given : Invocation) (id : Text) (events : List Event) (coming : List Frame)
    → ScheduleOfRun next given id events coming → FollowsSo next given id events coming

-- what a schedule leaves of an invocation that was begun: what it needs to go on with, and the waking clauses
pub record LeavesOfRun (next : Handler) (given : Invocation) (id : Text) (events : List Event) : Type 0 where
  pub holds : Holds next given id events
  pub never_late : NeverLate next given events id
  pub exactly : WakesExactly next given events id

-- and it leaves the headline
abbrev pub SchedulesLeave : Type 0
SchedulesLeave = (next : Handler) (options : RunOptions) (fallback_seed : ℕ) (id : Text) (events : List Event) (coming : List Frame)
    → ((new : NewInvocation) → invocation_begun events id ≡ Some new → ScheduleOfRun next (run_of options fallback_seed new (starting_state events id)) id events coming)
    → Headline next options fallback_seed events id
    × ((new : NewInvocation) → invocation_begun events id ≡ Some new → LeavesOfRun next (run_of options fallback_seed new (starting_state events id)) id events)

-- an invocation that begins is in every run, whatever was on its way
abbrev pub BeginsFollow : Type 0
BeginsFollow = (next : Handler) (given : Invocation) (id : Text) (event : Event) (events : List Event) → IsAccepted (event ∷ events) → begins id event ≡ true
    → FollowsSo next given id (event ∷ events) []

-- ---- turns

-- what a turn may write over what the attempt has read is of the run over what it was handed
abbrev pub TurnsSend : Type 0
TurnsSend = (next : Handler) (given : Invocation) (id : Text) (events : List Event) (held : Bytes) (read unread : List Piece) (asked : List Request) (sent : List Frame)
    → HasReadPieces events id held read unread → ((suspension : Option Suspension) → sent ≡ Frame.Suspend suspension ∷ [] → arrivals_within unread (length held) ≡ 0)
    → WritesOfRun next given (arrivals_read events id read) (is_input_closed events id) asked sent
    → SendsOfRun next given (arrivals_handed events id) (is_input_closed events id) asked sent

-- a turn of the live attempt keeps the invocation in its run, and where the attempt goes on it is live where it stands then
abbrev pub TurnsKeep : Type 0
TurnsKeep = (next : Handler) (given : Invocation) (id : Text) (events : List Event) (coming : List Frame) (held held' : Bytes) (read unread : List InputMessage) (calls : ℕ)
    (left written : List Request) (sent : List Frame) → FollowsSo next given id events coming → IsLive next given id events coming held read unread calls left written
    → (turn : TurnsOfRun next given (is_input_closed events id) held read unread (recorded_requests events id ++ requests_sent coming) held' sent)
    → FollowsSo next given id events (coming ++ sent)
    × ((calls' : ℕ) (left' : List Request) → IsPosition next given (read ++ turn.some) turn.still calls' left' (written ++ requests_sent sent)
    → IsLive next given id events (coming ++ sent) held' (read ++ turn.some) turn.still calls' left' (written ++ requests_sent sent))

-- at its position an attempt has made so many calls of the run, and what is left to be replayed is what it has read of it and what it has not
abbrev pub PositionsAreAtCalls : Type 0
PositionsAreAtCalls = (next : Handler) (given : Invocation) (read unread : List InputMessage) (calls : ℕ) (left written : List Request)
    → IsPosition next given read unread calls left written
    → IsAtCall next given (arrivals_carried read) (requests_carried (read ++ unread) ++ written) calls (left ++ requests_carried unread)

-- ---- the live attempt, after one more event

-- an attempt that is begun has read nothing, and all of its journal is left
abbrev pub AttemptsBeginLive : Type 0
AttemptsBeginLive = (next : Handler) (given : Invocation) (id : Text) (event : Event) (events : List Event) (new : NewInvocation) → begins id event ≡ false → begins_attempt id event ≡ true
    → invocation_begun events id ≡ Some new
    → IsLive next given id (event ∷ events) [] [] [] (CarriesInput new ∷ journal_after events id) 0 [] []

-- an event that hands nothing to it may bring it more messages
abbrev pub EventsKeepLive : Type 0
EventsKeepLive = (next : Handler) (given : Invocation) (id : Text) (event : Event) (events : List Event) (coming coming' : List Frame) (held : Bytes) (read unread : List InputMessage)
    (calls : ℕ) (left written : List Request) → IsAccepted events → begins id event ≡ false → begins_attempt id event ≡ false → bytes_asked id event ≡ None
    → PassesOn id event coming coming' → IsLive next given id events coming held read unread calls left written
    → (more : List InputMessage) × AllByRecursion (IsBroughtBy (entries_of (event ∷ events) id) id event) more
    × IsLive next given id (event ∷ events) coming' held read (unread ++ more) calls left written

-- one that hands it the next bytes brings none
abbrev pub HandingOutKeepsLive : Type 0
HandingOutKeepsLive = (next : Handler) (given : Invocation) (id : Text) (events : List Event) (attempt most : ℕ) (coming : List Frame) (held : Bytes) (read unread : List InputMessage)
    (calls : ℕ) (left written : List Request) → IsAccepted events → IsLive next given id events coming held read unread calls left written
    → IsLive next given id (Event.Feed id attempt most ∷ events) coming (held ++ take most (input_left events id)) read unread calls left written

-- what has come to it has come once, and was asked for
abbrev pub MessagesComeWhenAsked : Type 0
MessagesComeWhenAsked = (next : Handler) (given : Invocation) (id : Text) (events : List Event) (coming : List Frame) (held : Bytes) (read unread : List InputMessage) (calls : ℕ)
    (left written : List Request) → IsAccepted events → IsLive next given id events coming held read unread calls left written
    → ComeWhenAsked (recorded_requests events id) (arrivals_carried (read ++ unread))

pub record AttemptsAreLive : Type 0 where
  pub begins : AttemptsBeginLive
  pub events : EventsKeepLive
  pub handed : HandingOutKeepsLive
  pub asked : MessagesComeWhenAsked

-- ---- what the live attempt was begun with

-- an attempt that is begun is begun with its journal, and with the start frame of that moment
abbrev pub AttemptsBeginWith : Type 0
AttemptsBeginWith = (id : Text) (now : ℕ) (events : List Event) (new : NewInvocation) → IsAccepted (Event.Begin id now ∷ events) → invocation_begun events id ≡ Some new
    → BegunWith (Event.Begin id now ∷ events) id new (journal_after events id) (frame_bytes Start (start_payload events id now))

-- and each event of it leaves that as it is
abbrev pub BegunWithStays : Type 0
BegunWithStays = (events : List Event) (id : Text) (event : Event) (new : NewInvocation) (journal : List InputMessage) (start : Bytes) → begins id event ≡ false → begins_attempt id event ≡ false
    → BegunWith events id new journal start → BegunWith (event ∷ events) id new journal start

-- its journal begins the run
abbrev pub JournalsBegin : Type 0
JournalsBegin = (next : Handler) (given : Invocation) (id : Text) (events : List Event) → Holds next given id events
    → BeginsRun next given (arrivals_carried (journal_after events id)) (requests_carried (journal_after events id))

pub record AttemptsBeginWithJournals : Type 0 where
  pub begins : AttemptsBeginWith
  pub stays : BegunWithStays
  pub of_run : JournalsBegin

-- ---- its messages

-- they are the input and the journal at first
abbrev pub InputsBegin : Type 0
InputsBegin = (events : List Event) (id : Text) (new : NewInvocation) (journal : List InputMessage) → HasInput events id [] [] new journal (CarriesInput new ∷ journal)

-- what an event brings is behind the journal
abbrev pub InputsGoOn : Type 0
InputsGoOn = (events : List Event) (id : Text) (event : Event) (coming coming' : List Frame) (proposed : List (ℕ × NonEmptyValue)) (new : NewInvocation)
    (journal messages more : List InputMessage) → begins id event ≡ false → begins_attempt id event ≡ false → PassesOn id event coming coming'
    → AllByRecursion (IsBroughtBy (entries_of (event ∷ events) id) id event) more
    → HasInput events id coming proposed new journal messages → HasInput (event ∷ events) id coming' proposed new journal (messages ++ more)

-- and after a turn what it has sent is among what it has proposed
abbrev pub TurnsPropose : Type 0
TurnsPropose = (events : List Event) (id : Text) (coming sent : List Frame) (proposed : List (ℕ × NonEmptyValue)) (new : NewInvocation) (journal messages : List InputMessage)
    → HasInput events id coming proposed new journal messages → HasInput events id (coming ++ sent) (proposed ++ proposals_in sent) new journal messages

pub record InputsHaveJournals : Type 0 where
  pub begins : InputsBegin
  pub events : InputsGoOn
  pub turns : TurnsPropose
