-- What is known of the live attempt between turns, and what a turn may do.
use Rattle.std.specs.Prelude.{◌≡◌, ◌⊎◌, ℕ, Bool, List, [], ◌∷◌, ◌++◌, map, Option, length}
use Rattle.journal_model.specs.Notification.{Bytes, Text}
use Rattle.journal_model.specs.Request.{Request}
use Rattle.journal_model.specs.Run.{Handler, Invocation, GoesOn, run, run_requests}
use Rattle.journal_model.specs.Event.{Suspension, Event, Frame}
use Rattle.journal_model.specs.Journal.{recorded_requests}
use Rattle.journal_model.specs.Attempt.{input_bytes, arrivals_within}
use Rattle.live_laws.specs.RequestsInFlight.{requests_sent}
use Rattle.live_laws.specs.TurnWrites.{WritesOfRun}
use Rattle.input_laws.specs.Message.{InputMessage, piece_of, arrivals_carried, requests_carried, HasReadMessages}

-- Where an attempt stands that has read the first of these messages: so many calls of the run over the arrivals read were answered; their
-- requests, and behind them those that are left to be replayed, are those that were read, and behind them those that it has written; and
-- it has written none while one is left, read or unread
pub record IsPosition (next : Handler) (given : Invocation) (read unread : List InputMessage) (calls : ℕ) (left written : List Request) : Type 0 where
  pub going : (run next given (arrivals_carried read) calls).ending ≡ GoesOn
  pub requests : run_requests next given (arrivals_carried read) calls ++ left ≡ requests_carried read ++ written
  pub replays : ((left ≡ []) × (requests_carried unread ≡ [])) ⊎ (written ≡ [])

-- of the live attempt: what it has read and what it holds, where it stands, and that what is recorded and what is on its way are the requests
-- of its input and those that it has written
pub record IsLive (next : Handler) (given : Invocation) (id : Text) (events : List Event) (coming : List Frame) (held : Bytes) (read unread : List InputMessage) (calls : ℕ) (left written : List Request) : Type 0 where
  pub input : HasReadMessages events id held read unread
  pub position : IsPosition next given read unread calls left written
  pub asked : recorded_requests events id ++ requests_sent coming ≡ requests_carried (read ++ unread) ++ written

-- What a turn may do, whatever it is still to read: it reads frames of which it holds all bytes, and what it sends is of the run over the
-- arrivals that it has read then; where it suspends, no frame of what it still holds is whole
pub record TurnsOfRun (next : Handler) (given : Invocation) (is_closed : Bool) (held : Bytes) (read unread : List InputMessage) (asked : List Request) (held' : Bytes) (sent : List Frame) : Type 0 where
  pub some : List InputMessage
  pub still : List InputMessage
  pub parts : unread ≡ some ++ still
  pub bytes : held ≡ input_bytes (map piece_of some) ++ held'
  pub whole : (suspension : Option Suspension) → sent ≡ Frame.Suspend suspension ∷ [] → arrivals_within (map piece_of still) (length held') ≡ 0
  pub writes : WritesOfRun next given (arrivals_carried (read ++ some)) is_closed asked sent
