-- The live attempt with its machine, between turns.
use Rattle.std.specs.Prelude.{◌≡◌, ℕ, List, [], ◌∷◌, ◌++◌}
use Rattle.journal_model.specs.declared.options.RunOptions.{RunOptions}
use Rattle.journal_model.specs.declared.value.NonEmptyValue.{NonEmptyValue}
use Rattle.journal_model.specs.Notification.{Bytes, Text}
use Rattle.journal_model.specs.Run.{Handler}
use Rattle.journal_model.specs.Event.{Event, Frame}
use Rattle.journal_model.specs.Journal.{recorded_requests}
use Rattle.input_laws.specs.Message.{InputMessage, CarriesInput, requests_carried, HasReadMessages}
use Rattle.live_laws.specs.RequestsInFlight.{requests_sent}
use Rattle.live_laws.specs.BegunAttempts.{proposals_in, HasInput}
use Rattle.attempt_model.specs.Machine.{Machine, machine_at_start}
use Rattle.live_laws.specs.MachinePosition.{with_messages, IsMachineAt}
use Rattle.live_laws.specs.StartFrame.{AttemptStart, IsBegunAs}

-- a live attempt: what it was begun with, the bytes that it holds, and those among them that are of messages, the messages that it has read and
-- those that it has not, how many calls were answered, its machine, the frames that are on their way from it, and the outcomes that it has proposed
pub record AttemptInRun : Type 0 where
  pub start : AttemptStart
  pub bytes : Bytes
  pub held : Bytes
  pub read : List InputMessage
  pub unread : List InputMessage
  pub calls : ℕ
  pub machine : Machine
  pub coming : List Frame
  pub proposed : List (ℕ × NonEmptyValue)

-- as it is begun it holds its start frame, and was asked nothing
abbrev pub attempt_begun : AttemptStart → AttemptInRun
attempt_begun start = record {
  start = start;
  bytes = start.frame;
  held = [];
  read = [];
  unread = CarriesInput start.new ∷ start.journal;
  calls = 0;
  machine = machine_at_start start.shown [] [];
  coming = [];
  proposed = [];
}

-- its start frame is in front of what it was handed, until it has read that frame; until then it has read nothing else and was asked nothing
pub data HoldsStart (live : AttemptInRun) : Type 0 where
  start_unread : live.bytes ≡ live.start.frame ++ live.held → live.read ≡ [] → live.calls ≡ 0 → live.machine ≡ machine_at_start live.start.shown [] [] → HoldsStart live
  start_read : live.bytes ≡ live.held → HoldsStart live

-- it has read the input and its journal, and may be asked
pub record HasReadJournal (live : AttemptInRun) : Type 0 where
  pub later : List InputMessage
  pub parts : live.read ≡ CarriesInput live.start.new ∷ (live.start.journal ++ later)

-- between turns: what it was begun with, the bytes that it holds and which messages these are, and where its machine stands; what is recorded
-- and what is on its way are the requests of its input and those that it has written
pub record IsLiveMachine (next : Handler) (options : RunOptions) (fallback_seed : ℕ) (id : Text) (events : List Event) (live : AttemptInRun) : Type 0 where
  pub begun : IsBegunAs next options fallback_seed events id live.start
  pub messages : HasInput events id live.coming live.proposed live.start.new live.start.journal (live.read ++ live.unread)
  pub holds : HoldsStart live
  pub reads : HasReadMessages events id live.held live.read live.unread
  pub machine : IsMachineAt next live.start.given live.start.shown live.read live.unread live.calls live.machine
  pub asked : recorded_requests events id ++ requests_sent live.coming ≡ requests_carried (live.read ++ live.unread) ++ live.machine.written

-- after the next bytes were handed to it
abbrev pub handed_bytes : AttemptInRun → Bytes → AttemptInRun
handed_bytes live bytes = record live { bytes = live.bytes ++ bytes; held = live.held ++ bytes }

-- after it has read messages, whose bytes it held in front of these
abbrev pub after_reading : AttemptInRun → (some still : List InputMessage) → Bytes → AttemptInRun
after_reading live some still kept =
    record live { bytes = kept; held = kept; read = live.read ++ some; unread = still; machine = with_messages live.machine some }

-- after a turn has sent these frames, where it goes on with this machine, which was answered so many calls
abbrev pub after_turn : AttemptInRun → List Frame → ℕ → Machine → AttemptInRun
after_turn live sent calls after =
    record live { calls = calls; machine = after; coming = live.coming ++ sent; proposed = live.proposed ++ proposals_in sent }
