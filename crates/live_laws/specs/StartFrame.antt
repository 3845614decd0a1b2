-- What an attempt takes from its start frame, and where that frame is until it is read.
use Rattle.std.specs.Prelude.{◌≡◌, ◌+◌, ℕ, List, length}
use Rattle.protocol_types.specs.declared.message_type.MessageType.TheVariants.{Start}
use Rattle.journal_model.specs.declared.invocation.NewInvocation.{NewInvocation}
use Rattle.journal_model.specs.declared.options.RunOptions.{RunOptions}
use Rattle.journal_model.specs.Notification.{Bytes, Text}
use Rattle.journal_model.specs.State.{StateMap, StartState, state_after}
use Rattle.journal_model.specs.Spelling.{frame_bytes}
use Rattle.journal_model.specs.Start.{start_payload, start_payload_of}
use Rattle.journal_model.specs.Run.{Handler, Invocation, BeginsRun}
use Rattle.journal_model.specs.Event.{Event}
use Rattle.journal_model.specs.Journal.{starting_state}
use Rattle.journal_model.specs.Headline.{run_of, shown_state}
use Rattle.input_laws.specs.Message.{InputMessage, arrivals_carried, requests_carried}
use Rattle.attempt_model.specs.Simulation.{IsShown}
use Rattle.live_laws.specs.BegunAttempts.{journal_after, BegunWith}

-- what an attempt was begun with: the invocation, the messages of its journal, its start frame, what its run begins with, and the state that
-- the start frame shows
pub record AttemptStart : Type 0 where
  pub new : NewInvocation
  pub journal : List InputMessage
  pub frame : Bytes
  pub given : Invocation
  pub shown : StartState

-- the last attempt was begun with this: the run is that of the invocation with these options, from its object's state at its begin; what is shown
-- is what the journal has made of that state; and the journal begins the run
pub record IsBegunAs (next : Handler) (options : RunOptions) (fallback_seed : ℕ) (events : List Event) (id : Text) (start : AttemptStart) : Type 0 where
  pub begun : BegunWith events id start.new start.journal start.frame
  pub given_is : start.given ≡ run_of options fallback_seed start.new (starting_state events id)
  pub shown_is : start.shown ≡ shown_state start.new.state (state_after (requests_carried start.journal) (starting_state events id))
  pub of_run : BeginsRun next start.given (arrivals_carried start.journal) (requests_carried start.journal)

-- the start that an attempt has which is begun now, after these events
abbrev pub start_after : RunOptions → ℕ → List Event → Text → ℕ → NewInvocation → AttemptStart
start_after options fallback_seed events id now new = record {
  new = new;
  journal = journal_after events id;
  frame = frame_bytes Start (start_payload events id now);
  given = run_of options fallback_seed new (starting_state events id);
  shown = shown_state new.state (state_after (requests_carried (journal_after events id)) (starting_state events id));
}

-- a frame that shows this state of this many entries
pub record FrameShowsState (new : NewInvocation) (state : StateMap) (known_entries : ℕ) (frame : Bytes) : Type 0 where
  pub retry_count : ℕ
  pub duration : ℕ
  pub frame_is : frame ≡ frame_bytes Start (start_payload_of new state known_entries retry_count duration)

-- the start frame shows the state that the machine begins with, and that is one that its run knows
pub record ShowsStart (start : AttemptStart) : Type 0 where
  pub state : StateMap
  pub shown_is : start.shown ≡ shown_state start.new.state state
  pub shows : FrameShowsState start.new state (1 + length start.journal) start.frame
  pub known : IsShown start.given.start (requests_carried start.journal) start.shown
