-- Why a frame is refused, what is written of it and how it is answered, by what is kept of its invocation and of the frame.
use Rattle.std.specs.Prelude.{ℕ, ◌+◌, ◌<◌, ◌-◌, ◌^◌, max, nat_lt, Bool, true, false, not, ◌&&◌, if◌then◌else◌, List, [], ◌∷◌, ◌++◌, map, Option, Some, None, option_to_list}
use Rattle.journal_model.specs.Notification.{Bytes, Text}
use Rattle.journal_model.specs.Cause.{Tests, do_ascend, greatest, is_too_long}
use Rattle.journal_model.specs.declared.cause.Cause.TheVariants.{BrokenPayload, NestedTooDeep, FrameNotAccepted, BadCompletion, KeyNotText, InputNotClosed, NumbersUsedUp, PayloadTooLong}
use Rattle.journal_model.specs.Journal.{never}
use Rattle.protocol_stream.specs.declared.command_facts.CommandFacts.{CommandFacts}
use Rattle.protocol_stream.specs.CommandFacts.{facts_of, is_answer, is_moment}
use Rattle.protocol_types.specs.declared.feature.Feature.TheVariants as features
use Rattle.protocol_types.specs.Feature.{has_feature}
use Rattle.store_frames.specs.declared.frame.RecordedCommand.{RecordedCommand}
use Rattle.store_frames.specs.declared.frame.StateUse.{StateUse}
use Rattle.store_frames.specs.declared.frame.StateUse.TheVariants as uses
use Rattle.store_frames.specs.declared.frame.ErrorBehavior.{ErrorBehavior}
use Rattle.store_frames.specs.declared.frame.ErrorBehavior.TheVariants as behaviors
use Rattle.store_frames.specs.declared.frame.AttemptFrame.{AttemptFrame}
use Rattle.store_frames.specs.declared.frame.AttemptFrame.TheVariants as told
use Rattle.store_tables.specs.declared.row.LastError.{LastError}
use Rattle.store_tables.specs.declared.row.Progress.{Progress}
use Rattle.store_tables.specs.declared.row.Closing.TheVariants.{Ended, Failed}
use Rattle.store_tables.specs.declared.row.EntryRow.{EntryRow}
use Rattle.store_tables.specs.declared.row.SleepRow.{SleepRow}
use Rattle.store_tables.specs.declared.row.Write.{Write}
use Rattle.store_tables.specs.declared.row.Write.TheVariants.{SetProgress, AddEntry, PutState, DropState, DropStates, OpenSleep, CloseSleeps}
use Rattle.store_model.specs.Steps.{payload_or}
use Rattle.store_steps.specs.declared.frame.LiveFacts.{LiveFacts}
use Rattle.store_steps.specs.declared.frame.FrameReply.{FrameReply}
use Rattle.store_steps.specs.declared.frame.FrameReply.TheVariants as replies

-- ---- commands

-- the completions that a command asks for, in order
abbrev pub asked : Option ℕ → Option ℕ → List ℕ
asked None second = []
asked (Some n) second = n ∷ option_to_list second

abbrev pub ids_asked_by : RecordedCommand → List ℕ
ids_asked_by command = asked command.completion command.second_completion

-- whether a command of this line puts a value out
abbrev pub puts_out : Option CommandFacts → Bool
puts_out None = false
puts_out (Some facts) = is_answer facts.kept

-- the payload of a command that puts a value out
abbrev pub value_put_out : RecordedCommand → Option Bytes
value_put_out command = if puts_out (facts_of command.kind) then Some command.payload else None

abbrev pub command_row : Text → ℕ → RecordedCommand → EntryRow
command_row id place command = record {
  invocation = id;
  place = place;
  kind = command.kind;
  payload = command.payload;
  completion = command.completion;
  second_completion = command.second_completion;
  answered = None;
  moment = command.moment;
  arrival = None;
}

-- whether the moment of a command of this line is kept, as one at which it is due
abbrev pub keeps_moment : Option CommandFacts → Bool
keeps_moment None = false
keeps_moment (Some facts) = is_moment facts.kept

-- the sleep that a command asks for, where it may be due some day
abbrev pub sleep_if : Bool → Text → ℕ → Option ℕ → List SleepRow
sleep_if true id moment (Some completion) = record { moment = moment; invocation = id; completion = completion } ∷ []
sleep_if true id moment None = []
sleep_if false id moment completion = []

abbrev pub sleep_told : Text → RecordedCommand → List SleepRow
sleep_told id command = sleep_if (keeps_moment (facts_of command.kind) && nat_lt command.moment never) id command.moment command.completion

-- how many answers the store gives to a command at once
abbrev pub answers_told : StateUse → ℕ
answers_told (uses.ReadValue key) = 1
answers_told uses.ReadKeys = 1
answers_told _ = 0

-- what it writes of the state of the object
abbrev pub state_told : Text → StateUse → List Write
state_told object (uses.Put key value) = PutState (record { object = object; key = key; value = value }) ∷ []
state_told object (uses.Remove key) = DropState object key ∷ []
state_told object uses.RemoveAll = DropStates object ∷ []
state_told object _ = []

abbrev pub after_recorded : RecordedCommand → Progress → Progress
after_recorded command p = record p {
  entries = p.entries + 1;
  attempts_since_entry = 0;
  first_moment = 0;
  last_completion = max p.last_completion (greatest (ids_asked_by command));
  answer = payload_or (value_put_out command) p.answer;
}

-- ---- ends of attempts

abbrev pub number_of_behavior : ErrorBehavior → ℕ
number_of_behavior behaviors.Retry = 0
number_of_behavior behaviors.Pause = 1
number_of_behavior behaviors.Fail = 2

-- whether an error closes its invocation
abbrev pub does_fail : ℕ → ErrorBehavior → Bool
does_fail version behaviors.Fail = has_feature version features.ErrorBehavior
does_fail version _ = false

-- it is awake at once where what it was not handed wakes it
abbrev pub after_suspension : Bytes → LiveFacts → Bool → Progress → Progress
after_suspension payload attempt is_awake p = record p {
  suspension = Some payload;
  handed = Some attempt.handed;
  heard = Some (attempt.heard);
  is_awake = is_awake;
}

abbrev pub after_error : LastError → Bool → Progress → Progress
after_error error fails p = record p {
  last_error = Some error;
  open_object = if fails then None else p.open_object;
  closing = if fails then Some Failed else p.closing;
  is_awake = if fails then false else p.is_awake;
}

abbrev pub after_end : LiveFacts → Progress → Progress
after_end attempt p = record p {
  open_object = None;
  closing = Some Ended;
  handed = Some attempt.handed;
  heard = Some (attempt.heard);
  is_awake = false;
}

abbrev pub error_told : ℕ → Text → ErrorBehavior → Option ℕ → LastError
error_told code message behavior delay = record { code = code; behavior = number_of_behavior behavior; delay = delay; message = message }

-- ---- all frames

-- why a frame of an attempt is refused, whose input is closed or not
abbrev pub tests_of_told : Progress → Bool → AttemptFrame → Tests
tests_of_told p is_closed (told.Command command) =
    (not (do_ascend p.last_completion (ids_asked_by command)), BadCompletion)
    ∷ (not command.are_keys_text, KeyNotText)
    ∷ (nat_lt (2 ^ 32 - 2) (answers_told command.state + p.entries), NumbersUsedUp)
    ∷ (is_too_long command.payload, PayloadTooLong) ∷ []
tests_of_told p is_closed (told.Suspension payload) = (not is_closed, InputNotClosed) ∷ []
tests_of_told p is_closed told.Broken = (true, BrokenPayload) ∷ []
tests_of_told p is_closed told.TooDeep = (true, NestedTooDeep) ∷ []
tests_of_told p is_closed told.NotAccepted = (true, FrameNotAccepted) ∷ []
tests_of_told p is_closed _ = []

-- an invocation that is closed has no sleeps any more
abbrev pub closing_writes : Bool → Text → List Write
closing_writes is_closed id = if is_closed then CloseSleeps id ∷ [] else []

-- what is written of a frame: of an invocation of this object that speaks this version, and where it is a suspension, by whether that
-- is awake at once
abbrev pub writes_of_told : Text → Text → ℕ → LiveFacts → Bool → Progress → AttemptFrame → List Write
writes_of_told id object version attempt is_awake p (told.Command command) =
    AddEntry (command_row id p.entries command) ∷ SetProgress id (after_recorded command p) ∷ (map OpenSleep (sleep_told id command) ++ state_told object command.state)
writes_of_told id object version attempt is_awake p (told.Suspension payload) = SetProgress id (after_suspension payload attempt is_awake p) ∷ []
writes_of_told id object version attempt is_awake p (told.Error code message behavior delay) =
    SetProgress id (after_error (error_told code message behavior delay) (does_fail version behavior) p) ∷ closing_writes (does_fail version behavior) id
writes_of_told id object version attempt is_awake p told.End = SetProgress id (after_end attempt p) ∷ closing_writes true id
writes_of_told id object version attempt is_awake p _ = []

-- how a frame is answered; one that is always refused has no answer of its own
abbrev pub reply_to_told : Progress → AttemptFrame → FrameReply
reply_to_told p (told.Command command) = replies.Recorded p.entries
reply_to_told p (told.Suspension payload) = replies.Suspended
reply_to_told p (told.Error code message behavior delay) = replies.Failed
reply_to_told p told.End = replies.Ended
reply_to_told p _ = replies.Noted

-- a command has a place to stand at
abbrev pub HasRoom : Progress → AttemptFrame → Type 0
HasRoom p (told.Command command) = p.entries < 2 ^ 32 - 1
HasRoom p _ = Unit {0}
