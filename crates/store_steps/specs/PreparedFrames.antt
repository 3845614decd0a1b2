-- What is made ready of a frame that the live attempt of an invocation has written.
use Rattle.std.specs.Prelude.{◌≡◌, ℕ, ◌+◌, Bool, true, false, List, length, Some, None, Result, unwrap_or}
use Rattle.journal_model.specs.Notification.{Text}
use Rattle.journal_model.specs.Event.{Frame, Event}
use Rattle.journal_model.specs.Journal.{version_of, entries_of, ends_attempt}
use Rattle.journal_model.specs.Attempt.{acknowledged, is_live, is_input_closed, arrivals_not_handed, is_woken}
use Rattle.due_laws.specs.Awake.{arrivals_heard}
use Rattle.journal_model.specs.Cause.{is_of_frame}
use Rattle.journal_model.specs.declared.cause.Cause.{Cause}
use Rattle.store_frames.specs.Answer.{IsFrame}
use Rattle.store_frames.specs.ReadFrames.{IsFrameRead}
use Rattle.store_frames.specs.declared.frame.AttemptFrame.{AttemptFrame}
use Rattle.store_frames.specs.declared.frame.AttemptFrame.TheVariants as told
use Rattle.store_tables.specs.declared.row.Progress.{Progress}
use Rattle.store_model.specs.Places.{handed_place}
use Rattle.store_model.specs.Writes.{writes_of}
use Rattle.store_refusals.specs.Preparations.{Prepares, TellsOrRefuses}
use Rattle.store_refusals.specs.RefusalConditions.{refusal_by}
use Rattle.store_refusals.specs.declared.refusal.Refusal.{Refusal}
use Rattle.store_refusals.specs.declared.refusal.Refusal.TheVariants as refusal
use Rattle.store_steps.specs.declared.frame.FrameReply.{FrameReply}
use Rattle.store_steps.specs.declared.frame.FrameReply.TheVariants as replies
use Rattle.store_steps.specs.declared.frame.LiveFacts.{LiveFacts}
use Rattle.store_steps.specs.declared.frame.PreparedFrame.{PreparedFrame}
use Rattle.store_steps.specs.FrameAnswers.{tests_of_told, writes_of_told, reply_to_told}

-- ---- by the events

-- the attempt is live, and this is known of it
pub record KnowsLive (events : List Event) (id : Text) (number : ℕ) (attempt : LiveFacts) : Type 0 where
  pub live : is_live events id number ≡ true
  pub closed : attempt.is_input_closed ≡ is_input_closed events id
  pub handed : attempt.handed ≡ handed_place events id
  pub heard : attempt.heard ≡ arrivals_heard events id

-- whether a suspension is awake at once, under what its attempt was not handed
abbrev pub IsAwakeAtOnce : List Event → Text → Frame → Bool → Type 0
IsAwakeAtOnce events id (Frame.Suspend (Some suspension)) is_awake = is_awake ≡ is_woken (arrivals_not_handed events id) (Some suspension)
IsAwakeAtOnce events id _ is_awake = Unit {0}

-- the answer to a frame; a request is told its place
abbrev pub IsReply : List Event → Text → Frame → FrameReply → Type 0
IsReply events id (Frame.Command request) (replies.Recorded place) = place ≡ 1 + length (entries_of events id)
IsReply events id (Frame.RunOutcome n value is_acknowledged) (replies.Recorded place) = place ≡ 1 + length (entries_of events id)
IsReply events id (Frame.AwaitingOn awaited) replies.Noted = Unit {0}
IsReply events id (Frame.Suspend suspension) replies.Suspended = Unit {0}
IsReply events id (Frame.Error code message behavior delay) replies.Failed = Unit {0}
IsReply events id Frame.End replies.Ended = Unit {0}
IsReply events id _ _ = ⊥

pub record IsFrameTaken (events : List Event) (id : Text) (number : ℕ) (frame : Frame) (made : PreparedFrame) : Type 0 where
  pub writes : made.writes.items ≡ writes_of events (Event.Move id number frame)
  pub reply : IsReply events id frame made.reply
  pub acknowledged : made.acknowledged ≡ acknowledged (version_of events id) id (Event.Move id number frame)

-- whichever frame this is, and whatever number the live attempt has
abbrev pub TakesAttemptFrame : List Event → Text → LiveFacts → AttemptFrame → Result PreparedFrame Refusal → Type 0
TakesAttemptFrame events id attempt read result = (number : ℕ) (frame : Frame) → KnowsLive events id number attempt → IsFrameRead (version_of events id) frame → IsFrame frame read
    → Prepares events (Event.Move id number frame) (IsFrameTaken events id number frame) result

-- whether it is awake at once is told, whichever suspension this is
abbrev pub WakesAtOnce : List Event → Text → LiveFacts → AttemptFrame → Result Bool Refusal → Type 0
WakesAtOnce events id attempt read result = (number : ℕ) (frame : Frame) → KnowsLive events id number attempt → IsFrameRead (version_of events id) frame → IsFrame frame read
    → TellsOrRefuses (IsAwakeAtOnce events id frame) result

-- no command, and no outcome of a run
abbrev pub IsOtherFrame : AttemptFrame → Type 0
IsOtherFrame (told.Command command) = ⊥
IsOtherFrame (told.RunOutcome completion result asks) = ⊥
IsOtherFrame _ = Unit {0}

-- something is written of it, where it is accepted
abbrev pub is_written : AttemptFrame → Bool
is_written (told.Command command) = true
is_written (told.RunOutcome completion result asks) = true
is_written (told.Suspension payload) = true
is_written (told.Error code message behavior delay) = true
is_written told.End = true
is_written _ = false

-- ---- by what is kept of the invocation

pub record IsFrameMade (id object : Text) (version : ℕ) (p : Progress) (attempt : LiveFacts) (is_awake : Bool) (read : AttemptFrame) (made : PreparedFrame) : Type 0 where
  pub accepted : refusal_by (tests_of_told p attempt.is_input_closed read) ≡ None
  pub writes : made.writes.items ≡ writes_of_told id object version attempt is_awake p read
  pub reply : made.reply ≡ reply_to_told p read
  pub acknowledged : made.acknowledged ≡ None

-- the refusal of the first test that holds; where none does, memory was refused
abbrev pub IsWhy : Progress → LiveFacts → AttemptFrame → Refusal → Type 0
IsWhy p attempt read why = why ≡ unwrap_or (refusal_by (tests_of_told p attempt.is_input_closed read)) refusal.OutOfMemory

-- ---- which frames are the last ones of their attempts

abbrev pub does_end : FrameReply → Bool
does_end (replies.Recorded place) = false
does_end replies.Noted = false
does_end replies.Suspended = true
does_end replies.Failed = true
does_end replies.Ended = true

abbrev pub lies_in_frame : Refusal → Bool
lies_in_frame (refusal.Cause cause) = is_of_frame cause
lies_in_frame _ = false

-- a frame's answer says whether the frame ends its attempt
abbrev pub TellsEnd : FrameReply → Bool → Type 0
TellsEnd reply does = (events : List Event) (id : Text) (frame : Frame) → IsReply events id frame reply → does ≡ ends_attempt frame

-- a refusal says whether its cause lies in the frame
abbrev pub TellsFrameCause : Refusal → Bool → Type 0
TellsFrameCause why does = (cause : Cause) → refusal.Cause cause ≡ why → does ≡ is_of_frame cause
