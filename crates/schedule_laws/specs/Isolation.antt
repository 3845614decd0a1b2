-- What stands of an invocation, what it is answered, and what that depends on.
use Rattle.std.specs.Prelude.{◌≡◌, ℕ, true, List, Some, Ok}
use Rattle.journal_model.specs.Notification.{Bytes, Text}
use Rattle.journal_model.specs.declared.notification.NotificationResult.{NotificationResult}
use Rattle.journal_model.specs.declared.notification.SignalKey.{SignalKey}
use Rattle.journal_model.specs.State.{state_after}
use Rattle.journal_model.specs.declared.invocation.NewInvocation.{NewInvocation}
use Rattle.journal_model.specs.Event.{Event, Frame}
use Rattle.journal_model.specs.Journal.{view_of, invocation_of, invocation_begun, starting_state, object_state, entries_of, frames_of, recorded_requests, closing_of, recorded_answer, is_open}
use Rattle.journal_model.specs.Start.{start_payload}
use Rattle.journal_model.specs.Attempt.{attempts_begun, live_attempt, input_left, is_due}
use Rattle.journal_model.specs.Headline.{arrivals_handed}
use Rattle.journal_model.specs.Cause.{causes_of, IsAccepted}
use Rattle.protocol_types.specs.Version.{version_number}
use Rattle.store_refusals.specs.RefusalConditions.{refusal_of_first_cause}
use Rattle.store_steps.specs.declared.frame.FrameReply.{FrameReply}
use Rattle.store_steps.specs.PreparedFrames.{IsReply}
use Rattle.store_calls.specs.declared.begun.BegunAttempt.{BegunAttempt}
use Rattle.store_calls.specs.AbstractStore.{Standing}
use Rattle.store_calls.specs.Calls.{BeginsStoredAttempt, Cancels, CompletesCall, Signals}
use Rattle.schedule_model.specs.InputFeed.{given_in, IsAskedFor, HandsOutEach}

-- The same stands of an invocation behind two lists of events: how it was begun and the state of its object then, its entries, how it was
-- closed and what it answers, whether it is open, whether it is due, how many attempts were begun, which of them is live, the frames that
-- were taken of them, and so the last error that one told, which arrivals the last one was handed, and the bytes that are left to be handed
-- to it.
pub record StandsAlike (events others : List Event) (id : Text) : Type 0 where
  pub begun : invocation_begun events id ≡ invocation_begun others id
  pub start : starting_state events id ≡ starting_state others id
  pub entries : entries_of events id ≡ entries_of others id
  pub closing : closing_of events id ≡ closing_of others id
  pub answer : recorded_answer events id ≡ recorded_answer others id
  pub openness : is_open events id ≡ is_open others id
  pub dueness : is_due events id ≡ is_due others id
  pub attempts : attempts_begun events id ≡ attempts_begun others id
  pub live : live_attempt events id ≡ live_attempt others id
  pub frames : frames_of events id ≡ frames_of others id
  pub handed : arrivals_handed events id ≡ arrivals_handed others id
  pub left : input_left events id ≡ input_left others id

-- that depends on its own events and the ticks, and on its object's state at its start
abbrev pub StandsAlone : List Event → Text → Type 0
StandsAlone events id = (others : List Event) → view_of id events ≡ view_of id others → starting_state events id ≡ starting_state others id → StandsAlike events others id

abbrev pub AllStandAlone : Type 0
AllStandAlone = (events : List Event) (id : Text) → StandsAlone events id

-- ---- its object's state, and what it is answered

-- one of its own, but for the one that begins it, which is refused while another invocation of its object is open
abbrev pub IsOwn : Text → Event → Type 0
IsOwn id (Event.Invoke new) = ⊥
IsOwn id event = invocation_of event ≡ Some id

-- While it is open its object's state is the same too, and an attempt that is begun is told the same start, with how often it was tried
-- and for how long; and one more event of its own is refused behind the one as behind the other: for the same least cause, or for none.
pub record AnswersAlike (events others : List Event) (id : Text) : Type 0 where
  pub state : (new : NewInvocation) → invocation_begun events id ≡ Some new → is_open events id ≡ true → object_state events new.object ≡ object_state others new.object
  pub start : (now : ℕ) → is_open events id ≡ true → start_payload events id now ≡ start_payload others id now
  pub refusal : (event : Event) → IsOwn id event → refusal_of_first_cause (causes_of events event) ≡ refusal_of_first_cause (causes_of others event)

-- while an invocation is open, its object's state is its starting state changed by its recorded requests
abbrev pub KeepsState : List Event → Text → Type 0
KeepsState events id = (new : NewInvocation) → invocation_begun events id ≡ Some new → is_open events id ≡ true
    → object_state events new.object ≡ state_after (recorded_requests events id) (starting_state events id)

-- so it is in each list of accepted events
abbrev pub AllKeepState : Type 0
AllKeepState = (events : List Event) (id : Text) → IsAccepted events → KeepsState events id

-- and where it is so, that depends on the same
abbrev pub AllAnswerAlone : Type 0
AllAnswerAlone = (events others : List Event) (id : Text) → KeepsState events id → KeepsState others id
    → view_of id events ≡ view_of id others → starting_state events id ≡ starting_state others id → AnswersAlike events others id

-- what stands of it is the same, and what it is answered
abbrev pub IsAlike : List Event → List Event → Text → Type 0
IsAlike events others id = StandsAlike events others id × AnswersAlike events others id

-- ---- the replies to its own events

-- What two stores reply to one event of an invocation that both accept is the same: to a begin, a feed, a result, a signal, a cancellation, and a frame.
pub record RepliesAlike (id : Text) (old other : Standing) : Type 0 where
  pub begun : (now : ℕ) (one two : BegunAttempt) (new more : Standing) → BeginsStoredAttempt id now one old new → BeginsStoredAttempt id now two other more
      → (one.number ≡ two.number) × (version_number one.version ≡ version_number two.version) × (one.start ≡ two.start)
  -- a feed that is not refused, in whatever parts the store hands out what is asked for
  pub handed : (attempt count : ℕ) (parts others : List Bytes) (new more : Standing) → HandsOutEach id attempt count parts old new → IsAskedFor count parts
      → HandsOutEach id attempt count others other more → IsAskedFor count others → given_in parts ≡ given_in others
  pub placed : (completion : ℕ) (brought : NotificationResult) (place at : ℕ) (new more : Standing) → CompletesCall id completion brought (Ok place) old new
      → CompletesCall id completion brought (Ok at) other more → place ≡ at
  pub signalled : (key : SignalKey) (brought : NotificationResult) (place at : ℕ) (new more : Standing) → Signals id key brought (Ok place) old new → Signals id key brought (Ok at) other more
      → place ≡ at
  pub cancelled : (place at : ℕ) (new more : Standing) → Cancels id (Ok place) old new → Cancels id (Ok at) other more → place ≡ at
  pub taken : (frame : Frame) (reply answer : FrameReply) → IsReply old.events id frame reply → IsReply other.events id frame answer → reply ≡ answer

abbrev pub AllReplyAlike : Type 0
AllReplyAlike = (id : Text) (old other : Standing) → IsAlike old.events other.events id → RepliesAlike id old other
