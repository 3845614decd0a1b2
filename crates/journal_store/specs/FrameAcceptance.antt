-- How a frame is taken: what is seen of it first, what is written, and what is left of its attempt.
use Rattle.std.specs.Prelude.{◌≡◌, ℕ, ◌≤◌, ◌<◌, length, drop, Bool, true, false, Option, Some, None, option_map, Result, Ok, Err}
use Rattle.sqlite_trees.specs.declared.store.Store.{Ghosts}
use Rattle.journal_model.specs.Notification.{Bytes, Text}
use Rattle.protocol_stream.specs.declared.decoder.RawMessage.{RawMessage}
use Rattle.protocol_types.specs.declared.message_type.UnknownMessageType.{UnknownMessageType}
use Rattle.protocol_stream.specs.declared.frame.TheConstants.{HEADER_LEN}
use Rattle.protocol_types.specs.Version.{version_number}
use Rattle.protocol_stream.specs.Item.{unknown, message, item_at}
use Rattle.store_frames.specs.Answer.{IsFrame}
use Rattle.store_frames.specs.FrameMeanings.{frame_of}
use Rattle.store_refusals.specs.declared.refusal.Refusal.{Refusal}
use Rattle.store_steps.specs.declared.frame.FrameReply.{FrameReply}
use Rattle.store_live.specs.declared.attempt.LiveAttempt.{LiveAttempt}
use Rattle.store_live.specs.Attempts.{ByInvocation, IsNow, after_outcome, after_reserve, live_after_take}
use Rattle.store_calls.specs.Frames.{TakesFrame}
use Rattle.journal_store.specs.StoreView.{Stored}
use Rattle.journal_store.specs.StoreStanding.{Settles}
use Rattle.journal_store.specs.declared.step.SeenFrame.{SeenFrame}
use Rattle.journal_store.specs.declared.step.FirstSeen.{FirstSeen}
use Rattle.journal_store.specs.declared.step.FirstSeen.TheVariants as seen

-- ---- what stands first

-- a whole frame of the attempt, what it is read as, and what is known of the attempt
pub record IsSeen (attempt : LiveAttempt) (it : SeenFrame) : Type 0 where
  pub message_is : RawMessage
  pub first : item_at attempt.output ≡ Some (message message_is, drop it.len attempt.output)
  pub within : it.len ≤ length attempt.output
  pub read : IsFrame (frame_of (version_number attempt.version) message_is) it.frame
  pub handed : it.facts.handed ≡ attempt.input.handed
  pub heard : it.facts.heard ≡ attempt.input.heard
  pub closed : it.facts.is_input_closed ≡ attempt.is_input_closed
  pub row : it.row ≡ attempt.row

abbrev pub IsFirstSeen : LiveAttempt → FirstSeen → Type 0
IsFirstSeen attempt seen.Partial = item_at attempt.output ≡ None
IsFirstSeen attempt seen.Unknown = (ty : UnknownMessageType) × (item_at attempt.output ≡ Some (unknown ty, drop HEADER_LEN attempt.output))
IsFirstSeen attempt (seen.Frame it) = IsSeen attempt it

-- of the live attempt, if one is live
abbrev pub IsFirstOf : Option LiveAttempt → FirstSeen → Type 0
IsFirstOf None first = first ≡ seen.Partial
IsFirstOf (Some attempt) first = IsFirstSeen attempt first

-- a whole frame stands first
abbrev pub HasMessage : LiveAttempt → Type 0
HasMessage attempt = (it : RawMessage) × (rest : Bytes) × (item_at attempt.output ≡ Some (message it, rest))

abbrev pub HasMessageOf : Option LiveAttempt → Type 0
HasMessageOf None = ⊥
HasMessageOf (Some attempt) = HasMessage attempt

abbrev pub IsSeenOf : Option LiveAttempt → SeenFrame → Type 0
IsSeenOf None it = ⊥
IsSeenOf (Some attempt) it = IsSeen attempt it

-- ---- what is left

-- the attempt behind its first bytes, or no more
abbrev pub passed : Bool → ℕ → Option LiveAttempt → Option LiveAttempt
passed true len found = None
passed false len found = option_map (live_after_take len) found

-- the outcome of a run is to be acknowledged, in room that was made for it before
abbrev pub after_noted : Option ℕ → LiveAttempt → LiveAttempt
after_noted None attempt = attempt
after_noted (Some completion) attempt = after_outcome completion attempt

abbrev pub after_room : Option ℕ → LiveAttempt → LiveAttempt
after_room None attempt = attempt
after_room (Some completion) attempt = after_reserve attempt

abbrev pub HasRoomToNote : Option ℕ → LiveAttempt → Type 0
HasRoomToNote None attempt = Unit {0}
HasRoomToNote (Some completion) attempt = 0 < attempt.input.room

-- an attempt is over where the cause of a refusal lies in its frame
abbrev pub IsEndedBy : Bool → Text → ByInvocation → ByInvocation → Type 0
IsEndedBy true id old new = IsNow id None old new
IsEndedBy false id old new = new ≡ old

-- ---- what lasts

-- a frame that was taken and answered lasts; where none waits whole, nothing was done
abbrev pub SettlesStep : {S : Type 0} → Ghosts S → Text → (attempt : ℕ) → Result (Option FrameReply) Refusal → Stored S → Stored S → Type 0
SettlesStep g id attempt (Ok None) old new = new ≡ old
SettlesStep g id attempt (Ok (Some reply)) old new = Settles g (TakesFrame id attempt reply) old new
SettlesStep g id attempt (Err why) old new = Unit {0}
