-- The bytes that are moved of the attempts of a schedule, and the frames that are taken of them.
use Rattle.std.specs.Prelude.{◌≡◌, ◌⊎◌, ℕ, ◌≤◌, Bool, true, if◌then◌else◌, List, [], ◌∷◌, ◌++◌, length, map, reverse, Option, Some, None}
use Rattle.journal_model.specs.Notification.{Bytes, Text}
use Rattle.journal_model.specs.Event.{Event, Frame}
use Rattle.journal_model.specs.Journal.{ends_attempt, version_of}
use Rattle.journal_model.specs.Cause.{causes_of}
use Rattle.protocol_stream.specs.Item.{item_at}
use Rattle.store_refusals.specs.declared.refusal.Refusal.{Refusal}
use Rattle.store_refusals.specs.declared.refusal.Refusal.TheVariants.{OutOfMemory}
use Rattle.store_refusals.specs.RefusalConditions.{IsRefused}
use Rattle.store_steps.specs.PreparedFrames.{lies_in_frame}
use Rattle.schedule_laws.specs.Schedules.scheduled
use Rattle.schedule_laws.specs.Schedules.event
use Rattle.schedule_laws.specs.Schedules.reply
use Rattle.schedule_laws.specs.Schedules.{Reply}
use Rattle.schedule_laws.specs.WrittenFrames.{AreFrames, is_at_attempt}

-- ---- the bytes

-- by the replies alone: a move moves as many bytes as it is answered with, and never more than were asked for; nothing else moves any
abbrev pub IsMovedBy : {H : Type 0} → scheduled.Event H → Reply → (bytes : Bytes) → Type 0
IsMovedBy (event.Move id number count) (reply.Moved moved frames why) bytes = (moved ≡ length bytes) × (moved ≤ count)
IsMovedBy one answer bytes = bytes ≡ []

abbrev pub AreMovedBy : {H : Type 0} → List (scheduled.Event H) → List Reply → (moved : List Bytes) → Type 0
AreMovedBy [] [] [] = Unit {0}
AreMovedBy (one ∷ events) (answer ∷ replies) (bytes ∷ moved) = IsMovedBy one answer bytes × AreMovedBy events replies moved
AreMovedBy _ _ _ = ⊥

-- ---- the frames

-- an attempt is stopped where a frame of it was refused for what lies in the frame
abbrev pub stop_for : Text → (attempt : ℕ) → Option Refusal → List Event
stop_for id attempt None = []
stop_for id attempt (Some why) = if lies_in_frame why then Event.Stop id attempt ∷ [] else []

-- the last one of these frames ends its attempt; it stands first
abbrev pub HasEnded : List Frame → Type 0
HasEnded [] = ⊥
HasEnded (last ∷ earlier) = ends_attempt last ≡ true

-- Why no further frame is taken behind these, of which the last one stands first: in the rest of the bytes no item is whole, or the attempt is
-- over; or the next frame is refused, for a cause that holds then or for a circumstance. Where there is no memory, the rest may not have been
-- looked at.
abbrev pub NoFurther : Text → (attempt : ℕ) → (taken : List Frame) → (rest : Bytes) → Option Refusal → (before : List Event) → Type 0
NoFurther id attempt taken rest None before = (item_at rest ≡ None) ⊎ HasEnded taken
NoFurther id attempt taken rest (Some why) before =
    (why ≡ OutOfMemory)
    ⊎ ((frame : Frame) × (behind : Bytes) × AreFrames (version_of before id) rest (frame ∷ []) behind × IsRefused (causes_of (map (Event.Move id attempt) taken ++ before) (Event.Move id attempt frame)) why)

-- These frames of an attempt were accepted, of which the last one stands first: they are the first whole items of these bytes, in order, and all
-- of them up to one that ends the attempt or is refused.
pub record TakesFirst (id : Text) (attempt : ℕ) (why : Option Refusal) (bytes : Bytes) (before accepted : List Event) (rest : Bytes) : Type 0 where
  pub taken : List Frame
  pub accepted_are : accepted ≡ stop_for id attempt why ++ map (Event.Move id attempt) taken
  pub frames : AreFrames (version_of before id) bytes (reverse taken) rest
  pub no_further : NoFurther id attempt taken rest why before

-- A move of this attempt takes frames of what the store still held of it, a torn frame, and of the bytes that are moved, behind that; and it keeps
-- the rest. Any other event leaves what the store holds.
abbrev pub TakesFrames : {H : Type 0} → Text → (attempt : ℕ) → (is_own : Bool) → scheduled.Event H → Reply → (accepted : List Event) → (moved torn : Bytes) → (before : List Event) → (rest : Bytes) → Type 0
TakesFrames id attempt true (event.Move other number count) (reply.Moved bytes frames why) accepted moved torn before rest = TakesFirst id attempt why (torn ++ moved) before accepted rest
TakesFrames id attempt is_own one answer accepted moved torn before rest = rest ≡ torn

-- so it is of each event of a schedule
abbrev pub AreFramesTaken : {H : Type 0} → Text → (attempt : ℕ) → List (scheduled.Event H) → List Reply → (added : List (List Event)) → (moved : List Bytes) → (torn : Bytes) → (before : List Event) → Type 0
AreFramesTaken id attempt (one ∷ events) (answer ∷ replies) (some ∷ added) (bytes ∷ moved) torn before =
    (rest : Bytes) × TakesFrames id attempt (is_at_attempt id attempt one) one answer some bytes torn before rest × AreFramesTaken id attempt events replies added moved rest (some ++ before)
AreFramesTaken id attempt _ _ _ _ torn before = Unit {0}
