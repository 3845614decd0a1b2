-- The bytes that the attempts of a schedule are handed, and what these are of their input.
use Rattle.std.specs.Prelude.{◌≡◌, ◌⊎◌, ℕ, ◌==◌, ◌&&◌, if◌then◌else◌, List, [], ◌∷◌, ◌++◌, length, Some, bytes_eq}
use Rattle.journal_model.specs.Notification.{Bytes, Text}
use Rattle.journal_model.specs.Event.{Event}
use Rattle.journal_model.specs.Attempt.{attempts_begun, input_bytes, input_left, input_pieces}
use Rattle.journal_model.specs.Run.{Handler}
use Rattle.journal_model.specs.Spelling.{frame_bytes}
use Rattle.journal_model.specs.Start.{start_payload}
use Rattle.protocol_types.specs.declared.message_type.MessageType.{MessageType}
use Rattle.vm_types.specs.declared.options.VMOptions.{VMOptions}
use Rattle.store_calls.specs.declared.begun.BegunAttempt.{BegunAttempt}
use Rattle.store_calls.specs.Calls.{BeginsStoredAttempt}
use Rattle.schedule_model.specs.Attempts.{Attempt}
use Rattle.schedule_model.specs.InputFeed.{given_in, FeedsParts}
use Rattle.schedule_model.specs.HeldAttempts.{with_attempt}
use Rattle.schedule_model.specs.Schedule.{HoldsBegun}
use Rattle.schedule_laws.specs.Schedules.scheduled
use Rattle.schedule_laws.specs.Schedules.event
use Rattle.schedule_laws.specs.Schedules.reply
use Rattle.schedule_laws.specs.Schedules.{Reply, HeldAttempt, held_of, Scheduled, Applies}
use Rattle.schedule_laws.specs.WrittenFrames.{MovesBytes}

-- ---- the input of an attempt, with its start frame

-- the accepted events up to the last one at which this attempt was the last that was begun of its invocation
abbrev pub while_last : Text → (number : ℕ) → List Event → List Event
while_last id number [] = []
while_last id number (event ∷ earlier) = if attempts_begun (event ∷ earlier) id == number then event ∷ earlier else while_last id number earlier

-- the start frame of the last attempt, as it was told when it was begun
abbrev pub start_frame : List Event → Text → Bytes
start_frame [] id = []
start_frame (Event.Begin other now ∷ earlier) id = if bytes_eq other id then frame_bytes MessageType.Start (start_payload earlier id now) else start_frame earlier id
start_frame (event ∷ earlier) id = start_frame earlier id

-- These bytes are none, or with what is left for the last attempt they are its start frame, the journal as it was when it was begun, by
-- place, and then each later arrival, by place: a beginning of that, and all of it where nothing is left.
abbrev pub AreOfInput : Text → (handed : Bytes) → List Event → Type 0
AreOfInput id handed events = (handed ≡ []) ⊎ (handed ++ input_left events id ≡ start_frame events id ++ input_bytes (input_pieces events id))

-- ---- the bytes that are handed

module _ {H : Type 0} (function : H → Handler) (options : VMOptions) where
  -- What an event does, by what it hands to the attempt that it names: a begin the start frame, and a feed so many bytes as it is answered
  -- with, which the store hands out in parts and the machine of the attempt that is held is fed. Any other hands nothing.
  abbrev pub HandsOne : scheduled.Event H → Reply → (bytes : Bytes) → Scheduled H → Scheduled H → Type 0
  HandsOne (event.Begin id handler now) (reply.Begun number) bytes old new =
      (begun : BegunAttempt) × (number ≡ begun.number) × BeginsStoredAttempt id now begun old.standing new.standing × HoldsBegun options id handler begun old.held new.held × (bytes ≡ begun.start)
  HandsOne (event.Feed id number count) (reply.Fed fed why) bytes old new =
      (one : HeldAttempt H) × (changed : Attempt H) × (parts : List Bytes) × (held_of old.held id number ≡ Some one) × (fed ≡ length bytes) × (bytes ≡ given_in parts)
      × FeedsParts count parts why one old.standing new.standing changed × (new.held ≡ with_attempt old.held one changed)
  HandsOne one answer bytes old new = Applies function options one answer old new × (bytes ≡ [])

  -- events one after another, with their replies; each adds these to the accepted events, hands these bytes, and moves these
  abbrev pub HandsEach : List (scheduled.Event H) → List Reply → (added : List (List Event)) → (handed moved : List Bytes) → Scheduled H → Scheduled H → Type 0
  HandsEach [] [] [] [] [] old new = new ≡ old
  HandsEach (one ∷ events) (answer ∷ replies) (some ∷ added) (bytes ∷ handed) (gone ∷ moved) old new =
      (between : Scheduled H) × HandsOne one answer bytes old between × (between.standing.events ≡ some ++ old.standing.events) × HandsEach events replies added handed moved between new
      × MovesBytes one answer gone old.held
  HandsEach _ _ _ _ _ old new = ⊥

-- By the replies alone: a feed hands so many bytes as it is answered with, and none is handed but by a begin and a feed. A begin hands the start
-- frame, which is of the input below.
abbrev pub IsHandedBy : {H : Type 0} → scheduled.Event H → Reply → (bytes : Bytes) → Type 0
IsHandedBy (event.Begin id handler now) (reply.Begun number) bytes = Unit {0}
IsHandedBy (event.Feed id number count) (reply.Fed fed why) bytes = fed ≡ length bytes
IsHandedBy one answer bytes = bytes ≡ []

abbrev pub AreHandedBy : {H : Type 0} → List (scheduled.Event H) → List Reply → (handed : List Bytes) → Type 0
AreHandedBy [] [] [] = Unit {0}
AreHandedBy (one ∷ events) (answer ∷ replies) (bytes ∷ handed) = IsHandedBy one answer bytes × AreHandedBy events replies handed
AreHandedBy _ _ _ = ⊥

-- ---- what they are of the input

-- those of an event's bytes that this attempt is handed
abbrev pub handed_to : {H : Type 0} → Text → (number : ℕ) → scheduled.Event H → Reply → Bytes → Bytes
handed_to id number (event.Begin other handler now) (reply.Begun begun) bytes = if bytes_eq other id && (begun == number) then bytes else []
handed_to id number (event.Feed other attempt count) (reply.Fed fed why) bytes = if bytes_eq other id && (attempt == number) then bytes else []
handed_to id number one answer bytes = []

-- Behind each event of a schedule, all that this attempt was handed by then, one behind the other, is of its input, as far as it was
-- recorded by then.
abbrev pub IsHandedInput : {H : Type 0} → Text → (number : ℕ) → List (scheduled.Event H) → List Reply → (added : List (List Event)) → (handed : List Bytes) → (before : Bytes) → (all : List Event) → Type 0
IsHandedInput id number (one ∷ events) (answer ∷ replies) (some ∷ added) (bytes ∷ handed) before all =
    AreOfInput id (before ++ handed_to id number one answer bytes) (while_last id number (some ++ all))
    × IsHandedInput id number events replies added handed (before ++ handed_to id number one answer bytes) (some ++ all)
IsHandedInput id number _ _ _ _ before all = Unit {0}
