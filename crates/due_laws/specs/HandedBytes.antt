-- What an attempt was handed, with its start frame, where it is handed bytes a part at a time. The first two are defined alike in
-- `durable_schedule`, which stands above.
use Rattle.std.specs.Prelude.{◌≡◌, ℕ, ◌≤◌, ◌==◌, if◌then◌else◌, List, [], ◌∷◌, ◌++◌, take, bytes_eq}
use Rattle.std.specs.List.{concat}
use Rattle.protocol_types.specs.declared.message_type.MessageType.TheVariants.{Start}
use Rattle.journal_model.specs.Notification.{Bytes, Text}
use Rattle.journal_model.specs.Event.{Event}
use Rattle.journal_model.specs.Attempt.{attempts_begun, begins_attempt, input_left}
use Rattle.journal_model.specs.Cause.{IsAccepted}
use Rattle.journal_model.specs.Spelling.{frame_bytes}
use Rattle.journal_model.specs.Start.{start_payload}
use Rattle.due_laws.specs.InputParts.{HandsChain}

abbrev pub while_last : Text → (number : ℕ) → List Event → List Event
while_last id number [] = []
while_last id number (event ∷ earlier) = if attempts_begun (event ∷ earlier) id == number then event ∷ earlier else while_last id number earlier

abbrev pub start_frame : List Event → Text → Bytes
start_frame [] id = []
start_frame (Event.Begin other now ∷ earlier) id = if bytes_eq other id then frame_bytes Start (start_payload earlier id now) else start_frame earlier id
start_frame (event ∷ earlier) id = start_frame earlier id

abbrev pub bytes_handed_out : List Event → Text → Bytes
bytes_handed_out [] id = []
bytes_handed_out (Event.Feed other attempt most ∷ earlier) id = bytes_handed_out earlier id ++ (if bytes_eq other id then take most (input_left earlier id) else [])
bytes_handed_out (event ∷ earlier) id = if begins_attempt id event then [] else bytes_handed_out earlier id

-- parts one behind the other are handed out
abbrev pub ChainIsHandedOut : Type 0
ChainIsHandedOut = (id : Text) (attempt count : ℕ) (parts : List Bytes) (old new : List Event) → HandsChain id attempt count parts old new
    → bytes_handed_out new id ≡ bytes_handed_out old id ++ concat parts

-- the attempt was begun, and handed these bytes
abbrev pub bytes_told : List Event → Text → Bytes
bytes_told events id = start_frame events id ++ bytes_handed_out events id

pub record WasHanded (id : Text) (number : ℕ) (bytes : Bytes) (events : List Event) : Type 0 where
  pub begun : number ≤ attempts_begun events id
  pub handed : bytes ≡ bytes_told (while_last id number events) id

-- so a chain of calls hands it what stands behind that
abbrev pub ChainGoesOn : Type 0
ChainGoesOn = (id : Text) (number count : ℕ) (parts : List Bytes) (old new : List Event) (before : Bytes) → IsAccepted new → HandsChain id number count parts old new
    → WasHanded id number before old → WasHanded id number (before ++ concat parts) new
