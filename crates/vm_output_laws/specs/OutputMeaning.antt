-- What an attempt has written is read as what it was meant as.
use Rattle.std.specs.Prelude.{◌≡◌, List, [], ◌∷◌, ◌++◌, map, Some, None, option_map}
use Rattle.protocol_table.specs.declared.table.RecordType.TheVariants as records
use Rattle.protocol_wire.specs.DecodingAnswers.{IsRead}
use Rattle.protocol_wire.specs.declared.record.TheConstants.{LEVELS}
use Rattle.protocol_types.specs.declared.version.Version.{Version}
use Rattle.protocol_types.specs.Version.{version_number}
use Rattle.journal_model.specs.Notification.{Bytes}
use Rattle.journal_model.specs.Event.{Frame}
use Rattle.protocol_controls.specs.Error.{error_of}
use Rattle.protocol_stream.specs.Item.{Item, message, item_at}
use Rattle.protocol_errors.specs.declared.error.Error.{Error}
use Rattle.store_frames.specs.FrameMeanings.{frame_of}
use Rattle.store_frames.specs.Requests.{behavior_in}
use Rattle.vm_start.specs.Failure.{told_error, told_delay, behavior_number}
use Rattle.vm_output_laws.specs.SentFrames.{Sent, Fails, sent_frame, sent_stream, sent_payload, sent_message, SentFits, AllFit, frame_meant}

-- ---- one frame

-- it is the item at the front of its bytes, whatever stands behind it, and the store reads that item as the frame that was meant
pub record IsReadAs (version : Version) (sent : Sent) (rest : Bytes) : Type 0 where
  pub front : item_at (sent_frame version sent ++ rest) ≡ Some (message (sent_message version sent), rest)
  pub frame : frame_of (version_number version) (sent_message version sent) ≡ frame_meant version sent

abbrev pub FramesAreRead : Type 0
FramesAreRead = (version : Version) (sent : Sent) (rest : Bytes) → SentFits version sent → IsReadAs version sent rest

-- ---- streams

-- the first item is the first frame that was sent, and the others are still to come
pub record TakesFirstItem (version : Version) (item : Item) (rest more : Bytes) (coming : List Sent) : Type 0 where
  pub first : Sent
  pub others : List Sent
  pub frames : coming ≡ first ∷ others
  pub item_is : item ≡ message (sent_message version first)
  pub meant : frame_of (version_number version) (sent_message version first) ≡ frame_meant version first
  pub bytes : rest ++ more ≡ sent_stream version others
  pub fit : AllFit version others

-- Of what was sent some bytes have come, in any cut: an item at their front is the first frame; and where all have come one is.
pub record StreamsAreRead : Type 0 where
  pub cut : (version : Version) (coming : List Sent) (come more : Bytes) (item : Item) (rest : Bytes) → AllFit version coming → come ++ more ≡ sent_stream version coming
      → item_at come ≡ Some (item, rest) → TakesFirstItem version item rest more coming
  pub whole : (version : Version) (coming : List Sent) → AllFit version coming → item_at (sent_stream version coming) ≡ None → coming ≡ []

-- two streams, one behind the other
pub record Joins (version : Version) (coming later : List Sent) : Type 0 where
  pub bytes : sent_stream version (coming ++ later) ≡ sent_stream version coming ++ sent_stream version later
  pub frames : map (frame_meant version) (coming ++ later) ≡ map (frame_meant version) coming ++ map (frame_meant version) later
  pub fit : AllFit version coming → AllFit version later → AllFit version (coming ++ later)

abbrev pub StreamsJoin : Type 0
StreamsJoin = (version : Version) (coming later : List Sent) → Joins version coming later

-- ---- errors

-- an error's payload is read as all that was told of it: its code, its text, the related command, the delay and the behaviour
pub record IsMeant (version : Version) (error : Error) : Type 0 where
  pub read : IsRead LEVELS records.Error error_of (sent_payload version (Fails (told_error error))) (told_error error)
  pub frame : frame_of (version_number version) (sent_message version (Fails (told_error error)))
      ≡ Frame.Error error.code.0 error.message (behavior_in (version_number version) (behavior_number error.behavior)) (option_map told_delay error.next_retry_delay)

abbrev pub ErrorsAreMeant : Type 0
ErrorsAreMeant = (version : Version) (error : Error) → SentFits version (Fails (told_error error)) → IsMeant version error
