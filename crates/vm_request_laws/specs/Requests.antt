-- The frames of requests are read as these requests.
use Rattle.std.specs.Prelude.{◌≡◌, ℕ, List, ◌++◌, Some}
use Rattle.journal_model.specs.Request.{Request}
use Rattle.journal_model.specs.Spelling.{request_frame, request_type, request_payload}
use Rattle.protocol_stream.specs.Frame.{message_of}
use Rattle.protocol_stream.specs.Item.{message, item_at}
use Rattle.vm_commands.specs.RecordedCommands.{command_of}
use Rattle.vm_request_laws.specs.RequestBounds.{RequestFits}

-- The frame of a request that fits is the message at the front of its bytes, whatever stands behind it, and as a recorded command that
-- message is the request again.
pub record IsReadBack (request : Request) (rest : List ℕ) : Type 0 where
  pub front : item_at (request_frame request ++ rest) ≡ Some (message (message_of (request_type request) (request_payload request)), rest)
  pub command : command_of (message_of (request_type request) (request_payload request)) ≡ Some request

abbrev pub RequestsReadBack : Type 0
RequestsReadBack = (request : Request) (rest : List ℕ) → RequestFits request → IsReadBack request rest
