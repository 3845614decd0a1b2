-- What the lines of a script print.
use Rattle.std.specs.Prelude.{ℕ, Bool, true, false, List, [], ◌∷◌, ◌++◌, Some, None, codes, decimal}
use Rattle.std.specs.List.{flat_map}
use Rattle.std.specs.Int.{w16, to_be_bytes}
use Rattle.protocol_types.specs.Texts.{hex_byte}
use Rattle.script_lines.specs.declared.text.LastTurn.{LastTurn}
use Rattle.script_lines.specs.declared.text.LastTurn.TheVariants.{Answered, Ran, Waiting, Suspended, Ended, Failed}
use Rattle.script_lines.specs.declared.text.LineReply.{LineReply}
use Rattle.script_lines.specs.declared.text.LineReply.TheVariants.{Done, Placed, Ticked, Begun, Fed, Turned, Moved, Refused}
use Rattle.script_lines.specs.declared.text.ShownRequest.{ShownRequest}
use Rattle.script_lines.specs.declared.text.ShownAnswer.{ShownAnswer}
use Rattle.script_lines.specs.declared.text.ShownState.{ShownState}
use Rattle.script_lines.specs.declared.text.ShownDue.{ShownDue}
use Rattle.script_lines.specs.declared.text.ShownAnswer.TheVariants.{Missing, Value, Failure}

-- bytes as digits, and a dash for none
abbrev pub hex_text : List ℕ → List ℕ
hex_text [] = codes "-"
hex_text (byte ∷ bytes) = flat_map hex_byte (byte ∷ bytes)

abbrev pub turn_text : LastTurn → List ℕ
turn_text Answered = codes "answered"
turn_text Ran = codes "ran"
turn_text Waiting = codes "waiting"
turn_text Suspended = codes "suspended"
turn_text Ended = codes "ended"
turn_text (Failed code) = codes "failed " ++ decimal code

abbrev pub moved_text : ℕ → ℕ → List ℕ
moved_text bytes frames = codes "moved " ++ decimal bytes ++ codes " frames " ++ decimal frames

abbrev pub moved_until_text : ℕ → ℕ → List ℕ → List ℕ
moved_until_text bytes frames name = moved_text bytes frames ++ codes " refused " ++ name

abbrev pub refused_text : List ℕ → List ℕ
refused_text name = codes "refused " ++ name

abbrev pub reply_text : LineReply → List ℕ
reply_text Done = codes "ok"
reply_text (Placed place) = codes "place " ++ decimal place
reply_text (Ticked sleeps) = codes "done " ++ decimal sleeps
reply_text (Begun attempt) = codes "attempt " ++ decimal attempt
reply_text (Fed bytes) = codes "fed " ++ decimal bytes
reply_text (Turned count last) = codes "turn " ++ decimal count ++ codes " " ++ turn_text last
reply_text (Moved bytes frames None) = moved_text bytes frames
reply_text (Moved bytes frames (Some name)) = moved_until_text bytes frames name.now
reply_text (Refused name) = refused_text name.now

-- a recorded request: its place, its type as two bytes, and its payload
abbrev pub request_line : ℕ → ℕ → List ℕ → List ℕ
request_line place ty payload = decimal place ++ codes " request " ++ hex_text (to_be_bytes w16 ty) ++ codes " " ++ hex_text payload

abbrev pub request_text : ShownRequest → List ℕ
request_text request = request_line request.place request.ty request.payload.now

abbrev pub value_line : List ℕ → List ℕ
value_line bytes = codes "answer value " ++ hex_text bytes

abbrev pub failure_line : ℕ → List ℕ → List ℕ
failure_line code message = codes "answer failure " ++ decimal code ++ codes " " ++ hex_text message

abbrev pub answer_text : ShownAnswer → List ℕ
answer_text Missing = codes "answer none"
answer_text (Value bytes) = value_line bytes.now
answer_text (Failure code message) = failure_line code message.now

abbrev pub open_text : Bool → List ℕ
open_text true = codes "open"
open_text false = codes "closed"

-- a value of an object's state behind its key
abbrev pub state_line : List ℕ → List ℕ → List ℕ
state_line key value = codes "state " ++ hex_text key ++ codes " " ++ hex_text value

abbrev pub state_text : ShownState → List ℕ
state_text state = state_line state.key.now state.value.now

-- an id behind a space
abbrev pub further_id : List ℕ → List ℕ
further_id id = codes " " ++ id

abbrev pub further_ids : List (List ℕ) → List ℕ
further_ids ids = flat_map further_id ids

-- the invocations that are due
abbrev pub due_line : List (List ℕ) → List ℕ
due_line ids = codes "due" ++ further_ids ids

abbrev pub due_text : ShownDue → List ℕ
due_text shown = due_line shown.0.now
