-- What the store's process answers, without the line feed.
use Rattle.std.specs.Prelude.{ℕ, List, [], ◌++◌, Option, Some, None, option_map, codes, decimal}
use Rattle.std.specs.List.{flat_map}
use Rattle.std.specs.Int.{w16, to_be_bytes}
use Rattle.script_lines.specs.Text.{hex_text}
use Rattle.server_lines.specs.Word.{text_word}
use Rattle.server_lines.specs.declared.reply.BegunReply.{BegunReply}
use Rattle.server_lines.specs.declared.reply.InputReply.{InputReply}
use Rattle.server_lines.specs.declared.reply.TakenFrame.{TakenFrame}
use Rattle.server_lines.specs.declared.reply.TakenFrame.TheVariants.{Recorded, Noted, Suspended, Failed, Ended}
use Rattle.server_lines.specs.declared.reply.OutputReply.{OutputReply}
use Rattle.server_lines.specs.declared.reply.DueReply.{DueReply}
use Rattle.server_lines.specs.declared.reply.NextReply.{NextReply}
use Rattle.server_lines.specs.declared.reply.ErrorReply.{ErrorReply}
use Rattle.server_lines.specs.declared.reply.ErrorReply.TheVariants.{Missing, Told}
use Rattle.server_lines.specs.declared.reply.InvocationStatus.{InvocationStatus}
use Rattle.server_lines.specs.declared.reply.InvocationStatus.TheVariants as status
use Rattle.server_lines.specs.declared.reply.AnswerKind.{AnswerKind}
use Rattle.server_lines.specs.declared.reply.AnswerKind.TheVariants as kind
use Rattle.server_lines.specs.declared.reply.InvocationReply.{InvocationReply}
use Rattle.server_lines.specs.declared.reply.OpenRequestReply.{OpenRequestReply}

-- the number of the attempt, its content type, and its start frame as digits
abbrev pub begun_line : ℕ → List ℕ → List ℕ → List ℕ
begun_line attempt content_type start = codes "attempt " ++ decimal attempt ++ codes " " ++ content_type ++ codes " " ++ hex_text start

abbrev pub begun_text : BegunReply → List ℕ
begun_text reply = begun_line reply.attempt reply.content_type.now reply.start.now

abbrev pub input_line : List ℕ → List ℕ
input_line bytes = codes "input " ++ hex_text bytes

abbrev pub input_text : InputReply → List ℕ
input_text reply = input_line reply.0.now

abbrev pub frame_text : TakenFrame → List ℕ
frame_text (Recorded place) = decimal place
frame_text Noted = codes "noted"
frame_text Suspended = codes "suspended"
frame_text Failed = codes "failed"
frame_text Ended = codes "ended"

-- a word behind a space
abbrev pub further_frame : TakenFrame → List ℕ
further_frame frame = codes " " ++ frame_text frame

abbrev pub frames_text : List TakenFrame → List ℕ
frames_text frames = flat_map further_frame frames

abbrev pub frame_refusal_text : Option (List ℕ) → List ℕ
frame_refusal_text None = []
frame_refusal_text (Some name) = codes " refused " ++ name

-- what each frame came to that was taken, and why no further one was
abbrev pub output_line : List TakenFrame → Option (List ℕ) → List ℕ
output_line frames refusal = codes "took" ++ frames_text frames ++ frame_refusal_text refusal

abbrev pub output_text : OutputReply → List ℕ
output_text reply = output_line reply.frames.now (option_map (λ name. name.now) reply.refusal)

abbrev pub further_word : List ℕ → List ℕ
further_word text = codes " " ++ text_word text

abbrev pub words_text : List (List ℕ) → List ℕ
words_text texts = flat_map further_word texts

abbrev pub due_line : List (List ℕ) → List ℕ
due_line ids = codes "due" ++ words_text ids

abbrev pub due_text : DueReply → List ℕ
due_text reply = due_line reply.0.now

abbrev pub number_text : Option ℕ → List ℕ
number_text None = codes "none"
number_text (Some number) = decimal number

abbrev pub next_line : Option ℕ → List ℕ
next_line moment = codes "next " ++ number_text moment

abbrev pub next_text : NextReply → List ℕ
next_text reply = next_line reply.0

-- the code, what is to be done, the delay in milliseconds, and the message
abbrev pub error_line : ℕ → ℕ → Option ℕ → List ℕ → List ℕ
error_line code behavior delay message = codes "error " ++ decimal code ++ codes " " ++ decimal behavior ++ codes " " ++ number_text delay ++ codes " " ++ text_word message

abbrev pub no_error_text : List ℕ
no_error_text = codes "error none"

abbrev pub error_text : ErrorReply → List ℕ
error_text Missing = no_error_text
error_text (Told code behavior delay message) = error_line code behavior delay message.now

abbrev pub status_word : InvocationStatus → List ℕ
status_word status.Live = codes "live"
status_word status.Due = codes "due"
status_word status.Suspended = codes "suspended"
status_word status.Ended = codes "ended"
status_word status.Failed = codes "failed"

abbrev pub answer_word : AnswerKind → List ℕ
answer_word kind.Missing = codes "none"
answer_word kind.Value = codes "value"
answer_word kind.Failure = codes "failure"

-- an invocation: its id, its object, how it stands, how many attempts were begun, how many entries are recorded, and what it answers
abbrev pub invocation_line : List ℕ → List ℕ → InvocationStatus → ℕ → ℕ → AnswerKind → List ℕ
invocation_line id object how attempts entries answer =
    codes "invocation " ++ text_word id ++ codes " " ++ text_word object ++ codes " " ++ status_word how ++ codes " " ++ decimal attempts ++ codes " " ++ decimal entries
    ++ codes " " ++ answer_word answer

abbrev pub invocation_text : InvocationReply → List ℕ
invocation_text reply = invocation_line reply.id.now reply.object.now reply.status reply.attempts reply.entries reply.answer

-- a frame's type as two bytes, and its payload
unfoldable pub frame_digits_text : ℕ → List ℕ → List ℕ
frame_digits_text ty payload = hex_text (to_be_bytes w16 ty) ++ codes " " ++ hex_text payload

unfoldable pub completions_text : Option ℕ → Option ℕ → List ℕ
completions_text first second = number_text first ++ codes " " ++ number_text second

-- what was asked: by which invocation, where it is recorded, which completions have not come, and its frame
abbrev pub open_request_line : List ℕ → ℕ → Option ℕ → Option ℕ → ℕ → List ℕ → List ℕ
open_request_line id place first second ty payload =
    codes "request " ++ text_word id ++ codes " " ++ decimal place ++ codes " " ++ completions_text first second ++ codes " " ++ frame_digits_text ty payload

abbrev pub open_request_text : OpenRequestReply → List ℕ
open_request_text reply = open_request_line reply.id.now reply.place reply.completion reply.second_completion reply.ty reply.payload.now

abbrev pub not_understood_text : List ℕ
not_understood_text = codes "not understood"
