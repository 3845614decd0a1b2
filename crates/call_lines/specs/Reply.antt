-- What a client is answered, without the line feed.
use Rattle.std.specs.Prelude.{ℕ, Bool, true, false, List, ◌++◌, Option, Some, None, codes, decimal}
use Rattle.std.specs.List.{flat_map}
use Rattle.journal_model.specs.declared.call.Answer.{Answer}
use Rattle.journal_model.specs.declared.call.Answer.TheVariants as answers
use Rattle.journal_model.specs.declared.call.Header.{Header}
use Rattle.journal_model.specs.declared.handler.Input.{Input}
use Rattle.journal_model.specs.declared.value.TerminalFailure.{TerminalFailure}
use Rattle.journal_model.specs.declared.value.Value.{Value}
use Rattle.journal_model.specs.declared.value.Value.TheVariants as values
use Rattle.server_lines.specs.Reply.{words_text}
use Rattle.server_lines.specs.Word.{text_word}
use Rattle.call_lines.specs.declared.reply.CallReply.{CallReply}
use Rattle.call_lines.specs.declared.reply.CallReply.TheVariants as replies

-- two words, each behind a space
abbrev pub further_pair : List ℕ → List ℕ → List ℕ
further_pair key value = codes " " ++ text_word key ++ codes " " ++ text_word value

abbrev pub header_text : Header → List ℕ
header_text header = further_pair header.key header.value

abbrev pub headers_text : List Header → List ℕ
headers_text headers = flat_map header_text headers

abbrev pub pair_text : List ℕ × List ℕ → List ℕ
pair_text pair = further_pair pair.0 pair.1

abbrev pub pairs_text : List (List ℕ × List ℕ) → List ℕ
pairs_text pairs = flat_map pair_text pairs

abbrev pub handle_text : ℕ → List ℕ
handle_text handle = codes " " ++ decimal handle

abbrev pub handles_text : List ℕ → List ℕ
handles_text handles = flat_map handle_text handles

-- ---- answers

abbrev pub failure_text : TerminalFailure → List ℕ
failure_text failure = codes "failure " ++ decimal failure.code ++ codes " " ++ text_word failure.message ++ pairs_text failure.metadata

abbrev pub value_text : Value → List ℕ
value_text values.Void = codes "void"
value_text (values.Success bytes) = codes "value " ++ text_word bytes
value_text (values.Failure failure) = failure_text failure
value_text (values.StateKeys keys) = codes "keys" ++ words_text keys
value_text (values.InvocationId id) = codes "id " ++ text_word id

abbrev pub taken_text : Option Value → List ℕ
taken_text None = codes "none"
taken_text (Some value) = value_text value

abbrev pub yes_text : Bool → List ℕ
yes_text true = codes "yes"
yes_text false = codes "no"

abbrev pub answer_text : Answer → List ℕ
answer_text (answers.Handle handle) = codes "handle " ++ decimal handle
answer_text (answers.Handles first second) = codes "handles " ++ decimal first ++ codes " " ++ decimal second
answer_text (answers.Awakeable id handle) = codes "awakeable " ++ text_word id ++ codes " " ++ decimal handle
answer_text answers.Done = codes "done"
answer_text (answers.Completed is_completed) = codes "completed " ++ yes_text is_completed
answer_text (answers.Taken value) = codes "taken " ++ taken_text value
answer_text answers.Woken = codes "woken"
answer_text answers.Cancelled = codes "cancelled"

-- ---- the others

-- the number of the attempt, and what it has read
abbrev pub attempt_text : ℕ → Input → List ℕ
attempt_text attempt input =
    codes "attempt " ++ decimal attempt ++ codes " " ++ text_word input.key ++ codes " " ++ decimal input.random_seed ++ codes " " ++ text_word input.input ++ headers_text input.headers

abbrev pub failed_text : ℕ → List ℕ → List ℕ
failed_text code message = codes "failed " ++ decimal code ++ codes " " ++ text_word message

abbrev pub call_reply_text : CallReply → List ℕ
call_reply_text (replies.Executes handles) = codes "execute" ++ handles_text handles.now
call_reply_text replies.Executing = codes "executing"
call_reply_text replies.Waiting = codes "waiting"
call_reply_text replies.Suspended = codes "suspended"
call_reply_text replies.Ended = codes "ended"
call_reply_text (replies.Failed code message) = failed_text code message.now
call_reply_text replies.NotNow = codes "not now"
