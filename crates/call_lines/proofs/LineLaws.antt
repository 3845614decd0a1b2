-- A line is read back from what it is printed as.
use Rattle.std.proofs.Common.{◌≡◌, ℕ, false, eqb, List, Some, refl, ap, ◌∙◌}
use Rattle.std.specs.List.{slice_split}
use Rattle.script_lines.specs.LineReader.{then_read}
use Rattle.script_lines.proofs.WordLaws.{number_32, number_64}
use Rattle.server_lines.specs.Request.{IsRequest, request_spelling, words_of}
use Rattle.server_lines.specs.declared.request.Request.{Request}
use Rattle.server_lines.specs.declared.request.Request.TheVariants.{Invoke}
use Rattle.server_lines.proofs.RequestLaws.{reads_back as requests_read_back, split as request_split}
use Rattle.server_lines.proofs.Spaces.{split_again}
use Rattle.server_lines.proofs.WordLaws.{text_again}
use Rattle.call_lines.specs.CommandReader.{line_word_of}
use Rattle.call_lines.specs.Line.{IsLine, ReadsBack, line_spelling, line_words}
use Rattle.call_lines.specs.LineReader.{arguments_of, asked_of, attempt_of, do_of, go_of, is_of_host, line_by, line_spelled, outcome_line_of, request_line_of, suspend_of}
use Rattle.call_lines.specs.declared.line.ClientLine.{ClientLine}
use Rattle.call_lines.specs.declared.line.ClientLine.TheVariants as lines
use Rattle.call_lines.proofs.CallLaws.{said_again}
use Rattle.call_lines.proofs.OutcomeLaws.{outcome_again}
use Rattle.call_lines.proofs.Spaces.{words-no_space}

-- a request's line begins with no word of an attempt
by_request : (text : List ℕ) (request : Request) → line_spelled text (words_of request) ≡ request_line_of text
unfolding line_spelled line_by line_word_of
by_request text (Invoke new) = refl
by_request text _ = refl

request_again : (request : Request) → IsRequest request → is_of_host request ≡ false → request_line_of (request_spelling request) ≡ Some (lines.Asks request)
unfolding request_line_of asked_of then_read
request_again request h not = rw (requests_read_back request h, not) refl

words_again : (line : ClientLine) → IsLine line → line_spelled (line_spelling line) (line_words line) ≡ Some line
unfolding line_spelled line_by line_word_of arguments_of attempt_of do_of outcome_line_of go_of suspend_of then_read
words_again (lines.Attempt id now) h = rw (number_64.again now h.1, text_again id h.0) refl
words_again (lines.Do id attempt said) h = rw (number_32.again attempt h.1, text_again id h.0, said_again said h.2) refl
words_again (lines.Outcome id attempt handle outcome) h = rw (number_32.again attempt h.1, number_32.again handle h.2, text_again id h.0, outcome_again outcome h.3) refl
words_again (lines.Go id attempt) h = rw (number_32.again attempt h.1, text_again id h.0) refl
words_again (lines.Suspend id attempt) h = rw (number_32.again attempt h.1, text_again id h.0) refl
words_again (lines.Asks request) h = by_request (request_spelling request) request ∙ request_again request h.0 h.1

split : (line : ClientLine) → IsLine line → slice_split (λ byte. eqb byte 32) (line_spelling line) ≡ line_words line
split (lines.Attempt id now) h = split_again _ _ (words-no_space (lines.Attempt id now) h)
split (lines.Do id attempt said) h = split_again _ _ (words-no_space (lines.Do id attempt said) h)
split (lines.Outcome id attempt handle outcome) h = split_again _ _ (words-no_space (lines.Outcome id attempt handle outcome) h)
split (lines.Go id attempt) h = split_again _ _ (words-no_space (lines.Go id attempt) h)
split (lines.Suspend id attempt) h = split_again _ _ (words-no_space (lines.Suspend id attempt) h)
split (lines.Asks request) h = request_split request h.0

pub reads_back : ReadsBack
reads_back line h = ap (line_spelled (line_spelling line)) (split line h) ∙ words_again line h
