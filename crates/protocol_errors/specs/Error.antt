-- Errors with all that they tell.
use Rattle.std.specs.Prelude.{ℕ, ◌==◌, if◌then◌else◌, List, None}
use Rattle.protocol_errors.specs.declared.error.Error.{Error}
use Rattle.protocol_errors.specs.declared.error.ErrorBehavior.{ErrorBehavior}
use Rattle.protocol_errors.specs.declared.error.ErrorBehavior.TheVariants.{Retry}
use Rattle.protocol_errors.specs.Code.{code_numbered, internal, journal_mismatch, protocol_violation}
use Rattle.protocol_stream.specs.declared.decoder.DecodingError.{DecodingError}
use Rattle.protocol_stream.specs.declared.decoder.DecodingError.TheVariants.{UnexpectedMessageType, OutOfMemory}

-- an error that tells no command and no delay, and is retried
abbrev pub plain_error : ℕ → List ℕ → Error
plain_error number message = record {
  code = code_numbered number;
  message = message;
  related_command = None;
  next_retry_delay = None;
  behavior = Retry;
}

-- what becomes of an invocation can be said of a journal that does not match; any other error stays as it is
abbrev pub mismatch_behaving : ErrorBehavior → Error → Error
mismatch_behaving behavior error = if error.code.0 == journal_mismatch then record error { behavior = behavior } else error

-- memory that was refused is internal, another message than was asked for a mismatch, anything else the fault of the other side
abbrev pub decoding_code : DecodingError → ℕ
decoding_code (UnexpectedMessageType expected actual index) = journal_mismatch
decoding_code OutOfMemory = internal
decoding_code _ = protocol_violation
