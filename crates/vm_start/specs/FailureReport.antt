-- What becomes of a machine that fails: what is kept and answered, and the one frame that tells it.
use Rattle.std.specs.Prelude.{◌≡◌, ◌<◌, ◌≤◌, ◌^◌, ◌⊎◌, true, false, length, codes, Option, Some, None, Result, Ok, Err}
use Rattle.std.specs.declared.alloc.AllocError.{AllocError}
use Rattle.protocol_types.specs.declared.message_type.MessageType.TheVariants as messages
use Rattle.protocol_types.specs.declared.version.Version.{Version}
use Rattle.protocol_types.specs.Version.{version_number}
use Rattle.protocol_stream.specs.declared.decoder.RawMessage.{RawMessage}
use Rattle.protocol_stream.specs.Frame.{spelled}
use Rattle.protocol_wire.specs.declared.record.TheConstants.{LEVELS}
use Rattle.protocol_controls.specs.Error.{error_parts, ErrorFits}
use Rattle.protocol_errors.specs.Code.{internal}
use Rattle.protocol_errors.specs.Error.{plain_error}
use Rattle.protocol_errors.specs.declared.error.Error.{Error}
use Rattle.vm_types.specs.declared.options.JournalMismatchRetryBehavior.{JournalMismatchRetryBehavior}
use Rattle.vm_context.specs.Output.{Written, with_frame}
use Rattle.protocol_messages.specs.Encodings.{record_message}
use Rattle.vm_start.specs.Failure.{failed_with, told_error}
use Rattle.vm_start.specs.Phases.{kept_error}
use Rattle.vm_start.specs.declared.phase.Phase.{Phase}
use Rattle.vm_start.specs.declared.phase.Phase.TheVariants.{Failed}

-- what a machine fails with where memory was refused
abbrev pub out_of_memory : Error
out_of_memory = plain_error internal (codes "out of memory")

-- an error, or that memory was refused for it
abbrev pub or_out_of_memory : Result Error AllocError → Error
or_out_of_memory (Ok error) = error
or_out_of_memory (Err refused) = out_of_memory

abbrev pub error_message : Version → Error → RawMessage
error_message version error = record_message messages.Error version (error_parts (told_error error))

-- frames can be written, but this error's is longer than one can be
abbrev pub IsErrorTooLong : Error → Written → Type 0
IsErrorTooLong error output = (output.is_closed ≡ false) × (2 ^ 32 ≤ length (error_message output.version error).payload)

-- each number that is told of an error is within its type, each text is UTF-8, and the payload is no longer than one can be
pub record CanBeTold (version : Version) (error : Error) : Type 0 where
  pub fits : ErrorFits LEVELS (told_error error)
  pub short : length (error_message version error).payload < 2 ^ 32

-- exactly the error's frame is behind what was written, and it can be told; behind the end nothing
abbrev pub WritesError : Error → (old new : Written) → Type 0
WritesError error old new = (old.is_closed ≡ false → CanBeTold old.version error) × (new ≡ with_frame (spelled (error_message old.version error)) old)

-- Of an error its frame is written. Where that would be too long, a frame is written that says so, of an error that the machine
-- fails with instead; where memory is refused none is, and the machine fails with that.
abbrev pub TellsError : Error → (old : Written) → (told : Error) → (new : Written) → Type 0
TellsError error old told new = ((told ≡ error) × WritesError error old new) ⊎ ((IsErrorTooLong error old × (told ≡ plain_error internal told.message) × WritesError told old new) ⊎ ((told ≡ out_of_memory) × (new ≡ old)))

abbrev pub ended : Written → Written
ended output = record output { is_closed = true }

-- what a machine fails with, and what is written of it, by what came up: an error, or that memory was refused for one
abbrev pub TellsFailureCause : Version → JournalMismatchRetryBehavior → Result Error AllocError → (old : Written) → (told : Error) → (new : Written) → Type 0
TellsFailureCause version asked (Ok error) old told new = TellsError (failed_with (version_number version) asked error) old told new
TellsFailureCause version asked (Err refused) old told new = (told ≡ out_of_memory) × (new ≡ old)

-- a copy of what is kept is answered, or that there was no memory for one
abbrev pub IsCopy : Error → Error → Type 0
IsCopy kept answer = (answer ≡ kept) ⊎ (answer ≡ out_of_memory)

-- the machine has failed; nothing is written from then on
pub record FailsNow (version : Version) (asked : JournalMismatchRetryBehavior) (cause : Result Error AllocError) (old : Written) (answer : Error) (phase : Phase) (new : Written) : Type 0 where
  pub told : Error
  pub before : Written
  pub tells : TellsFailureCause version asked cause old told before
  pub output : new ≡ ended before
  pub phase_is : phase ≡ Failed told
  pub answers : IsCopy told answer

-- One that has failed already stays as it is, and answers what it has failed with.
abbrev pub FailsAs : Version → JournalMismatchRetryBehavior → Result Error AllocError → (kept : Option Error) → (old : Phase) → Written → (answer : Error) → (new : Phase) → Written → Type 0
FailsAs version asked cause (Some kept) old output answer new output' = (new ≡ old) × (output' ≡ output) × IsCopy kept answer
FailsAs version asked cause None old output answer new output' = FailsNow version asked cause output answer new output'

abbrev pub FailsMachine : Version → JournalMismatchRetryBehavior → Result Error AllocError → (old : Phase) → Written → (answer : Error) → (new : Phase) → Written → Type 0
FailsMachine version asked cause old output answer new output' = FailsAs version asked cause (kept_error old) old output answer new output'

-- what a machine that has failed answers, and one that has not does not
abbrev pub IsAgain : (kept : Option Error) → (answer : Option Error) → Type 0
IsAgain (Some kept) (Some answer) = IsCopy kept answer
IsAgain (Some kept) None = ⊥
IsAgain None (Some answer) = ⊥
IsAgain None None = Unit {0}
