-- What a machine fails with where a read of the object's state fails: it is about the read's command.
use Rattle.std.specs.Prelude.{ℕ, true, false, List, Some, None, Result}
use Rattle.std.specs.declared.alloc.AllocError.{AllocError}
use Rattle.protocol_errors.specs.Code.{internal, journal_mismatch}
use Rattle.protocol_errors.specs.Error.{decoding_code}
use Rattle.protocol_errors.specs.FixedErrors.{fixed_code, fixed_text}
use Rattle.protocol_errors.specs.Texts.{type_mismatch_text, unavailable_text}
use Rattle.protocol_errors.specs.declared.error.Error.{Error}
use Rattle.protocol_errors.specs.declared.fixed.FixedError.{FixedError}
use Rattle.protocol_stream.specs.ErrorText.{decoding_text, too_long_text}
use Rattle.protocol_stream.specs.declared.encoder.EncodingError.{EncodingError}
use Rattle.protocol_stream.specs.declared.encoder.EncodingError.TheVariants as unsent
use Rattle.vm_calls.specs.declared.call_error.NumberError.TheVariants as numbers
use Rattle.vm_machine.specs.Causes.{TellsPlainError, TellsLast, Unless}
use Rattle.vm_commands.specs.NextCommand.{replay_text}
use Rattle.vm_commands.specs.declared.replay_error.ReplayError.{ReplayError}
use Rattle.vm_commands.specs.declared.replay_error.ReplayError.TheVariants as unmatched
use Rattle.vm_commands.specs.declared.state_read.StateReadError.{StateReadError}
use Rattle.vm_commands.specs.declared.state_read.StateReadError.TheVariants as errors
use Rattle.vm_context.specs.Journal.{JournalCounts, no_id_text}
use Rattle.vm_state_reads.specs.declared.read_error.ReadError.{ReadError}
use Rattle.vm_state_reads.specs.declared.read_error.ReadError.TheVariants.{Number, Replay, Encoding, OutOfMemory}

-- of a recorded command that is not the read; of one of the same type both are told where they differ
abbrev pub ReplayCauses : {M : Type 0} → (M → M → List ℕ) → JournalCounts → ReplayError M → Result Error AllocError → Type 0
ReplayCauses difference journal (unmatched.Unavailable error) result = Unless false (TellsLast journal journal_mismatch (Some (unavailable_text error.expected))) result
ReplayCauses difference journal (unmatched.Decoding error) result = Unless false (TellsLast journal (decoding_code error) (Some (decoding_text error))) result
ReplayCauses difference journal (unmatched.Mismatch error) result = Unless false (TellsLast journal journal_mismatch (Some (replay_text difference (unmatched.Mismatch error)))) result
ReplayCauses difference journal unmatched.OutOfMemory result = Unless true (TellsPlainError internal None) result

-- of a frame that could not be made
abbrev pub EncodingCauses : JournalCounts → EncodingError → Result Error AllocError → Type 0
EncodingCauses journal unsent.PayloadTooLong result = Unless false (TellsLast journal internal (Some too_long_text)) result
EncodingCauses journal unsent.OutOfMemory result = Unless true (TellsPlainError internal None) result

module _ {L E : Type 0} (lazy_difference : L → L → List ℕ) (eager_difference : E → E → List ℕ) (empty : FixedError) (journal : JournalCounts) where
  -- of the next recorded command, which is the read of neither kind, or whose answer was known and is not there
  abbrev pub MatchCauses : StateReadError L E → Result Error AllocError → Type 0
  MatchCauses (errors.OtherType error) result = Unless false (TellsLast journal journal_mismatch (Some (type_mismatch_text error))) result
  MatchCauses (errors.Lazy error) result = ReplayCauses lazy_difference journal error result
  MatchCauses (errors.Eager error) result = ReplayCauses eager_difference journal error result
  MatchCauses errors.Empty result = Unless false (TellsLast journal (fixed_code empty) (Some (fixed_text empty))) result

  abbrev pub ReadCauses : ReadError L E → Result Error AllocError → Type 0
  ReadCauses (Number numbers.IdsExhausted) result = Unless false (TellsLast journal internal (Some no_id_text)) result
  ReadCauses (Number numbers.OutOfMemory) result = Unless true (TellsPlainError internal None) result
  ReadCauses (Replay error) result = MatchCauses error result
  ReadCauses (Encoding error) result = EncodingCauses journal error result
  ReadCauses OutOfMemory result = Unless true (TellsPlainError internal None) result
