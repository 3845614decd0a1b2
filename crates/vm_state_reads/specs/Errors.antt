-- What a read is put as, of either kind, as the answer of the read.
use Rattle.std.specs.Prelude.{ℕ, Result, Ok, Err}
use Rattle.vm_commands.specs.declared.state_read.StateReadError.TheVariants as errors
use Rattle.vm_calls.specs.declared.put_error.PutError.{PutError}
use Rattle.vm_calls.specs.declared.put_error.PutError.TheVariants as puts
use Rattle.vm_state_reads.specs.declared.read_error.ReadError.{ReadError}
use Rattle.vm_state_reads.specs.declared.read_error.ReadError.TheVariants.{Replay, Encoding}

abbrev pub lazy_error : {L E : Type 0} → PutError L → ReadError L E
lazy_error (puts.Replay error) = Replay (errors.Lazy error)
lazy_error (puts.Encoding error) = Encoding error

abbrev pub eager_error : {L E : Type 0} → PutError E → ReadError L E
eager_error (puts.Replay error) = Replay (errors.Eager error)
eager_error (puts.Encoding error) = Encoding error

abbrev pub lazy_read : {L E : Type 0} → Result ℕ (PutError L) → Result ℕ (ReadError L E)
lazy_read (Ok handle) = Ok handle
lazy_read (Err error) = Err (lazy_error error)

abbrev pub eager_read : {L E : Type 0} → Result ℕ (PutError E) → Result ℕ (ReadError L E)
eager_read (Ok handle) = Ok handle
eager_read (Err error) = Err (eager_error error)
