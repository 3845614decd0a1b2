-- What an error tells of what is recorded next, where it is not a read, is what taking it has answered.
use Rattle.std.proofs.Common.{◌≡◌, ◌≢◌, ℕ, ℤ, Bool, List, [], ◌∷◌, Option, Some, None, Result, Ok, Err, refl, sym, ap, ◌∙◌, subst}
use Rattle.std.specs.Prelude.{IsErrAnd, IfErr}
use Rattle.std.proofs.lemmas.Result.{err_from_is_err_and}
use Rattle.protocol_table.specs.declared.table.RecordType.{RecordType}
use Rattle.protocol_wire.specs.Wire.{Field}
use Rattle.protocol_types.specs.declared.message_type.MessageType.{MessageType}
use Rattle.protocol_stream.specs.Header.{message_type}
use Rattle.protocol_stream.specs.declared.decoder.RawMessage.{RawMessage}
use Rattle.protocol_messages.specs.RecordMessage.{type_of_record}
use Rattle.vm_commands.specs.NextCommand.{next_of, both_told}
use Rattle.vm_commands.specs.StateReads.{ReadsAs}
use Rattle.vm_commands.specs.declared.replay_error.ReplayError.{ReplayError}
use Rattle.vm_commands.specs.declared.replay_error.ReplayError.TheVariants as unmatched
use Rattle.vm_commands.specs.declared.state_read.StateReadError.{StateReadError}
use Rattle.vm_commands.specs.declared.state_read.StateReadError.TheVariants as errors
use Rattle.vm_calls.specs.declared.active.Active.{Active}
use Rattle.vm_calls.specs.declared.call_error.NumberError.{NumberError}
use Rattle.vm_calls.specs.declared.put_error.PutError.{PutError}
use Rattle.vm_calls.specs.declared.put_error.PutError.TheVariants as puts
use Rattle.vm_calls.specs.MismatchedCommands.{command_place, TellsUnmatched, TellsPut}
use Rattle.vm_calls.proofs.MismatchedCommands.{one_type, taken_tells}
use Rattle.vm_state_reads.specs.declared.read_error.ReadError.{ReadError}
use Rattle.vm_state_reads.specs.declared.read_error.ReadError.TheVariants.{Number, Replay, OutOfMemory}
use Rattle.vm_state_reads.specs.Errors.{lazy_error, eager_error, lazy_read, eager_read}
use Rattle.vm_state_reads.specs.MismatchedReads.{TellsUnread, FindsRead}

-- ---- the step of a read in replay

module _ {K L E : Type 0} (t_eager t_lazy : RecordType) (eager lazy : MessageType) (typed : type_of_record t_eager ≡ Some eager) (lazy_typed : type_of_record t_lazy ≡ Some lazy)
    (of_eager : ℕ → List Field → E) (of_lazy : ℕ → List Field → L) (erased : Bool → E → E) (erased_lazy : Bool → L → L) (known : E → Option K) (bare : E → E) (asked : L → E)
    (index : ℤ) (ignoring : Bool) (made : L) where
  told_by_read : (queue : List RawMessage) (error : StateReadError L E)
      → ReadsAs t_eager t_lazy of_eager of_lazy erased erased_lazy known bare asked index ignoring made (next_of queue) (Err error) → TellsUnread eager lazy index queue error
  told_by_read [] (errors.Lazy (unmatched.Unavailable error)) h = (refl, one_type t_lazy lazy error.expected lazy_typed h)
  told_by_read [] (errors.Lazy (unmatched.Decoding error)) h = absurd h
  told_by_read [] (errors.Lazy (unmatched.Mismatch error)) h = absurd h
  told_by_read [] (errors.Lazy unmatched.OutOfMemory) h = tt
  told_by_read [] (errors.Eager error) h = absurd h
  told_by_read [] (errors.OtherType error) h = absurd h
  told_by_read [] errors.Empty h = absurd h
  told_by_read (m ∷ queue) (errors.Lazy (unmatched.Unavailable error)) h = absurd h
  told_by_read (m ∷ queue) (errors.Lazy (unmatched.Decoding error)) h =
      taken_tells t_lazy lazy lazy_typed of_lazy erased_lazy index ignoring made (m ∷ queue) (unmatched.Decoding error) h.1
  told_by_read (m ∷ queue) (errors.Lazy (unmatched.Mismatch error)) h =
      taken_tells t_lazy lazy lazy_typed of_lazy erased_lazy index ignoring made (m ∷ queue) (unmatched.Mismatch error) h
  told_by_read (m ∷ queue) (errors.Lazy unmatched.OutOfMemory) h = tt
  told_by_read (m ∷ queue) (errors.Eager (unmatched.Unavailable error)) h = absurd h
  told_by_read (m ∷ queue) (errors.Eager (unmatched.Decoding error)) h =
      taken_tells t_eager eager typed of_eager erased index ignoring (asked made) (m ∷ queue) (unmatched.Decoding error) h.1
  told_by_read (m ∷ queue) (errors.Eager (unmatched.Mismatch error)) h = (
    record { carries = t_eager; typed = typed; is_there = one_type t_eager eager (message_type m.header) typed h.is_read.0; is_wrong = h.is_read.1.sound },
    (let is = h.is_told in let told : error ≡ both_told index (bare h.recorded) (asked made) = cc in ap (λ e. e.command_index) told),
  )
  told_by_read (m ∷ queue) (errors.Eager unmatched.OutOfMemory) h = tt
  told_by_read (m ∷ queue) (errors.OtherType error) h =
      let expected = one_type t_lazy lazy error.expected lazy_typed h.is_expected in (
        (h.is_there, λ same. h.not_lazy (lazy_typed ∙ ap (λ (ty : MessageType). Some ty) (sym same ∙ h.is_there))),
        λ same. h.not_eager (typed ∙ ap (λ (ty : MessageType). Some ty) (sym same ∙ h.is_there)),
        expected,
        h.at,
      )
  told_by_read (m ∷ queue) errors.Empty h =
      record { carries = t_eager; typed = typed; is_there = one_type t_eager eager (message_type m.header) typed h.is_read.0; is_wrong = h.is_read.1.sound }

  pub read_tells : (place : ℤ) → index ≡ place → (queue : List RawMessage) (error : StateReadError L E)
      → ReadsAs t_eager t_lazy of_eager of_lazy erased erased_lazy known bare asked index ignoring made (next_of queue) (Err error) → TellsUnread eager lazy place queue error
  read_tells place is queue error h = subst (λ (at : ℤ). TellsUnread eager lazy at queue error) is (told_by_read queue error h)

-- ---- the read

module _ (L E : Type 0) (eager lazy : MessageType) (old new : Active) (queue : List RawMessage) (same : queue ≡ old.commands.items) where
  lazy_tells : (put : Result ℕ (PutError L)) → IfErr put (λ error. TellsPut lazy (command_place new.journal) queue error) → FindsRead eager lazy old (lazy_read {L = L} {E = E} put) new
  lazy_tells (Ok handle) h = tt
  lazy_tells (Err (puts.Replay error)) h = subst (λ (q : List RawMessage). TellsUnmatched lazy (command_place new.journal) q error) same h
  lazy_tells (Err (puts.Encoding error)) h = tt

  eager_tells : (put : Result ℕ (PutError E)) → IfErr put (λ error. TellsPut eager (command_place new.journal) queue error) → FindsRead eager lazy old (eager_read {L = L} {E = E} put) new
  eager_tells (Ok handle) h = tt
  eager_tells (Err (puts.Replay error)) h = subst (λ (q : List RawMessage). TellsUnmatched eager (command_place new.journal) q error) same h
  eager_tells (Err (puts.Encoding error)) h = tt

module _ {L E : Type 0} (eager lazy : MessageType) (old new : Active) where
  -- its command was put
  module _ (queue : List RawMessage) (same : queue ≡ old.commands.items) where
    pub finds_lazy : (put : Result ℕ (PutError L)) → IfErr put (λ error. TellsPut lazy (command_place new.journal) queue error) → (result : Result ℕ (ReadError L E)) → result ≡ lazy_read put
        → FindsRead eager lazy old result new
    finds_lazy put h result is = subst (λ (r : Result ℕ (ReadError L E)). FindsRead eager lazy old r new) (sym is) (lazy_tells L E eager lazy old new queue same put h)

    pub finds_eager : (put : Result ℕ (PutError E)) → IfErr put (λ error. TellsPut eager (command_place new.journal) queue error) → (result : Result ℕ (ReadError L E)) → result ≡ eager_read put
        → FindsRead eager lazy old result new
    finds_eager put h result is = subst (λ (r : Result ℕ (ReadError L E)). FindsRead eager lazy old r new) (sym is) (eager_tells L E eager lazy old new queue same put h)

    -- it was not matched
    pub finds_unread : (error : StateReadError L E) → TellsUnread eager lazy (command_place new.journal) queue error → (result : Result ℕ (ReadError L E)) → IsErrAnd result (λ told. told ≡ Replay error)
        → FindsRead eager lazy old result new
    finds_unread error h result fails =
        let told = err_from_is_err_and result fails in
        subst (λ (r : Result ℕ (ReadError L E)). FindsRead eager lazy old r new) (sym (told.1 ∙ ap Err told.2)) (subst (λ (q : List RawMessage). TellsUnread eager lazy (command_place new.journal) q error) same h)

  -- no number was taken
  pub finds_no_number : (error : NumberError) (result : Result ℕ (ReadError L E)) → IsErrAnd result (λ told. told ≡ Number error) → FindsRead eager lazy old result new
  finds_no_number error result fails =
      let told = err_from_is_err_and result fails in
      subst (λ (r : Result ℕ (ReadError L E)). FindsRead eager lazy old r new) (sym (told.1 ∙ ap Err told.2)) tt

  -- memory was refused behind it
  pub finds_unready : (result : Result ℕ (ReadError L E)) → IsErrAnd result (λ told. told ≡ OutOfMemory) → FindsRead eager lazy old result new
  finds_unready result fails =
      let told = err_from_is_err_and result fails in
      subst (λ (r : Result ℕ (ReadError L E)). FindsRead eager lazy old r new) (sym (told.1 ∙ ap Err told.2)) tt
