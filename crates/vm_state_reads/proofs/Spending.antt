-- Where nothing recorded is left although the attempt still replays, a read finds no entry.
use Rattle.std.proofs.Common.{◌≡◌, ℕ, [], Result, Ok, Err, refl, sym, ap, ◌∙◌, subst}
use Rattle.std.specs.Prelude.{IsErrAnd}
use Rattle.std.proofs.lemmas.Result.{err_from_is_err_and}
use Rattle.protocol_types.specs.declared.message_type.MessageType.{MessageType}
use Rattle.vm_commands.specs.declared.replay_error.ReplayError.TheVariants as unmatched
use Rattle.vm_commands.specs.declared.state_read.StateReadError.{StateReadError}
use Rattle.vm_commands.specs.declared.state_read.StateReadError.TheVariants as errors
use Rattle.vm_calls.specs.declared.active.Active.{Active}
use Rattle.vm_calls.specs.declared.call_error.NumberError.{NumberError}
use Rattle.vm_calls.specs.declared.call_error.NumberError.TheVariants as numbers
use Rattle.vm_calls.specs.Active.{asking, TakesCompletion, LacksCompletions}
use Rattle.vm_calls.specs.SpentReplay.{IsSpent}
use Rattle.vm_calls.proofs.Spending.{takes_rest, spent_behind}
use Rattle.vm_state_reads.specs.declared.read_error.ReadError.{ReadError}
use Rattle.vm_state_reads.specs.declared.read_error.ReadError.TheVariants.{Number, Replay, OutOfMemory}
use Rattle.vm_state_reads.specs.SpentReplay.{MatchFindsNone, ReadSpentAs, ReadFailsSpent}

module _ {handle id : ℕ} (ty : MessageType) (old : Active) {begun : Active} (taken : TakesCompletion (id, handle) (asking ty [] old) begun) (spent : IsSpent old) where
  pub none_then : begun.commands.items ≡ []
  none_then = (spent_behind old begun (takes_rest ty [] old taken) spent).none

  output_then : begun.output ≡ old.output
  output_then = (takes_rest ty [] old taken).output

  -- it is not matched
  pub spent_unmatched : (K : Type 0) {L E : Type 0} (error : StateReadError L E) → (begun.commands.items ≡ [] → MatchFindsNone {K = K} (Err error)) → (result : Result ℕ (ReadError L E))
      → IsErrAnd result (λ told. told ≡ Replay error) → (new : Active) → new.output ≡ begun.output → ReadFailsSpent old result new
  spent_unmatched K {L} {E} error finds result fails new output =
      let told = err_from_is_err_and result fails in
      subst (λ (r : Result ℕ (ReadError L E)). ReadFailsSpent old r new) (sym (told.1 ∙ ap Err told.2)) (by_error error (finds none_then), output ∙ output_then)
    where
      by_error : (e : StateReadError L E) → MatchFindsNone {K = K} (Err e) → ReadSpentAs old (Replay e)
      by_error (errors.Lazy (unmatched.Unavailable error)) h = taken.has
      by_error (errors.Lazy (unmatched.Decoding error)) h = h
      by_error (errors.Lazy (unmatched.Mismatch error)) h = h
      by_error (errors.Lazy unmatched.OutOfMemory) h = h
      by_error (errors.Eager error) h = h
      by_error (errors.OtherType error) h = h
      by_error errors.Empty h = h

  -- memory was refused behind it
  pub spent_unready : {L E : Type 0} (result : Result ℕ (ReadError L E)) → IsErrAnd result (λ told. told ≡ OutOfMemory) → (new : Active) → new.output ≡ begun.output → ReadFailsSpent old result new
  spent_unready {L} {E} result fails new output =
      let told = err_from_is_err_and result fails in
      subst (λ (r : Result ℕ (ReadError L E)). ReadFailsSpent old r new) (sym (told.1 ∙ ap Err told.2)) (tt, output ∙ output_then)

-- no number was taken
pub spent_number : {L E : Type 0} (old new : Active) (error : NumberError) (result : Result ℕ (ReadError L E)) → (error ≡ numbers.IdsExhausted → LacksCompletions 1 old) → new.output ≡ old.output
    → IsErrAnd result (λ told. told ≡ Number error) → ReadFailsSpent old result new
spent_number {L} {E} old new error result lacks output fails =
    let told = err_from_is_err_and result fails in
    subst (λ (r : Result ℕ (ReadError L E)). ReadFailsSpent old r new) (sym (told.1 ∙ ap Err told.2)) (by_error error lacks)
  where
    by_error : (e : NumberError) → (e ≡ numbers.IdsExhausted → LacksCompletions 1 old) → ReadSpentAs {L = L} {E = E} old (Number e) × (new.output ≡ old.output)
    by_error numbers.IdsExhausted lacks = (lacks refl, output)
    by_error numbers.OutOfMemory lacks = (tt, output)
