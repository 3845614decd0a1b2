-- What an error tells of what is recorded next is what taking it has answered.
use Rattle.std.proofs.Common.{◌≡◌, ◌≢◌, ℕ, ℤ, Bool, true, false, List, [], ◌∷◌, Some, Result, Err, refl, sym, ap, ◌∙◌, subst}
use Rattle.protocol_table.specs.declared.table.RecordType.{RecordType}
use Rattle.protocol_wire.specs.Wire.{Field}
use Rattle.protocol_types.specs.declared.message_type.MessageType.{MessageType}
use Rattle.protocol_stream.specs.Header.{message_type}
use Rattle.protocol_stream.specs.declared.decoder.RawMessage.{RawMessage}
use Rattle.protocol_stream.specs.declared.decoder.DecodingError.TheVariants as unread
use Rattle.protocol_messages.specs.RecordMessage.{type_of_record}
use Rattle.vm_commands.specs.NextCommand.{TakesAs, next_of}
use Rattle.vm_commands.specs.declared.replay_error.ReplayError.{ReplayError}
use Rattle.vm_commands.specs.declared.replay_error.ReplayError.TheVariants as unmatched
use Rattle.vm_calls.specs.declared.active.Active.{Active}
use Rattle.vm_calls.specs.declared.call_error.CallError.{CallError}
use Rattle.vm_calls.specs.declared.call_error.CallError.TheVariants.{Number}
use Rattle.vm_calls.specs.declared.call_error.NumberError.{NumberError}
use Rattle.vm_calls.specs.declared.put_error.PutError.{PutError}
use Rattle.vm_calls.specs.declared.put_error.PutError.TheVariants.{Replay, Encoding}
use Rattle.vm_calls.specs.RequestPuts.{PutsAs}
use Rattle.vm_calls.specs.SpentReplay.{KeepsRest}
use Rattle.vm_calls.specs.MismatchedCommands.{TellsUnmatched, TellsPut, FindsAs}

pub one_type : (t : RecordType) (ty other : MessageType) → type_of_record t ≡ Some ty → type_of_record t ≡ Some other → other ≡ ty
one_type t ty other h h' = let both : Some ty ≡ Some other = sym h ∙ h' in cc

module _ {M : Type 0} (t : RecordType) (ty : MessageType) (typed : type_of_record t ≡ Some ty) (of : ℕ → List Field → M) (erased : Bool → M → M) (index : ℤ) (ignoring : Bool) (made : M) where
  pub taken_tells : (queue : List RawMessage) (error : ReplayError M) → TakesAs t of erased index ignoring made (next_of queue) (Err error) → TellsUnmatched ty index queue error
  taken_tells [] (unmatched.Unavailable error) h = (refl, one_type t ty error.expected typed h)
  taken_tells [] (unmatched.Decoding error) h = absurd h
  taken_tells [] (unmatched.Mismatch error) h = absurd h
  taken_tells [] unmatched.OutOfMemory h = tt
  taken_tells (m ∷ messages) (unmatched.Unavailable error) h = absurd h
  taken_tells (m ∷ messages) (unmatched.Mismatch error) h = (
    record { carries = t; typed = typed; is_there = one_type t ty (message_type m.header) typed h.0.0; is_wrong = h.0.1.sound },
    ap (λ e. e.command_index) h.1.0,
  )
  taken_tells (m ∷ messages) (unmatched.Decoding (unread.UnexpectedMessageType expected actual told)) h =
      let asked = one_type t ty expected typed h.0.is_expected in
      ((h.0.is_there, subst (λ (other : MessageType). actual ≢ other) asked h.0.other), asked, h.0.at)
  taken_tells (m ∷ messages) (unmatched.Decoding (unread.DecodeMessage told fault)) h =
      let there = one_type t ty (message_type m.header) typed h.0.0 in
      (record { carries = t; typed = typed; is_there = there; is_wrong = h.0.1.is_wrong }, h.0.1.its_type ∙ there)
  taken_tells (m ∷ messages) (unmatched.Decoding unread.OutOfMemory) h = absurd (h.1 refl)
  taken_tells (m ∷ messages) (unmatched.Decoding _) h = absurd h.0
  taken_tells (m ∷ messages) unmatched.OutOfMemory h = tt

  told_by_put : (replaying : Bool) (queue : List RawMessage) (error : PutError M) → PutsAs t of erased index ignoring replaying made queue (Err error) → TellsPut ty index queue error
  told_by_put true queue (Replay error) h = taken_tells queue error h
  told_by_put false queue (Replay error) h = absurd h
  told_by_put true queue (Encoding error) h = tt
  told_by_put false queue (Encoding error) h = tt

  pub put_tells : (place : ℤ) → index ≡ place → (replaying : Bool) (queue : List RawMessage) (error : PutError M) → PutsAs t of erased index ignoring replaying made queue (Err error)
      → TellsPut ty place queue error
  put_tells place is replaying queue error h = subst (λ (at : ℤ). TellsPut ty at queue error) is (told_by_put replaying queue error h)

-- what was left to match is what was left before the call began
pub tells_before : {M : Type 0} (ty : MessageType) (old mid : Active) → KeepsRest old mid → (place : ℤ) (error : PutError M) → TellsPut ty place mid.commands.items error
    → TellsPut ty place old.commands.items error
tells_before ty old mid keeps place error h = subst (λ (queue : List RawMessage). TellsPut ty place queue error) keeps.commands h

-- a call for which no number was taken has not looked at it
pub number_finds : {M Taken : Type 0} (ty : MessageType) (old new : Active) (error : NumberError) (result : Result Taken (CallError M)) → result ≡ Err (Number error) → FindsAs ty old result new
number_finds {M} {Taken} ty old new error result is = subst (λ (r : Result Taken (CallError M)). FindsAs ty old r new) (sym is) tt
