-- Where nothing recorded is left although the attempt still replays, a call finds no entry.
use Rattle.std.proofs.Common.{◌≡◌, ℕ, ℤ, Bool, true, List, [], Result, Ok, Err, refl, sym, ap, ◌∙◌, subst}
use Rattle.protocol_table.specs.declared.table.RecordType.{RecordType}
use Rattle.protocol_wire.specs.Wire.{Field}
use Rattle.protocol_types.specs.declared.message_type.MessageType.{MessageType}
use Rattle.journal_model.specs.Notification.{Text}
use Rattle.journal_model.specs.Request.{Request}
use Rattle.protocol_stream.specs.declared.decoder.RawMessage.{RawMessage}
use Rattle.vm_context.specs.Eager.{KnownState}
use Rattle.vm_context.specs.Output.{Written}
use Rattle.vm_commands.specs.declared.replay_error.ReplayError.TheVariants as unmatched
use Rattle.vm_calls.specs.declared.active.Active.{Active}
use Rattle.vm_calls.specs.declared.put_error.PutError.{PutError}
use Rattle.vm_calls.specs.declared.put_error.PutError.TheVariants.{Replay, Encoding}
use Rattle.vm_calls.specs.declared.call_error.CallError.{CallError}
use Rattle.vm_calls.specs.declared.call_error.CallError.TheVariants.{Number, Put}
use Rattle.vm_calls.specs.declared.call_error.NumberError.{NumberError}
use Rattle.vm_calls.specs.declared.call_error.NumberError.TheVariants as numbers
use Rattle.vm_calls.specs.RequestPuts.{PutsAs, Puts}
use Rattle.vm_calls.specs.Active.{asking, LacksCompletions, HasCompletions, TakesCompletion}
use Rattle.vm_calls.specs.SpentReplay.{IsSpent, FindsNone, SpentAs, FailsSpent, KeepsRest}

-- ---- the step of a command

module _ {M : Type 0} (ignoring replaying : Bool) (queue : List RawMessage) (result : Result (Unit {0}) (PutError M)) (is : replaying ≡ true) where
  pub finds_none : (t : RecordType) (of : ℕ → List Field → M) (erased : Bool → M → M) (index : ℤ) (made : M) → queue ≡ [] → PutsAs t of erased index ignoring replaying made queue result → FindsNone result
  finds_none t of erased index made none puts =
      by_result result (subst (λ (q : List RawMessage). PutsAs t of erased index ignoring true made q result) none (subst (λ (b : Bool). PutsAs t of erased index ignoring b made queue result) is puts))
    where
      by_result : (r : Result (Unit {0}) (PutError M)) → PutsAs t of erased index ignoring true made [] r → FindsNone r
      by_result (Ok done) h = h.1
      by_result (Err (Replay (unmatched.Unavailable error))) h = tt
      by_result (Err (Replay (unmatched.Decoding error))) h = h
      by_result (Err (Replay (unmatched.Mismatch error))) h = h
      by_result (Err (Replay unmatched.OutOfMemory)) h = h
      by_result (Err (Encoding error)) h = h

  pub writes_none : (request : Request) (written : List Request) (output : Written) (queue' : List RawMessage) (output' : Written) → Puts ignoring replaying request written queue output result queue' output'
      → output' ≡ output
  writes_none request written output queue' output' puts = (subst (λ (b : Bool). Puts ignoring b request written queue output result queue' output') is puts).1

-- ---- the steps before it

pub spent_behind : (old mid : Active) → KeepsRest old mid → IsSpent old → IsSpent mid
spent_behind old mid keeps spent = record { replaying = keeps.replaying ∙ spent.replaying; none = keeps.commands ∙ spent.none }

pub takes_rest : {made : ℕ × ℕ} (ty : MessageType) (name : Text) (old : Active) {mid : Active} → TakesCompletion made (asking ty name old) mid → KeepsRest old mid
takes_rest ty name old takes = record {
  replaying = ap (λ (a : Active). a.is_replaying) takes.others;
  commands = ap (λ (a : Active). a.commands.items) takes.others;
  output = ap (λ (a : Active). a.output) takes.others;
}

pub asks_rest : (ty : MessageType) (name : Text) (old : Active) {asked : Active} → asked ≡ asking ty name old → KeepsRest old asked
asks_rest ty name old asks = record {
  replaying = ap (λ (a : Active). a.is_replaying) asks;
  commands = ap (λ (a : Active). a.commands.items) asks;
  output = ap (λ (a : Active). a.output) asks;
}

pub changes_rest : (ty : MessageType) (name : Text) (old : Active) {asked : Active} → asked ≡ asking ty name old → (state : KnownState) → KeepsRest old (record asked { state = state })
changes_rest ty name old asks state = let rest = asks_rest ty name old asks in record { replaying = rest.replaying; commands = rest.commands; output = rest.output }

-- ---- the call

pub none_for : {M : Type 0} (taken : ℕ) (old mid new : Active) → KeepsRest old mid → HasCompletions taken old → IsSpent old → (error : PutError M)
    → (IsSpent mid → FindsNone {M = M} {T = Unit {0}} (Err error) × (new.output ≡ mid.output)) → SpentAs taken old (Put error) × (new.output ≡ old.output)
none_for {M} taken old mid new keeps has spent error finds =
    let found = finds (spent_behind old mid keeps spent) in
    (by_error error found.0, found.1 ∙ keeps.output)
  where
    by_error : (e : PutError M) → FindsNone {M = M} {T = Unit {0}} (Err e) → SpentAs taken old (Put e)
    by_error (Replay (unmatched.Unavailable error)) h = has
    by_error (Replay (unmatched.Decoding error)) h = h
    by_error (Replay (unmatched.Mismatch error)) h = h
    by_error (Replay unmatched.OutOfMemory) h = h
    by_error (Encoding error) h = h

pub none_stands : (old mid : Active) → KeepsRest old mid → IsSpent old → (Any : Type 0) → (IsSpent mid → ⊥ × Any) → ⊥
none_stands old mid keeps spent Any finds = (finds (spent_behind old mid keeps spent)).0

-- a call for which no number was taken fails so
pub number_spent : {M Taken : Type 0} (taken : ℕ) (old new : Active) (error : NumberError) (result : Result Taken (CallError M)) → (error ≡ numbers.IdsExhausted → LacksCompletions taken old)
    → new.output ≡ old.output → result ≡ Err (Number error) → FailsSpent taken old result new
number_spent {M} {Taken} taken old new error result lacks output is = subst (λ (r : Result Taken (CallError M)). FailsSpent taken old r new) (sym is) (by_error error lacks)
  where
    by_error : (e : NumberError) → (e ≡ numbers.IdsExhausted → LacksCompletions taken old) → SpentAs {M = M} taken old (Number e) × (new.output ≡ old.output)
    by_error numbers.IdsExhausted lacks = (lacks refl, output)
    by_error numbers.OutOfMemory lacks = (tt, output)
