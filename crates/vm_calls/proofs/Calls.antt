-- What each call that takes one completion asks for.
use Rattle.std.proofs.Common.{◌≡◌, ◌≤◌, ◌<◌, ◌+◌, ◌^◌, ◌⊎◌, ◌∷◌, inl, inr, arith, length, ℕ, Bool, true, false, ◌||◌, [], Option, None, Result, Err, refl, subst, sym}
use Rattle.journal_model.specs.declared.options.ImplicitCancellationOption.{ImplicitCancellationOption}
use Rattle.journal_model.specs.declared.options.ImplicitCancellationOption.TheVariants.{Disabled, Enabled}
use Rattle.journal_model.specs.declared.call.Call.{Call}
use Rattle.journal_model.specs.declared.call.Answer.{Answer}
use Rattle.journal_model.specs.declared.call.Moment.{Moment}
use Rattle.journal_model.specs.Notification.{Text}
use Rattle.journal_model.specs.Refusal.{milliseconds, refusal_of}
use Rattle.journal_model.specs.Request.{Request}
use Rattle.journal_model.specs.Await.{child_of}
use Rattle.journal_model.specs.History.{completions_of}
use Rattle.journal_model.specs.Run.{Invocation}
use Rattle.attempt_model.specs.Machine.{Machine}
use Rattle.vm_calls.specs.declared.active.Active.{Active}
use Rattle.vm_calls.specs.declared.call_error.CallError.{CallError}
use Rattle.vm_calls.specs.declared.call_error.CallError.TheVariants.{Number}
use Rattle.vm_calls.specs.declared.call_error.NumberError.{NumberError}
use Rattle.vm_calls.specs.declared.call_error.NumberError.TheVariants.{IdsExhausted}
use Rattle.vm_awaits.specs.Views.{slots_of}
use Rattle.vm_calls.specs.Active.{LacksCompletions, HasCompletions}
use Rattle.vm_calls.specs.Handles.{LacksSignal}
use Rattle.vm_calls.specs.CommandCalls.{CompletesOne, FailsAs, MakesCommand}

-- a call without options is compared as the machine's option says
pub unchecked : (checks_off : Bool) → checks_off ≡ (checks_off || false)
unchecked true = refl
unchecked false = refl

-- a call brings no child, whatever is tracked
pub brings_none : (call : Call) (n : ℕ) → child_of Disabled n call ≡ [] → child_of (Enabled true true) n call ≡ [] → child_of (Enabled true false) n call ≡ []
    → child_of (Enabled false true) n call ≡ [] → child_of (Enabled false false) n call ≡ [] → (cancellation : ImplicitCancellationOption) → child_of cancellation n call ≡ []
brings_none call n none both calls sends neither Disabled = none
brings_none call n none both calls sends neither (Enabled true true) = both
brings_none call n none both calls sends neither (Enabled true false) = calls
brings_none call n none both calls sends neither (Enabled false true) = sends
brings_none call n none both calls sends neither (Enabled false false) = neither

pub sleep_completes : (given : Invocation) (m : Machine) (name : Text) (wake_up : Moment) (now : Option Moment) (copy : Text) (time id : ℕ)
    → refusal_of given.version (Call.Sleep name wake_up now) ≡ None → copy ≡ name → milliseconds wake_up ≡ time → id ≡ m.completions
    → CompletesOne given m (Call.Sleep name wake_up now) (Request.Sleep time id copy)
sleep_completes given m name wake_up now copy time id refused copied millis taken = record { asks = record { refused = refused; work = refl; requests = λ i. Request.Sleep (millis i) (sym taken i) (sym copied i) ∷ [] }; children = brings_none (Call.Sleep name wake_up now) m.completions refl refl refl refl refl given.options.implicit_cancellation; completions = refl; signals = refl; ids = refl; known = refl; keeps = refl; answer = λ text handle signal. refl }

-- ---- numbers that are left

pub one_before : (n most : ℕ) → most < n + 1 → most ≤ n
one_before n most h = omega (arith, h)

pub neither : {A B : Type 0} → (A → ⊥) → (B → ⊥) → A ⊎ B → ⊥
neither a b (inl h) = a h
neither a b (inr h) = b h

pub has_one : (old : Active) → (2 ^ 32 ≤ old.journal.completions → ⊥) → (2 ^ 32 ≤ 17 + length (slots_of old.results) → ⊥) → HasCompletions 1 old
has_one old id handle = neither (λ none. id (one_before old.journal.completions (2 ^ 32) none)) (λ none. handle (one_before (17 + length (slots_of old.results)) (2 ^ 32) none))

pub has_signal : (old : Active) → (2 ^ 32 ≤ old.journal.signals → ⊥) → (2 ^ 32 ≤ 17 + length (slots_of old.results) → ⊥) → LacksSignal old → ⊥
has_signal old id handle = neither id (λ none. handle (one_before (17 + length (slots_of old.results)) (2 ^ 32) none))

-- a call for which no number was taken fails so
pub number_fails : {M Taken : Type 0} (checks_off : Bool) (given : Invocation) (m : Machine) (call : Call) (answer : Taken → Answer) (old new : Active) (error : NumberError) (result : Result Taken (CallError M))
    → (error ≡ IdsExhausted → LacksCompletions (completions_of call) old) → new.output ≡ old.output → result ≡ Err (Number error) → MakesCommand checks_off given m call answer old result new
number_fails {M} {Taken} checks_off given m call answer old new error result lacks output is = subst (λ (r : Result Taken (CallError M)). MakesCommand checks_off given m call answer old r new) (sym is) (by_error error lacks)
  where
    by_error : (e : NumberError) → (e ≡ IdsExhausted → LacksCompletions (completions_of call) old) → FailsAs checks_off given m call {M = M} old (Number e) × (new.output ≡ old.output)
    by_error IdsExhausted lacks = (lacks refl, output)
    by_error NumberError.OutOfMemory lacks = (tt, output)
