-- Calls that put one command.
use Rattle.std.proofs.Common.{◌≡◌, ◌<◌, ◌+◌, ◌^◌, ◌⊎◌, inl, inr, ℕ, zero, suc, false, List, [], length, Option, Some, None, Result, Ok, Err, sym, ap, subst, ◌∙◌}
use Rattle.std.specs.declared.alloc.AllocError.{AllocError}
use Rattle.journal_model.specs.History.{completions_of, ids_of}
use Rattle.journal_model.specs.Notification.{Text}
use Rattle.journal_model.specs.Refusal.{refusal_of}
use Rattle.journal_model.specs.Run.{Invocation}
use Rattle.journal_model.specs.declared.call.Answer.{Answer}
use Rattle.journal_model.specs.declared.call.Call.{Call}
use Rattle.attempt_model.specs.Machine.{Machine, next_slot}
use Rattle.attempt_model.specs.Results.{Slots}
use Rattle.protocol_errors.specs.Code.{internal}
use Rattle.protocol_errors.specs.declared.error.Error.{Error}
use Rattle.protocol_stream.specs.ErrorText.{too_long_text}
use Rattle.protocol_stream.specs.declared.encoder.EncodingError.TheVariants as unsent
use Rattle.protocol_types.specs.declared.message_type.MessageType.{MessageType}
use Rattle.vm_awaits.specs.Views.{AsyncResults}
use Rattle.vm_calls.specs.Active.{Sees, LacksCompletions}
use Rattle.vm_calls.specs.CommandCalls.{FailsAs, MakesCommand}
use Rattle.vm_calls.specs.declared.active.Active.{Active}
use Rattle.vm_calls.specs.declared.call_error.CallError.{CallError}
use Rattle.vm_calls.specs.declared.call_error.CallError.TheVariants.{Number, Put, OutOfMemory}
use Rattle.vm_calls.specs.declared.call_error.NumberError.TheVariants as numbers
use Rattle.vm_calls.specs.declared.put_error.PutError.TheVariants.{Replay, Encoding}
use Rattle.vm_commands.specs.declared.replay_error.ReplayError.TheVariants as unmatched
use Rattle.vm_context.specs.Journal.{no_id_text}
use Rattle.vm_runs.specs.Runs.{Runs}
use Rattle.vm_refusals.specs.declared.refusal_error.RefusalError.{RefusalError}
use Rattle.vm_machine.specs.CallAdmission.{IsElsewhere, IsRefused}
use Rattle.vm_machine.specs.Calls.{checks_off, IsOf, IsRefusalOf, IsMade, Calls}
use Rattle.vm_machine.specs.CallAnswers.{Settles}
use Rattle.vm_machine.specs.declared.machine_state.MachineState.{MachineState}
use Rattle.vm_machine.specs.Causes.{CallCauses}
use Rattle.vm_outcomes.specs.CallOutcomes.{Answers, Fails, Comes, CarriesOut}
use Rattle.vm_outcomes.specs.Causes.{Unread, Differs, NoNumber, TooLong, LacksNumber, AreRequestsAsked, moment_event, HasCause}
use Rattle.vm_outcomes.specs.DrivenMachine.{IsDriven}
use Rattle.vm_outcomes.specs.PartialCalls.{requests_passed_on}
use Rattle.vm_outcomes.specs.Outcomes.{answered_as}
use Rattle.vm_outcomes.specs.declared.outcome.CallOutcome.{CallOutcome}
use Rattle.vm_outcomes.proofs.Answering.{MayBe, RunsIn, is_run, leaves_runs_in, no_signal, answered}
use Rattle.vm_outcomes.proofs.Failing.{none_put, no_memory, told_last, mismatches, failed_alone, refused_call}
use Rattle.vm_outcomes.proofs.Steps.{steps_of}

-- so many completions lack in what is kept exactly where they lack in the abstract machine
lacks_so_many : (given : Invocation) (m : Machine) (active : Active) (taken : ℕ) → Sees given active m → LacksCompletions taken active → (2 ^ 32 < m.completions + taken) ⊎ (2 ^ 32 < next_slot m + taken)
lacks_so_many given m active zero sees lacks = absurd lacks
lacks_so_many given m active (suc more) sees (inl lacks) = inl (subst (λ (n : ℕ). 2 ^ 32 < n + suc more) sees.completions lacks)
lacks_so_many given m active (suc more) sees (inr lacks) =
    inr (subst (λ (slots : Slots). 2 ^ 32 < 17 + length slots + suc more) (ap (λ (r : AsyncResults). r.slots) sees.results) lacks)

lacks_number : (m : Machine) (call : Call) → length (ids_of m.completions m.signals call) ≡ completions_of call
    → (2 ^ 32 < m.completions + completions_of call) ⊎ (2 ^ 32 < next_slot m + completions_of call) → LacksNumber m call
lacks_number m call same (inl lacks) = inl lacks
lacks_number m call same (inr lacks) = inr (inr (subst (λ (n : ℕ). 2 ^ 32 < next_slot m + n) (sym same) lacks))

-- where as many handles are made as completions are taken
pub lacks_completions : (given : Invocation) (m : Machine) (call : Call) (active : Active) → Sees given active m → length (ids_of m.completions m.signals call) ≡ completions_of call
    → LacksCompletions (completions_of call) active → LacksNumber m call
lacks_completions given m call active sees same lacks = lacks_number m call same (lacks_so_many given m active (completions_of call) sees lacks)

-- what is refused of this version is no call of this invocation
pub refusal_none : (given : Invocation) (call : Call) (event : List ℕ) (refusal : Option RefusalError) (old : MachineState) → IsOf given old → IsRefusalOf old.version call event refusal → refusal ≡ None
    → refusal_of given.version call ≡ None
refusal_none given call event None old is_of refuses none = ap (λ (n : ℕ). refusal_of n call) is_of.version ∙ refuses
refusal_none given call event (Some error) old is_of refuses none = cc

pub refusal_some : (call : Call) (event : List ℕ) (refusal : Option RefusalError) (error : RefusalError) (old : MachineState) → IsRefusalOf old.version call event refusal → refusal ≡ Some error
    → IsRefusalOf old.version call event (Some error)
refusal_some call event refusal error old refuses some = subst (λ (r : Option RefusalError). IsRefusalOf old.version call event r) some refuses

-- over what is kept of runs already, as room is made for one before its command is
module _ (given : Invocation) (m : Machine) (call : Call) (old : MachineState) (driven : IsDriven given m old) (runs : Runs) where
  abbrev over : MachineState
  over = record old { runs = runs }

  is_of : IsOf given over
  is_of = record { version = driven.version.version; cancellation = driven.version.cancellation }

  module _ (unrefused : refusal_of given.version call ≡ None) (same : length (ids_of m.completions m.signals call) ≡ completions_of call) (alone : requests_passed_on given m call ≡ []) where
    call_cause : {M : Type 0} (difference : M → M → List ℕ) (active : Active) (asked : AreRequestsAsked [] old.active.journal active.journal) (error : CallError M) (told : Result Error AllocError)
        → FailsAs (checks_off old.options.non_determinism_checks) given m call old.active error → CallCauses difference active.journal error told → HasCause given m call old (none_put given m call old) active told
    call_cause difference active asked (Number numbers.IdsExhausted) told fails causes = record {
      cause = NoNumber;
      when = (unrefused, lacks_completions given m call old.active driven.sees same fails);
      at = tt;
      tells = told_last active.journal internal (Some no_id_text) told causes;
      leaves = asked;
    }
    call_cause difference active asked (Number numbers.OutOfMemory) told fails causes = no_memory given m call old active asked told causes
    call_cause difference active asked (Put (Replay (unmatched.Unavailable error))) told fails causes = absurd fails.0
    call_cause difference active asked (Put (Replay (unmatched.Decoding error))) told fails causes =
        mismatches given m call old active asked alone (Unread error) told fails.0.0 fails.0.1 causes
    call_cause difference active asked (Put (Replay (unmatched.Mismatch error))) told fails causes =
        mismatches given m call old active asked alone (Differs error.command_index (difference error.actual error.expected)) told fails.0 tt causes
    call_cause difference active asked (Put (Replay unmatched.OutOfMemory)) told fails causes = no_memory given m call old active asked told causes
    call_cause difference active asked (Put (Encoding unsent.PayloadTooLong)) told fails causes = record {
      cause = TooLong;
      when = (unrefused, inl fails.0);
      at = tt;
      tells = told_last active.journal internal (Some too_long_text) told causes;
      leaves = asked;
    }
    call_cause difference active asked (Put (Encoding unsent.OutOfMemory)) told fails causes = no_memory given m call old active asked told causes
    call_cause difference active asked OutOfMemory told fails causes = no_memory given m call old active asked told causes

    call_settles : {M Taken : Type 0} (difference : M → M → List ℕ) (answer : Taken → Answer) (made : Result Taken (CallError M)) (active : Active) (asked : AreRequestsAsked [] old.active.journal active.journal) (result : Result Taken Error) (new : MachineState)
        → RunsIn m call old runs result → MakesCommand (checks_off old.options.non_determinism_checks) given m call answer old.active made active
        → Settles difference made (record over { active = active }) result new → Comes given m call old (answered_as answer result) new
    call_settles {Taken = Taken} difference answer (Ok taken) active asked (Ok got) new keeps makes settles =
        subst (λ (t : Taken). Answers given m call old (answer t) new) (sym settles.0)
        (subst (λ (vm : MachineState). Answers given m call old (answer taken) vm) (sym settles.1) (answered given m call old driven runs keeps (inl (no_signal m.completions m.signals call same)) (answer taken) active makes))
    call_settles difference answer (Ok taken) active asked (Err told) new keeps makes settles = absurd settles
    call_settles difference answer (Err error) active asked (Ok got) new keeps makes settles = absurd settles
    call_settles difference answer (Err error) active asked (Err told) new keeps makes settles =
        failed_alone given m call old driven.phase settles.cause active runs told new (call_cause difference active asked error settles.cause makes.0 settles.causes) makes.1 keeps settles.fails

    call_made : {M Taken : Type 0} (difference : M → M → List ℕ) (answer : Taken → Answer) (ty : MessageType) (name : Text) (result : Result Taken Error) (new : MachineState)
        → RunsIn m call old runs result → IsMade difference call answer ty name over result new → Comes given m call old (answered_as answer result) new
    call_made difference answer ty name result new keeps made =
        call_settles difference answer made.made made.between.active (inr (ty, (name, made.told))) result new keeps (made.makes given m is_of driven.sees)
        (subst (λ (vm : MachineState). Settles difference made.made vm result new) made.others made.settles)

  call_refused : (event : List ℕ) (error : RefusalError) (answer : Error) (new : MachineState) → event ≡ moment_event call → IsRefusalOf old.version call event (Some error) → MayBe m call old runs
      → IsRefused error over answer new → Fails given m call old answer new
  call_refused event error answer new names refuses keeps refused =
      refused_call given m call old driven.phase error runs answer new (ap (λ (n : ℕ). refusal_of n call) driven.version.version ∙ refuses.0) refuses.1 (refuses.2 ∙ names) keeps refused

  pub call_comes : {M Taken : Type 0} (difference : M → M → List ℕ) (answer : Taken → Answer) (event : List ℕ) (ty : MessageType) (name : Text) (result : Result Taken Error) (new : MachineState)
      → event ≡ moment_event call → length (ids_of m.completions m.signals call) ≡ completions_of call → requests_passed_on given m call ≡ [] → RunsIn m call old runs result
      → Calls difference call answer event ty name over result new → Comes given m call old (answered_as answer result) new
  call_comes {Taken = Taken} difference answer event ty name result new names same alone keeps calls =
      steps_of (IsMade difference call answer ty name) (IsElsewhere (completions_of call) ty name) calls.refusal over driven.phase (λ (r : Result Taken Error) (vm : MachineState). RunsIn m call old runs r → Comes given m call old (answered_as answer r) vm)
      (λ r vm free made runs_are. call_made (refusal_none given call event calls.refusal over is_of calls.refuses free) same alone difference answer ty name r vm runs_are made)
      (λ error told vm some refused runs_are. call_refused event error told vm names (refusal_some call event calls.refusal error over calls.refuses some) runs_are refused)
      result new calls.steps keeps

-- a call of one command is carried out
pub carried : {M Taken : Type 0} {difference : M → M → List ℕ} {event : List ℕ} {ty : MessageType} {name : Text} (call : Call) (answer : Taken → Answer) (old : MachineState) (result : Result Taken Error)
    (new : MachineState) (outcome : CallOutcome) → outcome ≡ answered_as answer result → ((n signal : ℕ) → length (ids_of n signal call) ≡ completions_of call) → ((given : Invocation) (m : Machine) → requests_passed_on given m call ≡ []) → is_run call ≡ false → event ≡ moment_event call
    → Calls difference call answer event ty name old result new → CarriesOut call old outcome new
carried {difference = difference} {event = event} {ty = ty} {name = name} call answer old result new outcome is same alone quiet names calls = λ given m driven.
    subst (λ (o : CallOutcome). Comes given m call old o new) (sym is)
    (call_comes given m call old driven old.runs difference answer event ty name result new names (same m.completions m.signals) (alone given m) (leaves_runs_in m call old result quiet) calls)

-- one that is answered without a value
pub done_carried : {M : Type 0} {difference : M → M → List ℕ} {event : List ℕ} {ty : MessageType} {name : Text} (call : Call) (old : MachineState) (result : Result (Unit {0}) Error) (new : MachineState)
    (outcome : CallOutcome) → outcome ≡ answered_as (λ done. Answer.Done) result → ((n signal : ℕ) → length (ids_of n signal call) ≡ completions_of call) → ((given : Invocation) (m : Machine) → requests_passed_on given m call ≡ []) → is_run call ≡ false → event ≡ moment_event call
    → Calls difference call (λ done. Answer.Done) event ty name old result new → CarriesOut call old outcome new
done_carried call old result new outcome is same alone quiet names calls = carried call (λ done. Answer.Done) old result new outcome is same alone quiet names calls

-- one that is answered by a handle
pub handle_carried : {M : Type 0} {difference : M → M → List ℕ} {event : List ℕ} {ty : MessageType} {name : Text} (call : Call) (old : MachineState) (result : Result ℕ Error) (new : MachineState)
    (outcome : CallOutcome) → outcome ≡ answered_as (λ handle. Answer.Handle handle) result → ((n signal : ℕ) → length (ids_of n signal call) ≡ completions_of call) → ((given : Invocation) (m : Machine) → requests_passed_on given m call ≡ []) → is_run call ≡ false → event ≡ moment_event call
    → Calls difference call (λ handle. Answer.Handle handle) event ty name old result new → CarriesOut call old outcome new
handle_carried call old result new outcome is same alone quiet names calls = carried call (λ handle. Answer.Handle handle) old result new outcome is same alone quiet names calls
