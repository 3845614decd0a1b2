-- Calls that make handles, take what they stand for, and look at it.
use Rattle.std.proofs.Common.{◌≡◌, ◌⊎◌, ◌≤◌, ◌<◌, ◌+◌, ◌^◌, inl, inr, ℕ, Bool, true, false, leb, List, [], length, codes, Option, Some, None, Result, Ok, Err, IfOk, refl, sym, ap, subst, ◌∙◌, arith, append-nil}
use Rattle.std.specs.declared.alloc.AllocError.{AllocError}
use Rattle.std.proofs.lemmas.Bool.Decides.{leb_tells}
use Rattle.journal_model.specs.History.{signals_of}
use Rattle.journal_model.specs.Notification.{Text}
use Rattle.journal_model.specs.Refusal.{refusal_of}
use Rattle.journal_model.specs.Run.{Invocation}
use Rattle.journal_model.specs.declared.call.Answer.{Answer}
use Rattle.journal_model.specs.declared.call.Call.{Call}
use Rattle.journal_model.specs.declared.value.Value.{Value}
use Rattle.attempt_model.specs.Children.{Child}
use Rattle.attempt_model.specs.Machine.{Machine, KeysNotText, ChildNotId}
use Rattle.attempt_model.specs.Results.{Slots}
use Rattle.protocol_errors.specs.Code.{internal}
use Rattle.protocol_errors.specs.Error.{plain_error}
use Rattle.protocol_errors.specs.declared.error.Error.{Error}
use Rattle.vm_awaits.specs.Views.{AsyncResults}
use Rattle.vm_calls.specs.Active.{Sees}
use Rattle.vm_calls.specs.Handles.{LacksHandle, LacksSignal, MakesHandle}
use Rattle.vm_calls.specs.declared.active.Active.{Active}
use Rattle.vm_calls.specs.declared.call_error.NumberError.{NumberError}
use Rattle.vm_calls.specs.declared.call_error.NumberError.TheVariants as numbers
use Rattle.vm_context.specs.Journal.{no_id_text}
use Rattle.vm_start.specs.declared.phase.Phase.{Phase}
use Rattle.vm_feeding.specs.CommandlessCalls.{AnswersBy, IsCalled}
use Rattle.vm_feeding.specs.Handles.{MakesSignal, IsNoSignal, IsAwakeableWhere, IsAwakeable, IsNoAwakeable, TakesFirstResult, TakeCauses, LooksAtHandle}
use Rattle.vm_types.specs.declared.handles.AwakeableHandle.{AwakeableHandle}
use Rattle.vm_types.specs.declared.options.JournalReplay.{JournalReplay}
use Rattle.vm_types.specs.declared.options.JournalReplay.TheVariants.{Enabled, Disabled}
use Rattle.vm_machine.specs.Calls.{checks_off}
use Rattle.vm_machine.specs.Steps.{IsUnexpected, Steps}
use Rattle.vm_machine.specs.declared.machine_state.MachineState.{MachineState}
use Rattle.vm_machine.specs.Causes.{NumberCauses, child_not_id_error}
use Rattle.vm_waiting.specs.declared.taking.TakeError.{TakeError}
use Rattle.vm_waiting.specs.declared.taking.TakeError.TheVariants as untaken
use Rattle.vm_outcomes.specs.CallOutcomes.{Answers, Comes, CarriesOut}
use Rattle.vm_outcomes.specs.Causes.{ByFault, NoNumber, NoReplay, NoMemory, LacksNumber, AreRequestsAsked, IsLookedAt, HasCause}
use Rattle.vm_outcomes.specs.DrivenMachine.{IsDriven}
use Rattle.vm_outcomes.specs.Outcomes.{answered_as}
use Rattle.vm_outcomes.specs.declared.outcome.CallOutcome.{CallOutcome}
use Rattle.vm_outcomes.specs.declared.outcome.CallOutcome.TheVariants.{Answered}
use Rattle.vm_outcomes.proofs.Answering.{is_run, leaves_runs, answered, answered_quietly, none_taken, nothing_written}
use Rattle.vm_outcomes.proofs.Failing.{none_put, no_memory, unless_plain, looked_at, looked_asked, failed}
use Rattle.vm_outcomes.proofs.Steps.{steps_of}

-- ---- numbers

lacks_handle : (given : Invocation) (m : Machine) (active : Active) → Sees given active m → LacksHandle active → 2 ^ 32 < 17 + length m.slots + 1
lacks_handle given m active sees lacks = subst (λ (slots : Slots). 2 ^ 32 < 17 + length slots + 1) (ap (λ (r : AsyncResults). r.slots) sees.results) lacks

lacks_signal : (given : Invocation) (m : Machine) (active : Active) → Sees given active m → LacksSignal active → LacksNumber m Call.Awakeable
lacks_signal given m active sees (inl lacks) =
    let past : 2 ^ 32 ≤ m.signals = subst (λ (n : ℕ). 2 ^ 32 ≤ n) sees.signals lacks in
    inr (inl (omega (arith, past)))
lacks_signal given m active sees (inr lacks) = inr (inr (lacks_handle given m active sees lacks))

signal_left : (given : Invocation) (m : Machine) (active : Active) → Sees given active m → (LacksSignal active → ⊥) → m.signals + 1 ≤ 2 ^ 32
signal_left given m active sees has = by_test (leb_tells (m.signals + 1) (2 ^ 32))
  where
    by_test : ((leb (m.signals + 1) (2 ^ 32) ≡ true) × (m.signals + 1 ≤ 2 ^ 32)) ⊎ ((leb (m.signals + 1) (2 ^ 32) ≡ false) × (2 ^ 32 < m.signals + 1)) → m.signals + 1 ≤ 2 ^ 32
    by_test (inl tells) = tells.1
    by_test (inr tells) =
        let past : 2 ^ 32 < m.signals + 1 = tells.1 in
        let reached : 2 ^ 32 ≤ m.signals = omega (arith, past) in
        absurd (has (inl (subst (λ (n : ℕ). 2 ^ 32 ≤ n) (sym sees.signals) reached)))

-- ---- what makes a handle

module _ (given : Invocation) (m : Machine) (call : Call) (old : MachineState) (driven : IsDriven given m old) (unrefused : refusal_of given.version call ≡ None) (quiet : is_run call ≡ false) where
  handle_settles : {Taken : Type 0} (answer : Taken → Answer) (Lacks : Active → Type 0) (lacks : Lacks old.active → LacksNumber m call)
      (left : (Lacks old.active → ⊥) → (signals_of call ≡ 0) ⊎ (m.signals + signals_of call ≤ 2 ^ 32)) (made : Result Taken NumberError) (active : Active) (asked : AreRequestsAsked [] old.active.journal active.journal)
      (result : Result Taken Error) (new : MachineState) → MakesHandle (checks_off old.options.non_determinism_checks) given m call answer Lacks old.active made active
      → AnswersBy NumberCauses made (record old { active = active }) result new → Comes given m call old (answered_as answer result) new
  handle_settles {Taken = Taken} answer Lacks lacks left (Ok taken) active asked (Ok got) new makes answers =
      subst (λ (t : Taken). Answers given m call old (answer t) new) (sym answers.0)
      (subst (λ (vm : MachineState). Answers given m call old (answer taken) vm) (sym answers.1) (answered given m call old driven old.runs (leaves_runs m call old quiet) (left makes.2) (answer taken) active makes.0))
  handle_settles answer Lacks lacks left (Ok taken) active asked (Err told) new makes answers = absurd answers
  handle_settles answer Lacks lacks left (Err lack) active asked (Ok got) new makes answers = absurd answers
  handle_settles answer Lacks lacks left (Err numbers.IdsExhausted) active asked (Err told) new makes answers =
      failed given m call old driven.phase answers.cause active told new
      (record { cause = NoNumber; when = (unrefused, lacks makes.0); at = tt; tells = unless_plain active.journal internal (Some no_id_text) answers.cause answers.causes; leaves = asked }) makes.1 answers.fails
  handle_settles answer Lacks lacks left (Err numbers.OutOfMemory) active asked (Err told) new makes answers =
      failed given m call old driven.phase answers.cause active told new (no_memory given m call old active asked answers.cause answers.causes) makes answers.fails

signal_comes : (given : Invocation) (m : Machine) (name : Text) (old : MachineState) (driven : IsDriven given m old) (result : Result ℕ Error) (new : MachineState)
    → Steps (IsCalled (MakesSignal name) NumberCauses) IsNoSignal None old result new
    → Comes given m (Call.Signal name) old (answered_as (λ handle. Answer.Handle handle) result) new
signal_comes given m name old driven result new steps =
    steps_of (IsCalled (MakesSignal name) NumberCauses) IsNoSignal None old driven.phase
    (λ (r : Result ℕ Error) (vm : MachineState). Comes given m (Call.Signal name) old (answered_as (λ handle. Answer.Handle handle) r) vm)
    (λ r vm free called. handle_settles given m (Call.Signal name) old driven refl refl (λ handle. Answer.Handle handle) LacksHandle (λ lacks. inr (inr (lacks_handle given m old.active driven.sees lacks))) (λ has. inl refl)
    called.made called.active (inl called.does.1) r vm (called.does.0 (checks_off old.options.non_determinism_checks) given m driven.sees) called.answers)
    (λ error told vm some refused. cc) result new steps

-- a signal's handle is made
pub signal_carried : (name : Text) (old : MachineState) (result : Result ℕ Error) (new : MachineState) (outcome : CallOutcome) → outcome ≡ answered_as (λ handle. Answer.Handle handle) result
    → Steps (IsCalled (MakesSignal name) NumberCauses) IsNoSignal None old result new → CarriesOut (Call.Signal name) old outcome new
signal_carried name old result new outcome is steps = λ given m driven.
    subst (λ (o : CallOutcome). Comes given m (Call.Signal name) old o new) (sym is) (signal_comes given m name old driven result new steps)

-- ---- awakeables

abbrev awakeable_answer : AwakeableHandle → Answer
awakeable_answer made = Answer.Awakeable made.id made.handle

awakeable_made : (given : Invocation) (m : Machine) (old : MachineState) (driven : IsDriven given m old) (replay : JournalReplay) (result : Result AwakeableHandle Error) (new : MachineState)
    → old.options.journal_replay ≡ replay → IsAwakeableWhere replay old result new → Comes given m Call.Awakeable old (answered_as awakeable_answer result) new
awakeable_made given m old driven Enabled result new is called =
    handle_settles given m Call.Awakeable old driven refl refl awakeable_answer LacksSignal (λ lacks. lacks_signal given m old.active driven.sees lacks) (λ has. inr (signal_left given m old.active driven.sees has))
    called.made called.active (inl called.does.1) result new (called.does.0 (checks_off old.options.non_determinism_checks) given m driven.id driven.sees) called.answers
awakeable_made given m old driven Disabled (Ok made) new is fails = absurd fails
awakeable_made given m old driven Disabled (Err answer) new is fails =
    failed given m Call.Awakeable old driven.phase _ old.active answer new (record { cause = NoReplay; when = (refl, is); at = tt; tells = refl; leaves = refl }) refl fails

awakeable_comes : (given : Invocation) (m : Machine) (old : MachineState) (driven : IsDriven given m old) (result : Result AwakeableHandle Error) (new : MachineState)
    → Steps IsAwakeable IsNoAwakeable None old result new → Comes given m Call.Awakeable old (answered_as awakeable_answer result) new
awakeable_comes given m old driven result new steps =
    steps_of IsAwakeable IsNoAwakeable None old driven.phase
    (λ (r : Result AwakeableHandle Error) (vm : MachineState). Comes given m Call.Awakeable old (answered_as awakeable_answer r) vm)
    (λ r vm free made. awakeable_made given m old driven old.options.journal_replay r vm refl made) (λ error told vm some refused. cc) result new steps

-- an awakeable is made
pub awakeable_carried : (old : MachineState) (result : Result AwakeableHandle Error) (new : MachineState) → Steps IsAwakeable IsNoAwakeable None old result new
    → CarriesOut Call.Awakeable old (answered_as (λ made. Answer.Awakeable made.id made.handle) result) new
awakeable_carried old result new steps = λ given m driven. awakeable_comes given m old driven result new steps

-- ---- takes

module _ (given : Invocation) (m : Machine) (handle : ℕ) (old : MachineState) (driven : IsDriven given m old) where
  no_take : (active : Active) (looked : IsLookedAt old.active active) (told : Result Error AllocError) → TakeCauses untaken.OutOfMemory told → HasCause given m (Call.Take handle) old (none_put given m (Call.Take handle) old) active told
  no_take active looked (Ok error) causes = absurd causes
  no_take active looked (Err refused) causes = record { cause = NoMemory; when = tt; at = tt; tells = tt; leaves = looked_asked old.active active looked }

  -- of a take that fails no child is told anything
  taken_alone : (active : Active) → active ≡ record old.active { results = active.results; children = active.children } → active.children ≡ old.active.children → IsLookedAt old.active active
  taken_alone active others same = looked_at old.active active (others ∙ ap (λ (children : List Child). record old.active { results = active.results; children = children }) same)

  take_settles : (made : Result (Option Value) TakeError) (active : Active) (result : Result (Option Value) Error) (new : MachineState) → TakesFirstResult handle old.active made active
      → AnswersBy TakeCauses made (record old { active = active }) result new → Comes given m (Call.Take handle) old (answered_as (λ taken. Answer.Taken taken) result) new
  take_settles (Ok taken) active (Ok got) new does answers =
      subst (λ (t : Option Value). Answers given m (Call.Take handle) old (Answer.Taken t) new) (sym answers.0)
      (subst (λ (vm : MachineState). Answers given m (Call.Take handle) old (Answer.Taken taken) vm) (sym answers.1)
      (answered_quietly given m (Call.Take handle) old driven old.runs (leaves_runs m (Call.Take handle) old refl) (none_taken m (Call.Take handle) refl refl) (Answer.Taken taken) active (does.taken given m (checks_off old.options.non_determinism_checks) driven.sees) (ap (λ (a : Active). a.output) does.others)))
  take_settles (Ok taken) active (Err told) new does answers = absurd answers
  take_settles (Err error) active (Ok got) new does answers = absurd answers
  take_settles (Err untaken.KeyNotText) active (Err told) new does answers =
      failed given m (Call.Take handle) old driven.phase answers.cause active told new (record {
        cause = ByFault KeysNotText;
        when = does.taken given m (checks_off old.options.non_determinism_checks) driven.sees;
        at = tt;
        tells = subst (λ (r : Result Error AllocError). IfOk r (λ error. error ≡ plain_error internal (codes "Cannot convert an eager state key into UTF-8 String"))) (sym answers.causes) refl;
        leaves = taken_alone active does.others does.children;
      }) (ap (λ (a : Active). a.output) does.others) answers.fails
  take_settles (Err untaken.ChildNotId) active (Err told) new does answers =
      failed given m (Call.Take handle) old driven.phase answers.cause active told new (record {
        cause = ByFault ChildNotId;
        when = does.taken given m (checks_off old.options.non_determinism_checks) driven.sees;
        at = tt;
        tells = subst (λ (r : Result Error AllocError). IfOk r (λ error. error ≡ child_not_id_error)) (sym answers.causes) refl;
        leaves = taken_alone active does.others does.children;
      }) (ap (λ (a : Active). a.output) does.others) answers.fails
  take_settles (Err untaken.OutOfMemory) active (Err told) new does answers =
      failed given m (Call.Take handle) old driven.phase answers.cause active told new (no_take active (taken_alone active does.others does.children) answers.cause answers.causes) (ap (λ (a : Active). a.output) does.others) answers.fails

  take_comes : (result : Result (Option Value) Error) (new : MachineState) → Steps (IsCalled (TakesFirstResult handle) TakeCauses) (IsUnexpected (codes "TakeNotification")) None old result new
      → Comes given m (Call.Take handle) old (answered_as (λ taken. Answer.Taken taken) result) new
  take_comes result new steps =
      steps_of (IsCalled (TakesFirstResult handle) TakeCauses) (IsUnexpected (codes "TakeNotification")) None old driven.phase
      (λ (r : Result (Option Value) Error) (vm : MachineState). Comes given m (Call.Take handle) old (answered_as (λ taken. Answer.Taken taken) r) vm)
      (λ r vm free called. take_settles called.made called.active r vm called.does called.answers) (λ error told vm some refused. cc) result new steps

-- what has come is taken
pub take_carried : (handle : ℕ) (old : MachineState) (result : Result (Option Value) Error) (new : MachineState)
    → Steps (IsCalled (TakesFirstResult handle) TakeCauses) (IsUnexpected (codes "TakeNotification")) None old result new
    → CarriesOut (Call.Take handle) old (answered_as (λ taken. Answer.Taken taken) result) new
take_carried handle old result new steps = λ given m driven. take_comes given m handle old driven result new steps

-- ---- looks

-- it is looked at
pub look_carried : (handle : ℕ) (completed : Bool) (old : MachineState) → LooksAtHandle old.phase old.active handle completed → CarriesOut (Call.IsCompleted handle) old (Answered (Answer.Completed completed)) old
look_carried handle completed old looks = λ given m driven. record {
  machine = m;
  replies = (subst (λ (p : Phase). LooksAtHandle p old.active handle completed) driven.phase looks).made given m (checks_off old.options.non_determinism_checks) driven.sees;
  driven = driven;
  more = [];
  written = sym (append-nil m.written);
  frames = nothing_written old.active.output;
  fit = tt;
  numbers = none_taken m (Call.IsCompleted handle) refl refl;
  kept = refl;
  runs = (leaves_runs m (Call.IsCompleted handle) old refl).bodies;
  others = refl;
}
