-- A call that the machine has carried out, and how the attempt goes on then.
use Rattle.std.proofs.Common.{◌≡◌, Bool, true, false, Option, Some, Result, Ok, Err, inl, inr, ap, sym, subst}
use Rattle.journal_model.specs.Run.{Handler}
use Rattle.journal_model.specs.declared.call.Answer.{Answer}
use Rattle.journal_model.specs.declared.call.Call.{Call}
use Rattle.journal_model.specs.declared.handler.Input.{Input}
use Rattle.protocol_errors.specs.declared.error.Error.{Error}
use Rattle.vm_request_laws.specs.Calls.{IsTypedCall}
use Rattle.vm_core.specs.declared.core_vm.CoreVM.{CoreVM}
use Rattle.vm_core.specs.Outcomes.outcomes
use Rattle.vm_core.specs.Outcomes.{CarriesOut, CallOutcome}
use Rattle.vm_attempt.specs.TurnOutcomes.{again, FinishesBy, GivesInput, RanNone, TakesAnswer, TakesOutcome, CarriesCall, ReadsInput, ReadsOrAsks, TurnsUnless, Turns, StepIs, MakesCalls, ComesToBody, AsksAs, AsksBy, AsksWhere}
use Rattle.vm_attempt.specs.declared.attempt.Attempt.{Attempt}
use Rattle.vm_attempt.specs.declared.run_outcome.RunOutcome.{RunOutcome}
use Rattle.vm_attempt.specs.declared.turn.Finish.{Finish}
use Rattle.vm_attempt.specs.declared.turn.Finish.TheVariants as finishes
use Rattle.vm_attempt.specs.declared.turn.Step.{Step}
use Rattle.vm_attempt.specs.declared.turn.Step.TheVariants as steps
use Rattle.vm_attempt.specs.declared.turn.Turn.{Turn}

-- whether the body of a run is executed for a call
abbrev pub executes : CallOutcome → Bool
executes (outcomes.Executes handle) = true
executes _ = false

over_none : (finish : Finish) (turn : Turn) → turn ≡ again finish → RanNone turn
over_none finish turn is = subst RanNone (sym is) (none finish)
  where
    none : (finish : Finish) → RanNone (again finish)
    none finishes.Suspended = tt
    none finishes.Ended = tt
    none finishes.OutOfMemory = tt

module _ {H : Type 0} where
  -- ---- a turn that has ended no body

  pub finish_none : (finish : Finish) (between : Attempt H) (turn : Turn) (after : Attempt H) → FinishesBy finish between turn after → RanNone turn
  finish_none finish between turn after finishes = over_none finish turn finishes.0

  pub answer_none : (answer : Answer) (between : Attempt H) (turn : Turn) (after : Attempt H) → TakesAnswer answer between turn after → RanNone turn
  answer_none answer between turn after (inl takes) = subst RanNone (sym takes.0) tt
  answer_none answer between turn after (inr over) = over_none finishes.OutOfMemory turn over.0

  pub read_none : (before : Attempt H) (turn : Turn) (after : Attempt H) → ReadsInput before turn after → RanNone turn
  read_none before turn after reads = by_read reads.read reads.gives
    where
      by_read : (read : Result Input Error) → GivesInput read (record before { vm = after.vm }) turn after → RanNone turn
      by_read (Ok input) gives = subst RanNone (sym gives.0) tt
      by_read (Err error) gives = subst RanNone (sym gives.0) tt

  -- ---- what the machine has carried out

  -- where none is, the machine stays as the call has left it
  pub machine_stays : (ran : RunOutcome) (outcome : CallOutcome) (between : Attempt H) (turn : Turn) (after : Attempt H) → executes outcome ≡ false → TakesOutcome ran outcome between turn after → between.vm ≡ after.vm
  machine_stays ran (outcomes.Answered answer) between turn after none h =
      elim h [ inl told ↦ sym (ap (λ (a : Attempt H). a.vm) told.1) | inr over ↦ sym (ap (λ (a : Attempt H). a.vm) over.1) ]
  machine_stays ran outcomes.Waiting between turn after none h = sym (ap (λ (a : Attempt H). a.vm) h.1)
  machine_stays ran (outcomes.Executes handle) between turn after none h = cc
  machine_stays ran outcomes.Suspended between turn after none h = sym (ap (λ (a : Attempt H). a.vm) h.1)
  machine_stays ran outcomes.Ended between turn after none h = sym (ap (λ (a : Attempt H). a.vm) h.1)
  machine_stays ran (outcomes.Failed error) between turn after none h = sym (ap (λ (a : Attempt H). a.vm) h.1)

  pub carried : (call : Call) (before : Attempt H) (between : CoreVM) (outcome : CallOutcome) (step : Step) (after : Attempt H) → IsTypedCall call
      → CarriesOut call before.vm.state outcome between.state → StepIs (λ ran turn after. TakesOutcome ran outcome (record before { vm = between }) turn after) step after
      → StepIs (λ ran turn after. CarriesCall ran call before turn after) step after
  carried call before between outcome (steps.Turned turn) after typed carries comes =
      λ ran. record { typed = typed; outcome = outcome; between = between; carries = carries; comes = comes ran }
  carried call before between outcome (steps.Asks handle) after typed carries comes =
      λ ran turn then runs. record { typed = typed; outcome = outcome; between = between; carries = carries; comes = comes ran turn then runs }

  -- it is asked for a body by what the call has come to
  pub asked_body : (call : Call) (before : Attempt H) (between : CoreVM) (outcome : CallOutcome) (step : Step) (after : Attempt H) → IsTypedCall call
      → CarriesOut call before.vm.state outcome between.state → AsksAs outcome step (record before { vm = between }) after → AsksBy call step before after
  asked_body call before between outcome (steps.Turned turn) after typed carries asks = tt
  asked_body call before between outcome (steps.Asks handle) after typed carries (is, same) = record {
    typed = typed;
    carries =
        subst (λ (a : Attempt H). CarriesOut call before.vm.state (outcomes.Executes handle) a.vm.state) (sym same)
        (subst (λ (outcome : CallOutcome). CarriesOut call before.vm.state outcome between.state) is carries);
  }

  -- the handler is asked for its next call, and this is answered
  pub asked : (function : H → Handler) (input : Input) (call : Call) (before : Attempt H) (step : Step) (after : Attempt H) → before.input ≡ Some input
      → call ≡ function before.handler input before.answers → StepIs (λ ran turn after. CarriesCall ran call before turn after) step after
      → StepIs (λ ran turn after. ReadsOrAsks function ran before.input before turn after) step after
  asked function input call before (steps.Turned turn) after has_read asks answers =
      λ ran. subst (λ (read : Option Input). ReadsOrAsks function ran read before turn after) (sym has_read)
      (inl (subst (λ (call : Call). CarriesCall ran call before turn after) asks (answers ran)))
  asked function input call before (steps.Asks handle) after has_read asks answers =
      λ ran turn then runs. subst (λ (read : Option Input). ReadsOrAsks function ran read before turn then) (sym has_read)
      (inl (subst (λ (call : Call). CarriesCall ran call before turn then) asks (answers ran turn then runs)))

  -- where its call comes to a body, so does that of a handler which makes it
  pub asks_where : (function : H → Handler) (input : Input) (call : Call) (before : Attempt H) (step : Step) (after : Attempt H) → before.input ≡ Some input
      → call ≡ function before.handler input before.answers → AsksBy call step before after → AsksWhere function step before after
  asks_where function input call before (steps.Turned turn) after has_read is asks = tt
  asks_where function input call before (steps.Asks handle) after has_read is asks =
      record { input = input; has_read = has_read; comes = subst (λ (call : Call). ComesToBody call handle before after) is asks }

  -- ---- a turn of an attempt of which calls are made

  pub makes : (function : H → Handler) (ran : RunOutcome) (before : Attempt H) (turn : Turn) (after : Attempt H) → MakesCalls before
      → ReadsOrAsks function ran before.input before turn after → Turns function ran before turn after
  makes function ran before turn after calls does =
      subst (λ (over : Option Finish). TurnsUnless function ran over before turn after) (sym calls.going)
      (record { ready = Ok true; is_ready = calls.ready; turns = does })

  pub makes_step : (function : H → Handler) (before : Attempt H) (step : Step) (after : Attempt H) → MakesCalls before
      → StepIs (λ ran turn after. ReadsOrAsks function ran before.input before turn after) step after → StepIs (λ ran turn after. Turns function ran before turn after) step after
  makes_step function before (steps.Turned turn) after calls does = λ ran. makes function ran before turn after calls (does ran)
  makes_step function before (steps.Asks handle) between calls does = λ ran turn after runs. makes function ran before turn after calls (does ran turn after runs)
