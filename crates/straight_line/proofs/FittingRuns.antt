-- The answers of a run fit their calls.
use Rattle.std.proofs.Common.{◌≡◌, refl, sym, ap, ◌∙◌, subst, ℕ, zero, suc, Bool, true, false, List, [], ◌∷◌, Option, Some, None, is_some}
use Rattle.std.proofs.lemmas.Bool.{eqb-true}
use Rattle.journal_model.specs.Notification.{Bytes, Arrival}
use Rattle.journal_model.specs.AwaitTree.{AwaitTree, Single, Combined}
use Rattle.journal_model.specs.declared.handler.Input.{Input}
use Rattle.journal_model.specs.declared.call.Call.{Call}
use Rattle.journal_model.specs.declared.call.Answer.{Answer}
use Rattle.journal_model.specs.History.{Step, answers_of, place_of, next_handle}
use Rattle.journal_model.specs.Refusal.{Refusal, refusal_of}
use Rattle.journal_model.specs.Await.{AwaitOutcome, WaitsFor, WokenAt, CancelledAt, await_outcome}
use Rattle.journal_model.specs.Run.{Invocation, Progress, Ending, GoesOn, Waits, RefusedCall, Ended, answer_to, answered_step, front_of_handle, call_kind, after_await, carried_out, unless_refused, continued_by, run}
use Rattle.straight_line.specs.Steps.{Steps, next_of}
use Rattle.straight_line.specs.Laws.{kind_of_answer, kind_of_call}
use Rattle.straight_line.specs.TakenValues.{ComesOfKind}
use Rattle.straight_line.specs.FittingAnswers.{AreNext, finds, has_found, Fits, AllFit, AreCallsOf, handler_of, NeverGoesAstray}
use Rattle.straight_line.proofs.TakenValues.{takes_of_kind}
use Rattle.straight_line.proofs.AwaitedHandles.{woken-stands, takes_bring}

-- where the last call has found something, a take would bring it
abbrev BringsFound : Invocation → List Arrival → List Step → Type 0
BringsFound invocation arrivals steps =
    (handle : ℕ) → has_found handle steps ≡ true → answer_to invocation steps arrivals (Call.Take handle) ≡ Answer.Taken None → ⊥

-- what holds all along a run
record Stands (invocation : Invocation) (arrivals : List Arrival) (makes : Steps Bytes) (steps : List Step) : Type 0 where
  all_fit : AllFit steps
  brings : BringsFound invocation arrivals steps
  made : AreCallsOf makes steps

abbrev is_take : Call → Bool
is_take (Call.Take handle) = true
is_take _ = false

not_take : (call : Call) (handle : ℕ) → is_take call ≡ false → call ≡ Call.Take handle → ⊥
not_take call handle other is = let e : false ≡ true = sym other ∙ ap is_take is in cc

uncancelled : (tree : AwaitTree ℕ) (handle : ℕ) → finds handle (Call.Await tree) Answer.Cancelled ≡ false
uncancelled (Single other) handle = refl
uncancelled (Combined combinator trees) handle = refl

module _ (invocation : Invocation) (arrivals : List Arrival) (makes : Steps Bytes) (steps : List Step) (come : ComesOfKind steps arrivals) (stands : Stands invocation arrivals makes steps) where
  silent : (step : Step) → ((handle : ℕ) → finds handle step.call step.answer ≡ false) → BringsFound invocation arrivals (step ∷ steps)
  silent step none handle found brought = let e : false ≡ true = sym (none handle) ∙ found in cc

  goes : (step : Step) → Fits step steps → BringsFound invocation arrivals (step ∷ steps) → step.call ≡ next_of makes (answers_of steps) → Stands invocation arrivals makes (step ∷ steps)
  goes step fits brings next = record { all_fit = (fits, stands.all_fit); brings = brings; made = (next, stands.made) }

  fits_so : (step : Step) → is_take step.call ≡ false → kind_of_answer step.answer ≡ kind_of_call step.call → AreNext (next_handle steps) step.answer → Fits step steps
  fits_so step other kind handles = record {
    kind = kind;
    handles = handles;
    taken = λ handle value of is. absurd (not_take step.call handle other is);
    found = λ handle is. absurd (not_take step.call handle other is);
  }

  -- a call that neither takes nor finds
  plain : (call : Call) → is_take call ≡ false → kind_of_answer (answer_to invocation steps arrivals call) ≡ kind_of_call call
      → AreNext (next_handle steps) (answer_to invocation steps arrivals call) → ((handle : ℕ) → finds handle call (answer_to invocation steps arrivals call) ≡ false)
      → call ≡ next_of makes (answers_of steps) → Stands invocation arrivals makes (answered_step invocation steps arrivals call ∷ steps)
  plain call other kind handles none next =
      let step : Step = answered_step invocation steps arrivals call in
      goes step (fits_so step other kind handles) (silent step none) next

  abbrev woken_step : AwaitTree ℕ → ℕ → Step
  woken_step tree place = record { call = Call.Await tree; answer = Answer.Woken; requests = []; place = place }

  woken : (tree : AwaitTree ℕ) (place : ℕ) → await_outcome invocation.options steps arrivals tree ≡ WokenAt place → BringsFound invocation arrivals (woken_step tree place ∷ steps)
  woken (Single other) place is handle found none =
      let same : other ≡ handle = eqb-true other handle found in
      let it = woken-stands invocation.options steps arrivals place other is in
      takes_bring.awaited invocation steps arrivals other place it.0 it.1 is
      (subst (λ (one : ℕ). answer_to invocation (woken_step (Single other) place ∷ steps) arrivals (Call.Take one) ≡ Answer.Taken None) (sym same) none)
  woken (Combined combinator trees) place is handle found none = cc

  looked : (other : ℕ) (b : Bool) → is_some (front_of_handle invocation.options steps arrivals other) ≡ b
      → BringsFound invocation arrivals (record { call = Call.IsCompleted other; answer = Answer.Completed b; requests = []; place = place_of steps } ∷ steps)
  looked other true is handle found none =
      let same : other ≡ handle = eqb-true other handle found in
      takes_bring.seen invocation steps arrivals other (ap Answer.Completed is)
      (subst (λ (one : ℕ). answer_to invocation (record { call = Call.IsCompleted other; answer = Answer.Completed true; requests = []; place = place_of steps } ∷ steps) arrivals (Call.Take one) ≡ Answer.Taken None) (sym same) none)
  looked other false is handle found none = cc

  after : (tree : AwaitTree ℕ) (outcome : AwaitOutcome) → await_outcome invocation.options steps arrivals tree ≡ outcome → Call.Await tree ≡ next_of makes (answers_of steps)
      → Stands invocation arrivals makes (after_await steps (Call.Await tree) outcome).steps
  after tree (WaitsFor left) is next = stands
  after tree (WokenAt place) is next =
      goes (woken_step tree place) (fits_so (woken_step tree place) refl refl tt) (woken tree place is) next
  after tree (CancelledAt place requests) is next =
      let step : Step = record { call = Call.Await tree; answer = Answer.Cancelled; requests = requests; place = place } in
      goes step (fits_so step refl refl tt) (silent step (uncancelled tree)) next

  carried : (call : Call) → call ≡ next_of makes (answers_of steps) → Stands invocation arrivals makes (carried_out invocation steps arrivals call (call_kind call)).steps
  carried (Call.Await tree) next = after tree (await_outcome invocation.options steps arrivals tree) refl next
  carried Call.End next = stands
  carried (Call.Take handle) next =
      let step : Step = answered_step invocation steps arrivals (Call.Take handle) in
      goes step (record {
        kind = refl;
        handles = tt;
        taken = λ one value of is answer known. takes_of_kind invocation steps arrivals come one of value known
            (subst (λ (call : Call). answer_to invocation steps arrivals call ≡ Answer.Taken (Some value)) is answer);
        found = λ one is found none. stands.brings one found (subst (λ (call : Call). answer_to invocation steps arrivals call ≡ Answer.Taken None) is none);
      }) (silent step (λ one. refl)) next
  carried (Call.IsCompleted handle) next =
      let step : Step = answered_step invocation steps arrivals (Call.IsCompleted handle) in
      goes step (fits_so step refl refl tt) (looked handle (is_some (front_of_handle invocation.options steps arrivals handle)) refl) next
  carried (Call.StateGet key name options) next = plain (Call.StateGet key name options) refl refl refl (λ handle. refl) next
  carried (Call.StateGetKeys name) next = plain (Call.StateGetKeys name) refl refl refl (λ handle. refl) next
  carried (Call.Sleep name wake_up now) next = plain (Call.Sleep name wake_up now) refl refl refl (λ handle. refl) next
  carried (Call.Call target parameter name options) next = plain (Call.Call target parameter name options) refl refl (refl, refl) (λ handle. refl) next
  carried (Call.Send target parameter execution_time name options) next = plain (Call.Send target parameter execution_time name options) refl refl refl (λ handle. refl) next
  carried Call.Awakeable next = plain Call.Awakeable refl refl refl (λ handle. refl) next
  carried (Call.Signal name) next = plain (Call.Signal name) refl refl refl (λ handle. refl) next
  carried (Call.GetPromise key) next = plain (Call.GetPromise key) refl refl refl (λ handle. refl) next
  carried (Call.PeekPromise key) next = plain (Call.PeekPromise key) refl refl refl (λ handle. refl) next
  carried (Call.CompletePromise key value options) next = plain (Call.CompletePromise key value options) refl refl refl (λ handle. refl) next
  carried (Call.Run name) next = plain (Call.Run name) refl refl refl (λ handle. refl) next
  carried (Call.Attach target) next = plain (Call.Attach target) refl refl refl (λ handle. refl) next
  carried (Call.GetOutput target) next = plain (Call.GetOutput target) refl refl refl (λ handle. refl) next
  carried call next = plain call refl refl tt (λ handle. refl) next

  unless : (call : Call) (refusal : Option Refusal) → call ≡ next_of makes (answers_of steps) → Stands invocation arrivals makes (unless_refused invocation steps arrivals call refusal).steps
  unless call (Some refusal) next = stands
  unless call None next = carried call next

goes_on : (makes : Input → Steps Bytes) (invocation : Invocation) (arrivals : List Arrival) (progress : Progress) (ending : Ending) → ComesOfKind progress.steps arrivals
    → Stands invocation arrivals (makes invocation.input) progress.steps
    → Stands invocation arrivals (makes invocation.input) (continued_by (handler_of makes) invocation arrivals progress ending).steps
goes_on makes invocation arrivals progress GoesOn come stands =
    let call : Call = next_of (makes invocation.input) (answers_of progress.steps) in
    unless invocation arrivals (makes invocation.input) progress.steps come stands call (refusal_of invocation.version call) refl
goes_on makes invocation arrivals progress (Waits tree) come stands = stands
goes_on makes invocation arrivals progress (RefusedCall refusal) come stands = stands
goes_on makes invocation arrivals progress Ended come stands = stands

stand : (makes : Input → Steps Bytes) (invocation : Invocation) (arrivals : List Arrival)
    → ((calls : ℕ) → ComesOfKind (run (handler_of makes) invocation arrivals calls).steps arrivals)
    → (calls : ℕ) → Stands invocation arrivals (makes invocation.input) (run (handler_of makes) invocation arrivals calls).steps
stand makes invocation arrivals come zero = record { all_fit = tt; brings = λ handle found none. cc; made = tt }
stand makes invocation arrivals come (suc calls) =
    let progress : Progress = run (handler_of makes) invocation arrivals calls in
    goes_on makes invocation arrivals progress progress.ending (come calls) (stand makes invocation arrivals come calls)

pub never_goes_astray : NeverGoesAstray
never_goes_astray makes stays invocation arrivals come calls =
    let it = stand makes invocation arrivals come calls in
    stays invocation.input (run (handler_of makes) invocation arrivals calls).steps it.all_fit it.made
