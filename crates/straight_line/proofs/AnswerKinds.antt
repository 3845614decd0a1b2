-- The answers of a run are of their calls' kinds.
use Rattle.std.proofs.Common.{◌≡◌, refl, sym, ap, ◌∙◌, subst, ℕ, zero, suc, Bool, true, false, List, [], ◌∷◌, Option, Some, None}
use Rattle.journal_model.specs.Notification.{Arrival}
use Rattle.journal_model.specs.AwaitTree.{AwaitTree}
use Rattle.journal_model.specs.declared.call.Call.{Call}
use Rattle.journal_model.specs.declared.call.Answer.{Answer}
use Rattle.journal_model.specs.History.{Step, answers_of}
use Rattle.journal_model.specs.Refusal.{Refusal, refusal_of}
use Rattle.journal_model.specs.Await.{AwaitOutcome, WaitsFor, WokenAt, CancelledAt, await_outcome}
use Rattle.journal_model.specs.Run.{Handler, Invocation, Progress, Ending, GoesOn, Waits, RefusedCall, Ended, call_kind, after_await, carried_out, unless_refused, after_call, continued_by, run}
use Rattle.straight_line.specs.Laws.{AllAreOfKind}

awaited : (steps : List Step) (tree : AwaitTree ℕ) (outcome : AwaitOutcome) → AllAreOfKind steps → AllAreOfKind (after_await steps (Call.Await tree) outcome).steps
awaited steps tree (WaitsFor left) all = all
awaited steps tree (WokenAt place) all = (refl, all)
awaited steps tree (CancelledAt place requests) all = (refl, all)

carried : (invocation : Invocation) (steps : List Step) (arrivals : List Arrival) (call : Call)
    → AllAreOfKind steps → AllAreOfKind (carried_out invocation steps arrivals call (call_kind call)).steps
carried invocation steps arrivals (Call.Await tree) all = awaited steps tree (await_outcome invocation.options steps arrivals tree) all
carried invocation steps arrivals Call.End all = all
carried invocation steps arrivals _ all = (refl, all)

unless : (invocation : Invocation) (steps : List Step) (arrivals : List Arrival) (call : Call) (refusal : Option Refusal)
    → AllAreOfKind steps → AllAreOfKind (unless_refused invocation steps arrivals call refusal).steps
unless invocation steps arrivals call (Some refusal) all = all
unless invocation steps arrivals call None all = carried invocation steps arrivals call all

goes_on : (handler : Handler) (invocation : Invocation) (arrivals : List Arrival) (progress : Progress) (ending : Ending)
    → AllAreOfKind progress.steps → AllAreOfKind (continued_by handler invocation arrivals progress ending).steps
goes_on handler invocation arrivals progress GoesOn all =
    let call : Call = handler invocation.input (answers_of progress.steps) in
    unless invocation progress.steps arrivals call (refusal_of invocation.version call) all
goes_on handler invocation arrivals progress (Waits tree) all = all
goes_on handler invocation arrivals progress (RefusedCall refusal) all = all
goes_on handler invocation arrivals progress Ended all = all

pub of_kind : (handler : Handler) (invocation : Invocation) (arrivals : List Arrival) (calls : ℕ)
    → AllAreOfKind (run handler invocation arrivals calls).steps
of_kind handler invocation arrivals zero = tt
of_kind handler invocation arrivals (suc calls) =
    let progress : Progress = run handler invocation arrivals calls in
    goes_on handler invocation arrivals progress progress.ending (of_kind handler invocation arrivals calls)
