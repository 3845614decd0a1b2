-- Which answers fit their calls: those that a run gives, one after another. A handler that goes astray on none of them never does in a run.
use Rattle.std.specs.Prelude.{◌≡◌, ℕ, suc, nat_eq, Bool, true, false, List, [], ◌∷◌, Some, None}
use Rattle.journal_model.specs.Notification.{Bytes, Arrival}
use Rattle.journal_model.specs.AwaitTree.{Single}
use Rattle.journal_model.specs.declared.handler.Input.{Input}
use Rattle.journal_model.specs.declared.call.Call.{Call}
use Rattle.journal_model.specs.declared.call.Answer.{Answer}
use Rattle.journal_model.specs.declared.value.Value.{Value}
use Rattle.journal_model.specs.History.{Step, answers_of, next_handle}
use Rattle.journal_model.specs.Run.{Handler, Invocation, run}
use Rattle.straight_line.specs.Steps.{Steps, next_of}
use Rattle.straight_line.specs.Laws.{kind_of_answer, kind_of_call, is_astray}
use Rattle.straight_line.specs.TakenValues.{ValueKind, is_of, kind_of_handle, ComesOfKind}

-- the handles that an answer brings are the next ones
abbrev pub AreNext : ℕ → Answer → Type 0
AreNext next (Answer.Handle handle) = handle ≡ next
AreNext next (Answer.Handles id_handle result_handle) = (id_handle ≡ next) × (result_handle ≡ suc next)
AreNext next (Answer.Awakeable id handle) = handle ≡ next
AreNext next _ = Unit {0}

-- whether a call has found that something has come for a handle: an await of it alone that was woken, or a look
abbrev pub finds : ℕ → Call → Answer → Bool
finds handle (Call.Await (Single other)) Answer.Woken = nat_eq other handle
finds handle (Call.IsCompleted other) (Answer.Completed true) = nat_eq other handle
finds handle _ _ = false

-- whether the last call has
abbrev pub has_found : ℕ → List Step → Bool
has_found handle [] = false
has_found handle (step ∷ earlier) = finds handle step.call step.answer

-- an answer fits its call, behind earlier ones
pub record Fits (step : Step) (earlier : List Step) : Type 0 where
  pub kind : kind_of_answer step.answer ≡ kind_of_call step.call
  pub handles : AreNext (next_handle earlier) step.answer
  -- what a take brings is of its handle's kind, and is there where the call before has found it
  pub taken : (handle : ℕ) (value : Value) (brought : ValueKind) → step.call ≡ Call.Take handle → step.answer ≡ Answer.Taken (Some value)
      → kind_of_handle earlier handle ≡ Some brought → is_of brought value ≡ true
  pub found : (handle : ℕ) → step.call ≡ Call.Take handle → has_found handle earlier ≡ true → step.answer ≡ Answer.Taken None → ⊥

abbrev pub AllFit : List Step → Type 0
AllFit [] = Unit {0}
AllFit (step ∷ earlier) = Fits step earlier × AllFit earlier

-- these calls are a handler's, each behind the answers before it
abbrev pub AreCallsOf : Steps Bytes → List Step → Type 0
AreCallsOf steps [] = Unit {0}
AreCallsOf steps (step ∷ earlier) = (step.call ≡ next_of steps (answers_of earlier)) × AreCallsOf steps earlier

-- a handler goes astray on no answers that fit its calls
abbrev pub StaysOn : Steps Bytes → Type 0
StaysOn steps = (calls : List Step) → AllFit calls → AreCallsOf steps calls → is_astray (steps (answers_of calls)) ≡ false

abbrev pub handler_of : (Input → Steps Bytes) → Handler
handler_of makes input answers = next_of (makes input) answers

-- a handler goes astray in no run, where all that comes for its handles is of their kinds
abbrev pub NeverAstray : (Input → Steps Bytes) → Type 0
NeverAstray makes = (invocation : Invocation) (arrivals : List Arrival)
    → ((calls : ℕ) → ComesOfKind (run (handler_of makes) invocation arrivals calls).steps arrivals)
    → (calls : ℕ) → is_astray (makes invocation.input (answers_of (run (handler_of makes) invocation arrivals calls).steps)) ≡ false

-- all that a run gives fits: what goes astray on none of it goes astray in no run
abbrev pub NeverGoesAstray : Type 0
NeverGoesAstray = (makes : Input → Steps Bytes) → ((input : Input) → StaysOn (makes input)) → NeverAstray makes
