-- How a run goes on by its calls: one call more, and that it stays as it is once it waits, was refused a call or has ended.
use Rattle.std.proofs.Common.{◌≡◌, refl, sym, ap, ◌∙◌, ℕ, zero, suc, ◌≤◌, eq-or-lt_of_le, arith, false, List, [], ◌∷◌, ◌++◌, append_assoc, append-nil, Option, Some, None, ◌⊎◌, inl, inr}
use Rattle.journal_model.specs.Notification.{NotificationId, Arrival}
use Rattle.journal_model.specs.AwaitTree.{AwaitTree}
use Rattle.journal_model.specs.Call.{Call}
use Rattle.journal_model.specs.Request.{Request}
use Rattle.journal_model.specs.Refusal.{Refusal, refusal_of}
use Rattle.journal_model.specs.History.{Step, answers_of}
use Rattle.journal_model.specs.Await.{WaitsFor, await_outcome}
use Rattle.journal_model.specs.Run.{Handler, Invocation, GoesOn, Waits, RefusedCall, Ended, Kind, Awaits, Ends, Answers, call_kind, answered_step, after_await, carried_out, unless_refused, after_call, continued, run, run_requests, is_going, IsBeginning}
use Rattle.journal_model.proofs.Extension.{stays, requests-longer}

-- what comes of one call, by what it is
module _ (invocation : Invocation) (steps : List Step) (arrivals : List Arrival) (call : Call) where
  pub after_call-refused : (refusal : Refusal) → refusal_of invocation.version call ≡ Some refusal
      → after_call invocation steps arrivals call ≡ record { steps = steps; ending = RefusedCall refusal }
  after_call-refused refusal e = ap (unless_refused invocation steps arrivals call) e

  pub after_call-carried_out : (kind : Kind) → refusal_of invocation.version call ≡ None → call_kind call ≡ kind
      → after_call invocation steps arrivals call ≡ carried_out invocation steps arrivals call kind
  after_call-carried_out kind e is = ap (unless_refused invocation steps arrivals call) e ∙ ap (carried_out invocation steps arrivals call) is

  pub after_call-answers : refusal_of invocation.version call ≡ None → call_kind call ≡ Answers
      → after_call invocation steps arrivals call ≡ record { steps = answered_step invocation steps arrivals call ∷ steps; ending = GoesOn }
  after_call-answers = after_call-carried_out Answers

  pub after_call-ends : refusal_of invocation.version call ≡ None → call_kind call ≡ Ends
      → after_call invocation steps arrivals call ≡ record { steps = steps; ending = Ended }
  after_call-ends = after_call-carried_out Ends

  pub after_call-waits : (tree : AwaitTree ℕ) (ids : AwaitTree (Option NotificationId)) → refusal_of invocation.version call ≡ None → call_kind call ≡ Awaits tree
      → await_outcome invocation.options steps arrivals tree ≡ WaitsFor ids
      → after_call invocation steps arrivals call ≡ record { steps = steps; ending = Waits ids }
  after_call-waits tree ids e is waits = after_call-carried_out (Awaits tree) e is ∙ ap (after_await steps call) waits

module _ (handler : Handler) (invocation : Invocation) (arrivals : List Arrival) where
  pub run-zero : run handler invocation arrivals zero ≡ record { steps = []; ending = GoesOn }
  run-zero = refl

  pub run-suc : (n : ℕ) → run handler invocation arrivals (suc n) ≡ continued handler invocation arrivals (run handler invocation arrivals n)
  run-suc n = refl

  -- a run that goes on after these steps makes the call that the handler makes after their answers
  pub run-next : (n : ℕ) (steps : List Step) → run handler invocation arrivals n ≡ record { steps = steps; ending = GoesOn }
      → run handler invocation arrivals (suc n) ≡ after_call invocation steps arrivals (handler invocation.input (answers_of steps))
  run-next n steps e = ap (continued handler invocation arrivals) e

  -- once a run waits, was refused a call or has ended, more calls leave it as it is
  pub run-stopped : (n m : ℕ) → n ≤ m → is_going (run handler invocation arrivals n).ending ≡ false
      → run handler invocation arrivals m ≡ run handler invocation arrivals n
  run-stopped n zero below stopped = let same : 0 ≡ n = omega (arith, below) in ap (run handler invocation arrivals) same
  run-stopped n (suc m) below stopped = by_order (eq-or-lt_of_le below) (λ less. run-stopped n m less stopped)
    where
      by_order : (n ≡ suc m) ⊎ (suc n ≤ suc m) → (n ≤ m → run handler invocation arrivals m ≡ run handler invocation arrivals n)
          → run handler invocation arrivals (suc m) ≡ run handler invocation arrivals n
      by_order (inl same) before = ap (run handler invocation arrivals) (sym same)
      by_order (inr less) before =
          ap (continued handler invocation arrivals) (before (omega arith))
          ∙ stays handler invocation arrivals arrivals (run handler invocation arrivals n) (run handler invocation arrivals n).ending stopped

  -- the requests of fewer calls are a beginning of those of more
  pub run_requests-beginning : (n m : ℕ) → n ≤ m → IsBeginning (run_requests handler invocation arrivals n) (run_requests handler invocation arrivals m)
  run_requests-beginning n zero below =
      let same : n ≡ 0 = omega (arith, below) in
      ([], append-nil (run_requests handler invocation arrivals n) ∙ ap (run_requests handler invocation arrivals) same)
  run_requests-beginning n (suc m) below = by_order (eq-or-lt_of_le below) (λ less. run_requests-beginning n m less)
    where
      by_order : (n ≡ suc m) ⊎ (suc n ≤ suc m) → (n ≤ m → IsBeginning (run_requests handler invocation arrivals n) (run_requests handler invocation arrivals m))
          → IsBeginning (run_requests handler invocation arrivals n) (run_requests handler invocation arrivals (suc m))
      by_order (inl same) before = ([], append-nil (run_requests handler invocation arrivals n) ∙ ap (run_requests handler invocation arrivals) same)
      by_order (inr less) before =
          let (some, e) = before (omega arith) in
          let (more, f) = requests-longer handler invocation arrivals m in
          (some ++ more, sym (append_assoc (run_requests handler invocation arrivals n) some more) ∙ ap (λ (requests : List Request). requests ++ more) e ∙ f)
