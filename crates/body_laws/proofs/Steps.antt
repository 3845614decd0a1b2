-- A call that is answered adds one step, which is of that call; and the bodies of a run's steps are of runs that it has requested.
use Rattle.std.proofs.Common.{◌≡◌, refl, ap, ℕ, zero, suc, ◌+◌, ◌≤◌, ◌<◌, ◌==◌, arith, Bool, true, false, List, [], ◌∷◌, ◌++◌, length, length-append, Option, Some, None, ◌⊎◌, inl, inr, eqb-true}
use Rattle.journal_model.specs.Notification.{Arrival}
use Rattle.journal_model.specs.AwaitTree.{AwaitTree}
use Rattle.journal_model.specs.declared.call.Call.{Call}
use Rattle.journal_model.specs.declared.call.Answer.{Answer}
use Rattle.journal_model.specs.Request.{Request}
use Rattle.journal_model.specs.Refusal.{Refusal, refusal_of}
use Rattle.journal_model.specs.History.{Step, answers_of, requests_of, next_completion, next_handle, completions_of, ids_of, ids_created, next_signal}
use Rattle.journal_model.specs.Await.{AwaitOutcome, WaitsFor, WokenAt, CancelledAt, await_outcome}
use Rattle.journal_model.specs.Run.{Handler, Invocation, Progress, Ending, GoesOn, Waits, RefusedCall, Ended, Kind, Awaits, Ends, Answers, call_kind, answered_step, after_await, carried_out, unless_refused, after_call, continued_by, requests_to, run}
use Rattle.body_laws.specs.Bodies.{Body, bodies_of_call, bodies_of}
use Rattle.body_laws.specs.BodySimulation.{Among, count_bodies, Ascends}
use Rattle.body_laws.proofs.Lists.{among-left, among-right, among-split, one_if}

-- the steps behind a call
pub record Adds (steps : List Step) (call : Call) (new : List Step) : Type 0 where
  pub step : Step
  pub new_is : step ∷ steps ≡ new
  pub call_is : step.call ≡ call

module _ (given : Invocation) (steps : List Step) (arrivals : List Arrival) (call : Call) (new : List Step) where
  by_outcome : (outcome : AwaitOutcome) → after_await steps call outcome ≡ record { steps = new; ending = GoesOn } → Adds steps call new
  by_outcome (WaitsFor tree) e = let wrong : Waits tree ≡ GoesOn = ap (λ (p : Progress). p.ending) e in cc
  by_outcome (WokenAt place) e = record { step = _; new_is = ap (λ (p : Progress). p.steps) e; call_is = refl }
  by_outcome (CancelledAt place requests) e = record { step = _; new_is = ap (λ (p : Progress). p.steps) e; call_is = refl }

  by_kind : (kind : Kind) → carried_out given steps arrivals call kind ≡ record { steps = new; ending = GoesOn } → Adds steps call new
  by_kind (Awaits tree) e = by_outcome (await_outcome given.options steps arrivals tree) e
  by_kind Ends e = let wrong : Ended ≡ GoesOn = ap (λ (p : Progress). p.ending) e in cc
  by_kind Answers e = record { step = answered_step given steps arrivals call; new_is = ap (λ (p : Progress). p.steps) e; call_is = refl }

  by_refusal : (o : Option Refusal) → unless_refused given steps arrivals call o ≡ record { steps = new; ending = GoesOn } → Adds steps call new
  by_refusal (Some refusal) e = let wrong : RefusedCall refusal ≡ GoesOn = ap (λ (p : Progress). p.ending) e in cc
  by_refusal None e = by_kind (call_kind call) e

  pub adds : after_call given steps arrivals call ≡ record { steps = new; ending = GoesOn } → Adds steps call new
  adds e = by_refusal (refusal_of given.version call) e

-- ---- the body of one call

pub call-completion : (h n : ℕ) (call : Call) (body : Body) → Among body (bodies_of_call h n call) → (body.completion ≡ n) × (completions_of call ≡ 1)
call-completion h n (Call.Run name) body (inl e) = (ap (λ (one : Body). one.completion) e, refl)
call-completion h n (Call.Run name) body (inr a) = absurd a
call-completion h n _ body a = absurd a

pub call-handle : (h n signal : ℕ) (call : Call) (body : Body) → Among body (bodies_of_call h n call) → (body.handle ≡ h) × (length (ids_of n signal call) ≡ 1)
call-handle h n signal (Call.Run name) body (inl e) = (ap (λ (one : Body). one.handle) e, refl)
call-handle h n signal (Call.Run name) body (inr a) = absurd a
call-handle h n signal _ body a = absurd a

pub call-ascends : (h n : ℕ) (call : Call) → Ascends (bodies_of_call h n call)
call-ascends h n (Call.Run name) = (λ other a. absurd a, tt)
call-ascends h n _ = tt

not-equal : (n m : ℕ) → (n ≡ m → ⊥) → one_if (n == m) ≡ 0
not-equal n m ne = by_test (n == m) refl
  where
    by_test : (b : Bool) → (n == m) ≡ b → one_if b ≡ 0
    by_test true e = absurd (ne (eqb-true n m e))
    by_test false e = refl

pub count-below : (h c n : ℕ) (call : Call) → n < c → count_bodies n (bodies_of_call h c call) ≡ 0
count-below h c n (Call.Run name) low = let e : one_if (c == n) ≡ 0 = not-equal c n (λ same. omega (arith, same, low)) in omega (arith, e)
count-below h c n _ low = refl

pub count-above : (h c n : ℕ) (call : Call) → c + completions_of call ≤ n → count_bodies n (bodies_of_call h c call) ≡ 0
count-above h c n (Call.Run name) high = let e : one_if (c == n) ≡ 0 = not-equal c n (λ same. omega (arith, same, high)) in omega (arith, e)
count-above h c n _ high = refl

one-most : (b : Bool) → one_if b + 0 ≤ 1
one-most true = omega arith
one-most false = omega arith

pub count-one : (h c n : ℕ) (call : Call) → count_bodies n (bodies_of_call h c call) ≤ 1
count-one h c n (Call.Run name) = one-most (c == n)
count-one h c n _ = omega arith

-- ---- the bodies of a run are requested

no-await : (h n : ℕ) (call : Call) (tree : AwaitTree ℕ) → call_kind call ≡ Awaits tree → (body : Body) → Among body (bodies_of_call h n call) → ⊥
no-await h n (Call.Run name) tree e body a = cc
no-await h n _ tree e body a = a

abbrev pub AreRequested : List Step → Type 0
AreRequested steps = (body : Body) → Among body (bodies_of steps) → (name : List ℕ) × Among (Request.Run body.completion name) (requests_of steps)

requested-by : (given : Invocation) (steps : List Step) (h : ℕ) (call : Call) (body : Body) → Among body (bodies_of_call h (next_completion steps) call)
    → (name : List ℕ) × Among (Request.Run body.completion name) (requests_to given steps call)
requested-by given steps h (Call.Run name) body (inl e) = (name, inl (ap (λ (one : Body). Request.Run one.completion name) e))
requested-by given steps h (Call.Run name) body (inr a) = absurd a
requested-by given steps h _ body a = absurd a

module _ (given : Invocation) (steps : List Step) (arrivals : List Arrival) (call : Call) (all : AreRequested steps) where
  old-request : (step : Step) (body : Body) → Among body (bodies_of steps) → (name : List ℕ) × Among (Request.Run body.completion name) (requests_of (step ∷ steps))
  old-request step body a = let (name, r) = all body a in (name, among-left (Request.Run body.completion name) (requests_of steps) step.requests r)

  quiet-step : (step : Step) → ((body : Body) → Among body (bodies_of_call (next_handle steps) (next_completion steps) step.call) → ⊥) → AreRequested (step ∷ steps)
  quiet-step step none body a = elim (among-split body (bodies_of steps) (bodies_of_call (next_handle steps) (next_completion steps) step.call) a) [
    | inl b ↦ old-request step body b
    | inr b ↦ absurd (none body b)
  ]

  own-step : AreRequested (answered_step given steps arrivals call ∷ steps)
  own-step body a = elim (among-split body (bodies_of steps) (bodies_of_call (next_handle steps) (next_completion steps) call) a) [
    | inl b ↦ old-request (answered_step given steps arrivals call) body b
    | inr b ↦ new-request b
  ]
    where
      new-request : Among body (bodies_of_call (next_handle steps) (next_completion steps) call)
          → (name : List ℕ) × Among (Request.Run body.completion name) (requests_of (answered_step given steps arrivals call ∷ steps))
      new-request b = let (name, r) = requested-by given steps (next_handle steps) call body b in (name, among-right (Request.Run body.completion name) (requests_of steps) (requests_to given steps call) r)

  requested-outcome : (tree : AwaitTree ℕ) → call_kind call ≡ Awaits tree → (outcome : AwaitOutcome) → AreRequested (after_await steps call outcome).steps
  requested-outcome tree is (WaitsFor left) = all
  requested-outcome tree is (WokenAt place) = quiet-step (record { call = call; answer = Answer.Woken; requests = []; place = place }) (no-await (next_handle steps) (next_completion steps) call tree is)
  requested-outcome tree is (CancelledAt place requests) = quiet-step (record { call = call; answer = Answer.Cancelled; requests = requests; place = place }) (no-await (next_handle steps) (next_completion steps) call tree is)

  requested-kind : (kind : Kind) → call_kind call ≡ kind → AreRequested (carried_out given steps arrivals call kind).steps
  requested-kind (Awaits tree) is = requested-outcome tree is (await_outcome given.options steps arrivals tree)
  requested-kind Ends is = all
  requested-kind Answers is = own-step

  requested-call : (o : Option Refusal) → AreRequested (unless_refused given steps arrivals call o).steps
  requested-call (Some refusal) = all
  requested-call None = requested-kind (call_kind call) refl

requested-continued : (handler : Handler) (given : Invocation) (arrivals : List Arrival) (progress : Progress) (ending : Ending) → AreRequested progress.steps
    → AreRequested (continued_by handler given arrivals progress ending).steps
requested-continued handler given arrivals progress GoesOn all =
    requested-call given progress.steps arrivals (handler given.input (answers_of progress.steps)) all (refusal_of given.version (handler given.input (answers_of progress.steps)))
requested-continued handler given arrivals progress _ all = all

pub requested-run : (handler : Handler) (given : Invocation) (arrivals : List Arrival) (made : ℕ) → AreRequested (run handler given arrivals made).steps
requested-run handler given arrivals zero = λ body a. absurd a
requested-run handler given arrivals (suc made) = requested-continued handler given arrivals (run handler given arrivals made) (run handler given arrivals made).ending (requested-run handler given arrivals made)

pub bodies-below : (steps : List Step) (body : Body) → Among body (bodies_of steps) → body.completion < next_completion steps
bodies-below [] body a = absurd a
bodies-below (step ∷ earlier) body a =
    by_part (among-split body (bodies_of earlier) (bodies_of_call (next_handle earlier) (next_completion earlier) step.call) a) (λ b. bodies-below earlier body b)
  where
    by_part : Among body (bodies_of earlier) ⊎ Among body (bodies_of_call (next_handle earlier) (next_completion earlier) step.call) → (Among body (bodies_of earlier) → body.completion < next_completion earlier)
        → body.completion < next_completion earlier + completions_of step.call
    by_part (inl b) before = let low : body.completion < next_completion earlier = before b in omega (arith, low)
    by_part (inr b) before = let (e, f) = call-completion (next_handle earlier) (next_completion earlier) step.call body b in omega (arith, e, f)

pub bodies-handle : (steps : List Step) (body : Body) → Among body (bodies_of steps) → body.handle < next_handle steps
bodies-handle [] body a = absurd a
bodies-handle (step ∷ earlier) body a =
    by_part (among-split body (bodies_of earlier) (bodies_of_call (next_handle earlier) (next_completion earlier) step.call) a) (λ b. bodies-handle earlier body b)
  where
    more : next_handle (step ∷ earlier) ≡ next_handle earlier + length (ids_of (next_completion earlier) (next_signal earlier) step.call)
    more = let e : length (ids_created earlier ++ ids_of (next_completion earlier) (next_signal earlier) step.call) ≡ length (ids_created earlier) + length (ids_of (next_completion earlier) (next_signal earlier) step.call) =
        length-append (ids_created earlier) (ids_of (next_completion earlier) (next_signal earlier) step.call) in
        omega (arith, e)

    by_part : Among body (bodies_of earlier) ⊎ Among body (bodies_of_call (next_handle earlier) (next_completion earlier) step.call) → (Among body (bodies_of earlier) → body.handle < next_handle earlier)
        → body.handle < next_handle (step ∷ earlier)
    by_part (inl b) before = let low : body.handle < next_handle earlier = before b in omega (arith, low, more)
    by_part (inr b) before = let (e, f) = call-handle (next_handle earlier) (next_completion earlier) (next_signal earlier) step.call body b in omega (arith, e, f, more)
