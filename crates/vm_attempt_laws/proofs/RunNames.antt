-- The handle of a body was the answer to the call of its run, and to no other: so the handler says the name of that call again.
use Rattle.std.proofs.Common.{◌≡◌, inl, inr, ◌∙◌, sym, ap, refl, subst, ℕ, zero, suc, ◌+◌, ◌≤◌, ◌<◌, nat_eq, nat_lt, arith, Bool, false, cond, List, [], ◌∷◌, ◌++◌, length, length-append, take, Option, Some, None, eq-eqb, ne_eqb, lt-ltb}
use Rattle.std.proofs.Math.Seq.{take-append_seam}
use Rattle.std.proofs.lemmas.List.{take-append-le}
use Rattle.std.proofs.lemmas.List.Folds.{position_or_len_push}
use Rattle.std.specs.List.{position_or_len}
use Rattle.journal_model.specs.Await.{AwaitOutcome, WaitsFor, WokenAt, CancelledAt, await_outcome}
use Rattle.journal_model.specs.AwaitTree.{AwaitTree}
use Rattle.journal_model.specs.History.{Step, answers_of, ids_created, ids_of, next_completion, next_handle, next_signal, requests_of}
use Rattle.journal_model.specs.Refusal.{Refusal, refusal_of}
use Rattle.journal_model.specs.Run.{after_await, answer_to, answered_step, Answers, Awaits, call_kind, carried_out, continued_by, Ending, Ends, GoesOn, Handler, Invocation, Kind, Progress, requests_to, run, unless_refused}
use Rattle.body_laws.specs.Bodies.{bodies_of, bodies_of_call, Body}
use Rattle.body_laws.specs.BodySimulation.{Among}
use Rattle.body_laws.proofs.Lists.{among-left, among-right, among-split}
use Rattle.vm_attempt.specs.RunNames.{is_handle, name_at, name_in, place_of, run_name}
use Rattle.vm_attempt_laws.specs.Attempts.{Attempt}
use Rattle.vm_attempt_laws.specs.Words.{Answer, Arrival, Call, Input, Request, Text}

-- how many answers come before the first that is this handle
abbrev pub answers_before : ℕ → List Step → ℕ
answers_before handle steps = position_or_len (is_handle handle) (answers_of steps)

pushed : (handle : ℕ) (steps : List Step) (step : Step) → answers_before handle (step ∷ steps)
    ≡ cond (nat_eq (answers_before handle steps) (length (answers_of steps))) (length (answers_of steps) + cond (is_handle handle step.answer) 0 1) (answers_before handle steps)
pushed handle steps step = position_or_len_push (is_handle handle) (answers_of steps) step.answer

one_more : (steps : List Step) (step : Step) → length (answers_of (step ∷ steps)) ≡ length (answers_of steps) + 1
one_more steps step = length-append (answers_of steps) (step.answer ∷ [])

created : (steps : List Step) (step : Step) → next_handle (step ∷ steps) ≡ next_handle steps + length (ids_of (next_completion steps) (next_signal steps) step.call)
created steps step =
    let e : length (ids_created steps ++ ids_of (next_completion steps) (next_signal steps) step.call) ≡ length (ids_created steps) + length (ids_of (next_completion steps) (next_signal steps) step.call) =
    length-append (ids_created steps) (ids_of (next_completion steps) (next_signal steps) step.call) in
    omega (arith, e)

module _ (next : Handler) (given : Invocation) where
  -- the call of a body's run has this name; its answer is the first that is the body's handle
  pub record IsNamed (steps : List Step) (body : Body) : Type 0 where
    pub name : Text
    pub place : ℕ
    pub before : answers_before body.handle steps ≡ place
    pub within : place < length (answers_of steps)
    pub calls : next given.input (take place (answers_of steps)) ≡ Call.Run name
    pub asked : Among (Request.Run body.completion name) (requests_of steps)

  pub record AreNamed (steps : List Step) : Type 0 where
    -- no answer is a handle that is still to be created
    pub none : (handle : ℕ) → next_handle steps ≤ handle → answers_before handle steps ≡ length (answers_of steps)
    pub named : (body : Body) → Among body (bodies_of steps) → IsNamed steps body

  -- a step more does not change that
  still_named : (steps : List Step) (step : Step) (body : Body) → IsNamed steps body → IsNamed (step ∷ steps) body
  still_named steps step body n = record {
    name = n.name;
    place = n.place;
    before = same;
    within = (let more = one_more steps step in let low = n.within in omega (arith, more, low));
    calls = ap (λ (answers : List Answer). next given.input answers) (take-append-le n.place (answers_of steps) (step.answer ∷ []) (let low = n.within in omega (arith, low))) ∙ n.calls;
    asked = among-left (Request.Run body.completion n.name) (requests_of steps) step.requests n.asked;
  }
    where
      not_last : nat_eq (answers_before body.handle steps) (length (answers_of steps)) ≡ false
      not_last = ne_eqb (answers_before body.handle steps) (length (answers_of steps)) (λ last. let is = n.before in let low = n.within in omega (arith, last, is, low))

      same : answers_before body.handle (step ∷ steps) ≡ n.place
      same =
          pushed body.handle steps step
          ∙ ap (λ (last : Bool). cond last (length (answers_of steps) + cond (is_handle body.handle step.answer) 0 1) (answers_before body.handle steps)) not_last
          ∙ n.before

  module _ (arrivals : List Arrival) (steps : List Step) (all : AreNamed steps) where
    at_end : (step : Step) (handle : ℕ) → next_handle steps ≤ handle
        → answers_before handle (step ∷ steps) ≡ length (answers_of steps) + cond (is_handle handle step.answer) 0 1
    at_end step handle high =
        pushed handle steps step
        ∙ ap (λ (last : Bool). cond last (length (answers_of steps) + cond (is_handle handle step.answer) 0 1) (answers_before handle steps))
        (eq-eqb (answers_before handle steps) (length (answers_of steps)) (all.none handle high))

    none_more : (step : Step) (handle : ℕ) → next_handle (step ∷ steps) ≤ handle → is_handle handle step.answer ≡ false → answers_before handle (step ∷ steps) ≡ length (answers_of (step ∷ steps))
    none_more step handle high other =
        at_end step handle (let more = created steps step in omega (arith, more, high))
        ∙ ap (λ (is : Bool). length (answers_of steps) + cond is 0 1) other
        ∙ sym (one_more steps step)

    -- a step of which no body is, whose answer is no handle
    quiet_step : (step : Step) → ((handle : ℕ) → is_handle handle step.answer ≡ false) → ((body : Body) → Among body (bodies_of_call (next_handle steps) (next_completion steps) step.call) → ⊥)
        → AreNamed (step ∷ steps)
    quiet_step step other none = record {
      none = λ handle high. none_more step handle high (other handle);
      named = λ body a. elim (among-split body (bodies_of steps) (bodies_of_call (next_handle steps) (next_completion steps) step.call) a) [
        | inl b ↦ still_named steps step body (all.named body b)
        | inr b ↦ absurd (none body b)
      ];
    }

    -- the call is answered by the next handle, or by none
    other_handle : (call : Call) (handle : ℕ) → next_handle steps + length (ids_of (next_completion steps) (next_signal steps) call) ≤ handle → is_handle handle (answer_to given steps arrivals call) ≡ false
    other_handle call handle high = by_call call high
      where
        above : next_handle steps + 1 ≤ handle → nat_eq (next_handle steps) handle ≡ false
        above more = ne_eqb (next_handle steps) handle (λ e. omega (arith, e, more))

        by_call : (call : Call) → next_handle steps + length (ids_of (next_completion steps) (next_signal steps) call) ≤ handle → is_handle handle (answer_to given steps arrivals call) ≡ false
        by_call (Call.StateGet key name options) more = above more
        by_call (Call.StateGetKeys name) more = above more
        by_call (Call.Sleep name wake_up now) more = above more
        by_call (Call.Call target parameter name options) more = refl
        by_call (Call.Send target parameter execution_time name options) more = above more
        by_call Call.Awakeable more = refl
        by_call (Call.Signal name) more = above more
        by_call (Call.GetPromise key) more = above more
        by_call (Call.PeekPromise key) more = above more
        by_call (Call.CompletePromise key value options) more = above more
        by_call (Call.Run name) more = above more
        by_call (Call.Attach target) more = above more
        by_call (Call.GetOutput target) more = above more
        by_call (Call.IsCompleted one) more = refl
        by_call (Call.Take one) more = refl
        by_call _ more = refl

    module _ (call : Call) (own : next given.input (answers_of steps) ≡ call) where
      abbrev step : Step
      step = answered_step given steps arrivals call

      new_named : (body : Body) → (made : Call) → call ≡ made → Among body (bodies_of_call (next_handle steps) (next_completion steps) made) → IsNamed (step ∷ steps) body
      new_named body (Call.Run name) is (inl e) = record {
        name = name;
        place = length (answers_of steps);
        before =
            at_end step body.handle (omega (arith, handle))
            ∙ ap (λ (first : Bool). length (answers_of steps) + cond first 0 1)
            (ap (λ (made : Call). is_handle body.handle (answer_to given steps arrivals made)) is ∙ eq-eqb (next_handle steps) body.handle (sym handle))
            ∙ plus_none (length (answers_of steps));
        within = (let more = one_more steps step in omega (arith, more));
        calls = ap (λ (answers : List Answer). next given.input answers) (take-append_seam (answers_of steps) (step.answer ∷ [])) ∙ own ∙ is;
        asked =
            among-right (Request.Run body.completion name) (requests_of steps) step.requests
            (subst (λ (made : Call). Among (Request.Run body.completion name) (requests_to given steps made)) (sym is)
            (inl (ap (λ (one : Body). Request.Run one.completion name) e)));
      }
        where
          handle : body.handle ≡ next_handle steps
          handle = ap (λ (one : Body). one.handle) e

          plus_none : (n : ℕ) → n + 0 ≡ n
          plus_none n = omega arith
      new_named body (Call.Run name) is (inr a) = absurd a
      new_named body _ is a = absurd a

      own_step : AreNamed (step ∷ steps)
      own_step = record {
        none = λ handle high. none_more step handle high (other_handle call handle (let more = created steps step in omega (arith, more, high)));
        named = λ body a. elim (among-split body (bodies_of steps) (bodies_of_call (next_handle steps) (next_completion steps) call) a) [
          | inl b ↦ still_named steps step body (all.named body b)
          | inr b ↦ new_named body call refl b
        ];
      }

      no_await : (made : Call) (tree : AwaitTree ℕ) → call_kind made ≡ Awaits tree → (body : Body) → Among body (bodies_of_call (next_handle steps) (next_completion steps) made) → ⊥
      no_await (Call.Run name) tree e body a = cc
      no_await _ tree e body a = a

      by_outcome : (tree : AwaitTree ℕ) → call_kind call ≡ Awaits tree → (outcome : AwaitOutcome) → AreNamed (after_await steps call outcome).steps
      by_outcome tree is (WaitsFor left) = all
      by_outcome tree is (WokenAt place) = quiet_step (record { call = call; answer = Answer.Woken; requests = []; place = place }) (λ handle. refl) (no_await call tree is)
      by_outcome tree is (CancelledAt place requests) = quiet_step (record { call = call; answer = Answer.Cancelled; requests = requests; place = place }) (λ handle. refl) (no_await call tree is)

      by_kind : (kind : Kind) → call_kind call ≡ kind → AreNamed (carried_out given steps arrivals call kind).steps
      by_kind (Awaits tree) is = by_outcome tree is (await_outcome given.options steps arrivals tree)
      by_kind Ends is = all
      by_kind Answers is = own_step

      pub by_refusal : (o : Option Refusal) → AreNamed (unless_refused given steps arrivals call o).steps
      by_refusal (Some refusal) = all
      by_refusal None = by_kind (call_kind call) refl

  named_on : (arrivals : List Arrival) (progress : Progress) (ending : Ending) → AreNamed progress.steps → AreNamed (continued_by next given arrivals progress ending).steps
  named_on arrivals progress GoesOn all =
      by_refusal arrivals progress.steps all (next given.input (answers_of progress.steps)) refl (refusal_of given.version (next given.input (answers_of progress.steps)))
  named_on arrivals progress _ all = all

  -- so it is of every body of a run
  pub run_named : (arrivals : List Arrival) (made : ℕ) → AreNamed (run next given arrivals made).steps
  run_named arrivals zero = record { none = λ handle high. refl; named = λ body a. absurd a }
  run_named arrivals (suc made) = named_on arrivals (run next given arrivals made) (run next given arrivals made).ending (run_named arrivals made)

  -- and the attempt of that handler says it
  pub says_name : {H : Type 0} (function : H → Handler) (a : Attempt H) (steps : List Step) (body : Body) (handle : ℕ) → function a.handler ≡ next → a.input ≡ Some given.input → a.answers ≡ answers_of steps
      → body.handle ≡ handle → (n : IsNamed steps body) → run_name function handle a ≡ n.name
  says_name {H} function a steps body handle is has_read answers same n =
      ap (λ (input : Option Input). name_at function handle a input (place_of handle a.answers)) has_read
      ∙ ap (λ (place : Option ℕ). name_at function handle a (Some given.input) place) place_is
      ∙ ap name_in (ap (λ (handler : Handler). handler given.input (take n.place a.answers)) is ∙ ap (λ (some : List Answer). next given.input (take n.place some)) answers ∙ n.calls)
    where
      place_is : place_of handle a.answers ≡ Some n.place
      place_is =
          ap (λ (some : List Answer). place_of handle some) answers
          ∙ ap (λ (h : ℕ). place_of h (answers_of steps)) (sym same)
          ∙ ap (λ (place : ℕ). cond (nat_lt place (length (answers_of steps))) (Some place) None) n.before
          ∙ ap (λ (inside : Bool). cond inside (Some n.place) None) (lt-ltb n.place (length (answers_of steps)) n.within)
