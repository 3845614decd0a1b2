-- How a run waits, and when it goes on with more arrivals.
use Rattle.std.proofs.Common.{ℕ, zero, suc, ◌≤◌, ◌<◌, arith, ◌≡◌, refl, sym, ap, subst, ◌∙◌, ◌⊎◌, inl, inr, Bool, true, false, List, ◌++◌, length, length-append, Option, Some, None}
use Rattle.journal_model.specs.declared.notification.NotificationId.{NotificationId}
use Rattle.journal_model.specs.declared.call.Call.{Call}
use Rattle.journal_model.specs.Notification.{Arrival}
use Rattle.journal_model.specs.AwaitTree.{AwaitTree}
use Rattle.journal_model.specs.Refusal.{Refusal, refusal_of}
use Rattle.journal_model.specs.History.{Step, answers_of}
use Rattle.journal_model.specs.Await.{AwaitOutcome, WaitsFor, WokenAt, CancelledAt, await_outcome}
use Rattle.journal_model.specs.Run.{Handler, Invocation, Progress, Ending, GoesOn, Waits, Kind, Awaits, Ends, Answers, call_kind, after_await, carried_out, unless_refused, after_call, continued_by, run, is_going}
use Rattle.journal_model.specs.Headline.{IsWaiting}
use Rattle.journal_model.proofs.Extension.{continued-steps}
use Rattle.journal_model.proofs.Continuing.{run-next, run-stopped}
use Rattle.run_laws.proofs.Extending.{going-same}

order : (n m : ℕ) → (n ≤ m) ⊎ (m < n)
order zero m = inl (omega arith)
order (suc n) zero = inr (omega arith)
order (suc n) (suc m) = elim (order n m) [ inl low ↦ inl (omega arith) | inr high ↦ inr (omega arith) ]

pub waits_injective : (a b : AwaitTree (Option NotificationId)) → Waits a ≡ Waits b → a ≡ b
waits_injective a b e = cc

-- the await at which a run waits
pub record WaitsAt (next : Handler) (given : Invocation) (arrivals : List Arrival) (steps : List Step) (tree : AwaitTree (Option NotificationId)) : Type 0 where
  pub before : ℕ
  pub going : run next given arrivals before ≡ record { steps = steps; ending = GoesOn }
  pub asked : AwaitTree ℕ
  pub unrefused : refusal_of given.version (next given.input (answers_of steps)) ≡ None
  pub awaits : call_kind (next given.input (answers_of steps)) ≡ Awaits asked
  pub outcome : await_outcome given.options steps arrivals asked ≡ WaitsFor tree

module _ (next : Handler) (given : Invocation) (arrivals : List Arrival) where
  outcome_waits : (steps : List Step) (call : Call) (outcome : AwaitOutcome) (tree : AwaitTree (Option NotificationId)) → (after_await steps call outcome).ending ≡ Waits tree → outcome ≡ WaitsFor tree
  outcome_waits steps call (WaitsFor other) tree e = ap WaitsFor (waits_injective other tree e)
  outcome_waits steps call (WokenAt place) tree e = absurd (subst IsWaiting (sym e) tt)
  outcome_waits steps call (CancelledAt place requests) tree e = absurd (subst IsWaiting (sym e) tt)

  steps_waits : (steps : List Step) (call : Call) (outcome : AwaitOutcome) (tree : AwaitTree (Option NotificationId)) → (after_await steps call outcome).ending ≡ Waits tree → (after_await steps call outcome).steps ≡ steps
  steps_waits steps call (WaitsFor other) tree e = refl
  steps_waits steps call (WokenAt place) tree e = absurd (subst IsWaiting (sym e) tt)
  steps_waits steps call (CancelledAt place requests) tree e = absurd (subst IsWaiting (sym e) tt)

  -- a call at which the run waits is an await
  call_waits : (n : ℕ) (steps : List Step) (tree : AwaitTree (Option NotificationId)) → run next given arrivals n ≡ record { steps = steps; ending = GoesOn }
      → (after_call given steps arrivals (next given.input (answers_of steps))).ending ≡ Waits tree
      → WaitsAt next given arrivals steps tree × ((after_call given steps arrivals (next given.input (answers_of steps))).steps ≡ steps)
  call_waits n steps tree going e = by_refusal (refusal_of given.version (next given.input (answers_of steps))) refl (call_kind (next given.input (answers_of steps))) refl e
    where
      call : Call
      call = next given.input (answers_of steps)

      by_refusal : (o : Option Refusal) → refusal_of given.version (next given.input (answers_of steps)) ≡ o → (kind : Kind) → call_kind (next given.input (answers_of steps)) ≡ kind
          → (unless_refused given steps arrivals (next given.input (answers_of steps)) o).ending ≡ Waits tree
          → WaitsAt next given arrivals steps tree × ((unless_refused given steps arrivals (next given.input (answers_of steps)) o).steps ≡ steps)
      by_refusal (Some refusal) f kind g e = absurd (subst IsWaiting (sym e) tt)
      by_refusal None f (Awaits asked) g e =
          let there : (after_await steps (next given.input (answers_of steps)) (await_outcome given.options steps arrivals asked)).ending ≡ Waits tree =
          sym (ap (λ (kind : Kind). (carried_out given steps arrivals (next given.input (answers_of steps)) kind).ending) g) ∙ e in (
            record {
              before = n;
              going = going;
              asked = asked;
              unrefused = f;
              awaits = g;
              outcome = outcome_waits steps (next given.input (answers_of steps)) (await_outcome given.options steps arrivals asked) tree there;
            },
            ap (λ (kind : Kind). (carried_out given steps arrivals (next given.input (answers_of steps)) kind).steps) g
                ∙ steps_waits steps (next given.input (answers_of steps)) (await_outcome given.options steps arrivals asked) tree there,
          )
      by_refusal None f Ends g e =
          absurd (subst IsWaiting (sym (sym (ap (λ (kind : Kind). (carried_out given steps arrivals (next given.input (answers_of steps)) kind).ending) g) ∙ e)) tt)
      by_refusal None f Answers g e =
          absurd (subst IsWaiting (sym (sym (ap (λ (kind : Kind). (carried_out given steps arrivals (next given.input (answers_of steps)) kind).ending) g) ∙ e)) tt)

  -- a run that waits has come to wait at an await
  pub waited : (n : ℕ) (tree : AwaitTree (Option NotificationId)) → (run next given arrivals n).ending ≡ Waits tree → WaitsAt next given arrivals (run next given arrivals n).steps tree
  waited zero tree e = absurd (subst IsWaiting (sym e) tt)
  waited (suc n) tree e = by_ending (run next given arrivals n).ending refl e (waited n tree)
    where
      by_ending : (ending : Ending) → (run next given arrivals n).ending ≡ ending → (continued_by next given arrivals (run next given arrivals n) ending).ending ≡ Waits tree
          → ((run next given arrivals n).ending ≡ Waits tree → WaitsAt next given arrivals (run next given arrivals n).steps tree)
          → WaitsAt next given arrivals (continued_by next given arrivals (run next given arrivals n) ending).steps tree
      by_ending GoesOn g e before =
          let steps = (run next given arrivals n).steps in
          let (at, same) = call_waits n steps tree (ap (λ (ending : Ending). record { steps = steps; ending = ending }) g) e in
          subst (λ (some : List Step). WaitsAt next given arrivals some tree) (sym same) at
      by_ending other g e before = before e

  -- the call at which a run comes to wait adds no step
  pub steps_at_wait : (n : ℕ) (tree : AwaitTree (Option NotificationId)) → (run next given arrivals n).ending ≡ GoesOn → (run next given arrivals (suc n)).ending ≡ Waits tree
      → (run next given arrivals (suc n)).steps ≡ (run next given arrivals n).steps
  steps_at_wait n tree going e =
      let steps = (run next given arrivals n).steps in
      let there : run next given arrivals (suc n) ≡ after_call given steps arrivals (next given.input (answers_of steps)) =
      ap (continued_by next given arrivals (run next given arrivals n)) going in
      ap (λ (p : Progress). p.steps) there
      ∙ (call_waits n steps tree (ap (λ (ending : Ending). record { steps = steps; ending = ending }) going) (sym (ap (λ (p : Progress). p.ending) there) ∙ e)).1

  -- the steps of more calls are no fewer
  pub steps_rise : (n m : ℕ) → n ≤ m → length (run next given arrivals n).steps ≤ length (run next given arrivals m).steps
  steps_rise n zero low = let same : n ≡ 0 = omega arith in subst (λ (k : ℕ). length (run next given arrivals k).steps ≤ length (run next given arrivals 0).steps) (sym same) (omega arith)
  steps_rise n (suc m) low = by_order (order n m) (steps_rise n m)
    where
      by_order : (n ≤ m) ⊎ (m < n) → (n ≤ m → length (run next given arrivals n).steps ≤ length (run next given arrivals m).steps)
          → length (run next given arrivals n).steps ≤ length (run next given arrivals (suc m)).steps
      by_order (inl less) before =
          let progress = run next given arrivals m in
          let (more, f) = continued-steps next given arrivals progress progress.ending in
          let grown = ap (λ (steps : List Step). length steps) f in
          let sum = length-append more progress.steps in
          let low = before less in
          omega arith
      by_order (inr high) before =
          let same : n ≡ suc m = omega arith in
          subst (λ (k : ℕ). length (run next given arrivals k).steps ≤ length (run next given arrivals (suc m)).steps) (sym same) (omega arith)

  -- two places at which the run has stopped are one
  pub stopped_same : (n m : ℕ) → is_going (run next given arrivals n).ending ≡ false → is_going (run next given arrivals m).ending ≡ false → run next given arrivals n ≡ run next given arrivals m
  stopped_same n m a b = by_order (order n m)
    where
      by_order : (n ≤ m) ⊎ (m < n) → run next given arrivals n ≡ run next given arrivals m
      by_order (inl low) = sym (run-stopped next given arrivals n m low a)
      by_order (inr high) = run-stopped next given arrivals m n (omega arith) b

-- whether an await is over
abbrev pub is_over : AwaitOutcome → Bool
is_over (WaitsFor tree) = false
is_over _ = true

module _ (next : Handler) (given : Invocation) (first later : List Arrival) (steps : List Step) (tree : AwaitTree (Option NotificationId)) (at : WaitsAt next given first steps tree) where
  going_too : run next given (first ++ later) at.before ≡ record { steps = steps; ending = GoesOn }
  going_too = going-same next given first later at.before (ap (λ (p : Progress). p.ending) at.going) ∙ at.going

  -- what the next call comes to over all arrivals
  then_comes : run next given (first ++ later) (suc at.before) ≡ after_await steps (next given.input (answers_of steps)) (await_outcome given.options steps (first ++ later) at.asked)
  then_comes =
      run-next next given (first ++ later) at.before steps going_too
      ∙ ap (unless_refused given steps (first ++ later) (next given.input (answers_of steps))) at.unrefused
      ∙ ap (carried_out given steps (first ++ later) (next given.input (answers_of steps))) at.awaits

  -- a run goes past its await only where that is over
  pub past_over : (more_calls : ℕ) → length steps < length (run next given (first ++ later) more_calls).steps → is_over (await_outcome given.options steps (first ++ later) at.asked) ≡ true
  past_over more_calls past = by_outcome (await_outcome given.options steps (first ++ later) at.asked) refl
    where
      by_outcome : (outcome : AwaitOutcome) → await_outcome given.options steps (first ++ later) at.asked ≡ outcome → is_over outcome ≡ true
      by_outcome (WokenAt place) e = refl
      by_outcome (CancelledAt place requests) e = refl
      by_outcome (WaitsFor other) e =
          let stuck : run next given (first ++ later) (suc at.before) ≡ record { steps = steps; ending = Waits other } = then_comes ∙ ap (after_await steps (next given.input (answers_of steps))) e in
          absurd (by_order (order more_calls (suc at.before)) stuck)
        where
          by_order : (more_calls ≤ suc at.before) ⊎ (suc at.before < more_calls) → run next given (first ++ later) (suc at.before) ≡ record { steps = steps; ending = Waits other } → ⊥
          by_order (inl low) stuck =
              let rise = steps_rise next given (first ++ later) more_calls (suc at.before) low in
              let same = ap (λ (p : Progress). length p.steps) stuck in
              omega arith
          by_order (inr high) stuck =
              let stays = run-stopped next given (first ++ later) (suc at.before) more_calls (omega arith) (ap (λ (p : Progress). is_going p.ending) stuck) in
              let same = ap (λ (p : Progress). length p.steps) (stays ∙ stuck) in
              omega arith

  -- and where it is over the run goes past it
  pub over_past : is_over (await_outcome given.options steps (first ++ later) at.asked) ≡ true → length steps < length (run next given (first ++ later) (suc at.before)).steps
  over_past over = by_outcome (await_outcome given.options steps (first ++ later) at.asked) refl over
    where
      by_outcome : (outcome : AwaitOutcome) → await_outcome given.options steps (first ++ later) at.asked ≡ outcome → is_over outcome ≡ true
          → length steps < length (run next given (first ++ later) (suc at.before)).steps
      by_outcome (WaitsFor other) e over = cc
      by_outcome (WokenAt place) e over =
          let same = ap (λ (p : Progress). length p.steps) (then_comes ∙ ap (after_await steps (next given.input (answers_of steps))) e) in
          omega arith
      by_outcome (CancelledAt place requests) e over =
          let same = ap (λ (p : Progress). length p.steps) (then_comes ∙ ap (after_await steps (next given.input (answers_of steps))) e) in
          omega arith
