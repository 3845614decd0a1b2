-- What is asked for is not known: so where what has come was asked for, each completion comes once.
use Rattle.std.proofs.Common.{◌≡◌, refl, sym, ap, ◌∙◌, subst, ℕ, zero, suc, ◌+◌, ◌≤◌, ◌<◌, ◌==◌, nat_lt, arith, Bool, true, false, ◌||◌, if◌then◌else◌, List, [], ◌∷◌, ◌++◌, length, length-append, Option, Some, None, ◌⊎◌, inl, inr, eqb-true}
use Rattle.std.proofs.lemmas.Bool.{ltb-false, ltb-true}
use Rattle.std.specs.List.{list_any}
use Rattle.journal_model.specs.declared.notification.NotificationId.TheVariants.{CompletionId}
use Rattle.journal_model.specs.declared.notification.NotificationResult.{NotificationResult}
use Rattle.journal_model.specs.Notification.{Arrival}
use Rattle.journal_model.specs.AwaitTree.{AwaitTree}
use Rattle.journal_model.specs.declared.call.Call.{Call}
use Rattle.journal_model.specs.declared.value.Value.{Value}
use Rattle.journal_model.specs.Request.{Request}
use Rattle.journal_model.specs.declared.options.RunOptions.{RunOptions}
use Rattle.journal_model.specs.Refusal.{Refusal, refusal_of}
use Rattle.journal_model.specs.State.{knows_key, knows_all_keys, known_value, known_keys}
use Rattle.journal_model.specs.History.{Step, answers_of, requests_of, next_completion, completions_of}
use Rattle.journal_model.specs.Delivery.{results_for, known_result, known_results}
use Rattle.journal_model.specs.Await.{child_result, cancel_request, cancel_requests, AwaitOutcome, WaitsFor, WokenAt, CancelledAt, cancellation_outcome, outcome_from, await_outcome, is_cancelled_at, children_place, awake_place, awaited_ids}
use Rattle.journal_model.specs.Journal.{asks_for}
use Rattle.journal_model.specs.Run.{Handler, Invocation, Progress, Ending, GoesOn, Kind, Awaits, Ends, Answers, call_kind, requests_to, answered_step, after_await, carried_out, unless_refused, continued_by, run, run_requests, name_or_empty, IsBeginning}
use Rattle.journal_model.proofs.Extension.{continued-steps}
use Rattle.journal_model.proofs.Continuing.{run_requests-beginning}
use Rattle.attempt_model.specs.Simulation.{ComesOnce}
use Rattle.attempt_laws.proofs.Tables.{results-append}
use Rattle.attempt_laws.proofs.Following.{known-more}

-- whether some of the requests asks for a completion, and how often it is known
abbrev pub asked : ℕ → List Request → Bool
asked n requests = list_any (asks_for n) requests

abbrev pub times : ℕ → List Arrival → ℕ
times n arrivals = length (results_for arrivals (CompletionId n))

-- a step asks for its own completions alone, and what it knows it does not ask for
pub record Own (c : ℕ) (step : Step) : Type 0 where
  pub asks : (n : ℕ) → asked n step.requests ≡ true → (c ≤ n) × (n < c + completions_of step.call)
  pub knows : (n : ℕ) → (times n (known_result c step.requests) ≡ 0) ⊎ ((n ≡ c) × (1 ≤ completions_of step.call) × (asked n step.requests ≡ false) × (times n (known_result c step.requests) ≡ 1))

abbrev pub AllOwn : List Step → Type 0
AllOwn [] = Unit {0}
AllOwn (step ∷ earlier) = Own (next_completion earlier) step × AllOwn earlier

-- requests for one completion, for two, and for none
one-asked : (c n : ℕ) → ((c == n || false) || false) ≡ true → (c ≤ n) × (n < c + 1)
one-asked c n e = by_test (c == n) refl e
  where
    by_test : (b : Bool) → (c == n) ≡ b → ((b || false) || false) ≡ true → (c ≤ n) × (n < c + 1)
    by_test true f g = let same : c ≡ n = eqb-true c n f in (omega arith, omega arith)
    by_test false f g = cc

two-asked : (c n : ℕ) → ((c == n || (suc c == n || false)) || false) ≡ true → (c ≤ n) × (n < c + 2)
two-asked c n e = by_test (c == n) refl (suc c == n) refl e
  where
    by_test : (a : Bool) → (c == n) ≡ a → (b : Bool) → (suc c == n) ≡ b → ((a || (b || false)) || false) ≡ true → (c ≤ n) × (n < c + 2)
    by_test true f b h g = let same : c ≡ n = eqb-true c n f in (omega arith, omega arith)
    by_test false f true h g = let same : suc c ≡ n = eqb-true (suc c) n h in (omega arith, omega arith)
    by_test false f false h g = cc

one-known : (c n : ℕ) (result : NotificationResult) → (times n (record { id = CompletionId c; result = result } ∷ []) ≡ 0) ⊎ ((n ≡ c) × (times n (record { id = CompletionId c; result = result } ∷ []) ≡ 1))
one-known c n result = by_test (c == n) refl
  where
    by_test : (b : Bool) → (c == n) ≡ b → (times n (record { id = CompletionId c; result = result } ∷ []) ≡ 0) ⊎ ((n ≡ c) × (times n (record { id = CompletionId c; result = result } ∷ []) ≡ 1))
    by_test true f = inr (sym (eqb-true c n f), rw f refl)
    by_test false f = inl (rw f refl)

module _ (given : Invocation) (steps : List Step) (arrivals : List Arrival) where
  c : ℕ
  c = next_completion steps

  asks-own : (call : Call) (n : ℕ) → asked n (requests_to given steps call) ≡ true → (next_completion steps ≤ n) × (n < next_completion steps + completions_of call)
  asks-own (Call.StateGet key name options) n e = by_known (knows_key given.start (requests_of steps) key) e
    where
      by_known : (b : Bool) → asked n ((if b then Request.GetEagerState key (known_value given.start (requests_of steps) key) (name_or_empty name) else Request.GetLazyState key (next_completion steps) (name_or_empty name)) ∷ []) ≡ true
          → (next_completion steps ≤ n) × (n < next_completion steps + 1)
      by_known true f = cc
      by_known false f = one-asked (next_completion steps) n f
  asks-own (Call.StateGetKeys name) n e = by_known (knows_all_keys given.start (requests_of steps)) e
    where
      by_known : (b : Bool) → asked n ((if b then Request.GetEagerStateKeys (known_keys given.start (requests_of steps)) (name_or_empty name) else Request.GetLazyStateKeys (next_completion steps) (name_or_empty name)) ∷ []) ≡ true
          → (next_completion steps ≤ n) × (n < next_completion steps + 1)
      by_known true f = cc
      by_known false f = one-asked (next_completion steps) n f
  asks-own (Call.Sleep name wake_up now) n e = one-asked (next_completion steps) n e
  asks-own (Call.Call target parameter name options) n e = two-asked (next_completion steps) n e
  asks-own (Call.Send target parameter execution_time name options) n e = one-asked (next_completion steps) n e
  asks-own (Call.GetPromise key) n e = one-asked (next_completion steps) n e
  asks-own (Call.PeekPromise key) n e = one-asked (next_completion steps) n e
  asks-own (Call.CompletePromise key value options) n e = one-asked (next_completion steps) n e
  asks-own (Call.Run name) n e = one-asked (next_completion steps) n e
  asks-own (Call.Attach target) n e = one-asked (next_completion steps) n e
  asks-own (Call.GetOutput target) n e = one-asked (next_completion steps) n e
  asks-own _ n e = cc

  known-one : {k : ℕ} (n : ℕ) → (k ≡ 0) ⊎ ((n ≡ next_completion steps) × (k ≡ 1)) → (k ≡ 0) ⊎ ((n ≡ next_completion steps) × (1 ≤ 1) × (false ≡ false) × (k ≡ 1))
  known-one n (inl e) = inl e
  known-one n (inr e) = inr (e.0, omega arith, refl, e.1)

  knows-own : (call : Call) (n : ℕ) → (times n (known_result (next_completion steps) (requests_to given steps call)) ≡ 0)
      ⊎ ((n ≡ next_completion steps) × (1 ≤ completions_of call) × (asked n (requests_to given steps call) ≡ false) × (times n (known_result (next_completion steps) (requests_to given steps call)) ≡ 1))
  knows-own (Call.StateGet key name options) n = by_known (knows_key given.start (requests_of steps) key)
    where
      request : Bool → Request
      request b = if b then Request.GetEagerState key (known_value given.start (requests_of steps) key) (name_or_empty name) else Request.GetLazyState key (next_completion steps) (name_or_empty name)

      by_known : (b : Bool) → (times n (known_result (next_completion steps) (request b ∷ [])) ≡ 0)
          ⊎ ((n ≡ next_completion steps) × (1 ≤ 1) × (asked n (request b ∷ []) ≡ false) × (times n (known_result (next_completion steps) (request b ∷ [])) ≡ 1))
      by_known true = known-one n (one-known (next_completion steps) n _)
      by_known false = inl refl
  knows-own (Call.StateGetKeys name) n = by_known (knows_all_keys given.start (requests_of steps))
    where
      request : Bool → Request
      request b = if b then Request.GetEagerStateKeys (known_keys given.start (requests_of steps)) (name_or_empty name) else Request.GetLazyStateKeys (next_completion steps) (name_or_empty name)

      by_known : (b : Bool) → (times n (known_result (next_completion steps) (request b ∷ [])) ≡ 0)
          ⊎ ((n ≡ next_completion steps) × (1 ≤ 1) × (asked n (request b ∷ []) ≡ false) × (times n (known_result (next_completion steps) (request b ∷ [])) ≡ 1))
      by_known true = known-one n (one-known (next_completion steps) n _)
      by_known false = inl refl
  knows-own _ n = inl refl

  -- requests for children ask for nothing
  cancels-quiet : (options : RunOptions) (place n : ℕ) (ns : List ℕ)
      → (asked n (cancel_requests options steps arrivals place ns) ≡ false) × (times n (known_result (next_completion steps) (cancel_requests options steps arrivals place ns)) ≡ 0)
  cancels-quiet options place n [] = (refl, refl)
  cancels-quiet options place n (child ∷ ns) = by_value (child_result options steps arrivals place child) (cancels-quiet options place n ns)
    where
      rest : List Request
      rest = cancel_requests options steps arrivals place ns

      by_value : (o : Option Value) → (asked n rest ≡ false) × (times n (known_result (next_completion steps) rest) ≡ 0)
          → (asked n (cancel_request o ++ rest) ≡ false) × (times n (known_result (next_completion steps) (cancel_request o ++ rest)) ≡ 0)
      by_value None later = later
      by_value (Some (Value.InvocationId id)) later = (later.0, refl)
      by_value (Some Value.Void) later = later
      by_value (Some (Value.Success bytes)) later = later
      by_value (Some (Value.Failure failure)) later = later
      by_value (Some (Value.StateKeys keys)) later = later

  own-answered : (call : Call) → Own (next_completion steps) (answered_step given steps arrivals call)
  own-answered call = record { asks = asks-own call; knows = knows-own call }

  quiet-own : (step : Step) → ((n : ℕ) → (asked n step.requests ≡ false) × (times n (known_result (next_completion steps) step.requests) ≡ 0)) → Own (next_completion steps) step
  quiet-own step quiet = record {
    asks = λ n e. (let wrong : false ≡ true = sym (quiet n).0 ∙ e in absurd-pair wrong);
    knows = λ n. inl (quiet n).1;
  }
    where
      absurd-pair : {A : Type 0} → false ≡ true → A
      absurd-pair e = cc

  own-await : (call : Call) (outcome : AwaitOutcome) → AllOwn steps
      → ((place : ℕ) (requests : List Request) → outcome ≡ CancelledAt place requests → (n : ℕ) → (asked n requests ≡ false) × (times n (known_result (next_completion steps) requests) ≡ 0))
      → AllOwn (after_await steps call outcome).steps
  own-await call (WaitsFor tree) own quiet = own
  own-await call (WokenAt place) own quiet = (quiet-own _ (λ n. (refl, refl)), own)
  own-await call (CancelledAt place requests) own quiet = (quiet-own _ (λ n. quiet place requests refl n), own)

  own-outcome : (tree : AwaitTree ℕ) (place : ℕ) (requests : List Request) → await_outcome given.options steps arrivals tree ≡ CancelledAt place requests
      → (n : ℕ) → (asked n requests ≡ false) × (times n (known_result (next_completion steps) requests) ≡ 0)
  own-outcome tree place requests e n = by_place (awake_place given.options steps arrivals (awaited_ids given.options steps tree)) e
    where
      by_children : (o : Option ℕ) → cancellation_outcome given.options steps arrivals o ≡ CancelledAt place requests → (asked n requests ≡ false) × (times n (known_result (next_completion steps) requests) ≡ 0)
      by_children None e = cc
      by_children (Some q) e =
          let same : cancel_requests given.options steps arrivals q _ ≡ requests = requests-in e in
          subst (λ (some : List Request). (asked n some ≡ false) × (times n (known_result (next_completion steps) some) ≡ 0)) same (cancels-quiet given.options q n _)
        where
          requests-in : {a b : ℕ} {xs ys : List Request} → CancelledAt a xs ≡ CancelledAt b ys → xs ≡ ys
          requests-in e = cc

      by_place : (o : Option ℕ) → outcome_from given.options steps arrivals (awaited_ids given.options steps tree) o ≡ CancelledAt place requests
          → (asked n requests ≡ false) × (times n (known_result (next_completion steps) requests) ≡ 0)
      by_place None e = cc
      by_place (Some q) e = by_cancel (is_cancelled_at given.options steps arrivals q) e
        where
          by_cancel : (b : Bool) → (if b then cancellation_outcome given.options steps arrivals (children_place given.options steps arrivals q) else WokenAt q) ≡ CancelledAt place requests
              → (asked n requests ≡ false) × (times n (known_result (next_completion steps) requests) ≡ 0)
          by_cancel true e = by_children (children_place given.options steps arrivals q) e
          by_cancel false e = cc

  own-carried : (call : Call) (kind : Kind) → AllOwn steps → AllOwn (carried_out given steps arrivals call kind).steps
  own-carried call (Awaits tree) own = own-await call (await_outcome given.options steps arrivals tree) own (own-outcome tree)
  own-carried call Ends own = own
  own-carried call Answers own = (own-answered call, own)

  own-call : (call : Call) (o : Option Refusal) → AllOwn steps → AllOwn (unless_refused given steps arrivals call o).steps
  own-call call (Some refusal) own = own
  own-call call None own = own-carried call (call_kind call) own

own-continued : (handler : Handler) (given : Invocation) (arrivals : List Arrival) (progress : Progress) (ending : Ending) → AllOwn progress.steps
    → AllOwn (continued_by handler given arrivals progress ending).steps
own-continued handler given arrivals progress GoesOn own =
    own-call given progress.steps arrivals (handler given.input (answers_of progress.steps)) (refusal_of given.version (handler given.input (answers_of progress.steps))) own
own-continued handler given arrivals progress _ own = own

pub own-run : (handler : Handler) (given : Invocation) (arrivals : List Arrival) (made : ℕ) → AllOwn (run handler given arrivals made).steps
own-run handler given arrivals zero = tt
own-run handler given arrivals (suc made) = own-continued handler given arrivals (run handler given arrivals made) (run handler given arrivals made).ending (own-run handler given arrivals made)

asked-append : (n : ℕ) (xs ys : List Request) → asked n (xs ++ ys) ≡ (asked n xs || asked n ys)
asked-append n [] ys = refl
asked-append n (x ∷ xs) ys = by_first (asks_for n x) (asked-append n xs ys)
  where
    by_first : (b : Bool) → asked n (xs ++ ys) ≡ (asked n xs || asked n ys) → (b || asked n (xs ++ ys)) ≡ ((b || asked n xs) || asked n ys)
    by_first true later = refl
    by_first false later = later

times-append : (n : ℕ) (xs ys : List Arrival) → times n (xs ++ ys) ≡ times n xs + times n ys
times-append n xs ys = ap length (results-append xs ys (CompletionId n)) ∙ length-append (results_for xs (CompletionId n)) (results_for ys (CompletionId n))

-- what is asked for or known is below the next completion; what is asked for is not known; and each is known once at most
pub record IsApart (n : ℕ) (steps : List Step) : Type 0 where
  pub above : next_completion steps ≤ n → (asked n (requests_of steps) ≡ false) × (times n (known_results steps) ≡ 0)
  pub unknown : asked n (requests_of steps) ≡ true → times n (known_results steps) ≡ 0
  pub once : times n (known_results steps) ≤ 1

pub apart : (n : ℕ) (steps : List Step) → AllOwn steps → IsApart n steps
apart n [] own = record { above = λ h. (refl, refl); unknown = λ e. refl; once = omega arith }
apart n (step ∷ earlier) own = by_order (nat_lt n (next_completion earlier)) refl (apart n earlier own.1)
  where
    c : ℕ
    c = next_completion earlier

    both-asked : asked n (requests_of (step ∷ earlier)) ≡ (asked n (requests_of earlier) || asked n step.requests)
    both-asked = asked-append n (requests_of earlier) step.requests

    both-known : times n (known_results (step ∷ earlier)) ≡ times n (known_results earlier) + times n (known_result (next_completion earlier) step.requests)
    both-known = times-append n (known_results earlier) (known_result (next_completion earlier) step.requests)

    none-asked : ((next_completion earlier ≤ n) × (n < next_completion earlier + completions_of step.call) → ⊥) → (b : Bool) → asked n step.requests ≡ b → b ≡ false
    none-asked beyond true e = absurd (beyond (own.0.asks n e))
    none-asked beyond false e = refl

    by_order : (b : Bool) → nat_lt n (next_completion earlier) ≡ b → IsApart n earlier → IsApart n (step ∷ earlier)
    by_order true e before =
        let low : n < next_completion earlier = ltb-true n (next_completion earlier) e in
        let quiet : asked n step.requests ≡ false = none-asked (λ k. (let a : next_completion earlier ≤ n = k.0 in omega (arith, a, low))) (asked n step.requests) refl in
        let unknown : times n (known_result (next_completion earlier) step.requests) ≡ 0 = by_known (own.0.knows n) low in
        let count : times n (known_results (step ∷ earlier)) ≡ times n (known_results earlier) = omega (arith, both-known, unknown) in
        record {
          above = λ h. absurd (omega (arith, h, low));
          unknown = λ f. count ∙ before.unknown (sym (both-asked ∙ ap (λ (b : Bool). asked n (requests_of earlier) || b) quiet ∙ or-nothing (asked n (requests_of earlier))) ∙ f);
          once = (let h : times n (known_results earlier) ≤ 1 = before.once in omega (arith, h, count));
        }
      where
        or-nothing : (b : Bool) → (b || false) ≡ b
        or-nothing true = refl
        or-nothing false = refl

        by_known : (times n (known_result (next_completion earlier) step.requests) ≡ 0)
            ⊎ ((n ≡ next_completion earlier) × (1 ≤ completions_of step.call) × (asked n step.requests ≡ false) × (times n (known_result (next_completion earlier) step.requests) ≡ 1))
            → n < next_completion earlier → times n (known_result (next_completion earlier) step.requests) ≡ 0
        by_known (inl f) low = f
        by_known (inr f) low = let g : n ≡ next_completion earlier = f.0 in absurd (omega (arith, g, low))
    by_order false e before =
        let high : next_completion earlier ≤ n = ltb-false n (next_completion earlier) e in
        let (no_asked, no_known) = before.above high in
        let all_asked : asked n (requests_of (step ∷ earlier)) ≡ asked n step.requests = both-asked ∙ ap (λ (b : Bool). b || asked n step.requests) no_asked in
        let count : times n (known_results (step ∷ earlier)) ≡ times n (known_result (next_completion earlier) step.requests) = omega (arith, both-known, no_known) in
        by_known all_asked count (own.0.knows n)
      where
        by_known : asked n (requests_of (step ∷ earlier)) ≡ asked n step.requests → times n (known_results (step ∷ earlier)) ≡ times n (known_result (next_completion earlier) step.requests)
            → (times n (known_result (next_completion earlier) step.requests) ≡ 0)
            ⊎ ((n ≡ next_completion earlier) × (1 ≤ completions_of step.call) × (asked n step.requests ≡ false) × (times n (known_result (next_completion earlier) step.requests) ≡ 1))
            → IsApart n (step ∷ earlier)
        by_known all_asked count (inl f) = record {
          above = λ h. (all_asked ∙ none-asked (λ k. (let b : n < next_completion earlier + completions_of step.call = k.1 in omega (arith, b, h))) (asked n step.requests) refl, count ∙ f);
          unknown = λ g. count ∙ f;
          once = omega (arith, count, f);
        }
        by_known all_asked count (inr f) =
            let (same, some, quiet, one) = f in
            record {
              above = λ h. absurd (omega (arith, h, same, some));
              unknown = λ g. (let wrong : false ≡ true = sym quiet ∙ sym all_asked ∙ g in cc);
              once = omega (arith, count, one);
            }

-- more calls know no less
known-longer : (handler : Handler) (given : Invocation) (arrivals : List Arrival) (n made more : ℕ)
    → times n (known_results (run handler given arrivals made).steps) ≤ times n (known_results (run handler given arrivals (more + made)).steps)
known-longer handler given arrivals n made zero =
    let same : made ≡ 0 + made = omega arith in
    subst (λ (k : ℕ). times n (known_results (run handler given arrivals made).steps) ≤ times n (known_results (run handler given arrivals k).steps)) same (omega arith)
known-longer handler given arrivals n made (suc more) =
    let progress = run handler given arrivals (more + made) in
    let (added, e) = continued-steps handler given arrivals progress progress.ending in
    let (rest, f) = known-more added progress.steps in
    let g : times n (known_results (run handler given arrivals (suc (more + made))).steps) ≡ times n (known_results progress.steps) + times n rest =
    ap (λ (steps : List Step). times n (known_results steps)) e ∙ ap (times n) f ∙ times-append n (known_results progress.steps) rest in
    let before = known-longer handler given arrivals n made more in
    let same : suc (more + made) ≡ suc more + made = omega arith in
    subst (λ (k : ℕ). times n (known_results (run handler given arrivals made).steps) ≤ times n (known_results (run handler given arrivals k).steps)) same (omega (arith, g, before))

-- where what has come has come once and was asked for, by requests that are a beginning of the run's, each completion comes once
pub comes_once : (handler : Handler) (given : Invocation) (requests : List Request) (arrivals : List Arrival) (some : ℕ) → IsBeginning requests (run_requests handler given arrivals some)
    → ((n : ℕ) → length (results_for arrivals (CompletionId n)) ≤ 1) → ((n : ℕ) → 1 ≤ length (results_for arrivals (CompletionId n)) → list_any (asks_for n) requests ≡ true)
    → ComesOnce handler given arrivals
comes_once handler given requests arrivals some beginning once was_asked made n = by_count (times n arrivals) refl
  where
    all : ℕ
    all = some + made

    a : IsApart n (run handler given arrivals (some + made)).steps
    a = apart n (run handler given arrivals (some + made)).steps (own-run handler given arrivals (some + made))

    b : IsApart n (run handler given arrivals made).steps
    b = apart n (run handler given arrivals made).steps (own-run handler given arrivals made)

    split : times n (known_results (run handler given arrivals made).steps ++ arrivals) ≡ times n (known_results (run handler given arrivals made).steps) + times n arrivals
    split = times-append n (known_results (run handler given arrivals made).steps) arrivals

    by_count : (k : ℕ) → times n arrivals ≡ k → times n (known_results (run handler given arrivals made).steps ++ arrivals) ≤ 1
    by_count zero e = let h : times n (known_results (run handler given arrivals made).steps) ≤ 1 = b.once in omega (arith, split, e, h)
    by_count (suc k) e =
        let here : asked n requests ≡ true = was_asked n (let h : times n arrivals ≡ suc k = e in omega (arith, h)) in
        let (rest, f) = beginning in
        let (more, g) = run_requests-beginning handler given arrivals some (some + made) (omega arith) in
        let there : asked n (run_requests handler given arrivals (some + made)) ≡ true =
        ap (asked n) (sym g) ∙ asked-append n (run_requests handler given arrivals some) more
        ∙ ap (λ (b : Bool). b || asked n more) (ap (asked n) (sym f) ∙ asked-append n requests rest ∙ ap (λ (b : Bool). b || asked n rest) here) in
        let none : times n (known_results (run handler given arrivals (some + made)).steps) ≡ 0 = a.unknown there in
        let fewer : times n (known_results (run handler given arrivals made).steps) ≤ times n (known_results (run handler given arrivals (some + made)).steps) = known-longer handler given arrivals n made some in
        let one : times n arrivals ≤ 1 = once n in
        omega (arith, split, none, fewer, one)
