-- The completions that a run asks for ascend, so that no request of it is refused for its number.
use Rattle.std.proofs.Common.{ℕ, zero, suc, ◌+◌, ◌≤◌, ◌<◌, max, arith, ◌≡◌, refl, sym, ap, ap₂, subst, ◌∙◌, Bool, true, false, ◌&&◌, if◌then◌else◌, List, [], ◌∷◌, ◌++◌, Option, Some, None}
use Rattle.std.proofs.lemmas.Bool.{lt-ltb}
use Rattle.journal_model.specs.declared.call.Call.{Call}
use Rattle.journal_model.specs.declared.value.Value.TheVariants as value
use Rattle.journal_model.specs.declared.value.Value.{Value}
use Rattle.journal_model.specs.declared.notification.NotificationId.{NotificationId}
use Rattle.journal_model.specs.AwaitTree.{AwaitTree}
use Rattle.journal_model.specs.Notification.{Arrival}
use Rattle.journal_model.specs.Request.{Request, completions_asked}
use Rattle.journal_model.specs.Refusal.{Refusal, refusal_of}
use Rattle.journal_model.specs.State.{knows_key, knows_all_keys, known_value, known_keys}
use Rattle.journal_model.specs.History.{Step, answers_of, requests_of, completions_of, next_completion}
use Rattle.journal_model.specs.Await.{AwaitOutcome, WaitsFor, WokenAt, CancelledAt, cancel_request, cancel_requests, child_result, outcome_from, cancellation_outcome, awake_place, awaited_ids, is_cancelled_at, children_place, tracked_children}
use Rattle.journal_model.specs.Run.{Handler, Invocation, Progress, Ending, GoesOn, Kind, Awaits, Ends, Answers, call_kind, name_or_empty, requests_to, after_await, carried_out, unless_refused, continued_by, run, BeginsRun}
use Rattle.journal_model.specs.Cause.{do_ascend, greatest, last_completion}
use Rattle.journal_laws.proofs.Leaving.{and-true}

abbrev pub ascends : ℕ → List Request → Bool
ascends last [] = true
ascends last (request ∷ requests) = do_ascend last (completions_asked request) && ascends (max last (greatest (completions_asked request))) requests

last-append : (xs ys : List Request) → last_completion (xs ++ ys) ≡ max (last_completion xs) (last_completion ys)
last-append [] ys = omega arith
last-append (x ∷ xs) ys = let later = last-append xs ys in omega arith

ascends-append : (last : ℕ) (xs ys : List Request) → ascends last (xs ++ ys) ≡ (ascends last xs && ascends (max last (last_completion xs)) ys)
ascends-append last [] ys = let same : last ≡ max last 0 = omega arith in ap (λ (n : ℕ). ascends n ys) same
ascends-append last (x ∷ xs) ys =
    let same : max (max last (greatest (completions_asked x))) (last_completion xs) ≡ max last (max (greatest (completions_asked x)) (last_completion xs)) = omega arith in
    ap (λ (b : Bool). do_ascend last (completions_asked x) && b) (ascends-append (max last (greatest (completions_asked x))) xs ys)
    ∙ and-assoc (do_ascend last (completions_asked x)) (ascends (max last (greatest (completions_asked x))) xs) (ascends (max (max last (greatest (completions_asked x))) (last_completion xs)) ys)
    ∙ ap (λ (n : ℕ). (do_ascend last (completions_asked x) && ascends (max last (greatest (completions_asked x))) xs) && ascends n ys) same
  where
    and-assoc : (a b c : Bool) → (a && (b && c)) ≡ ((a && b) && c)
    and-assoc true b c = refl
    and-assoc false b c = refl

-- what requests make of the greatest number, and of the next one
pub record Rise (last next next' : ℕ) (requests : List Request) : Type 0 where
  pub ascend : ascends last requests ≡ true
  pub below : max last (last_completion requests) < next'

rises_none : (last next next' : ℕ) (request : Request) → last < next → next ≤ next' → completions_asked request ≡ [] → Rise last next next' (request ∷ [])
rises_none last next next' request low high e = record {
  ascend = ap (λ (ns : List ℕ). do_ascend last ns && true) e;
  below = let g : greatest (completions_asked request) ≡ 0 = ap greatest e in omega arith;
}

rises_one : (last next : ℕ) (request : Request) → last < next → completions_asked request ≡ next ∷ [] → Rise last next (next + 1) (request ∷ [])
rises_one last next request low e = record {
  ascend = ap (λ (ns : List ℕ). do_ascend last ns && true) e ∙ ap (λ (b : Bool). (b && true) && true) (lt-ltb last next low);
  below = let g : greatest (completions_asked request) ≡ max next 0 = ap greatest e in omega arith;
}

rises_two : (last next : ℕ) (request : Request) → last < next → completions_asked request ≡ next ∷ suc next ∷ [] → Rise last next (next + 2) (request ∷ [])
rises_two last next request low e = record {
  ascend =
      ap (λ (ns : List ℕ). do_ascend last ns && true) e
      ∙ ap₂ (λ (a b : Bool). (a && (b && true)) && true) (lt-ltb last next low) (lt-ltb next (suc next) (omega arith));
  below = let g : greatest (completions_asked request) ≡ max next (max (suc next) 0) = ap greatest e in omega arith;
}

rises_nothing : (last next next' : ℕ) → last < next → next ≤ next' → Rise last next next' []
rises_nothing last next next' low high = record { ascend = refl; below = omega arith }

module _ (given : Invocation) (steps : List Step) (last : ℕ) (low : last < next_completion steps) where
  abbrev n : ℕ
  n = next_completion steps

  requests_rise : (call : Call) → Rise last n (n + completions_of call) (requests_to given steps call)
  requests_rise (Call.StateGet key name options) = by_known (knows_key given.start (requests_of steps) key)
    where
      by_known : (b : Bool) → Rise last n (n + 1) ((if b then Request.GetEagerState key (known_value given.start (requests_of steps) key) (name_or_empty name) else Request.GetLazyState key n (name_or_empty name)) ∷ [])
      by_known true = rises_none last n (n + 1) _ low (omega arith) refl
      by_known false = rises_one last n _ low refl
  requests_rise (Call.StateGetKeys name) = by_known (knows_all_keys given.start (requests_of steps))
    where
      by_known : (b : Bool) → Rise last n (n + 1) ((if b then Request.GetEagerStateKeys (known_keys given.start (requests_of steps)) (name_or_empty name) else Request.GetLazyStateKeys n (name_or_empty name)) ∷ [])
      by_known true = rises_none last n (n + 1) _ low (omega arith) refl
      by_known false = rises_one last n _ low refl
  requests_rise (Call.StateSet key value name options) = rises_none last n (n + 0) _ low (omega arith) refl
  requests_rise (Call.StateClear key name) = rises_none last n (n + 0) _ low (omega arith) refl
  requests_rise (Call.StateClearAll name) = rises_none last n (n + 0) _ low (omega arith) refl
  requests_rise (Call.Sleep name wake_up now) = rises_one last n _ low refl
  requests_rise (Call.Call target parameter name options) = rises_two last n _ low refl
  requests_rise (Call.Send target parameter execution_time name options) = rises_one last n _ low refl
  requests_rise (Call.CompleteAwakeable id value options) = rises_none last n (n + 0) _ low (omega arith) refl
  requests_rise (Call.CompleteSignal target name value) = rises_none last n (n + 0) _ low (omega arith) refl
  requests_rise (Call.GetPromise key) = rises_one last n _ low refl
  requests_rise (Call.PeekPromise key) = rises_one last n _ low refl
  requests_rise (Call.CompletePromise key value options) = rises_one last n _ low refl
  requests_rise (Call.Run name) = rises_one last n _ low refl
  requests_rise (Call.Cancel target) = rises_none last n (n + 0) _ low (omega arith) refl
  requests_rise (Call.Attach target) = rises_one last n _ low refl
  requests_rise (Call.GetOutput target) = rises_one last n _ low refl
  requests_rise (Call.Output value options) = rises_none last n (n + 0) _ low (omega arith) refl
  requests_rise call = rises_nothing last n (n + completions_of call) low (omega arith)

-- ---- cancellations ask for nothing

cancel_passes : (last : ℕ) (o : Option Value) (rest : List Request) → ascends last rest ≡ true → last_completion rest ≡ 0
    → (ascends last (cancel_request o ++ rest) ≡ true) × (last_completion (cancel_request o ++ rest) ≡ 0)
cancel_passes last (Some (value.InvocationId id)) rest e f =
    let same : max last 0 ≡ last = omega arith in
    (ap (λ (n : ℕ). ascends n rest) same ∙ e, omega arith)
cancel_passes last (Some (value.Void)) rest e f = (e, f)
cancel_passes last (Some (value.Success bytes)) rest e f = (e, f)
cancel_passes last (Some (value.Failure failure)) rest e f = (e, f)
cancel_passes last (Some (value.StateKeys keys)) rest e f = (e, f)
cancel_passes last None rest e f = (e, f)

cancels_rise : (given : Invocation) (steps : List Step) (arrivals : List Arrival) (place last : ℕ) (children : List ℕ)
    → (ascends last (cancel_requests given.options steps arrivals place children) ≡ true) × (last_completion (cancel_requests given.options steps arrivals place children) ≡ 0)
cancels_rise given steps arrivals place last [] = (refl, refl)
cancels_rise given steps arrivals place last (n ∷ children) =
    let (a, b) = cancels_rise given steps arrivals place last children in
    cancel_passes last (child_result given.options steps arrivals place n) (cancel_requests given.options steps arrivals place children) a b

-- ---- of a run

pub record RunRises (steps : List Step) : Type 0 where
  pub ascend : ascends 0 (requests_of steps) ≡ true
  pub below : last_completion (requests_of steps) < next_completion steps

rises_on : (step : Step) (steps : List Step) → RunRises steps → Rise (last_completion (requests_of steps)) (next_completion steps) (next_completion steps + completions_of step.call) step.requests
    → RunRises (step ∷ steps)
rises_on step steps rises more = record {
  ascend =
      let same : max 0 (last_completion (requests_of steps)) ≡ last_completion (requests_of steps) = omega arith in
      ascends-append 0 (requests_of steps) step.requests
      ∙ ap₂ (λ (a b : Bool). a && b) rises.ascend (ap (λ (n : ℕ). ascends n step.requests) same ∙ more.ascend);
  below =
      let sum = last-append (requests_of steps) step.requests in
      let low = more.below in
      omega arith;
}

module _ (given : Invocation) (steps : List Step) (arrivals : List Arrival) (rises : RunRises steps) (call : Call) where
  outcome_rises : (outcome : AwaitOutcome) → ((place : ℕ) (requests : List Request) → outcome ≡ CancelledAt place requests
      → (ascends (last_completion (requests_of steps)) requests ≡ true) × (last_completion requests ≡ 0)) → RunRises (after_await steps call outcome).steps
  outcome_rises (WaitsFor tree) cancels = rises
  outcome_rises (WokenAt place) cancels = rises_on _ steps rises (rises_nothing (last_completion (requests_of steps)) (next_completion steps) (next_completion steps + completions_of call) rises.below (omega arith))
  outcome_rises (CancelledAt place requests) cancels =
      let (a, b) = cancels place requests refl in
      let low = rises.below in
      rises_on _ steps rises (record { ascend = a; below = omega arith })

  cancelled_rises : (b : Bool) (o : Option ℕ) (place : ℕ) (place' : ℕ) (requests : List Request)
      → (if b then cancellation_outcome given.options steps arrivals o else WokenAt place) ≡ CancelledAt place' requests
      → (ascends (last_completion (requests_of steps)) requests ≡ true) × (last_completion requests ≡ 0)
  cancelled_rises false o place place' requests e = cc
  cancelled_rises true None place place' requests e = cc
  cancelled_rises true (Some r) place place' requests e =
      let children = tracked_children given.options.implicit_cancellation steps in
      let same : cancel_requests given.options steps arrivals r (tracked_children given.options.implicit_cancellation steps) ≡ requests = cc in
      subst (λ (some : List Request). (ascends (last_completion (requests_of steps)) some ≡ true) × (last_completion some ≡ 0)) same
      (cancels_rise given steps arrivals r (last_completion (requests_of steps)) children)

  found_rises : (tree : AwaitTree (Option NotificationId)) (found : Option ℕ) → RunRises (after_await steps call (outcome_from given.options steps arrivals tree found)).steps
  found_rises tree None = rises
  found_rises tree (Some place) =
      outcome_rises (outcome_from given.options steps arrivals tree (Some place))
      (λ place' requests e. cancelled_rises (is_cancelled_at given.options steps arrivals place) (children_place given.options steps arrivals place) place place' requests e)

  carried_rises : (kind : Kind) → RunRises (carried_out given steps arrivals call kind).steps
  carried_rises (Awaits tree) = found_rises (awaited_ids given.options steps tree) (awake_place given.options steps arrivals (awaited_ids given.options steps tree))
  carried_rises Ends = rises
  carried_rises Answers = rises_on _ steps rises (requests_rise given steps (last_completion (requests_of steps)) rises.below call)

  refused_rises : (refusal : Option Refusal) → RunRises (unless_refused given steps arrivals call refusal).steps
  refused_rises (Some refusal) = rises
  refused_rises None = carried_rises (call_kind call)

continued_rises : (next : Handler) (given : Invocation) (arrivals : List Arrival) (progress : Progress) (ending : Ending) → RunRises progress.steps → RunRises (continued_by next given arrivals progress ending).steps
continued_rises next given arrivals progress GoesOn rises =
    refused_rises given progress.steps arrivals rises (next given.input (answers_of progress.steps)) (refusal_of given.version (next given.input (answers_of progress.steps)))
continued_rises next given arrivals progress _ rises = rises

pub run_rises : (next : Handler) (given : Invocation) (arrivals : List Arrival) (n : ℕ) → RunRises (run next given arrivals n).steps
run_rises next given arrivals zero = record { ascend = refl; below = omega arith }
run_rises next given arrivals (suc n) = continued_rises next given arrivals (run next given arrivals n) (run next given arrivals n).ending (run_rises next given arrivals n)

-- a request of the run is not refused for its number
pub next_ascends : (next : Handler) (given : Invocation) (arrivals : List Arrival) (requests : List Request) (request : Request) → BeginsRun next given arrivals (requests ++ request ∷ [])
    → do_ascend (last_completion requests) (completions_asked request) ≡ true
next_ascends next given arrivals requests request begins =
    let (rest, e) = begins.beginning in
    let whole : ascends 0 ((requests ++ request ∷ []) ++ rest) ≡ true = ap (ascends 0) e ∙ (run_rises next given arrivals begins.calls).ascend in
    let first = (and-true (ascends 0 (requests ++ request ∷ [])) (ascends (max 0 (last_completion (requests ++ request ∷ []))) rest) (sym (ascends-append 0 (requests ++ request ∷ []) rest) ∙ whole)).0 in
    let last = (and-true (ascends 0 requests) (ascends (max 0 (last_completion requests)) (request ∷ [])) (sym (ascends-append 0 requests (request ∷ [])) ∙ first)).1 in
    let own = (and-true (do_ascend (max 0 (last_completion requests)) (completions_asked request)) true last).0 in
    let same : max 0 (last_completion requests) ≡ last_completion requests = omega arith in
    ap (λ (n : ℕ). do_ascend n (completions_asked request)) (sym same) ∙ own
