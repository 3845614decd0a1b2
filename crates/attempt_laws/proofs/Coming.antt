-- Of arrivals of the kinds that are asked for, what is in front of a child is an invocation id, and keys in front are text.
use Rattle.std.proofs.Common.{◌≡◌, refl, sym, ap, ◌∙◌, ℕ, zero, suc, ◌≤◌, ◌==◌, Bool, true, false, ◌&&◌, ◌||◌, if◌then◌else◌, List, [], ◌∷◌, ◌++◌, length, take, drop, slice_get, map, filter, Option, Some, None, option_map}
use Rattle.std.proofs.lemmas.List.{take-append-drop}
use Rattle.std.specs.List.{list_any, list_all}
use Rattle.std.specs.Str.{is_utf8}
use Rattle.journal_model.specs.declared.notification.NotificationId.{NotificationId}
use Rattle.journal_model.specs.declared.notification.NotificationId.TheVariants.{CompletionId}
use Rattle.journal_model.specs.declared.notification.NotificationResult.{NotificationResult}
use Rattle.journal_model.specs.Notification.{same_id, Arrival}
use Rattle.journal_model.specs.AwaitTree.{AwaitTree}
use Rattle.journal_model.specs.declared.call.Call.{Call}
use Rattle.journal_model.specs.declared.call.Answer.{Answer}
use Rattle.journal_model.specs.Value.{as_taken}
use Rattle.journal_model.specs.Request.{Request}
use Rattle.journal_model.specs.Refusal.{Refusal, refusal_of}
use Rattle.journal_model.specs.declared.options.RunOptions.{RunOptions}
use Rattle.journal_model.specs.Options.{replaces}
use Rattle.journal_model.specs.declared.options.ImplicitCancellationOption.{ImplicitCancellationOption}
use Rattle.journal_model.specs.declared.options.ImplicitCancellationOption.TheVariants.{Disabled, Enabled}
use Rattle.journal_model.specs.History.{Step, answers_of, requests_of, next_completion, ids_created, place_of}
use Rattle.journal_model.specs.Delivery.{results_for, known_result, known_results, deliveries, front, last_of, takes_of, passed_at_take}
use Rattle.journal_model.specs.Await.{child_of, children_after, tracked_children, AwaitOutcome, WaitsFor, WokenAt, CancelledAt, await_outcome}
use Rattle.journal_model.specs.Cause.{is_invocation_id, keys_of}
use Rattle.journal_model.specs.Journal.{asks_for}
use Rattle.journal_model.specs.Run.{Handler, Invocation, Progress, Ending, GoesOn, Kind, Awaits, Ends, Answers, call_kind, requests_to, after_await, carried_out, unless_refused, continued_by, run, run_requests}
use Rattle.journal_laws.proofs.Leaving.{or-true_left, or-true_right}
use Rattle.attempt_model.specs.Attempts.{gives_id, ComeAsAsked}
use Rattle.attempt_model.specs.Results.{are_keys_text}
use Rattle.attempt_model.specs.Simulation.{is_id_if_known, AreOfKind}
use Rattle.attempt_laws.proofs.Tables.{results-append}
use Rattle.attempt_laws.proofs.CallKinds.{no_child}
use Rattle.attempt_laws.proofs.Ids.{both-true, first-true, second-true, is_in}
use Rattle.attempt_laws.proofs.Apart.{own-run, IsApart, apart}

abbrev pub gives : ℕ → List Request → Bool
gives n requests = list_any (gives_id n) requests

-- a child that a step brings is given by a request of the step
own-child : (cancellation : ImplicitCancellationOption) (given : Invocation) (steps : List Step) (call : Call) (n : ℕ)
    → is_in (child_of cancellation (next_completion steps) call) n ≡ true → gives n (requests_to given steps call) ≡ true
own-child Disabled given steps _ n e = cc
own-child (Enabled true true) given steps (Call.Call target parameter name options) n e = e
own-child (Enabled true true) given steps (Call.Send target parameter execution_time name options) n e = e
own-child (Enabled true true) given steps _ n e = cc
own-child (Enabled true false) given steps (Call.Call target parameter name options) n e = e
own-child (Enabled true false) given steps _ n e = cc
own-child (Enabled false true) given steps (Call.Send target parameter execution_time name options) n e = e
own-child (Enabled false true) given steps _ n e = cc
own-child (Enabled false false) given steps _ n e = cc

abbrev AllOwn : ImplicitCancellationOption → List Step → Type 0
AllOwn cancellation [] = Unit {0}
AllOwn cancellation (step ∷ earlier) =
    ((n : ℕ) → is_in (child_of cancellation (next_completion earlier) step.call) n ≡ true → gives n step.requests ≡ true) × AllOwn cancellation earlier

awaits-inv : (call : Call) (tree : AwaitTree ℕ) → call_kind call ≡ Awaits tree → call ≡ Call.Await tree
awaits-inv (Call.Await other) tree e = let same : other ≡ tree = cc in ap Call.Await same
awaits-inv _ tree e = cc

module _ (given : Invocation) (steps : List Step) (arrivals : List Arrival) (cancellation : ImplicitCancellationOption) where
  none : (call : Call) (tree : AwaitTree ℕ) → call ≡ Call.Await tree → (requests : List Request) (n : ℕ)
      → is_in (child_of cancellation (next_completion steps) call) n ≡ true → gives n requests ≡ true
  none call tree is requests n e =
      let wrong : false ≡ true = sym (ap (λ (c : Call). is_in (child_of cancellation (next_completion steps) c) n) is ∙ ap (λ (ns : List ℕ). is_in ns n) ((no_child cancellation (next_completion steps)).await tree)) ∙ e in
      cc

  own-await : (call : Call) (tree : AwaitTree ℕ) → call ≡ Call.Await tree → (outcome : AwaitOutcome) → AllOwn cancellation steps → AllOwn cancellation (after_await steps call outcome).steps
  own-await call tree is (WaitsFor ids) all = all
  own-await call tree is (WokenAt place) all = (none call tree is [], all)
  own-await call tree is (CancelledAt place requests) all = (none call tree is requests, all)

  own-carried : (call : Call) (kind : Kind) → call_kind call ≡ kind → AllOwn cancellation steps → AllOwn cancellation (carried_out given steps arrivals call kind).steps
  own-carried call (Awaits tree) e all = own-await call tree (awaits-inv call tree e) (await_outcome given.options steps arrivals tree) all
  own-carried call Ends e all = all
  own-carried call Answers e all = (own-child cancellation given steps call, all)

  own-call : (call : Call) (o : Option Refusal) → AllOwn cancellation steps → AllOwn cancellation (unless_refused given steps arrivals call o).steps
  own-call call (Some refusal) all = all
  own-call call None all = own-carried call (call_kind call) refl all

own-continued : (cancellation : ImplicitCancellationOption) (handler : Handler) (given : Invocation) (arrivals : List Arrival) (progress : Progress) (ending : Ending) → AllOwn cancellation progress.steps
    → AllOwn cancellation (continued_by handler given arrivals progress ending).steps
own-continued cancellation handler given arrivals progress GoesOn all =
    own-call given progress.steps arrivals cancellation (handler given.input (answers_of progress.steps)) (refusal_of given.version (handler given.input (answers_of progress.steps))) all
own-continued cancellation handler given arrivals progress _ all = all

children-run : (cancellation : ImplicitCancellationOption) (handler : Handler) (given : Invocation) (arrivals : List Arrival) (made : ℕ) → AllOwn cancellation (run handler given arrivals made).steps
children-run cancellation handler given arrivals zero = tt
children-run cancellation handler given arrivals (suc made) =
    own-continued cancellation handler given arrivals (run handler given arrivals made) (run handler given arrivals made).ending (children-run cancellation handler given arrivals made)

pub any-append : {A : Type 0} (test : A → Bool) (xs ys : List A) → list_any test (xs ++ ys) ≡ (list_any test xs || list_any test ys)
any-append test [] ys = refl
any-append test (x ∷ xs) ys = by_first (test x) (any-append test xs ys)
  where
    by_first : (b : Bool) → list_any test (xs ++ ys) ≡ (list_any test xs || list_any test ys) → (b || list_any test (xs ++ ys)) ≡ ((b || list_any test xs) || list_any test ys)
    by_first true later = refl
    by_first false later = later

kept-in : (answer : Answer) (ns : List ℕ) (n : ℕ) → is_in (children_after answer ns) n ≡ true → is_in ns n ≡ true
kept-in Answer.Cancelled ns n e = cc
kept-in _ ns n e = e

-- a child that is tracked was asked for
tracked-given : (cancellation : ImplicitCancellationOption) (steps : List Step) → AllOwn cancellation steps → (n : ℕ)
    → is_in (tracked_children cancellation steps) n ≡ true → gives n (requests_of steps) ≡ true
tracked-given cancellation [] all n e = cc
tracked-given cancellation (step ∷ earlier) all n e =
    any-append (gives_id n) (requests_of earlier) step.requests
    ∙ by_either (is_in (tracked_children cancellation earlier) n) refl (λ f. tracked-given cancellation earlier all.1 n f)
    (sym (any-append (λ m. m == n) (tracked_children cancellation earlier) (child_of cancellation (next_completion earlier) step.call))
    ∙ kept-in step.answer (tracked_children cancellation earlier ++ child_of cancellation (next_completion earlier) step.call) n e)
  where
    by_either : (b : Bool) → is_in (tracked_children cancellation earlier) n ≡ b → (is_in (tracked_children cancellation earlier) n ≡ true → gives n (requests_of earlier) ≡ true) → (b || is_in (child_of cancellation (next_completion earlier) step.call) n) ≡ true
        → (gives n (requests_of earlier) || gives n step.requests) ≡ true
    by_either true f before g = or-true_left (gives n (requests_of earlier)) (gives n step.requests) (before f)
    by_either false f before g = or-true_right (gives n (requests_of earlier)) (gives n step.requests) (all.0 n g)

-- and what gives an invocation id is asked for
pub given-asked : (n : ℕ) (requests : List Request) → gives n requests ≡ true → list_any (asks_for n) requests ≡ true
given-asked n [] e = cc
given-asked n (request ∷ requests) e = by_first (gives_id n request) refl e (given-asked n requests)
  where
    one : (request : Request) → gives_id n request ≡ true → asks_for n request ≡ true
    one (Request.CallService call m result name) f = or-true_left (m == n) (result == n || false) f
    one (Request.OneWayCall call time m name) f = or-true_left (m == n) false f
    one _ f = cc

    by_first : (b : Bool) → gives_id n request ≡ b → (b || gives n requests) ≡ true → (gives n requests ≡ true → list_any (asks_for n) requests ≡ true)
        → (asks_for n request || list_any (asks_for n) requests) ≡ true
    by_first true f g later = or-true_left (asks_for n request) (list_any (asks_for n) requests) (one request f)
    by_first false f g later = or-true_right (asks_for n request) (list_any (asks_for n) requests) (later g)

-- what holds of all in a list
pub all-front : {A : Type 0} (test : A → Bool) (xs ys : List A) → list_all test (xs ++ ys) ≡ true → list_all test xs ≡ true
all-front test [] ys e = refl
all-front test (x ∷ xs) ys e = both-true (test x) (list_all test xs) (first-true (test x) (list_all test (xs ++ ys)) e) (all-front test xs ys (second-true (test x) (list_all test (xs ++ ys)) e))

pub all-both : {A : Type 0} (test : A → Bool) (xs ys : List A) → list_all test xs ≡ true → list_all test ys ≡ true → list_all test (xs ++ ys) ≡ true
all-both test [] ys e f = f
all-both test (x ∷ xs) ys e f = both-true (test x) (list_all test (xs ++ ys)) (first-true (test x) (list_all test xs) e) (all-both test xs ys (second-true (test x) (list_all test xs) e) f)

pub all-back : {A : Type 0} (test : A → Bool) (xs ys : List A) → list_all test (xs ++ ys) ≡ true → list_all test ys ≡ true
all-back test [] ys e = e
all-back test (x ∷ xs) ys e = all-back test xs ys (second-true (test x) (list_all test (xs ++ ys)) e)

all-drop : (test : NotificationResult → Bool) (n : ℕ) (xs : List NotificationResult) → list_all test xs ≡ true → list_all test (drop n xs) ≡ true
all-drop test zero xs e = e
all-drop test (suc n) [] e = refl
all-drop test (suc n) (x ∷ xs) e = all-drop test n xs (second-true (test x) (list_all test xs) e)

all-last : (test : NotificationResult → Bool) (xs : List NotificationResult) (r : NotificationResult) → list_all test xs ≡ true → last_of xs ≡ Some r → test r ≡ true
all-last test [] r e f = cc
all-last test (x ∷ []) r e f = let same : x ≡ r = cc in ap test (sym same) ∙ first-true (test x) true e
all-last test (x ∷ y ∷ xs) r e f = all-last test (y ∷ xs) r (second-true (test x) (list_all test (y ∷ xs)) e) f

all-get : (test : NotificationResult → Bool) (xs : List NotificationResult) (k : ℕ) (r : NotificationResult) → list_all test xs ≡ true → slice_get xs k ≡ Some r → test r ≡ true
all-get test [] k r e f = cc
all-get test (x ∷ xs) zero r e f = let same : x ≡ r = cc in ap test (sym same) ∙ first-true (test x) (list_all test xs) e
all-get test (x ∷ xs) (suc k) r e f = all-get test xs k r (second-true (test x) (list_all test xs) e) f

-- what is in front is one of the deliveries
all-in-front : (options : RunOptions) (steps : List Step) (arrivals : List Arrival) (place : ℕ) (id : NotificationId) (test : NotificationResult → Bool) (r : NotificationResult)
    → list_all test (deliveries steps arrivals place id) ≡ true → front options steps arrivals place id ≡ Some r → test r ≡ true
all-in-front options steps arrivals place id test r all f = by_replaced (replaces options.signal_delivery id) f
  where
    by_replaced : (b : Bool)
        → (if b then last_of (drop (passed_at_take (ids_created steps) arrivals id steps) (deliveries steps arrivals place id)) else slice_get (deliveries steps arrivals place id) (takes_of steps id)) ≡ Some r
        → test r ≡ true
    by_replaced true g =
        all-last test (drop (passed_at_take (ids_created steps) arrivals id steps) (deliveries steps arrivals place id)) r
        (all-drop test (passed_at_take (ids_created steps) arrivals id steps) (deliveries steps arrivals place id) all) g
    by_replaced false g = all-get test (deliveries steps arrivals place id) (takes_of steps id) r all g

pub no-results : (xs : List NotificationResult) → length xs ≡ 0 → xs ≡ []
no-results [] e = refl
no-results (x ∷ xs) e = cc

id-taken : (r : NotificationResult) → is_invocation_id r ≡ true → is_id_if_known (Some (as_taken r)) ≡ true
id-taken (NotificationResult.InvocationId id) e = refl
id-taken NotificationResult.Void e = cc
id-taken (NotificationResult.Value bytes) e = cc
id-taken (NotificationResult.Failure failure) e = cc
id-taken (NotificationResult.StateKeys keys) e = cc

-- the results of an id among arrivals whose keys are text
text-results : (arrivals : List Arrival) (id : NotificationId) → list_all (λ arrival. are_keys_text arrival.result) arrivals ≡ true → list_all are_keys_text (results_for arrivals id) ≡ true
text-results [] id e = refl
text-results (arrival ∷ arrivals) id e =
    by_id (same_id arrival.id id) (first-true (are_keys_text arrival.result) (list_all (λ arrival. are_keys_text arrival.result) arrivals) e)
    (text-results arrivals id (second-true (are_keys_text arrival.result) (list_all (λ arrival. are_keys_text arrival.result) arrivals) e))
  where
    by_id : (b : Bool) → are_keys_text arrival.result ≡ true → list_all are_keys_text (results_for arrivals id) ≡ true
        → list_all are_keys_text (map (λ (a : Arrival). a.result) (if b then arrival ∷ filter (λ (a : Arrival). same_id a.id id) arrivals else filter (λ (a : Arrival). same_id a.id id) arrivals)) ≡ true
    by_id true f later = both-true (are_keys_text arrival.result) (list_all are_keys_text (results_for arrivals id)) f later
    by_id false f later = later

-- keys that are known are those of requests
text-known : (n : ℕ) (requests : List Request) → list_all (λ request. list_all is_utf8 (keys_of request)) requests ≡ true → list_all (λ arrival. are_keys_text arrival.result) (known_result n requests) ≡ true
text-known n [] e = refl
text-known n (Request.GetEagerState key None name ∷ requests) e = refl
text-known n (Request.GetEagerState key (Some value) name ∷ requests) e = refl
text-known n (Request.GetEagerStateKeys keys name ∷ requests) e = by_first (list_all is_utf8 keys) e
  where
    by_first : (b : Bool) → (b && list_all (λ request. list_all is_utf8 (keys_of request)) requests) ≡ true → (b && true) ≡ true
    by_first true f = refl
    by_first false f = cc
text-known n (_ ∷ requests) e = refl

text-all : (steps : List Step) → list_all (λ request. list_all is_utf8 (keys_of request)) (requests_of steps) ≡ true → list_all (λ arrival. are_keys_text arrival.result) (known_results steps) ≡ true
text-all [] e = refl
text-all (step ∷ earlier) e =
    all-both (λ arrival. are_keys_text arrival.result) (known_results earlier) (known_result (next_completion earlier) step.requests)
    (text-all earlier (all-front (λ request. list_all is_utf8 (keys_of request)) (requests_of earlier) step.requests e))
    (text-known (next_completion earlier) step.requests (all-back (λ request. list_all is_utf8 (keys_of request)) (requests_of earlier) step.requests e))

pub kinds_by_asking : (handler : Handler) (given : Invocation) (arrivals : List Arrival) (made : ℕ) → ComeAsAsked handler given arrivals made → AreOfKind handler given arrivals made
kinds_by_asking handler given arrivals made asked = record { ids = ids; keys = keys }
  where
    ids : (place n : ℕ) → place ≤ length arrivals → is_in (tracked_children given.options.implicit_cancellation (run handler given arrivals made).steps) n ≡ true
        → is_id_if_known (option_map as_taken (front given.options (run handler given arrivals made).steps arrivals place (CompletionId n))) ≡ true
    ids place n within e = by_front (front given.options (run handler given arrivals made).steps arrivals place (CompletionId n)) refl
      where
        gives_it : gives n (run_requests handler given arrivals made) ≡ true
        gives_it = tracked-given given.options.implicit_cancellation (run handler given arrivals made).steps (children-run given.options.implicit_cancellation handler given arrivals made) n e

        a : IsApart n (run handler given arrivals made).steps
        a = apart n (run handler given arrivals made).steps (own-run handler given arrivals made)

        none_known : results_for (known_results (run handler given arrivals made).steps) (CompletionId n) ≡ []
        none_known = no-results (results_for (known_results (run handler given arrivals made).steps) (CompletionId n)) (a.unknown (given-asked n (run_requests handler given arrivals made) gives_it))

        come : list_all is_invocation_id (results_for (take place arrivals) (CompletionId n)) ≡ true
        come = all-front is_invocation_id (results_for (take place arrivals) (CompletionId n)) (results_for (drop place arrivals) (CompletionId n))
            (ap (list_all is_invocation_id) (sym (results-append (take place arrivals) (drop place arrivals) (CompletionId n)) ∙ ap (λ (some : List Arrival). results_for some (CompletionId n)) (take-append-drop place arrivals))
            ∙ asked.ids n gives_it)

        all : list_all is_invocation_id (deliveries (run handler given arrivals made).steps arrivals place (CompletionId n)) ≡ true
        all = ap (list_all is_invocation_id) (results-append (known_results (run handler given arrivals made).steps) (take place arrivals) (CompletionId n)
            ∙ ap (λ (some : List NotificationResult). some ++ results_for (take place arrivals) (CompletionId n)) none_known) ∙ come

        by_front : (o : Option NotificationResult) → front given.options (run handler given arrivals made).steps arrivals place (CompletionId n) ≡ o
            → is_id_if_known (option_map as_taken (front given.options (run handler given arrivals made).steps arrivals place (CompletionId n))) ≡ true
        by_front None f = ap (λ (o : Option NotificationResult). is_id_if_known (option_map as_taken o)) f
        by_front (Some r) f = ap (λ (o : Option NotificationResult). is_id_if_known (option_map as_taken o)) f
            ∙ id-taken r (all-in-front given.options (run handler given arrivals made).steps arrivals place (CompletionId n) is_invocation_id r all f)

    keys : (id : NotificationId) (result : NotificationResult)
        → front given.options (run handler given arrivals made).steps arrivals (place_of (run handler given arrivals made).steps) id ≡ Some result → are_keys_text result ≡ true
    keys id result f =
        all-in-front given.options (run handler given arrivals made).steps arrivals (place_of (run handler given arrivals made).steps) id are_keys_text result
        (text-results (known_results (run handler given arrivals made).steps ++ take (place_of (run handler given arrivals made).steps) arrivals) id
        (all-both (λ arrival. are_keys_text arrival.result) (known_results (run handler given arrivals made).steps) (take (place_of (run handler given arrivals made).steps) arrivals)
        (text-all (run handler given arrivals made).steps asked.known)
        (all-front (λ arrival. are_keys_text arrival.result) (take (place_of (run handler given arrivals made).steps) arrivals) (drop (place_of (run handler given arrivals made).steps) arrivals) (ap (list_all (λ arrival. are_keys_text arrival.result)) (take-append-drop (place_of (run handler given arrivals made).steps) arrivals) ∙ asked.keys))))
        f
