-- The outcome of a run that has not come was not taken: its handle stands for its completion.
use Rattle.std.proofs.Common.{◌≡◌, refl, sym, ap, ◌∙◌, subst, ℕ, zero, suc, ◌+◌, ◌-◌, ◌≤◌, ◌<◌, ◌==◌, nat_lt, arith, Bool, true, false, ◌||◌, if◌then◌else◌, List, [], ◌∷◌, ◌++◌, length, length-append, take, drop, slice_get, Option, Some, None, option_map, option_and_then, ◌⊎◌, inl, inr, eqb-true, eq-eqb}
use Rattle.std.proofs.lemmas.Bool.{ltb-true}
use Rattle.std.proofs.lemmas.List.{take-append-drop}
use Rattle.std.proofs.lemmas.List.Folds.{list_any-append}
use Rattle.std.specs.List.{list_any}
use Rattle.journal_model.specs.declared.notification.NotificationId.{NotificationId}
use Rattle.journal_model.specs.declared.notification.NotificationId.TheVariants.{CompletionId}
use Rattle.journal_model.specs.declared.notification.NotificationResult.{NotificationResult}
use Rattle.journal_model.specs.Notification.{same_id, Arrival, cancel_id}
use Rattle.journal_model.specs.Value.{as_taken}
use Rattle.journal_model.specs.declared.call.Call.{Call}
use Rattle.journal_model.specs.declared.call.Answer.{Answer}
use Rattle.journal_model.specs.declared.options.RunOptions.{RunOptions}
use Rattle.journal_model.specs.Options.{replaces}
use Rattle.journal_model.specs.Request.{Request}
use Rattle.journal_model.specs.Refusal.{Refusal, refusal_of}
use Rattle.journal_model.specs.Journal.{asks_for}
use Rattle.journal_model.specs.History.{Step, answers_of, requests_of, place_of, next_completion, next_signal, next_handle, ids_of, ids_created, cancel_handle, handle_taken, handle_is, takes_handle, stands_for}
use Rattle.journal_model.specs.Delivery.{results_for, known_results, deliveries, takes_of, passed_at_take, last_of, front}
use Rattle.journal_model.specs.Await.{AwaitOutcome, WaitsFor, WokenAt, CancelledAt, await_outcome}
use Rattle.journal_model.specs.Run.{Handler, Invocation, Progress, Ending, GoesOn, Kind, Awaits, Ends, Answers, call_kind, front_of_handle, answer_to, answered_step, after_await, carried_out, unless_refused, continued_by, run}
use Rattle.attempt_laws.proofs.Tables.{get-front, get-back, results-append}
use Rattle.attempt_laws.proofs.Apart.{AllOwn, own-run, apart}
use Rattle.body_laws.specs.Bodies.{Body, bodies_of_call, bodies_of}
use Rattle.body_laws.specs.BodySimulation.{Among, has_arrived}
use Rattle.body_laws.proofs.Lists.{among-split}
use Rattle.body_laws.proofs.Steps.{call-handle, bodies-handle, AreRequested, requested-run}

-- ---- the handle that a body was created with

-- a body's handle is one that was created, for its completion
pub record IsCreated (steps : List Step) (body : Body) : Type 0 where
  pub high : 17 ≤ body.handle
  pub there : slice_get (ids_created steps) (body.handle - 17) ≡ Some (CompletionId body.completion)

own-created : (steps : List Step) (call : Call) (body : Body) → Among body (bodies_of_call (next_handle steps) (next_completion steps) call)
    → (17 ≤ body.handle) × (slice_get (ids_created steps ++ ids_of (next_completion steps) (next_signal steps) call) (body.handle - 17) ≡ Some (CompletionId body.completion))
own-created steps (Call.Run name) body (inl e) =
    let handle : body.handle ≡ next_handle steps = ap (λ (one : Body). one.handle) e in
    let completion : body.completion ≡ next_completion steps = ap (λ (one : Body). one.completion) e in (
      omega (arith, handle),
      get-back (ids_created steps) (CompletionId (next_completion steps) ∷ []) (body.handle - 17) 0 (omega (arith, handle)) ∙ ap (λ (n : ℕ). Some (CompletionId n)) (sym completion),
    )
own-created steps (Call.Run name) body (inr a) = absurd a
own-created steps _ body a = absurd a

created : (steps : List Step) (body : Body) → Among body (bodies_of steps) → IsCreated steps body
created [] body a = absurd a
created (step ∷ earlier) body a =
    by_part (among-split body (bodies_of earlier) (bodies_of_call (next_handle earlier) (next_completion earlier) step.call) a) (λ b. created earlier body b)
  where
    by_part : Among body (bodies_of earlier) ⊎ Among body (bodies_of_call (next_handle earlier) (next_completion earlier) step.call) → (Among body (bodies_of earlier) → IsCreated earlier body)
        → IsCreated (step ∷ earlier) body
    by_part (inl b) before =
        let low : body.handle < next_handle earlier = bodies-handle earlier body b in
        let was = before b in
        let high : 17 ≤ body.handle = was.high in
        record {
          high = was.high;
          there = get-front (ids_created earlier) (ids_of (next_completion earlier) (next_signal earlier) step.call) (body.handle - 17) (omega (arith, low, high)) ∙ was.there;
        }
    by_part (inr b) before = let own = own-created earlier step.call body b in record { high = own.0; there = own.1 }

-- ---- what is in front of a handle

-- a handle of a body whose outcome has not come
pub record IsAwaited (arrivals : List Arrival) (steps : List Step) (handle : ℕ) : Type 0 where
  pub body : Body
  pub called : Among body (bodies_of steps)
  pub not_come : has_arrived arrivals body.completion ≡ false
  pub is : body.handle ≡ handle

-- or one that no call has created yet
abbrev pub IsOpen : List Arrival → List Step → ℕ → Type 0
IsOpen arrivals steps handle = IsAwaited arrivals steps handle ⊎ (next_handle steps ≤ handle)

-- none of these was taken
abbrev pub NoneTaken : List Arrival → List Step → Type 0
NoneTaken arrivals steps = (handle : ℕ) → IsOpen arrivals steps handle → list_any (takes_handle handle) steps ≡ false

not-one : (handle : ℕ) → 17 ≤ handle → (handle == cancel_handle) ≡ false
not-one handle high = by_test (handle == cancel_handle) refl
  where
    by_test : (b : Bool) → (handle == cancel_handle) ≡ b → b ≡ false
    by_test true e = let same : handle ≡ 1 = eqb-true handle 1 e in absurd (omega (arith, same, high))
    by_test false e = refl

one-not : (handle : ℕ) → 17 ≤ handle → (cancel_handle == handle) ≡ false
one-not handle high = by_test (cancel_handle == handle) refl
  where
    by_test : (b : Bool) → (cancel_handle == handle) ≡ b → b ≡ false
    by_test true e = let same : 1 ≡ handle = eqb-true 1 handle e in absurd (omega (arith, same, high))
    by_test false e = refl

not-low : (handle : ℕ) → 17 ≤ handle → nat_lt handle 17 ≡ false
not-low handle high = by_test (nat_lt handle 17) refl
  where
    by_test : (b : Bool) → nat_lt handle 17 ≡ b → b ≡ false
    by_test true e = let low : handle < 17 = ltb-true handle 17 e in absurd (omega (arith, low, high))
    by_test false e = refl

-- a handle that was created, and not taken, stands for the id that it was created for
stands-by : (a b c : Bool) (there : Option NotificationId) → a ≡ false → b ≡ false → c ≡ false
    → (if a then Some cancel_id else (if b then None else (if a then Some cancel_id else (if c then None else there)))) ≡ there
stands-by false false false there e f g = refl
stands-by false false true there e f g = cc
stands-by false true c there e f g = cc
stands-by true b c there e f g = cc

stands-at : (steps : List Step) (handle : ℕ) → 17 ≤ handle → list_any (takes_handle handle) steps ≡ false → stands_for steps handle ≡ slice_get (ids_created steps) (handle - 17)
stands-at steps handle high untaken =
    stands-by (handle == cancel_handle) (list_any (takes_handle handle) steps) (nat_lt handle 17) (slice_get (ids_created steps) (handle - 17))
    (not-one handle high) untaken (not-low handle high)

get-none : {A : Type 0} (xs : List A) (k : ℕ) → length xs ≤ k → slice_get xs k ≡ None
get-none [] k h = refl
get-none (x ∷ xs) zero h = absurd (omega (arith, h))
get-none (x ∷ xs) (suc k) h = get-none xs k (omega (arith, h))

-- where nothing was delivered nothing is in front
drop-none : {A : Type 0} (k : ℕ) → ◌≡◌ {A = List A} (drop k []) []
drop-none zero = refl
drop-none (suc k) = refl

front-none : (options : RunOptions) (steps : List Step) (arrivals : List Arrival) (place : ℕ) (id : NotificationId) → deliveries steps arrivals place id ≡ []
    → front options steps arrivals place id ≡ None
front-none options steps arrivals place id none =
    ap (λ (ds : List NotificationResult). if replaces options.signal_delivery id then last_of (drop (passed_at_take (ids_created steps) arrivals id steps) ds) else slice_get ds (takes_of steps id)) none
    ∙ by_replaced (replaces options.signal_delivery id)
  where
    by_replaced : (b : Bool) → (if b then last_of (drop (passed_at_take (ids_created steps) arrivals id steps) []) else slice_get [] (takes_of steps id)) ≡ None
    by_replaced true = ap last_of (drop-none (passed_at_take (ids_created steps) arrivals id steps))
    by_replaced false = refl

-- what has not come has no result
absent-results : (arrivals : List Arrival) (n : ℕ) → has_arrived arrivals n ≡ false → results_for arrivals (CompletionId n) ≡ []
absent-results [] n e = refl
absent-results (x ∷ xs) n e = by_test (same_id x.id (CompletionId n)) refl e (λ f. absent-results xs n f)
  where
    by_test : (b : Bool) → same_id x.id (CompletionId n) ≡ b → (b || has_arrived xs n) ≡ false → (has_arrived xs n ≡ false → results_for xs (CompletionId n) ≡ [])
        → results_for (x ∷ xs) (CompletionId n) ≡ []
    by_test true f g later = cc
    by_test false f g later = rw f (later g)

left-false : (a b : Bool) → (a || b) ≡ false → a ≡ false
left-false true b e = cc
left-false false b e = refl

absent-first : (arrivals : List Arrival) (n place : ℕ) → has_arrived arrivals n ≡ false → has_arrived (take place arrivals) n ≡ false
absent-first arrivals n place e =
    left-false (has_arrived (take place arrivals) n) (has_arrived (drop place arrivals) n)
    (sym (list_any-append (λ arrival. same_id arrival.id (CompletionId n)) (take place arrivals) (drop place arrivals)) ∙ ap (λ (all : List Arrival). has_arrived all n) (take-append-drop place arrivals) ∙ e)

none-of : (xs : List NotificationResult) → length xs ≡ 0 → xs ≡ []
none-of [] e = refl
none-of (x ∷ xs) e = absurd (omega (arith, e))

-- a run asks for its completion
or-right : (a b : Bool) → b ≡ true → (a || b) ≡ true
or-right true b e = refl
or-right false b e = e

asked-among : (n : ℕ) (name : List ℕ) (requests : List Request) → Among (Request.Run n name) requests → list_any (asks_for n) requests ≡ true
asked-among n name [] a = absurd a
asked-among n name (request ∷ requests) (inl e) =
    ap (λ (b : Bool). b || list_any (asks_for n) requests) (ap (asks_for n) (sym e) ∙ ap (λ (b : Bool). b || false) (eq-eqb n n refl))
asked-among n name (request ∷ requests) (inr a) = or-right (asks_for n request) (list_any (asks_for n) requests) (asked-among n name requests a)

module _ (options : RunOptions) (steps : List Step) (arrivals : List Arrival) (untaken : NoneTaken arrivals steps) (requested : AreRequested steps) (own : AllOwn steps) where
  none-delivered : (place : ℕ) (body : Body) → Among body (bodies_of steps) → has_arrived arrivals body.completion ≡ false → deliveries steps arrivals place (CompletionId body.completion) ≡ []
  none-delivered place body called absent =
      let (name, asks) = requested body called in
      results-append (known_results steps) (take place arrivals) (CompletionId body.completion)
      ∙ ap (λ (some : List NotificationResult). some ++ results_for (take place arrivals) (CompletionId body.completion))
      (none-of (results_for (known_results steps) (CompletionId body.completion)) ((apart body.completion steps own).unknown (asked-among body.completion name (requests_of steps) asks)))
      ∙ absent-results (take place arrivals) body.completion (absent-first arrivals body.completion place absent)

  none-in-front : (handle : ℕ) → IsOpen arrivals steps handle → front_of_handle options steps arrivals handle ≡ None
  none-in-front handle (inl a) =
      subst (λ (h : ℕ). front_of_handle options steps arrivals h ≡ None) a.is
      (ap (λ (id : Option NotificationId). option_and_then (front options steps arrivals (place_of steps)) id)
      (stands-at steps a.body.handle was.high (untaken a.body.handle (inl (record { body = a.body; called = a.called; not_come = a.not_come; is = refl }))) ∙ was.there)
      ∙ front-none options steps arrivals (place_of steps) (CompletionId a.body.completion) (none-delivered (place_of steps) a.body a.called a.not_come))
    where
      was : IsCreated steps a.body
      was = created steps a.body a.called
  none-in-front handle (inr beyond) =
      ap (λ (id : Option NotificationId). option_and_then (front options steps arrivals (place_of steps)) id)
      (stands-at steps handle (omega (arith, beyond)) (untaken handle (inr beyond)) ∙ get-none (ids_created steps) (handle - 17) (omega (arith, beyond)))

-- ---- one more step

high-free : (arrivals : List Arrival) (steps : List Step) (handle : ℕ) → IsOpen arrivals steps handle → 17 ≤ handle
high-free arrivals steps handle (inl a) = let high = (created steps a.body a.called).high in let is = a.is in omega (arith, high, is)
high-free arrivals steps handle (inr beyond) = omega (arith, beyond)

both-false : (a b : Bool) → a ≡ false → b ≡ false → (a || b) ≡ false
both-false true b e f = cc
both-false false b e f = f

module _ (steps : List Step) (arrivals : List Arrival) (untaken : NoneTaken arrivals steps) (step : Step)
    (misses : (handle : ℕ) → IsOpen arrivals steps handle → takes_handle handle step ≡ false) where
  was-free : (handle : ℕ) → IsOpen arrivals (step ∷ steps) handle → IsOpen arrivals steps handle
  was-free handle (inl a) = elim (among-split a.body (bodies_of steps) (bodies_of_call (next_handle steps) (next_completion steps) step.call) a.called) [
    | inl b ↦ inl (record { body = a.body; called = b; not_come = a.not_come; is = a.is })
    | inr b ↦ inr (let at = (call-handle (next_handle steps) (next_completion steps) 0 step.call a.body b).0 in let is = a.is in omega (arith, at, is))
  ]
  was-free handle (inr beyond) =
      let more : length (ids_created steps ++ ids_of (next_completion steps) (next_signal steps) step.call) ≡ length (ids_created steps) + length (ids_of (next_completion steps) (next_signal steps) step.call) =
      length-append (ids_created steps) (ids_of (next_completion steps) (next_signal steps) step.call) in
      inr (omega (arith, beyond, more))

  steps-on : NoneTaken arrivals (step ∷ steps)
  steps-on handle free =
      both-false (takes_handle handle step) (list_any (takes_handle handle) steps) (misses handle (was-free handle free)) (untaken handle (was-free handle free))

module _ (given : Invocation) (steps : List Step) (arrivals : List Arrival) (call : Call) (untaken : NoneTaken arrivals steps) (requested : AreRequested steps) (own : AllOwn steps) where
  woken : (some : Call) (handle : ℕ) → handle_is handle (handle_taken some Answer.Woken) ≡ false
  woken (Call.Take taken) handle = refl
  woken (Call.Await tree) handle = refl
  woken _ handle = refl

  cancelled : (some : Call) (handle : ℕ) → 17 ≤ handle → handle_is handle (handle_taken some Answer.Cancelled) ≡ false
  cancelled (Call.Take taken) handle high = refl
  cancelled (Call.Await tree) handle high = one-not handle high
  cancelled _ handle high = refl

  answered : (some : Call) (handle : ℕ) → IsOpen arrivals steps handle → handle_is handle (handle_taken some (answer_to given steps arrivals some)) ≡ false
  answered (Call.Take taken) handle free = by_front (front_of_handle given.options steps arrivals taken) refl
    where
      by_test : (r : NotificationResult) → front_of_handle given.options steps arrivals taken ≡ Some r → (b : Bool) → (taken == handle) ≡ b → b ≡ false
      by_test r e true f =
          let same : taken ≡ handle = eqb-true taken handle f in
          let none : front_of_handle given.options steps arrivals taken ≡ None =
          subst (λ (h : ℕ). front_of_handle given.options steps arrivals h ≡ None) (sym same) (none-in-front given.options steps arrivals untaken requested own handle free) in
          cc
      by_test r e false f = refl

      by_front : (o : Option NotificationResult) → front_of_handle given.options steps arrivals taken ≡ o → handle_is handle (handle_taken (Call.Take taken) (Answer.Taken (option_map as_taken o))) ≡ false
      by_front None e = refl
      by_front (Some r) e = by_test r e (taken == handle) refl
  answered (Call.Await tree) handle free = refl
  answered _ handle free = refl

  none-outcome : (outcome : AwaitOutcome) → NoneTaken arrivals (after_await steps call outcome).steps
  none-outcome (WaitsFor left) = untaken
  none-outcome (WokenAt place) = steps-on steps arrivals untaken (record { call = call; answer = Answer.Woken; requests = []; place = place }) (λ handle free. woken call handle)
  none-outcome (CancelledAt place requests) =
      steps-on steps arrivals untaken (record { call = call; answer = Answer.Cancelled; requests = requests; place = place })
      (λ handle free. cancelled call handle (high-free arrivals steps handle free))

  none-kind : (kind : Kind) → NoneTaken arrivals (carried_out given steps arrivals call kind).steps
  none-kind (Awaits tree) = none-outcome (await_outcome given.options steps arrivals tree)
  none-kind Ends = untaken
  none-kind Answers = steps-on steps arrivals untaken (answered_step given steps arrivals call) (λ handle free. answered call handle free)

  none-call : (o : Option Refusal) → NoneTaken arrivals (unless_refused given steps arrivals call o).steps
  none-call (Some refusal) = untaken
  none-call None = none-kind (call_kind call)

-- ---- the run

none-continued : (handler : Handler) (given : Invocation) (arrivals : List Arrival) (progress : Progress) (ending : Ending) → NoneTaken arrivals progress.steps → AreRequested progress.steps → AllOwn progress.steps
    → NoneTaken arrivals (continued_by handler given arrivals progress ending).steps
none-continued handler given arrivals progress GoesOn untaken requested own =
    none-call given progress.steps arrivals (handler given.input (answers_of progress.steps)) untaken requested own (refusal_of given.version (handler given.input (answers_of progress.steps)))
none-continued handler given arrivals progress _ untaken requested own = untaken

none-taken : (handler : Handler) (given : Invocation) (arrivals : List Arrival) (made : ℕ) → NoneTaken arrivals (run handler given arrivals made).steps
none-taken handler given arrivals zero = λ handle free. refl
none-taken handler given arrivals (suc made) =
    none-continued handler given arrivals (run handler given arrivals made) (run handler given arrivals made).ending (none-taken handler given arrivals made)
    (requested-run handler given arrivals made) (own-run handler given arrivals made)

-- the handle of a body whose outcome has not come stands for its completion
pub body-stands : (handler : Handler) (given : Invocation) (arrivals : List Arrival) (made : ℕ) (body : Body) → Among body (bodies_of (run handler given arrivals made).steps)
    → has_arrived arrivals body.completion ≡ false → stands_for (run handler given arrivals made).steps body.handle ≡ Some (CompletionId body.completion)
body-stands handler given arrivals made body called absent =
    stands-at (run handler given arrivals made).steps body.handle is.high
    (none-taken handler given arrivals made body.handle (inl (record { body = body; called = called; not_come = absent; is = refl })))
    ∙ is.there
  where
    is : IsCreated (run handler given arrivals made).steps body
    is = created (run handler given arrivals made).steps body called
