-- No more deliveries of an id are passed by the takes of a run than have come.
use Rattle.std.proofs.Common.{ℕ, zero, suc, ◌+◌, ◌-◌, ◌≤◌, ◌<◌, ◌==◌, arith, ◌≡◌, refl, sym, ap, ap₂, subst, ◌∙◌, ◌⊎◌, inl, inr, Bool, true, false, true≢false, if◌then◌else◌, List, [], ◌∷◌, ◌++◌, append_assoc, length, length-append, take, map, filter, slice_get, Option, Some, None, is_some, option_map, option_and_then}
use Rattle.std.specs.List.{list_any}
use Rattle.std.proofs.lemmas.Bool.{eqb-true}
use Rattle.std.proofs.lemmas.Option.{slice_get_within}
use Rattle.std.proofs.lemmas.Slice.Eq.{bytes_eq-Decides}
use Rattle.journal_model.specs.declared.notification.NotificationId.{NotificationId}
use Rattle.journal_model.specs.declared.notification.NotificationId.TheVariants.{CompletionId, SignalId, SignalName}
use Rattle.journal_model.specs.declared.notification.NotificationResult.{NotificationResult}
use Rattle.journal_model.specs.declared.call.Call.{Call}
use Rattle.journal_model.specs.declared.call.Answer.{Answer}
use Rattle.journal_model.specs.declared.options.RunOptions.{RunOptions}
use Rattle.journal_model.specs.Notification.{Arrival, same_id, cancel_id}
use Rattle.journal_model.specs.AwaitTree.{AwaitTree}
use Rattle.journal_model.specs.Options.{replaces}
use Rattle.journal_model.specs.Value.{as_taken}
use Rattle.journal_model.specs.Refusal.{Refusal, refusal_of}
use Rattle.journal_model.specs.History.{Step, place_of, answers_of, ids_of, next_completion, next_signal, ids_created, id_of_handle, handle_taken, takes_handle, stands_for, cancel_handle, WithinPlaces}
use Rattle.journal_model.specs.Delivery.{known_result, known_results, deliveries, takes_id, taken_is, count_taken, takes_of, passed_at_take, front}
use Rattle.journal_model.specs.Await.{ends_awaits, awake_place, awaited_ids, is_awake_at, is_cancelled_at, children_place, WokenAt, cancellation_outcome, outcome_from}
use Rattle.journal_model.specs.Run.{Handler, Invocation, Progress, Ending, GoesOn, Kind, Awaits, Ends, Answers, call_kind, front_of_handle, answer_to, after_await, carried_out, unless_refused, continued_by, run}
use Rattle.journal_model.proofs.Extension.{place_of-within, least_from-found, run-within}
use Rattle.journal_model.proofs.Handles.{id_of_handle-old, id_of_handle-none}
use Rattle.journal_laws.proofs.Leaving.{and-true}
use Rattle.run_laws.proofs.Fronts.{results_of, results-append, tally_of}

pub same_id-equal : (a b : NotificationId) → same_id a b ≡ true → a ≡ b
same_id-equal (CompletionId n) (CompletionId m) e = ap CompletionId (eqb-true n m e)
same_id-equal (SignalId n) (SignalId m) e = ap SignalId (eqb-true n m e)
same_id-equal (SignalName s) (SignalName t) e = ap SignalName ((bytes_eq-Decides s t).0 e)
same_id-equal (CompletionId n) (SignalId m) e = absurd (true≢false (sym e))
same_id-equal (CompletionId n) (SignalName m) e = absurd (true≢false (sym e))
same_id-equal (SignalId n) (CompletionId m) e = absurd (true≢false (sym e))
same_id-equal (SignalId n) (SignalName m) e = absurd (true≢false (sym e))
same_id-equal (SignalName n) (CompletionId m) e = absurd (true≢false (sym e))
same_id-equal (SignalName n) (SignalId m) e = absurd (true≢false (sym e))

-- ---- deliveries only grow

pub results-take : (id : NotificationId) (n : ℕ) (arrivals : List Arrival) → length (results_of id (take n arrivals)) ≤ length (results_of id arrivals)
results-take id zero arrivals = omega arith
results-take id (suc n) [] = omega arith
results-take id (suc n) (x ∷ xs) = by_test (same_id x.id id) (results-take id n xs)
  where
    by_test : (b : Bool) → length (results_of id (take n xs)) ≤ length (results_of id xs)
        → length (map (λ (arrival : Arrival). arrival.result) (if b then x ∷ filter (λ (arrival : Arrival). same_id arrival.id id) (take n xs) else filter (λ (arrival : Arrival). same_id arrival.id id) (take n xs)))
        ≤ length (map (λ (arrival : Arrival). arrival.result) (if b then x ∷ filter (λ (arrival : Arrival). same_id arrival.id id) xs else filter (λ (arrival : Arrival). same_id arrival.id id) xs))
    by_test true low = omega arith
    by_test false low = low

all-taken : {A : Type 0} (xs : List A) → take (length xs) xs ≡ xs
all-taken [] = refl
all-taken {A} (x ∷ xs) = ap (λ (rest : List A). x ∷ rest) (all-taken xs)

deliveries-grow : (arrivals : List Arrival) (id : NotificationId) (place : ℕ) (step : Step) (earlier : List Step)
    → length (deliveries earlier arrivals place id) ≤ length (deliveries (step ∷ earlier) arrivals (length arrivals) id)
deliveries-grow arrivals id place step earlier =
    let known = known_results earlier in
    let own = known_result (next_completion earlier) step.requests in
    let a = ap (λ (results : List NotificationResult). length results) (results-append id known (take place arrivals)) in
    let a' = length-append (results_of id known) (results_of id (take place arrivals)) in
    let b = ap (λ (results : List NotificationResult). length results) (results-append id (known ++ own) (take (length arrivals) arrivals)) in
    let b' = length-append (results_of id (known ++ own)) (results_of id (take (length arrivals) arrivals)) in
    let c = ap (λ (results : List NotificationResult). length results) (results-append id known own) in
    let c' = length-append (results_of id known) (results_of id own) in
    let d = ap (λ (some : List Arrival). length (results_of id some)) (all-taken arrivals) in
    let low = results-take id place arrivals in
    omega arith

passed_within : (arrivals : List Arrival) (id : NotificationId) (ids : List NotificationId) (steps : List Step)
    → passed_at_take ids arrivals id steps ≤ length (deliveries steps arrivals (length arrivals) id)
passed_within arrivals id ids [] = omega arith
passed_within arrivals id ids (step ∷ earlier) = by_test (takes_id ids id step) (passed_within arrivals id ids earlier)
  where
    by_test : (b : Bool) → passed_at_take ids arrivals id earlier ≤ length (deliveries earlier arrivals (length arrivals) id)
        → (if b then length (deliveries earlier arrivals step.place id) else passed_at_take ids arrivals id earlier) ≤ length (deliveries (step ∷ earlier) arrivals (length arrivals) id)
    by_test true low = deliveries-grow arrivals id step.place step earlier
    by_test false low = let more = deliveries-grow arrivals id (length arrivals) step earlier in omega arith

-- ---- a take takes what is in front

pub record TakesSo (options : RunOptions) (arrivals : List Arrival) (earlier : List Step) (handle : ℕ) : Type 0 where
  pub id : NotificationId
  pub named : id_of_handle (ids_created earlier) handle ≡ Some id
  pub place : ℕ
  pub within : place ≤ length arrivals
  pub in_front : is_some (front options earlier arrivals place id) ≡ true

abbrev pub AreSound : RunOptions → List Arrival → List Step → Type 0
AreSound options arrivals [] = Unit {0}
AreSound options arrivals (step ∷ earlier) =
    ((handle : ℕ) → handle_taken step.call step.answer ≡ Some handle → TakesSo options arrivals earlier handle) × AreSound options arrivals earlier

named-longer : (ids more : List NotificationId) (handle : ℕ) (id : NotificationId) → id_of_handle ids handle ≡ Some id → id_of_handle (ids ++ more) handle ≡ Some id
named-longer ids more handle id e = by_order (order (suc handle) (17 + length ids))
  where
    order : (n m : ℕ) → (n ≤ m) ⊎ (m < n)
    order zero m = inl (omega arith)
    order (suc n) zero = inr (omega arith)
    order (suc n) (suc m) = elim (order n m) [ inl low ↦ inl (omega arith) | inr high ↦ inr (omega arith) ]

    by_order : (suc handle ≤ 17 + length ids) ⊎ (17 + length ids < suc handle) → id_of_handle (ids ++ more) handle ≡ Some id
    by_order (inl low) = id_of_handle-old ids more handle low ∙ e
    by_order (inr high) =
        let none : id_of_handle ids handle ≡ None = id_of_handle-none ids handle (omega arith) in
        absurd (true≢false (ap is_some (sym e ∙ none)))

takes-longer : (options : RunOptions) (arrivals : List Arrival) (earlier : List Step) (step : Step) (more : List NotificationId) (id : NotificationId)
    → ((handle : ℕ) → handle_taken step.call step.answer ≡ Some handle → TakesSo options arrivals earlier handle)
    → takes_id (ids_created earlier ++ more) id step ≡ takes_id (ids_created earlier) id step
takes-longer options arrivals earlier step more id sound = by_handle (handle_taken step.call step.answer) sound
  where
    by_handle : (o : Option ℕ) → ((handle : ℕ) → o ≡ Some handle → TakesSo options arrivals earlier handle)
        → taken_is id (option_and_then (id_of_handle (ids_created earlier ++ more)) o) ≡ taken_is id (option_and_then (id_of_handle (ids_created earlier)) o)
    by_handle None sound = refl
    by_handle (Some handle) sound =
        let it = sound handle refl in
        ap (taken_is id) (named-longer (ids_created earlier) more handle it.id it.named ∙ sym it.named)

ids-behind : (step : Step) (earlier : List Step) (more : List NotificationId)
    → ids_created (step ∷ earlier) ++ more ≡ ids_created earlier ++ (ids_of (next_completion earlier) (next_signal earlier) step.call ++ more)
ids-behind step earlier more = append_assoc (ids_created earlier) (ids_of (next_completion earlier) (next_signal earlier) step.call) more

count-longer : (options : RunOptions) (arrivals : List Arrival) (steps : List Step) → AreSound options arrivals steps → (more : List NotificationId) (id : NotificationId)
    → count_taken (ids_created steps ++ more) id steps ≡ count_taken (ids_created steps) id steps
count-longer options arrivals [] sound more id = refl
count-longer options arrivals (step ∷ earlier) sound more id =
    let own = ids_of (next_completion earlier) (next_signal earlier) step.call in
    ap (λ (ids : List NotificationId). count_taken ids id (step ∷ earlier)) (ids-behind step earlier more)
    ∙ ap₂ (λ (b : Bool) (n : ℕ). (if b then 1 else 0) + n)
    (takes-longer options arrivals earlier step (own ++ more) id sound.0 ∙ sym (takes-longer options arrivals earlier step own id sound.0))
    (count-longer options arrivals earlier sound.1 (own ++ more) id ∙ sym (count-longer options arrivals earlier sound.1 own id))

-- what a take names
taken_named : (ids : List NotificationId) (o : Option ℕ) (id : NotificationId) → taken_is id (option_and_then (id_of_handle ids) o) ≡ true
    → (handle : ℕ) × (o ≡ Some handle) × (taken_is id (id_of_handle ids handle) ≡ true)
taken_named ids None id e = absurd (true≢false (sym e))
taken_named ids (Some handle) id e = (handle, refl, e)

count_within : (options : RunOptions) (arrivals : List Arrival) (steps : List Step) → AreSound options arrivals steps → (id : NotificationId) → replaces options.signal_delivery id ≡ false
    → takes_of steps id ≤ length (deliveries steps arrivals (length arrivals) id)
count_within options arrivals [] sound id queued = omega arith
count_within options arrivals (step ∷ earlier) sound id queued =
    subst (λ (n : ℕ). n ≤ length (deliveries (step ∷ earlier) arrivals (length arrivals) id)) (sym canonical) (by_test (takes_id (ids_created earlier) id step) refl (count_within options arrivals earlier sound.1 id queued))
  where
    canonical : takes_of (step ∷ earlier) id ≡ (if takes_id (ids_created earlier) id step then 1 else 0) + takes_of earlier id
    canonical =
        ap₂ (λ (b : Bool) (n : ℕ). (if b then 1 else 0) + n)
        (takes-longer options arrivals earlier step (ids_of (next_completion earlier) (next_signal earlier) step.call) id sound.0)
        (count-longer options arrivals earlier sound.1 (ids_of (next_completion earlier) (next_signal earlier) step.call) id)

    some_within : (front_is : Option NotificationResult) (place : ℕ) → slice_get (deliveries earlier arrivals place id) (takes_of earlier id) ≡ front_is → is_some front_is ≡ true
        → takes_of earlier id < length (deliveries earlier arrivals place id)
    some_within None place e f = absurd (true≢false (sym f))
    some_within (Some result) place e f = slice_get_within (deliveries earlier arrivals place id) (takes_of earlier id) result e

    by_test : (b : Bool) → takes_id (ids_created earlier) id step ≡ b → takes_of earlier id ≤ length (deliveries earlier arrivals (length arrivals) id)
        → (if b then 1 else 0) + takes_of earlier id ≤ length (deliveries (step ∷ earlier) arrivals (length arrivals) id)
    by_test false e low = let more = deliveries-grow arrivals id (length arrivals) step earlier in omega arith
    by_test true e low =
        let (handle, is, names) = taken_named (ids_created earlier) (handle_taken step.call step.answer) id e in
        let it = sound.0 handle is in
        let named : it.id ≡ id = same_id-equal it.id id (sym (ap (taken_is id) it.named) ∙ names) in
        let here : is_some (front options earlier arrivals it.place id) ≡ true = subst (λ (x : NotificationId). is_some (front options earlier arrivals it.place x) ≡ true) named it.in_front in
        let in_line : front options earlier arrivals it.place id ≡ slice_get (deliveries earlier arrivals it.place id) (takes_of earlier id) = rw queued refl in
        let fewer = some_within (front options earlier arrivals it.place id) it.place (sym in_line) here in
        let more = deliveries-grow arrivals id it.place step earlier in
        omega arith

pub tally_within : (options : RunOptions) (arrivals : List Arrival) (steps : List Step) → AreSound options arrivals steps → (id : NotificationId)
    → tally_of options steps arrivals id ≤ length (deliveries steps arrivals (length arrivals) id)
tally_within options arrivals steps sound id = by_kind (replaces options.signal_delivery id) refl
  where
    by_kind : (b : Bool) → replaces options.signal_delivery id ≡ b
        → (if b then passed_at_take (ids_created steps) arrivals id steps else takes_of steps id) ≤ length (deliveries steps arrivals (length arrivals) id)
    by_kind true e = passed_within arrivals id (ids_created steps) steps
    by_kind false e = count_within options arrivals steps sound id e

-- ---- so do all steps of a run

woken_takes : (call : Call) (handle : ℕ) → handle_taken call Answer.Woken ≡ Some handle → ⊥
woken_takes (Call.Take h) handle e = cc
woken_takes (Call.Await tree) handle e = cc
woken_takes call handle e = cc

cancelled_takes : (call : Call) (handle : ℕ) → handle_taken call Answer.Cancelled ≡ Some handle → handle ≡ cancel_handle
cancelled_takes (Call.Await tree) handle e = cc
cancelled_takes (Call.Take h) handle e = cc
cancelled_takes call handle e = cc

stands_named : (steps : List Step) (handle : ℕ) (id : NotificationId) → stands_for steps handle ≡ Some id → id_of_handle (ids_created steps) handle ≡ Some id
stands_named steps handle id e = by_test (handle == cancel_handle) refl (list_any (takes_handle handle) steps) e
  where
    by_test : (a : Bool) → (handle == cancel_handle) ≡ a → (b : Bool)
        → (if a then Some cancel_id else (if b then None else id_of_handle (ids_created steps) handle)) ≡ Some id → id_of_handle (ids_created steps) handle ≡ Some id
    by_test true f b e = rw f e
    by_test false f true e = cc
    by_test false f false e = e

module _ (given : Invocation) (steps : List Step) (arrivals : List Arrival) (within : WithinPlaces (length arrivals) steps) (sound : AreSound given.options arrivals steps) where
  low : place_of steps ≤ length arrivals
  low = place_of-within (length arrivals) steps within

  taken_front : (handle : ℕ) (o : Option NotificationId) → stands_for steps handle ≡ o
      → is_some (option_and_then (front given.options steps arrivals (place_of steps)) o) ≡ true → TakesSo given.options arrivals steps handle
  taken_front handle None e f = absurd (true≢false (sym f))
  taken_front handle (Some id) e f = record { id = id; named = stands_named steps handle id e; place = place_of steps; within = low; in_front = f }

  answer_sound : (call : Call) (handle : ℕ) → handle_taken call (answer_to given steps arrivals call) ≡ Some handle → TakesSo given.options arrivals steps handle
  answer_sound (Call.Take h) handle e = by_front (front_of_handle given.options steps arrivals h) refl e
    where
      by_front : (o : Option NotificationResult) → front_of_handle given.options steps arrivals h ≡ o
          → handle_taken (Call.Take h) (Answer.Taken (option_map as_taken o)) ≡ Some handle → TakesSo given.options arrivals steps handle
      by_front None f e = absurd (true≢false (ap is_some (sym e)))
      by_front (Some result) f e =
          let same : h ≡ handle = cc in
          subst (λ (x : ℕ). TakesSo given.options arrivals steps x) same (taken_front h (stands_for steps h) refl (ap is_some f))
  answer_sound call handle e = absurd (true≢false (ap is_some (sym e)))

  cancelled_sound : (place : ℕ) → place ≤ length arrivals → is_cancelled_at given.options steps arrivals place ≡ true → TakesSo given.options arrivals steps cancel_handle
  cancelled_sound place high e = record {
    id = cancel_id;
    named = refl;
    place = place;
    within = high;
    in_front = (and-true (ends_awaits given.options.implicit_cancellation) (is_some (front given.options steps arrivals place cancel_id)) e).1;
  }

  await_sound : (call : Call) (tree : AwaitTree (Option NotificationId)) (found : Option ℕ) → awake_place given.options steps arrivals tree ≡ found
      → AreSound given.options arrivals (after_await steps call (outcome_from given.options steps arrivals tree found)).steps
  await_sound call tree None is = sound
  await_sound call tree (Some place) is =
      let found = least_from-found (is_awake_at given.options steps arrivals tree (place_of steps)) (place_of steps) (length arrivals - place_of steps) place is in
      by_cancel (is_cancelled_at given.options steps arrivals place) refl (children_place given.options steps arrivals place) (omega (arith, found.1, low))
    where
      by_cancel : (b : Bool) → is_cancelled_at given.options steps arrivals place ≡ b → (o : Option ℕ) → place ≤ length arrivals
          → AreSound given.options arrivals (after_await steps call (if b then cancellation_outcome given.options steps arrivals o else WokenAt place)).steps
      by_cancel false e o high = ((λ handle f. absurd (woken_takes call handle f)), sound)
      by_cancel true e None high = sound
      by_cancel true e (Some r) high =
          ((λ handle f. subst (λ (x : ℕ). TakesSo given.options arrivals steps x) (sym (cancelled_takes call handle f)) (cancelled_sound place high e)), sound)

  carried_sound : (call : Call) (kind : Kind) → AreSound given.options arrivals (carried_out given steps arrivals call kind).steps
  carried_sound call (Awaits tree) =
      await_sound call (awaited_ids given.options steps tree) (awake_place given.options steps arrivals (awaited_ids given.options steps tree)) refl
  carried_sound call Ends = sound
  carried_sound call Answers = ((λ handle e. answer_sound call handle e), sound)

  refused_sound : (call : Call) (refusal : Option Refusal) → AreSound given.options arrivals (unless_refused given steps arrivals call refusal).steps
  refused_sound call (Some refusal) = sound
  refused_sound call None = carried_sound call (call_kind call)

continued_sound : (next : Handler) (given : Invocation) (arrivals : List Arrival) (progress : Progress) (ending : Ending) → WithinPlaces (length arrivals) progress.steps
    → AreSound given.options arrivals progress.steps → AreSound given.options arrivals (continued_by next given arrivals progress ending).steps
continued_sound next given arrivals progress GoesOn within sound =
    refused_sound given progress.steps arrivals within sound (next given.input (answers_of progress.steps)) (refusal_of given.version (next given.input (answers_of progress.steps)))
continued_sound next given arrivals progress _ within sound = sound

pub run_sound : (next : Handler) (given : Invocation) (arrivals : List Arrival) (n : ℕ) → AreSound given.options arrivals (run next given arrivals n).steps
run_sound next given arrivals zero = tt
run_sound next given arrivals (suc n) =
    continued_sound next given arrivals (run next given arrivals n) (run next given arrivals n).ending (run-within next given arrivals n) (run_sound next given arrivals n)
