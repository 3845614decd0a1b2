-- What was awaited alone, or seen to have come, is in front, and so is brought by the take behind it.
use Rattle.std.proofs.Common.{◌≡◌, refl, sym, ap, ◌∙◌, ℕ, zero, suc, ◌+◌, ◌-◌, ◌≤◌, ◌<◌, ◌==◌, arith, le_refl, eq-or-lt_of_le, Bool, true, false, ◌&&◌, ◌||◌, if◌then◌else◌, List, [], ◌∷◌, ◌++◌, append-nil, length, take, drop, slice_get, Option, Some, None, is_some, option_map, option_and_then, ◌⊎◌, inl, inr}
use Rattle.std.specs.List.{list_any}
use Rattle.journal_model.specs.declared.notification.NotificationId.{NotificationId}
use Rattle.journal_model.specs.declared.notification.NotificationResult.{NotificationResult}
use Rattle.journal_model.specs.Notification.{Arrival, cancel_id}
use Rattle.journal_model.specs.AwaitTree.{AwaitState, Pending, Succeeded, Failed, AwaitTree, Single, Combined, FirstCompleted, no_trees, and_trees, is_completed, is_awake, map_leaves}
use Rattle.journal_model.specs.Value.{as_taken}
use Rattle.journal_model.specs.declared.call.Call.{Call}
use Rattle.journal_model.specs.declared.call.Answer.{Answer}
use Rattle.journal_model.specs.declared.options.RunOptions.{RunOptions}
use Rattle.journal_model.specs.declared.options.ImplicitCancellationOption.{ImplicitCancellationOption}
use Rattle.journal_model.specs.declared.options.ImplicitCancellationOption.TheVariants.{Disabled, Enabled}
use Rattle.journal_model.specs.Options.{replaces}
use Rattle.journal_model.specs.History.{Step, place_of, next_completion, next_signal, ids_of, ids_created, id_of_handle, handle_taken, takes_handle, handle_is, stands_for, cancel_handle}
use Rattle.journal_model.specs.Delivery.{results_for, known_result, known_results, deliveries, front, last_of, takes_id, taken_is, count_taken, takes_of, passed_at_take, or_else, first_found, leaf_state, state_of_result}
use Rattle.journal_model.specs.Await.{least_from, is_awake_at, awaited_tree, awaited_ids, awake_place, ends_awaits, is_cancelled_at, children_place, cancellation_outcome, WokenAt, outcome_from, await_outcome}
use Rattle.journal_model.specs.Run.{front_of_handle}
use Rattle.straight_line.specs.TakenValues.{TakesBring}

-- the least number that passes a test
least : (test : ℕ → Bool) (from more place : ℕ) → least_from test from more ≡ Some place
    → (test place ≡ true) × (from ≤ place) × ((q : ℕ) → from ≤ q → q < place → test q ≡ false)
least test from zero place e = at_end (test from) refl e
  where
    at_end : (b : Bool) → test from ≡ b → (if b then Some from else None) ≡ Some place
        → (test place ≡ true) × (from ≤ place) × ((q : ℕ) → from ≤ q → q < place → test q ≡ false)
    at_end true f g = let same : from ≡ place = cc in (ap test (sym same) ∙ f, omega arith, λ q low high. absurd (omega arith))
    at_end false f g = cc
least test from (suc more) place e = at_first (test from) refl (λ g. least test (suc from) more place g) e
  where
    below_all : test from ≡ false → ((q : ℕ) → suc from ≤ q → q < place → test q ≡ false) → (q : ℕ) → q < place → (from ≡ q) ⊎ (from < q) → test q ≡ false
    below_all f later q high (inl same) = ap test (sym same) ∙ f
    below_all f later q high (inr above) = later q above high

    at_first : (b : Bool) → test from ≡ b
        → (least_from test (suc from) more ≡ Some place → (test place ≡ true) × (suc from ≤ place) × ((q : ℕ) → suc from ≤ q → q < place → test q ≡ false))
        → (if b then Some from else least_from test (suc from) more) ≡ Some place
        → (test place ≡ true) × (from ≤ place) × ((q : ℕ) → from ≤ q → q < place → test q ≡ false)
    at_first true f later g = let same : from ≡ place = cc in (ap test (sym same) ∙ f, omega arith, λ q low high. absurd (omega arith))
    at_first false f later g =
        let (passes, low, below) = later g in
        (passes, omega arith, λ q from_low high. below_all f below q high (eq-or-lt_of_le from_low))

-- nothing was found up to a number, so nothing is there
none-last : (f : ℕ → Option NotificationResult) (from more : ℕ) → first_found f from more ≡ None → f (from + more) ≡ None
none-last f from zero e = (let same : from + 0 ≡ from = omega arith in ap f same) ∙ e
none-last f from (suc more) e = at_first (f from) (λ g. none-last f (suc from) more g) e
  where
    same : from + suc more ≡ suc from + more
    same = omega arith

    at_first : (o : Option NotificationResult) → (first_found f (suc from) more ≡ None → f (suc from + more) ≡ None) → or_else o (first_found f (suc from) more) ≡ None → f (from + suc more) ≡ None
    at_first None later g = ap f same ∙ later g
    at_first (Some result) later g = cc

-- nothing is there before a number, so what is found up to it is what is there
first-last : (f : ℕ → Option NotificationResult) (from more : ℕ) → ((q : ℕ) → from ≤ q → q < from + more → f q ≡ None) → first_found f from more ≡ f (from + more)
first-last f from zero none = let same : from ≡ from + 0 = omega arith in ap f same
first-last f from (suc more) none =
    ap (λ o. or_else o (first_found f (suc from) more)) (none from (le_refl from) (omega arith))
    ∙ first-last f (suc from) more (λ q low high. none q (omega arith) (omega arith))
    ∙ (let same : suc from + more ≡ from + suc more = omega arith in ap f same)

-- trees of one leaf, and of one beside that of a cancellation
abbrev one : AwaitState → Bool
one a = is_awake (Single a) (λ state. state)

abbrev two : AwaitState → AwaitState → Bool
two a b = is_awake (Combined FirstCompleted (and_trees (Single a) (and_trees (Single b) no_trees))) (λ state. state)

one-asleep : (a : AwaitState) → one a ≡ false → a ≡ Pending
one-asleep Pending e = refl
one-asleep Succeeded e = cc
one-asleep Failed e = cc

one-awake : (a : AwaitState) → one a ≡ true → is_completed a ≡ true
one-awake Pending e = cc
one-awake Succeeded e = refl
one-awake Failed e = refl

two-asleep : (a b : AwaitState) → two a b ≡ false → (a ≡ Pending) × (b ≡ Pending)
two-asleep Pending Pending e = (refl, refl)
two-asleep Pending Succeeded e = cc
two-asleep Pending Failed e = cc
two-asleep Succeeded b e = cc
two-asleep Failed b e = cc

two-awake : (a b : AwaitState) → two a b ≡ true → b ≡ Pending → is_completed a ≡ true
two-awake Pending Pending e f = cc
two-awake Pending Succeeded e f = cc
two-awake Pending Failed e f = cc
two-awake Succeeded b e f = refl
two-awake Failed b e f = refl

not-one : one Pending ≡ true → ⊥
not-one e = cc

not-two : (b : AwaitState) → two Pending b ≡ true → b ≡ Pending → ⊥
not-two Pending e f = cc
not-two Succeeded e f = cc
not-two Failed e f = cc

none-pending : (o : Option NotificationResult) → state_of_result o ≡ Pending → o ≡ None
none-pending None e = refl
none-pending (Some NotificationResult.Void) e = cc
none-pending (Some (NotificationResult.Value bytes)) e = cc
none-pending (Some (NotificationResult.Failure failure)) e = cc
none-pending (Some (NotificationResult.InvocationId id)) e = cc
none-pending (Some (NotificationResult.StateKeys keys)) e = cc

some-completed : (o : Option NotificationResult) → is_completed (state_of_result o) ≡ true → is_some o ≡ true
some-completed None e = cc
some-completed (Some result) e = refl

module _ (options : RunOptions) (steps : List Step) (arrivals : List Arrival) (from place : ℕ) (low : from ≤ place) where
  abbrev at : NotificationId → ℕ → Option NotificationResult
  at id q = front options steps arrivals q id

  abbrev seen_by : NotificationId → ℕ → AwaitState
  seen_by id q = leaf_state options steps arrivals from q (Some id)

  -- a leaf that was pending up to a place is by what is in front there
  now : (id : NotificationId) → ((q : ℕ) → from ≤ q → q < place → seen_by id q ≡ Pending) → seen_by id place ≡ state_of_result (at id place)
  now id pending = ap state_of_result
      (first-last (at id) from (place - from) (λ q from_low high. none q from_low (omega arith))
      ∙ (let same : from + (place - from) ≡ place = omega arith in ap (at id) same))
    where
      none : (q : ℕ) → from ≤ q → q < place → at id q ≡ None
      none q from_low high = (let same : q ≡ from + (q - from) = omega arith in ap (at id) same)
          ∙ none-last (at id) from (q - from) (none-pending (first_found (at id) from (q - from)) (pending q from_low high))

  in-front-alone : (id : NotificationId) → one (seen_by id place) ≡ true → ((q : ℕ) → from ≤ q → q < place → one (seen_by id q) ≡ false) → is_some (at id place) ≡ true
  in-front-alone id awake asleep =
      some-completed (at id place)
      (ap is_completed (sym (now id (λ q from_low high. one-asleep (seen_by id q) (asleep q from_low high)))) ∙ one-awake (seen_by id place) awake)

  in-front-beside : (id other : NotificationId) → two (seen_by id place) (seen_by other place) ≡ true
      → ((q : ℕ) → from ≤ q → q < place → two (seen_by id q) (seen_by other q) ≡ false) → at other place ≡ None → is_some (at id place) ≡ true
  in-front-beside id other awake asleep none =
      some-completed (at id place)
      (ap is_completed (sym (now id (λ q from_low high. (two-asleep (seen_by id q) (seen_by other q) (asleep q from_low high)).0)))
      ∙ two-awake (seen_by id place) (seen_by other place) awake
      (now other (λ q from_low high. (two-asleep (seen_by id q) (seen_by other q) (asleep q from_low high)).1) ∙ ap state_of_result none))

  not-beside-none : (other : NotificationId) → two Pending (seen_by other place) ≡ true
      → ((q : ℕ) → from ≤ q → q < place → two Pending (seen_by other q) ≡ false) → at other place ≡ None → ⊥
  not-beside-none other awake asleep none =
      not-two (seen_by other place) awake (now other (λ q from_low high. (two-asleep Pending (seen_by other q) (asleep q from_low high)).1) ∙ ap state_of_result none)

-- an await of one handle that is woken finds it in front
module _ (options : RunOptions) (steps : List Step) (arrivals : List Arrival) (place : ℕ) where
  not-some : (o : Option NotificationResult) → is_some o ≡ false → o ≡ None
  not-some None e = refl
  not-some (Some result) e = cc

  abbrev tree : ImplicitCancellationOption → Option NotificationId → AwaitTree (Option NotificationId)
  tree Disabled leaf = Single leaf
  tree (Enabled calls sends) leaf = Combined FirstCompleted (and_trees (Single leaf) (and_trees (Single (Some cancel_id)) no_trees))

  by_mode : (mode : ImplicitCancellationOption) (id : NotificationId) (more : ℕ)
      → least_from (is_awake_at options steps arrivals (tree mode (Some id)) (place_of steps)) (place_of steps) more ≡ Some place
      → (ends_awaits mode && is_some (front options steps arrivals place cancel_id)) ≡ false → is_some (front options steps arrivals place id) ≡ true
  by_mode Disabled id more e uncancelled =
      let (awake, low, asleep) = least (is_awake_at options steps arrivals (tree Disabled (Some id)) (place_of steps)) (place_of steps) more place e in
      in-front-alone options steps arrivals (place_of steps) place low id awake asleep
  by_mode (Enabled calls sends) id more e uncancelled =
      let (awake, low, asleep) = least (is_awake_at options steps arrivals (tree (Enabled calls sends) (Some id)) (place_of steps)) (place_of steps) more place e in
      in-front-beside options steps arrivals (place_of steps) place low id cancel_id awake asleep (not-some (front options steps arrivals place cancel_id) uncancelled)

  no_leaf : (mode : ImplicitCancellationOption) (more : ℕ)
      → least_from (is_awake_at options steps arrivals (tree mode None) (place_of steps)) (place_of steps) more ≡ Some place
      → (ends_awaits mode && is_some (front options steps arrivals place cancel_id)) ≡ false → ⊥
  no_leaf Disabled more e uncancelled =
      not-one (least (is_awake_at options steps arrivals (tree Disabled None) (place_of steps)) (place_of steps) more place e).0
  no_leaf (Enabled calls sends) more e uncancelled =
      let (awake, low, asleep) = least (is_awake_at options steps arrivals (tree (Enabled calls sends) None) (place_of steps)) (place_of steps) more place e in
      not-beside-none options steps arrivals (place_of steps) place low cancel_id awake asleep (not-some (front options steps arrivals place cancel_id) uncancelled)

  by_leaf : (mode : ImplicitCancellationOption) (leaf : Option NotificationId) (id : NotificationId) (more : ℕ) → leaf ≡ Some id
      → least_from (is_awake_at options steps arrivals (tree mode leaf) (place_of steps)) (place_of steps) more ≡ Some place
      → (ends_awaits mode && is_some (front options steps arrivals place cancel_id)) ≡ false → is_some (front options steps arrivals place id) ≡ true
  by_leaf mode None id more stands e uncancelled = cc
  by_leaf mode (Some other) id more stands e uncancelled =
      let same : other ≡ id = cc in
      ap (λ (some : NotificationId). is_some (front options steps arrivals place some)) (sym same) ∙ by_mode mode other more e uncancelled

  -- the tree that is awaited
  tree_is : (mode : ImplicitCancellationOption) (handle : ℕ) → map_leaves (stands_for steps) (awaited_tree mode (Single handle)) ≡ tree mode (stands_for steps handle)
  tree_is Disabled handle = refl
  tree_is (Enabled calls sends) handle = refl

  not_woken : (o : Option ℕ) → cancellation_outcome options steps arrivals o ≡ WokenAt place → ⊥
  not_woken None e = cc
  not_woken (Some p) e = cc

  woken_at : (handle : ℕ) → await_outcome options steps arrivals (Single handle) ≡ WokenAt place
      → (least_from (is_awake_at options steps arrivals (tree options.implicit_cancellation (stands_for steps handle)) (place_of steps)) (place_of steps) (length arrivals - place_of steps) ≡ Some place)
      × (is_cancelled_at options steps arrivals place ≡ false)
  woken_at handle woken = by_place (awake_place options steps arrivals (awaited_ids options steps (Single handle))) refl woken
    where
      by_cancelled : (p : ℕ) (b : Bool) → is_cancelled_at options steps arrivals p ≡ b
          → (if b then cancellation_outcome options steps arrivals (children_place options steps arrivals p) else WokenAt p) ≡ WokenAt place
          → (p ≡ place) × (is_cancelled_at options steps arrivals p ≡ false)
      by_cancelled p true f e = absurd (not_woken (children_place options steps arrivals p) e)
      by_cancelled p false f e = (let same : p ≡ place = cc in same, f)

      by_place : (o : Option ℕ) → awake_place options steps arrivals (awaited_ids options steps (Single handle)) ≡ o
          → outcome_from options steps arrivals (awaited_ids options steps (Single handle)) o ≡ WokenAt place
          → (least_from (is_awake_at options steps arrivals (tree options.implicit_cancellation (stands_for steps handle)) (place_of steps)) (place_of steps) (length arrivals - place_of steps) ≡ Some place)
          × (is_cancelled_at options steps arrivals place ≡ false)
      by_place None found e = cc
      by_place (Some p) found e =
          let (same, uncancelled) = by_cancelled p (is_cancelled_at options steps arrivals p) refl e in (
            ap (λ (some : AwaitTree (Option NotificationId)). least_from (is_awake_at options steps arrivals some (place_of steps)) (place_of steps) (length arrivals - place_of steps))
                (sym (tree_is options.implicit_cancellation handle)) ∙ found ∙ ap Some same,
            ap (is_cancelled_at options steps arrivals) (sym same) ∙ uncancelled,
          )

  pub woken-front : (handle : ℕ) (id : NotificationId) → stands_for steps handle ≡ Some id → await_outcome options steps arrivals (Single handle) ≡ WokenAt place
      → is_some (front options steps arrivals place id) ≡ true
  woken-front handle id stands woken =
      let at_place = woken_at handle woken in
      by_leaf options.implicit_cancellation (stands_for steps handle) id (length arrivals - place_of steps) stands at_place.0 at_place.1

  -- and so the handle stands for something
  pub woken-stands : (handle : ℕ) → await_outcome options steps arrivals (Single handle) ≡ WokenAt place → (id : NotificationId) × (stands_for steps handle ≡ Some id)
  woken-stands handle woken = let at_place = woken_at handle woken in by_id (stands_for steps handle) refl at_place.0 at_place.1
    where
      by_id : (o : Option NotificationId) → stands_for steps handle ≡ o
          → least_from (is_awake_at options steps arrivals (tree options.implicit_cancellation o) (place_of steps)) (place_of steps) (length arrivals - place_of steps) ≡ Some place
          → is_cancelled_at options steps arrivals place ≡ false → (id : NotificationId) × (stands_for steps handle ≡ Some id)
      by_id None stands e uncancelled = absurd (no_leaf options.implicit_cancellation (length arrivals - place_of steps) e uncancelled)
      by_id (Some id) stands e uncancelled = (id, stands)

-- a step that makes no handle, takes nothing and asks for nothing changes neither what is in front nor what a handle stands for
module _ (options : RunOptions) (steps : List Step) (arrivals : List Arrival) (step : Step)
    (made : ids_of (next_completion steps) (next_signal steps) step.call ≡ []) (takes : handle_taken step.call step.answer ≡ None)
    (reads : known_result (next_completion steps) step.requests ≡ []) where
  ids-same : ids_created (step ∷ steps) ≡ ids_created steps
  ids-same = ap (λ (more : List NotificationId). ids_created steps ++ more) made ∙ append-nil (ids_created steps)

  known-same : known_results (step ∷ steps) ≡ known_results steps
  known-same = ap (λ (more : List Arrival). known_results steps ++ more) reads ∙ append-nil (known_results steps)

  abbrev ids : List NotificationId
  ids = ids_created (step ∷ steps)

  takes-none : (id : NotificationId) → takes_id ids id step ≡ false
  takes-none id = ap (λ (o : Option ℕ). taken_is id (option_and_then (id_of_handle ids) o)) takes

  passed-same : (id : NotificationId) → passed_at_take ids arrivals id (step ∷ steps) ≡ passed_at_take (ids_created steps) arrivals id steps
  passed-same id = by_take (takes_id ids id step) (takes-none id)
    where
      by_take : (b : Bool) → b ≡ false → (if b then length (deliveries steps arrivals step.place id) else passed_at_take ids arrivals id steps) ≡ passed_at_take (ids_created steps) arrivals id steps
      by_take true e = cc
      by_take false e = ap (λ (some : List NotificationId). passed_at_take some arrivals id steps) ids-same

  count-same : (id : NotificationId) → takes_of (step ∷ steps) id ≡ takes_of steps id
  count-same id = by_take (takes_id ids id step) (takes-none id)
    where
      by_take : (b : Bool) → b ≡ false → (if b then 1 else 0) + count_taken ids id steps ≡ takes_of steps id
      by_take true e = cc
      by_take false e = (let none : 0 + count_taken ids id steps ≡ count_taken ids id steps = omega arith in none) ∙ ap (λ (some : List NotificationId). count_taken some id steps) ids-same

  abbrev pick : NotificationId → ℕ → ℕ → List NotificationResult → Option NotificationResult
  pick id passed taken results = if replaces options.signal_delivery id then last_of (drop passed results) else slice_get results taken

  pub front-same : (place : ℕ) (id : NotificationId) → front options (step ∷ steps) arrivals place id ≡ front options steps arrivals place id
  front-same place id =
      ap (λ (passed : ℕ). pick id passed (takes_of (step ∷ steps) id) (deliveries (step ∷ steps) arrivals place id)) (passed-same id)
      ∙ ap (λ (taken : ℕ). pick id (passed_at_take (ids_created steps) arrivals id steps) taken (deliveries (step ∷ steps) arrivals place id)) (count-same id)
      ∙ ap (λ (known : List Arrival). pick id (passed_at_take (ids_created steps) arrivals id steps) (takes_of steps id) (results_for (known ++ take place arrivals) id)) known-same

  pub stands-same : (handle : ℕ) → stands_for (step ∷ steps) handle ≡ stands_for steps handle
  stands-same handle = by_take (takes_handle handle step) (ap (handle_is handle) takes)
    where
      by_take : (b : Bool) → b ≡ false
          → (if handle == cancel_handle then Some cancel_id else (if (b || list_any (takes_handle handle) steps) then None else id_of_handle ids handle)) ≡ stands_for steps handle
      by_take true e = cc
      by_take false e = ap (λ (some : List NotificationId). if handle == cancel_handle then Some cancel_id else (if list_any (takes_handle handle) steps then None else id_of_handle some handle)) ids-same

  -- so a take behind it brings what is in front
  pub brings : (handle place : ℕ) (id : NotificationId) → stands_for steps handle ≡ Some id → is_some (front options steps arrivals place id) ≡ true
      → Answer.Taken (option_map as_taken (option_and_then (front options (step ∷ steps) arrivals place) (stands_for (step ∷ steps) handle))) ≡ Answer.Taken None → ⊥
  brings handle place id stands there none =
      by_front (front options steps arrivals place id) there
      (ap (λ (o : Option NotificationResult). option_map as_taken o) (sym (front-same place id))
      ∙ ap (λ (o : Option NotificationId). option_map as_taken (option_and_then (front options (step ∷ steps) arrivals place) o)) (sym (stands-same handle ∙ stands))
      ∙ (let e : option_map as_taken (option_and_then (front options (step ∷ steps) arrivals place) (stands_for (step ∷ steps) handle)) ≡ None = cc in e))
    where
      by_front : (o : Option NotificationResult) → is_some o ≡ true → option_map as_taken o ≡ None → ⊥
      by_front None e f = cc
      by_front (Some result) e f = cc

looked : (options : RunOptions) (steps : List Step) (arrivals : List Arrival) (handle : ℕ) → is_some (front_of_handle options steps arrivals handle) ≡ true
    → (id : NotificationId) × (stands_for steps handle ≡ Some id) × (is_some (front options steps arrivals (place_of steps) id) ≡ true)
looked options steps arrivals handle seen = by_id (stands_for steps handle) refl seen
  where
    by_id : (o : Option NotificationId) → stands_for steps handle ≡ o → is_some (option_and_then (front options steps arrivals (place_of steps)) o) ≡ true
        → (id : NotificationId) × (stands_for steps handle ≡ Some id) × (is_some (front options steps arrivals (place_of steps) id) ≡ true)
    by_id None stands e = cc
    by_id (Some id) stands e = (id, stands, e)

pub takes_bring : TakesBring
takes_bring = record {
  awaited = λ invocation steps arrivals handle place id stands woken none.
      brings invocation.options steps arrivals (record { call = Call.Await (Single handle); answer = Answer.Woken; requests = []; place = place }) refl refl refl
      handle place id stands (woken-front invocation.options steps arrivals place handle id stands woken) none;
  seen = λ invocation steps arrivals handle seen none.
      let found : is_some (front_of_handle invocation.options steps arrivals handle) ≡ true = cc in
      let (id, stands, there) = looked invocation.options steps arrivals handle found in
      brings invocation.options steps arrivals (record { call = Call.IsCompleted handle; answer = Answer.Completed true; requests = []; place = place_of steps }) refl refl refl
      handle (place_of steps) id stands there none;
}
