-- A suspended tree wakes under the arrivals that come later where the run over all of them goes past its await, and only there.
use Rattle.std.proofs.Common.{ℕ, zero, suc, ◌+◌, ◌-◌, ◌≤◌, ◌<◌, arith, eq-or-lt_of_le, ◌≡◌, refl, sym, ap, ap₂, subst, ◌∙◌, ◌⊎◌, inl, inr, Bool, true, false, true≢false, ◌&&◌, ◌||◌, if◌then◌else◌, List, [], ◌∷◌, ◌++◌, length, length-append, take, map, filter, Option, Some, None, is_some, option_map}
use Rattle.std.proofs.Math.Path.{fun_ext}
use Rattle.std.specs.List.{find, list_any, list_all}
use Rattle.journal_model.specs.declared.notification.NotificationId.{NotificationId}
use Rattle.journal_model.specs.declared.notification.NotificationId.TheVariants.{CompletionId}
use Rattle.journal_model.specs.declared.notification.NotificationResult.{NotificationResult}
use Rattle.journal_model.specs.declared.notification.NotificationResult.TheVariants as result
use Rattle.journal_model.specs.declared.options.RunOptions.{RunOptions}
use Rattle.journal_model.specs.Notification.{Arrival, same_id, cancel_id}
use Rattle.journal_model.specs.AwaitTree.{AwaitTree, Single, AwaitState, Pending, is_completed, is_awake}
use Rattle.journal_model.specs.declared.value.Value.{Value}
use Rattle.journal_model.specs.Value.{as_taken}
use Rattle.journal_model.specs.Request.{Request}
use Rattle.journal_model.specs.History.{Step, place_of, next_completion, ids_created, WithinPlaces}
use Rattle.journal_model.specs.Delivery.{known_result, known_results, front, first_front, or_else, state_of_result, leaf_state}
use Rattle.journal_model.specs.Await.{ends_awaits, last_taken, least_from, is_awake_at, awake_place, awaited_ids, is_cancelled_at, tracked_children, child_result, all_known_at, children_place, first_unknown, child_id, AwaitOutcome, WaitsFor, WokenAt, cancellation_outcome, outcome_from, await_outcome}
use Rattle.journal_model.specs.PrunedTrees.{pruned, earlier_or_later, state_of_some}
use Rattle.journal_model.specs.Attempt.{result_of, first_result}
use Rattle.journal_model.proofs.Extension.{place_of-within, least_from-found, least_from-agree, is_awake_at-more, is_cancelled_at-more, all_known_at-more}
use Rattle.journal_laws.proofs.Leaving.{and-true, or-true_left, awake-more}
use Rattle.journal_laws.proofs.Pruning.{pruned-awake}
use Rattle.run_laws.proofs.Fronts.{results_of, results-append, first_beyond, first_before, come_beyond, front-none}
use Rattle.run_laws.proofs.Tallies.{AreSound, results-take, tally_within}
use Rattle.run_laws.proofs.WaitingRuns.{is_over}

-- ---- searches

pub least-none : (test : ℕ → Bool) (from more : ℕ) → least_from test from more ≡ None → (q : ℕ) → from ≤ q → q ≤ from + more → test q ≡ false
least-none test from zero e q low high = at_test (test from) refl e
  where
    at_test : (b : Bool) → test from ≡ b → (if b then Some from else None) ≡ None → test q ≡ false
    at_test true f e = cc
    at_test false f e = let same : q ≡ from = omega arith in ap test same ∙ f
least-none test from (suc more) e q low high = at_test (test from) refl e (least-none test (suc from) more)
  where
    at_test : (b : Bool) → test from ≡ b → (if b then Some from else least_from test (suc from) more) ≡ None
        → (least_from test (suc from) more ≡ None → (q : ℕ) → suc from ≤ q → q ≤ suc from + more → test q ≡ false) → test q ≡ false
    at_test true f e later = cc
    at_test false f e later = elim (eq-or-lt_of_le low) [ inl same ↦ ap test (sym same) ∙ f | inr above ↦ later e q above (omega arith) ]

find-take : (id : NotificationId) (n : ℕ) (arrivals : List Arrival) (result : NotificationResult) → first_result (take n arrivals) id ≡ Some result → first_result arrivals id ≡ Some result
find-take id zero arrivals result e = cc
find-take id (suc n) [] result e = e
find-take id (suc n) (x ∷ xs) result e = by_test (same_id x.id id) e (find-take id n xs result)
  where
    by_test : (b : Bool) → result_of (if b then Some x else find (λ (arrival : Arrival). same_id arrival.id id) (take n xs)) ≡ Some result
        → (first_result (take n xs) id ≡ Some result → first_result xs id ≡ Some result)
        → result_of (if b then Some x else find (λ (arrival : Arrival). same_id arrival.id id) xs) ≡ Some result
    by_test true e later = e
    by_test false e later = later e

completed_some : (r : NotificationResult) → is_completed (state_of_result (Some r)) ≡ true
completed_some result.Void = refl
completed_some (result.Value bytes) = refl
completed_some (result.Failure failure) = refl
completed_some (result.InvocationId id) = refl
completed_some (result.StateKeys keys) = refl

all-taken : {A : Type 0} (xs : List A) → take (length xs) xs ≡ xs
all-taken [] = refl
all-taken {A} (x ∷ xs) = ap (λ (rest : List A). x ∷ rest) (all-taken xs)

-- the states of ids by the first of these arrivals
abbrev pub states_by : List Arrival → NotificationId → AwaitState
states_by arrivals id = state_of_result (first_result arrivals id)

module _ (options : RunOptions) (steps : List Step) (first later : List Arrival) (within : WithinPlaces (length first) steps) (sound : AreSound options first steps) where
  abbrev early : Option NotificationId → AwaitState
  early = leaf_state options steps first (place_of steps) (length first)

  abbrev both : Option NotificationId → AwaitState
  both = earlier_or_later early (state_of_some (states_by later))

  low : place_of steps ≤ length first
  low = place_of-within (length first) steps within

  either_is : (before after : AwaitState) → is_completed before ≡ true → (if is_completed before then before else after) ≡ before
  either_is before after e = rw e refl

  -- a leaf at a later place is pending still, or as it is under both what has come and what comes later
  leaf_grows : (count : ℕ) → count ≤ length later → (leaf : Option NotificationId)
      → (leaf_state options steps (first ++ later) (place_of steps) (length first + count) leaf ≡ Pending)
      ⊎ (both leaf ≡ leaf_state options steps (first ++ later) (place_of steps) (length first + count) leaf)
  leaf_grows count high None = inl refl
  leaf_grows count high (Some id) = by_front (first_front options steps first (place_of steps) (length first) id) refl
    where
      by_front : (o : Option NotificationResult) → first_front options steps first (place_of steps) (length first) id ≡ o
          → (leaf_state options steps (first ++ later) (place_of steps) (length first + count) (Some id) ≡ Pending)
          ⊎ (both (Some id) ≡ leaf_state options steps (first ++ later) (place_of steps) (length first + count) (Some id))
      by_front (Some r) e =
          let now : first_front options steps (first ++ later) (place_of steps) (length first + count) id ≡ Some r =
          first_before options steps first later within id (tally_within options first steps sound id) (place_of steps) count r low e in
          inr (ap (λ (o : Option NotificationResult). if is_completed (state_of_result o) then state_of_result o else states_by later id) e
          ∙ either_is (state_of_result (Some r)) (states_by later id) (completed_some r)
          ∙ sym (ap state_of_result now))
      by_front None e = by_result (first_result (take count later) id) refl
        where
          now : first_front options steps (first ++ later) (place_of steps) (length first + count) id ≡ first_result (take count later) id
          now = first_beyond options steps first later within id (tally_within options first steps sound id) (place_of steps) count low high e

          by_result : (o : Option NotificationResult) → first_result (take count later) id ≡ o
              → (leaf_state options steps (first ++ later) (place_of steps) (length first + count) (Some id) ≡ Pending)
              ⊎ (both (Some id) ≡ leaf_state options steps (first ++ later) (place_of steps) (length first + count) (Some id))
          by_result None f = inl (ap state_of_result (now ∙ f))
          by_result (Some r) f =
              inr (ap (λ (o : Option NotificationResult). if is_completed (state_of_result o) then state_of_result o else states_by later id) e
              ∙ ap state_of_result (find-take id count later r f)
              ∙ sym (ap state_of_result (now ∙ f)))

  -- at the last place it is that
  leaf_whole : (leaf : Option NotificationId) → leaf_state options steps (first ++ later) (place_of steps) (length first + length later) leaf ≡ both leaf
  leaf_whole None = refl
  leaf_whole (Some id) = by_front (first_front options steps first (place_of steps) (length first) id) refl
    where
      by_front : (o : Option NotificationResult) → first_front options steps first (place_of steps) (length first) id ≡ o
          → leaf_state options steps (first ++ later) (place_of steps) (length first + length later) (Some id) ≡ both (Some id)
      by_front (Some r) e =
          let now : first_front options steps (first ++ later) (place_of steps) (length first + length later) id ≡ Some r =
          first_before options steps first later within id (tally_within options first steps sound id) (place_of steps) (length later) r low e in
          ap state_of_result now
          ∙ sym (ap (λ (o : Option NotificationResult). if is_completed (state_of_result o) then state_of_result o else states_by later id) e
          ∙ either_is (state_of_result (Some r)) (states_by later id) (completed_some r))
      by_front None e =
          let now : first_front options steps (first ++ later) (place_of steps) (length first + length later) id ≡ first_result (take (length later) later) id =
          first_beyond options steps first later within id (tally_within options first steps sound id) (place_of steps) (length later) low (omega arith) e in
          ap state_of_result (now ∙ ap (λ (some : List Arrival). first_result some id) (all-taken later))
          ∙ sym (ap (λ (o : Option NotificationResult). if is_completed (state_of_result o) then state_of_result o else states_by later id) e)

  module _ (tree : AwaitTree (Option NotificationId)) where
    -- what waits is not awake under what has come
    asleep : awake_place options steps first tree ≡ None → is_awake tree early ≡ false
    asleep e = least-none (is_awake_at options steps first tree (place_of steps)) (place_of steps) (length first - place_of steps) e (length first) low (omega (arith, low))

    -- where it is awake at some place under all, its pruned tree is awake under what comes later
    pub woken_later : awake_place options steps first tree ≡ None → (place : ℕ) → awake_place options steps (first ++ later) tree ≡ Some place
        → is_awake (pruned tree early) (state_of_some (states_by later)) ≡ true
    woken_later e place found =
        let (is, high) = least_from-found (is_awake_at options steps (first ++ later) tree (place_of steps)) (place_of steps) (length (first ++ later) - place_of steps) place found in
        let sum = length-append first later in
        pruned-awake early (state_of_some (states_by later)) tree (asleep e) ∙ by_order (order place (length first)) is.above is.passes (omega (arith, low))
      where
        order : (n m : ℕ) → (n ≤ m) ⊎ (m < n)
        order zero m = inl (omega arith)
        order (suc n) zero = inr (omega arith)
        order (suc n) (suc m) = elim (order n m) [ inl low ↦ inl (omega arith) | inr high ↦ inr (omega arith) ]

        by_order : (place ≤ length first) ⊎ (length first < place) → place_of steps ≤ place → is_awake_at options steps (first ++ later) tree (place_of steps) place ≡ true
            → place ≤ length first + length later → is_awake tree both ≡ true
        by_order (inl under) above passes high =
            let before : is_awake_at options steps first tree (place_of steps) place ≡ false =
            least-none (is_awake_at options steps first tree (place_of steps)) (place_of steps) (length first - place_of steps) e place above (omega (arith, low)) in
            absurd (true≢false (sym passes ∙ is_awake_at-more options steps first later within tree (place_of steps) place above under ∙ before))
        by_order (inr beyond) above passes high =
            let count = place - length first in
            let there : length first + (place - length first) ≡ place = omega arith in
            let awake_there : is_awake_at options steps (first ++ later) tree (place_of steps) (length first + count) ≡ true =
            ap (is_awake_at options steps (first ++ later) tree (place_of steps)) there ∙ passes in
            awake-more (leaf_state options steps (first ++ later) (place_of steps) (length first + count)) both (leaf_grows count (omega arith)) tree awake_there

    -- where its pruned tree is awake under what comes later, it is awake at some place under all
    pub wakes_later : awake_place options steps first tree ≡ None → is_awake (pruned tree early) (state_of_some (states_by later)) ≡ true
        → awake_place options steps (first ++ later) tree ≡ None → ⊥
    wakes_later e awake none =
        let sum = length-append first later in
        let last : length first + length later ≡ length (first ++ later) = omega arith in
        let there : is_awake tree both ≡ true = sym (pruned-awake early (state_of_some (states_by later)) tree (asleep e)) ∙ awake in
        let at_last : is_awake_at options steps (first ++ later) tree (place_of steps) (length first + length later) ≡ true =
        ap (is_awake tree) (fun_ext leaf_whole) ∙ there in
        let never : is_awake_at options steps (first ++ later) tree (place_of steps) (length first + length later) ≡ false =
        least-none (is_awake_at options steps (first ++ later) tree (place_of steps)) (place_of steps) (length (first ++ later) - place_of steps) none (length first + length later) (omega (arith, low)) (omega (arith, low)) in
        true≢false (sym at_last ∙ never)

  -- ---- a cancellation that waits for its children

  unknown_none : (children : List ℕ) → first_unknown options steps first children ≡ None → all_known_at options steps first children (length first) ≡ true
  unknown_none [] e = refl
  unknown_none (n ∷ children) e = by_test (is_some (child_result options steps first (length first) n)) e (unknown_none children)
    where
      by_test : (b : Bool) → (if b then first_unknown options steps first children else Some n) ≡ None
          → (first_unknown options steps first children ≡ None → all_known_at options steps first children (length first) ≡ true)
          → (b && all_known_at options steps first children (length first)) ≡ true
      by_test true e later = later e
      by_test false e later = cc

  unknown_some : (children : List ℕ) (n : ℕ) → first_unknown options steps first children ≡ Some n
      → (is_some (child_result options steps first (length first) n) ≡ false) × ((test : ℕ → Bool) → list_all test children ≡ true → test n ≡ true)
  unknown_some [] n e = absurd (true≢false (ap is_some (sym e)))
  unknown_some (m ∷ children) n e = by_test (is_some (child_result options steps first (length first) m)) refl e (unknown_some children n)
    where
      by_test : (b : Bool) → is_some (child_result options steps first (length first) m) ≡ b → (if b then first_unknown options steps first children else Some m) ≡ Some n
          → (first_unknown options steps first children ≡ Some n
          → (is_some (child_result options steps first (length first) n) ≡ false) × ((test : ℕ → Bool) → list_all test children ≡ true → test n ≡ true))
          → (is_some (child_result options steps first (length first) n) ≡ false) × ((test : ℕ → Bool) → list_all test (m ∷ children) ≡ true → test n ≡ true)
      by_test true f e later =
          let (unknown, among) = later e in
          (unknown, λ test all. among test (and-true (test m) (list_all test children) all).1)
      by_test false f e later =
          let same : m ≡ n = cc in (
            subst (λ (k : ℕ). is_some (child_result options steps first (length first) k) ≡ false) same f,
            λ test all. subst (λ (k : ℕ). test k ≡ true) same (and-true (test m) (list_all test children) all).0,
          )

  known_front : (taken : Option Value) (in_front : Option NotificationResult) → is_some (or_else taken (option_map as_taken in_front)) ≡ false → (is_some taken ≡ false) × (in_front ≡ None)
  known_front None None e = (refl, refl)
  known_front None (Some result) e = absurd (true≢false e)
  known_front (Some value) in_front e = absurd (true≢false e)

  front_known : (taken : Option Value) (in_front : Option NotificationResult) → is_some taken ≡ false → is_some (or_else taken (option_map as_taken in_front)) ≡ true → is_some in_front ≡ true
  front_known None None e f = f
  front_known None (Some result) e f = refl
  front_known (Some value) in_front e f = absurd (true≢false e)

  order : (n m : ℕ) → (n ≤ m) ⊎ (m < n)
  order zero m = inl (omega arith)
  order (suc n) zero = inr (omega arith)
  order (suc n) (suc m) = elim (order n m) [ inl low ↦ inl (omega arith) | inr high ↦ inr (omega arith) ]

  abbrev children : List ℕ
  children = tracked_children options.implicit_cancellation steps

  -- a child that is missing then comes later, if all are known at some place
  pub child_later : (place : ℕ) → place ≤ length first → children_place options steps first place ≡ None → (r : ℕ) → children_place options steps (first ++ later) place ≡ Some r
      → is_awake (pruned (Single (child_id (first_unknown options steps first children))) early) (state_of_some (states_by later)) ≡ true
  child_later place under none r found = by_unknown (first_unknown options steps first children) refl
    where
      unknown_at : (q : ℕ) → place ≤ q → q ≤ length first → all_known_at options steps first children q ≡ false
      unknown_at q above below = least-none (all_known_at options steps first children) place (length first - place) none q above (omega arith)

      by_unknown : (o : Option ℕ) → first_unknown options steps first children ≡ o → is_awake (Single (child_id o)) (state_of_some (states_by later)) ≡ true
      by_unknown None e = absurd (true≢false (sym (unknown_none children e) ∙ unknown_at (length first) under (omega arith)))
      by_unknown (Some n) e =
          let (is, high) = least_from-found (all_known_at options steps (first ++ later) children) place (length (first ++ later) - place) r found in
          let sum = length-append first later in
          let (unknown, among) = unknown_some children n e in
          let (untaken, absent) = known_front (last_taken (ids_created steps) (CompletionId n) steps) (front options steps first (length first) (CompletionId n)) unknown in
          let known : is_some (child_result options steps (first ++ later) r n) ≡ true = among (λ m. is_some (child_result options steps (first ++ later) r m)) is.passes in
          let in_front : is_some (front options steps (first ++ later) r (CompletionId n)) ≡ true =
          front_known (last_taken (ids_created steps) (CompletionId n) steps) (front options steps (first ++ later) r (CompletionId n)) untaken known in
          or-true_left (is_completed (states_by later (CompletionId n))) false
          (by_order n absent in_front is.passes is.above (omega (arith, high, sum)) (order r (length first)))
        where
          completed : (o : Option NotificationResult) (id : NotificationId) (count : ℕ) → first_result (take count later) id ≡ o → is_some o ≡ true → is_completed (states_by later id) ≡ true
          completed None id count e f = absurd (true≢false (sym f))
          completed (Some result) id count e f = ap (λ (o : Option NotificationResult). is_completed (state_of_result o)) (find-take id count later result e) ∙ completed_some result

          by_order : (n : ℕ) → front options steps first (length first) (CompletionId n) ≡ None → is_some (front options steps (first ++ later) r (CompletionId n)) ≡ true
              → all_known_at options steps (first ++ later) children r ≡ true → place ≤ r → r ≤ length first + length later
              → (r ≤ length first) ⊎ (length first < r) → is_completed (states_by later (CompletionId n)) ≡ true
          by_order n absent in_front passes above high (inl below) =
              absurd (true≢false (sym passes ∙ all_known_at-more options steps first later within children r below ∙ unknown_at r above below))
          by_order n absent in_front passes above high (inr beyond) =
              let count = r - length first in
              let there : r ≡ length first + (r - length first) = omega arith in
              let come : is_some (first_result (take count later) (CompletionId n)) ≡ true =
              come_beyond options steps first later within (CompletionId n) (tally_within options first steps sound (CompletionId n)) count absent
              (subst (λ (q : ℕ). is_some (front options steps (first ++ later) q (CompletionId n)) ≡ true) there in_front) in
              completed (first_result (take count later) (CompletionId n)) (CompletionId n) count refl come

  -- ---- without a cancellation

  results-none : (id : NotificationId) (arrivals : List Arrival) → list_any (λ (arrival : Arrival). same_id arrival.id id) arrivals ≡ false → results_of id arrivals ≡ []
  results-none id [] e = refl
  results-none id (x ∷ xs) e = by_test (same_id x.id id) e (results-none id xs)
    where
      by_test : (b : Bool) → (b || list_any (λ (arrival : Arrival). same_id arrival.id id) xs) ≡ false
          → (list_any (λ (arrival : Arrival). same_id arrival.id id) xs ≡ false → results_of id xs ≡ [])
          → map (λ (arrival : Arrival). arrival.result) (if b then x ∷ filter (λ (arrival : Arrival). same_id arrival.id id) xs else filter (λ (arrival : Arrival). same_id arrival.id id) xs) ≡ []
      by_test true e later = cc
      by_test false e later = later e

  no-length : (results : List NotificationResult) → length results ≤ 0 → results ≡ []
  no-length [] low = refl
  no-length (result ∷ results) low = absurd (omega arith)

  known_uncancelled : (n : ℕ) (requests : List Request) → results_of cancel_id (known_result n requests) ≡ []
  known_uncancelled n (Request.GetEagerState key value name ∷ more) = refl
  known_uncancelled n (Request.GetEagerStateKeys keys name ∷ more) = refl
  known_uncancelled n _ = refl

  all_uncancelled : (some : List Step) → results_of cancel_id (known_results some) ≡ []
  all_uncancelled [] = refl
  all_uncancelled (step ∷ earlier) =
      results-append cancel_id (known_results earlier) (known_result (next_completion earlier) step.requests)
      ∙ ap₂ (λ (xs ys : List NotificationResult). xs ++ ys) (all_uncancelled earlier) (known_uncancelled (next_completion earlier) step.requests)

  pub uncancelled : (place : ℕ) → list_any (λ (arrival : Arrival). same_id arrival.id cancel_id) (first ++ later) ≡ false → is_cancelled_at options steps (first ++ later) place ≡ false
  uncancelled place none =
      let nothing : results_of cancel_id (take place (first ++ later)) ≡ [] =
      no-length (results_of cancel_id (take place (first ++ later)))
      (subst (λ (results : List NotificationResult). length (results_of cancel_id (take place (first ++ later))) ≤ length results) (results-none cancel_id (first ++ later) none)
      (results-take cancel_id place (first ++ later))) in
      ap (λ (o : Option NotificationResult). ends_awaits options.implicit_cancellation && is_some o)
      (front-none options steps (first ++ later) place cancel_id
      (results-append cancel_id (known_results steps) (take place (first ++ later))
      ∙ ap₂ (λ (xs ys : List NotificationResult). xs ++ ys) (all_uncancelled steps) nothing))
      ∙ never (ends_awaits options.implicit_cancellation)
    where
      never : (b : Bool) → (b && false) ≡ false
      never true = refl
      never false = refl

  -- ---- what an await comes to

  waits_same : (a b : AwaitTree (Option NotificationId)) → WaitsFor a ≡ WaitsFor b → a ≡ b
  waits_same a b e = cc

  over_not : (tree : AwaitTree (Option NotificationId)) (outcome : AwaitOutcome) → is_over outcome ≡ true → outcome ≡ WaitsFor tree → ⊥
  over_not tree outcome over e = true≢false (sym over ∙ ap is_over e)

  module _ (asked : AwaitTree ℕ) (tree : AwaitTree (Option NotificationId)) (waits : await_outcome options steps first asked ≡ WaitsFor tree) where
    abbrev ids : AwaitTree (Option NotificationId)
    ids = awaited_ids options steps asked

    -- where it is over with all arrivals, what is left of its tree is awake under those that come later
    pub over_awake : is_over (await_outcome options steps (first ++ later) asked) ≡ true → is_awake (pruned tree early) (state_of_some (states_by later)) ≡ true
    over_awake over = by_found (awake_place options steps first ids) refl (awake_place options steps (first ++ later) ids) refl waits over
      where
        by_found : (found : Option ℕ) → awake_place options steps first ids ≡ found → (all : Option ℕ) → awake_place options steps (first ++ later) ids ≡ all
            → outcome_from options steps first ids found ≡ WaitsFor tree → is_over (outcome_from options steps (first ++ later) ids all) ≡ true
            → is_awake (pruned tree early) (state_of_some (states_by later)) ≡ true
        by_found None e None f waits over = absurd (true≢false (sym over))
        by_found None e (Some place) f waits over =
            subst (λ (t : AwaitTree (Option NotificationId)). is_awake (pruned t early) (state_of_some (states_by later)) ≡ true) (waits_same ids tree waits) (woken_later ids e place f)
        by_found (Some place) e all f waits over =
            let found = least_from-found (is_awake_at options steps first ids (place_of steps)) (place_of steps) (length first - place_of steps) place e in
            let sum = length-append first later in
            let under : place ≤ length first = omega (arith, found.1, low) in
            let there : awake_place options steps (first ++ later) ids ≡ Some place =
            least_from-agree (is_awake_at options steps first ids (place_of steps)) (is_awake_at options steps (first ++ later) ids (place_of steps)) (place_of steps)
            (length first - place_of steps) (length (first ++ later) - place_of steps) place
            (λ q above below. is_awake_at-more options steps first later within ids (place_of steps) q above (omega (arith, low))) e (omega (arith, sum)) in
            let over_there : is_over (outcome_from options steps (first ++ later) ids (Some place)) ≡ true =
            ap (λ (o : Option ℕ). is_over (outcome_from options steps (first ++ later) ids o)) (sym there ∙ f) ∙ over in
            by_cancel place under (is_cancelled_at options steps first place) refl (children_place options steps first place) refl
            (children_place options steps (first ++ later) place) refl waits
            (ap (λ (b : Bool). is_over (if b then cancellation_outcome options steps (first ++ later) (children_place options steps (first ++ later) place) else WokenAt place))
            (sym (is_cancelled_at-more options steps first later within place under)) ∙ over_there)
          where
            by_cancel : (place : ℕ) → place ≤ length first → (b : Bool) → is_cancelled_at options steps first place ≡ b
                → (some : Option ℕ) → children_place options steps first place ≡ some
                → (all : Option ℕ) → children_place options steps (first ++ later) place ≡ all
                → (if b then cancellation_outcome options steps first some else WokenAt place) ≡ WaitsFor tree
                → is_over (if b then cancellation_outcome options steps (first ++ later) all else WokenAt place) ≡ true
                → is_awake (pruned tree early) (state_of_some (states_by later)) ≡ true
            by_cancel place under false c some d all g waits over = absurd (over_not tree (WokenAt place) refl waits)
            by_cancel place under true c (Some r) d all g waits over = absurd (over_not tree (cancellation_outcome options steps first (Some r)) refl waits)
            by_cancel place under true c None d None g waits over = absurd (true≢false (sym over))
            by_cancel place under true c None d (Some r) g waits over =
                subst (λ (t : AwaitTree (Option NotificationId)). is_awake (pruned t early) (state_of_some (states_by later)) ≡ true)
                (waits_same (Single (child_id (first_unknown options steps first children))) tree waits)
                (child_later place under d r g)

    -- and where nothing was cancelled, it is over where that is awake
    pub awake_over : list_any (λ (arrival : Arrival). same_id arrival.id cancel_id) (first ++ later) ≡ false → is_awake (pruned tree early) (state_of_some (states_by later)) ≡ true
        → is_over (await_outcome options steps (first ++ later) asked) ≡ true
    awake_over none awake = by_found (awake_place options steps first ids) refl (awake_place options steps (first ++ later) ids) refl waits
      where
        by_found : (found : Option ℕ) → awake_place options steps first ids ≡ found → (all : Option ℕ) → awake_place options steps (first ++ later) ids ≡ all
            → outcome_from options steps first ids found ≡ WaitsFor tree → is_over (outcome_from options steps (first ++ later) ids all) ≡ true
        by_found None e None f waits =
            absurd (wakes_later ids e
            (subst (λ (t : AwaitTree (Option NotificationId)). is_awake (pruned t early) (state_of_some (states_by later)) ≡ true) (sym (waits_same ids tree waits)) awake) f)
        by_found None e (Some place) f waits =
            ap (λ (b : Bool). is_over (if b then cancellation_outcome options steps (first ++ later) (children_place options steps (first ++ later) place) else WokenAt place)) (uncancelled place none)
        by_found (Some place) e all f waits =
            let found = least_from-found (is_awake_at options steps first ids (place_of steps)) (place_of steps) (length first - place_of steps) place e in
            let under : place ≤ length first = omega (arith, found.1, low) in
            absurd (over_not tree (WokenAt place) refl
            (sym (ap (λ (b : Bool). if b then cancellation_outcome options steps first (children_place options steps first place) else WokenAt place)
            (sym (is_cancelled_at-more options steps first later within place under) ∙ uncancelled place none)) ∙ waits))
