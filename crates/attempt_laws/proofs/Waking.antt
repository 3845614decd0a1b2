-- An await that looks at one notification a step wakes at the least place, however often it was asked before.
use Rattle.std.proofs.Common.{◌≡◌, refl, sym, ap, ap₂, ◌∙◌, subst, ℕ, zero, suc, ◌+◌, ◌-◌, ◌≤◌, ◌<◌, arith, le_refl, eq-or-lt_of_le, Bool, true, false, ◌||◌, if◌then◌else◌, List, [], ◌∷◌, ◌++◌, append_assoc, length, length-append, take, drop, slice_get, Option, Some, None, ◌⊎◌, inl, inr}
use Rattle.std.proofs.Math.Path.{fun_ext}
use Rattle.std.specs.List.{list_any}
use Rattle.journal_model.specs.declared.notification.NotificationId.{NotificationId}
use Rattle.journal_model.specs.declared.notification.NotificationId.TheVariants.{CompletionId, SignalId, SignalName}
use Rattle.journal_model.specs.declared.notification.NotificationResult.{NotificationResult}
use Rattle.journal_model.specs.Notification.{Arrival}
use Rattle.journal_model.specs.AwaitTree.{AwaitState, AwaitTree, Single, Combined, AwaitTrees, no_trees, and_trees, is_completed, combined_state, await_state, child_states, has_ended, has_ended_node, some_has_ended_node, is_awake, map_leaves, map_leaves_of_trees}
use Rattle.journal_model.specs.declared.options.RunOptions.{RunOptions}
use Rattle.journal_model.specs.declared.options.SignalDelivery.TheVariants.{Queued}
use Rattle.journal_model.specs.Options.{replaces}
use Rattle.journal_model.specs.History.{Step, ids_created, stands_for}
use Rattle.journal_model.specs.Delivery.{results_for, known_results, deliveries, takes_of, passed_at_take, last_of, front, or_else, first_found, leaf_state, state_of_result}
use Rattle.journal_model.specs.Await.{least_from}
use Rattle.journal_model.specs.PrunedTrees.{lowered, pruned, pruned_children, earlier_or_later}
use Rattle.journal_laws.proofs.Pruning.{pruned-awake, pruned-again}
use Rattle.journal_laws.proofs.Leaving.{or-false}
use Rattle.attempt_model.specs.Results.{Ready, Slots, ready_after, handle_state, Resolution, Awake, Asleep, resolution_of}
use Rattle.attempt_model.specs.Simulation.{TablesStand}
use Rattle.attempt_laws.proofs.Tables.{from_here, all_read, front_states, leaves_in_front, results-append, arrive}

-- trees with other leaves
mutual
  state-map : {A B : Type 0} (f : A → B) (leaves : B → AwaitState) (t : AwaitTree A) → await_state (map_leaves f t) leaves ≡ await_state t (λ a. leaves (f a))
  state-map f leaves (Single leaf) = refl
  state-map f leaves (Combined combinator children) = ap (combined_state combinator) (states-map f leaves children)

  states-map : {A B : Type 0} (f : A → B) (leaves : B → AwaitState) (ts : AwaitTrees A) → child_states (map_leaves_of_trees f ts) leaves ≡ child_states ts (λ a. leaves (f a))
  states-map f leaves no_trees = refl
  states-map f leaves (and_trees t ts) = ap₂ (λ (x : AwaitState) (xs : List AwaitState). x ∷ xs) (state-map f leaves t) (states-map f leaves ts)

mutual
  ended-map : {A B : Type 0} (f : A → B) (leaves : B → AwaitState) (t : AwaitTree A) → has_ended_node (map_leaves f t) leaves ≡ has_ended_node t (λ a. leaves (f a))
  ended-map f leaves (Single leaf) = refl
  ended-map f leaves (Combined combinator children) =
      ap₂ (λ (xs : List AwaitState) (b : Bool). has_ended combinator xs || b) (states-map f leaves children) (some-map f leaves children)

  some-map : {A B : Type 0} (f : A → B) (leaves : B → AwaitState) (ts : AwaitTrees A) → some_has_ended_node (map_leaves_of_trees f ts) leaves ≡ some_has_ended_node ts (λ a. leaves (f a))
  some-map f leaves no_trees = refl
  some-map f leaves (and_trees t ts) = ap₂ (λ (a b : Bool). a || b) (ended-map f leaves t) (some-map f leaves ts)

pub awake-map : {A B : Type 0} (f : A → B) (leaves : B → AwaitState) (t : AwaitTree A) → is_awake (map_leaves f t) leaves ≡ is_awake t (λ a. leaves (f a))
awake-map f leaves t = ap₂ (λ (x : AwaitState) (b : Bool). is_completed x || b) (state-map f leaves t) (ended-map f leaves t)

at_child : {A B : Type 0} (f : A → B) (leaves : B → AwaitState) (t : AwaitTree A) (ts : AwaitTrees A) (b : Bool)
    → pruned (map_leaves f t) leaves ≡ map_leaves f (pruned t (λ a. leaves (f a)))
    → pruned_children (map_leaves_of_trees f ts) leaves ≡ map_leaves_of_trees f (pruned_children ts (λ a. leaves (f a)))
    → (if b then pruned_children (map_leaves_of_trees f ts) leaves else and_trees (pruned (map_leaves f t) leaves) (pruned_children (map_leaves_of_trees f ts) leaves))
    ≡ map_leaves_of_trees f (if b then pruned_children ts (λ a. leaves (f a)) else and_trees (pruned t (λ a. leaves (f a))) (pruned_children ts (λ a. leaves (f a))))
at_child f leaves t ts true here later = later
at_child f leaves t ts false here later = ap₂ and_trees here later

mutual
  pub pruned-map : {A B : Type 0} (f : A → B) (leaves : B → AwaitState) (t : AwaitTree A) → pruned (map_leaves f t) leaves ≡ map_leaves f (pruned t (λ a. leaves (f a)))
  pruned-map f leaves (Single leaf) = refl
  pruned-map f leaves (Combined combinator children) =
      ap₂ Combined (ap (lowered combinator) (states-map f leaves children)) (pruned_children-map f leaves children)

  pruned_children-map : {A B : Type 0} (f : A → B) (leaves : B → AwaitState) (ts : AwaitTrees A)
      → pruned_children (map_leaves_of_trees f ts) leaves ≡ map_leaves_of_trees f (pruned_children ts (λ a. leaves (f a)))
  pruned_children-map f leaves no_trees = refl
  pruned_children-map f leaves (and_trees t ts) =
      rw (state-map f leaves t) (at_child f leaves t ts (is_completed (await_state t (λ a. leaves (f a)))) (pruned-map f leaves t) (pruned_children-map f leaves ts))

-- the least number that passes a test
pub least-some : (test : ℕ → Bool) (from more least : ℕ) → from ≤ least → least ≤ from + more → test least ≡ true
    → ((q : ℕ) → from ≤ q → q < least → test q ≡ false) → least_from test from more ≡ Some least
least-some test from zero least low high passes below =
    let same : from ≡ least = omega arith in
    let e : test from ≡ true = rw (← same) at passes in
    rw e (ap Some same)
least-some test from (suc more) least low high passes below = by_order (eq-or-lt_of_le low)
    (λ above. least-some test (suc from) more least above (omega arith) passes (λ q above. below q (omega arith)))
  where
    by_order : (from ≡ least) ⊎ (from < least) → (from < least → least_from test (suc from) more ≡ Some least)
        → (if test from then Some from else least_from test (suc from) more) ≡ Some least
    by_order (inl same) later = let e : test from ≡ true = rw (← same) at passes in rw e (ap Some same)
    by_order (inr above) later = rw (below from (le_refl from) above) (later above)

pub least-none : (test : ℕ → Bool) (from more : ℕ) → ((q : ℕ) → from ≤ q → q ≤ from + more → test q ≡ false) → least_from test from more ≡ None
least-none test from zero none = rw (none from (le_refl from) (omega arith)) refl
least-none test from (suc more) none = rw (none from (le_refl from) (omega arith)) (least-none test (suc from) more (λ q low high. none q (omega arith) (omega arith)))

-- what is found stays found
take-longer : {A : Type 0} (n m : ℕ) (xs : List A) → n ≤ m → (more : List A) × (take m xs ≡ take n xs ++ more)
take-longer zero m xs h = (take m xs, refl)
take-longer (suc n) zero xs h = absurd (omega arith)
take-longer (suc n) (suc m) [] h = ([], refl)
take-longer (suc n) (suc m) (x ∷ xs) h = let (more, e) = take-longer n m xs (omega arith) in (more, ap (λ ys. x ∷ ys) e)

take-whole : {A : Type 0} (xs : List A) → take (length xs) xs ≡ xs
take-whole [] = refl
take-whole (x ∷ xs) = ap (λ ys. x ∷ ys) (take-whole xs)

get-more : {A : Type 0} (xs ys : List A) (k : ℕ) (r : A) → slice_get xs k ≡ Some r → slice_get (xs ++ ys) k ≡ Some r
get-more [] ys k r e = cc
get-more (x ∷ xs) ys zero r e = e
get-more (x ∷ xs) ys (suc k) r e = get-more xs ys k r e

drop-none : (n : ℕ) → let empty : List NotificationResult = [] in drop n empty ≡ []
drop-none zero = refl
drop-none (suc n) = refl

last-more : (xs ys : List NotificationResult) (p : ℕ) (r : NotificationResult) → length (xs ++ ys) ≤ 1 → last_of (drop p xs) ≡ Some r → last_of (drop p (xs ++ ys)) ≡ Some r
last-more [] ys p r few e = let none : None ≡ Some r = sym (ap last_of (drop-none p)) ∙ e in cc
last-more (x ∷ []) [] p r few e = e
last-more (x ∷ []) (y ∷ ys) p r few e = absurd (omega arith)
last-more (x ∷ z ∷ xs) ys p r few e = absurd (omega arith)

module _ (options : RunOptions) (steps : List Step) (arrivals : List Arrival) (queued : options.signal_delivery ≡ Queued)
    (once : (n : ℕ) → length (results_for (known_results steps ++ arrivals) (CompletionId n)) ≤ 1) where
  deliveries-longer : (q more_q : ℕ) (id : NotificationId) → q ≤ more_q
      → (more : List NotificationResult) × (deliveries steps arrivals more_q id ≡ deliveries steps arrivals q id ++ more)
  deliveries-longer q more_q id h =
      let (more, e) = take-longer q more_q arrivals h in (
        results_for more id,
        ap (λ (some : List Arrival). results_for (known_results steps ++ some) id) e
            ∙ ap (λ (some : List Arrival). results_for some id) (sym (append_assoc (known_results steps) (take q arrivals) more))
            ∙ results-append (known_results steps ++ take q arrivals) more id,
      )

  few : (q n : ℕ) → q ≤ length arrivals → length (deliveries steps arrivals q (CompletionId n)) ≤ 1
  few q n h =
      let (more, e) = deliveries-longer q (length arrivals) (CompletionId n) h in
      let all : length (deliveries steps arrivals (length arrivals) (CompletionId n)) ≤ 1 =
      subst (λ (some : List Arrival). length (results_for (known_results steps ++ some) (CompletionId n)) ≤ 1) (sym (take-whole arrivals)) (once n) in
      let f : length (deliveries steps arrivals (length arrivals) (CompletionId n)) ≡ length (deliveries steps arrivals q (CompletionId n)) + length more =
      ap length e ∙ length-append (deliveries steps arrivals q (CompletionId n)) more in
      omega (arith, all, f)

  in_line : (id : NotificationId) (b : Bool) → replaces options.signal_delivery id ≡ b → b ≡ false
      → (q more_q : ℕ) (r : NotificationResult) → q ≤ more_q → front options steps arrivals q id ≡ Some r → front options steps arrivals more_q id ≡ Some r
  in_line id true is e q more_q r h found = cc
  in_line id false is e q more_q r h found =
      let (more, longer) = deliveries-longer q more_q id h in
      let at_q : slice_get (deliveries steps arrivals q id) (takes_of steps id) ≡ Some r = rw is at found in
      rw is (ap (λ (ds : List NotificationResult). slice_get ds (takes_of steps id)) longer ∙ get-more (deliveries steps arrivals q id) more (takes_of steps id) r at_q)

  -- what is in front stays in front while nothing is taken
  pub front-stays : (q more_q : ℕ) (id : NotificationId) (r : NotificationResult) → q ≤ more_q → more_q ≤ length arrivals
      → front options steps arrivals q id ≡ Some r → front options steps arrivals more_q id ≡ Some r
  front-stays q more_q (CompletionId n) r h high found =
      let (more, longer) = deliveries-longer q more_q (CompletionId n) h in
      let short : length (deliveries steps arrivals q (CompletionId n) ++ more) ≤ 1 = subst (λ (ds : List NotificationResult). length ds ≤ 1) longer (few more_q n high) in
      ap (λ (ds : List NotificationResult). last_of (drop (passed_at_take (ids_created steps) arrivals (CompletionId n) steps) ds)) longer
      ∙ last-more (deliveries steps arrivals q (CompletionId n)) more (passed_at_take (ids_created steps) arrivals (CompletionId n) steps) r short found
  front-stays q more_q (SignalId n) r h high found = in_line (SignalId n) false (ap (λ d. replaces d (SignalId n)) queued) refl q more_q r h found
  front-stays q more_q (SignalName n) r h high found = in_line (SignalName n) false (ap (λ d. replaces d (SignalName n)) queued) refl q more_q r h found

  -- the states of leaves by what is in front
  abbrev pub fronts : ℕ → Option NotificationId → AwaitState
  fronts = front_states options steps arrivals

  first-last : (id : NotificationId) (from more : ℕ) → from + more ≤ length arrivals
      → first_found (λ q. front options steps arrivals q id) from more ≡ front options steps arrivals (from + more) id
  first-last id from zero h = let e : from ≡ from + 0 = omega arith in ap (λ (q : ℕ). front options steps arrivals q id) e
  first-last id from (suc more) h =
      let e : suc from + more ≡ from + suc more = omega arith in
      let later : first_found (λ q. front options steps arrivals q id) (suc from) more ≡ front options steps arrivals (from + suc more) id =
      first-last id (suc from) more (omega (arith, h)) ∙ ap (λ (q : ℕ). front options steps arrivals q id) e in
      ap (or_else (front options steps arrivals from id)) later ∙ by_first (front options steps arrivals from id) refl
    where
      by_first : (o : Option NotificationResult) → front options steps arrivals from id ≡ o
          → or_else o (front options steps arrivals (from + suc more) id) ≡ front options steps arrivals (from + suc more) id
      by_first None is = refl
      by_first (Some r) is = sym (front-stays from (from + suc more) id r (omega arith) h is)

  pub leaf_state-fronts : (from q : ℕ) → from ≤ q → q ≤ length arrivals → leaf_state options steps arrivals from q ≡ fronts q
  leaf_state-fronts from q low high = fun_ext at_leaf
    where
      at_leaf : (leaf : Option NotificationId) → leaf_state options steps arrivals from q leaf ≡ fronts q leaf
      at_leaf None = refl
      at_leaf (Some id) =
          let e : from + (q - from) ≡ q = omega (arith, low) in
          ap state_of_result (first-last id from (q - from) (omega (arith, low, high)) ∙ ap (λ (n : ℕ). front options steps arrivals n id) e)

  fronts-stay : (q more_q : ℕ) → q ≤ more_q → more_q ≤ length arrivals → earlier_or_later (fronts q) (fronts more_q) ≡ fronts more_q
  fronts-stay q more_q h high = fun_ext at_leaf
    where
      by_front : (id : NotificationId) (o : Option NotificationResult) → front options steps arrivals q id ≡ o
          → (if is_completed (state_of_result o) then state_of_result o else state_of_result (front options steps arrivals more_q id)) ≡ state_of_result (front options steps arrivals more_q id)
      by_front id None is = refl
      by_front id (Some r) is = both (is_completed (state_of_result (Some r)))
        where
          both : (b : Bool) → (if b then state_of_result (Some r) else state_of_result (front options steps arrivals more_q id)) ≡ state_of_result (front options steps arrivals more_q id)
          both true = ap state_of_result (sym (front-stays q more_q id r h high is))
          both false = refl

      at_leaf : (leaf : Option NotificationId) → earlier_or_later (fronts q) (fronts more_q) leaf ≡ fronts more_q leaf
      at_leaf None = refl
      at_leaf (Some id) = by_front id (front options steps arrivals q id) refl

  abbrev pub ids : AwaitTree ℕ → AwaitTree (Option NotificationId)
  ids tree = map_leaves (stands_for steps) tree

  -- what is left of a tree, from a place on, is awake where the whole is, and prunes to the same
  pub record Still (whole tree : AwaitTree ℕ) (place : ℕ) : Type 0 where
    pub awake : (q : ℕ) → place ≤ q → q ≤ length arrivals → is_awake (ids tree) (fronts q) ≡ is_awake (ids whole) (fronts q)
    pub rest : (q : ℕ) → place ≤ q → q ≤ length arrivals → pruned (ids tree) (fronts q) ≡ pruned (ids whole) (fronts q)

  pub still-whole : (whole : AwaitTree ℕ) (place : ℕ) → Still whole whole place
  still-whole whole place = record { awake = λ q low high. refl; rest = λ q low high. refl }

  module _ (table : Slots) where
    own-awake : (place : ℕ) (line : List Arrival) (waiting : Ready) (tree : AwaitTree ℕ) → TablesStand options steps arrivals place line waiting table
        → is_awake tree (handle_state table waiting) ≡ is_awake (ids tree) (fronts place)
    own-awake place line waiting tree stands = ap (is_awake tree) (leaves_in_front options steps arrivals place line waiting table stands) ∙ sym (awake-map (stands_for steps) (fronts place) tree)

    own-rest : (place : ℕ) (line : List Arrival) (waiting : Ready) (tree : AwaitTree ℕ) → TablesStand options steps arrivals place line waiting table
        → ids (pruned tree (handle_state table waiting)) ≡ pruned (ids tree) (fronts place)
    own-rest place line waiting tree stands =
        ap (λ (leaves : ℕ → AwaitState). ids (pruned tree leaves)) (leaves_in_front options steps arrivals place line waiting table stands) ∙ sym (pruned-map (stands_for steps) (fronts place) tree)

    -- what resolving comes to, from a place on
    pub record Wakes (whole : AwaitTree ℕ) (from : ℕ) (line : List Arrival) (waiting : Ready) : Type 0 where
      pub place : ℕ
      pub above : from ≤ place
      pub awake : is_awake (ids whole) (fronts place) ≡ true
      pub before : (q : ℕ) → from ≤ q → q < place → is_awake (ids whole) (fronts q) ≡ false
      pub stands : TablesStand options steps arrivals place line waiting table

    pub record Sleeps (whole : AwaitTree ℕ) (from : ℕ) (left : AwaitTree ℕ) (waiting : Ready) : Type 0 where
      pub asleep : (q : ℕ) → from ≤ q → q ≤ length arrivals → is_awake (ids whole) (fronts q) ≡ false
      pub rest : ids left ≡ pruned (ids whole) (fronts (length arrivals))
      pub stands : TablesStand options steps arrivals (length arrivals) [] waiting table

    abbrev pub ResolvesFrom : AwaitTree ℕ → ℕ → Resolution → Type 0
    ResolvesFrom whole from (Awake line waiting) = Wakes whole from line waiting
    ResolvesFrom whole from (Asleep left waiting) = Sleeps whole from left waiting

    -- one place on
    later-wakes : (whole : AwaitTree ℕ) (place : ℕ) → is_awake (ids whole) (fronts place) ≡ false → (r : Resolution) → ResolvesFrom whole (suc place) r → ResolvesFrom whole place r
    later-wakes whole place asleep (Awake line waiting) w = record {
      place = w.place;
      above = (let h : suc place ≤ w.place = w.above in omega (arith, h));
      awake = w.awake;
      before = λ q low high. from_here (λ n. is_awake (ids whole) (fronts n)) place q asleep (λ above. w.before q above high) low;
      stands = w.stands;
    }
    later-wakes whole place asleep (Asleep left waiting) w = record {
      asleep = λ q low high. from_here (λ n. is_awake (ids whole) (fronts n)) place q asleep (λ above. w.asleep q above high) low;
      rest = w.rest;
      stands = w.stands;
    }

    goes_on : (whole tree : AwaitTree ℕ) (place : ℕ) (line : List Arrival) (waiting : Ready) → TablesStand options steps arrivals place line waiting table
        → Still whole tree place → is_awake tree (handle_state table waiting) ≡ false → Still whole (pruned tree (handle_state table waiting)) (suc place)
    goes_on whole tree place line waiting stands still asleep = record {
      awake = λ q low high.
          ap (λ (t : AwaitTree (Option NotificationId)). is_awake t (fronts q)) (own-rest place line waiting tree stands)
          ∙ pruned-awake (fronts place) (fronts q) (ids tree) quiet
          ∙ ap (is_awake (ids tree)) (fronts-stay place q (omega arith) high)
          ∙ still.awake q (omega arith) high;
      rest = λ q low high.
          ap (λ (t : AwaitTree (Option NotificationId)). pruned t (fronts q)) (own-rest place line waiting tree stands)
          ∙ pruned-again (fronts place) (fronts q) (ids tree) (or-false (is_completed (await_state (ids tree) (fronts place))) (has_ended_node (ids tree) (fronts place)) quiet).1
          ∙ ap (pruned (ids tree)) (fronts-stay place q (omega arith) high)
          ∙ still.rest q (omega arith) high;
    }
      where
        quiet : is_awake (ids tree) (fronts place) ≡ false
        quiet = sym (own-awake place line waiting tree stands) ∙ asleep

    pub resolves : (whole tree : AwaitTree ℕ) (place : ℕ) (line : List Arrival) (waiting : Ready) → TablesStand options steps arrivals place line waiting table
        → Still whole tree place → ResolvesFrom whole place (resolution_of options.signal_delivery table tree line waiting)
    resolves whole tree place [] waiting stands still = by_test (is_awake tree (handle_state table waiting)) refl
      where
        within : place ≤ length arrivals
        within = stands.within

        over : place ≡ length arrivals
        over = all_read options steps arrivals place waiting table stands

        by_test : (b : Bool) → is_awake tree (handle_state table waiting) ≡ b
            → ResolvesFrom whole place (if b then Awake [] waiting else Asleep (pruned tree (handle_state table waiting)) waiting)
        by_test true e = record {
          place = place;
          above = le_refl place;
          awake = sym (still.awake place (le_refl place) within) ∙ sym (own-awake place [] waiting tree stands) ∙ e;
          before = λ q low high. absurd (omega (arith, low, high));
          stands = stands;
        }
        by_test false e = record {
          asleep = λ q low high. (let same : q ≡ place = omega (arith, low, high, over) in
              ap (λ (n : ℕ). is_awake (ids whole) (fronts n)) same ∙ sym (still.awake place (le_refl place) within) ∙ sym (own-awake place [] waiting tree stands) ∙ e);
          rest = own-rest place [] waiting tree stands ∙ still.rest place (le_refl place) within ∙ ap (λ (n : ℕ). pruned (ids whole) (fronts n)) over;
          stands = subst (λ (n : ℕ). TablesStand options steps arrivals n [] waiting table) over stands;
        }
    resolves whole tree place (arrival ∷ line) waiting stands still = by_test (is_awake tree (handle_state table waiting)) refl
        (λ asleep. resolves whole (pruned tree (handle_state table waiting)) (suc place) line (ready_after options.signal_delivery waiting arrival)
        (arrive options steps arrivals place arrival line waiting table stands) (goes_on whole tree place (arrival ∷ line) waiting stands still asleep))
      where
        within : place ≤ length arrivals
        within = stands.within

        by_test : (b : Bool) → is_awake tree (handle_state table waiting) ≡ b
            → (is_awake tree (handle_state table waiting) ≡ false → ResolvesFrom whole (suc place)
            (resolution_of options.signal_delivery table (pruned tree (handle_state table waiting)) line (ready_after options.signal_delivery waiting arrival)))
            → ResolvesFrom whole place (if b then Awake (arrival ∷ line) waiting
            else resolution_of options.signal_delivery table (pruned tree (handle_state table waiting)) line (ready_after options.signal_delivery waiting arrival))
        by_test true e later = record {
          place = place;
          above = le_refl place;
          awake = sym (still.awake place (le_refl place) within) ∙ sym (own-awake place (arrival ∷ line) waiting tree stands) ∙ e;
          before = λ q low high. absurd (omega (arith, low, high));
          stands = stands;
        }
        by_test false e later = later-wakes whole place (sym (still.awake place (le_refl place) within) ∙ sym (own-awake place (arrival ∷ line) waiting tree stands) ∙ e)
            (resolution_of options.signal_delivery table (pruned tree (handle_state table waiting)) line (ready_after options.signal_delivery waiting arrival)) (later e)
