-- An arrival that no leaf waits for, or whose id has come before, wakes nothing.
use Rattle.std.proofs.Common.{◌≡◌, refl, ap, ap₂, ◌∙◌, Bool, true, false, not, ◌||◌, ◌&&◌, if◌then◌else◌, List, [], ◌∷◌, ◌++◌, Option, Some, None, ◌⊎◌, inl, inr}
use Rattle.std.specs.List.{list_any, find}
use Rattle.std.proofs.lemmas.List.Folds.{list_any-append}
use Rattle.journal_model.specs.Notification.{Arrival, same_id}
use Rattle.journal_model.specs.declared.notification.NotificationId.{NotificationId}
use Rattle.journal_model.specs.AwaitTree.{AwaitState, is_completed, AwaitTree, Single, Combined, AwaitTrees, no_trees, and_trees, combined_state, child_states, await_state, has_ended, has_ended_node, some_has_ended_node, is_awake}
use Rattle.journal_model.specs.Delivery.{state_of_result}
use Rattle.journal_model.specs.Event.{ForTree, ForAny}
use Rattle.journal_model.specs.Attempt.{result_of, first_result}
use Rattle.journal_laws.proofs.Leaving.{or-false}
use Rattle.due_laws.specs.Leaves.{has_leaf, some_has_leaf, is_among, OnlyAwaitedWake}

-- ---- a tree is told by its leaves

module _ {Leaf : Type 0} (test : Leaf → Bool) (before after : Leaf → AwaitState) (same : (leaf : Leaf) → test leaf ≡ false → after leaf ≡ before leaf) where
  mutual
    state_same : (tree : AwaitTree Leaf) → has_leaf test tree ≡ false → await_state tree after ≡ await_state tree before
    state_same (Single leaf) e = same leaf e
    state_same (Combined combinator children) e = ap (combined_state combinator) (states_same children e)

    states_same : (trees : AwaitTrees Leaf) → some_has_leaf test trees ≡ false → child_states trees after ≡ child_states trees before
    states_same no_trees e = refl
    states_same (and_trees tree trees) e =
        let parts = or-false (has_leaf test tree) (some_has_leaf test trees) e in
        ap₂ (λ (state : AwaitState) (states : List AwaitState). state ∷ states) (state_same tree parts.0) (states_same trees parts.1)

  mutual
    ended_same : (tree : AwaitTree Leaf) → has_leaf test tree ≡ false → has_ended_node tree after ≡ has_ended_node tree before
    ended_same (Single leaf) e = refl
    ended_same (Combined combinator children) e =
        ap₂ (λ (states : List AwaitState) (inner : Bool). has_ended combinator states || inner) (states_same children e) (some_ended_same children e)

    some_ended_same : (trees : AwaitTrees Leaf) → some_has_leaf test trees ≡ false → some_has_ended_node trees after ≡ some_has_ended_node trees before
    some_ended_same no_trees e = refl
    some_ended_same (and_trees tree trees) e =
        let parts = or-false (has_leaf test tree) (some_has_leaf test trees) e in
        ap₂ (λ (a b : Bool). a || b) (ended_same tree parts.0) (some_ended_same trees parts.1)

  awake_same : (tree : AwaitTree Leaf) → has_leaf test tree ≡ false → is_awake tree after ≡ is_awake tree before
  awake_same tree e = ap₂ (λ (state : AwaitState) (ended : Bool). is_completed state || ended) (state_same tree e) (ended_same tree e)

-- ---- what has come of an id

find_first : (p : Arrival → Bool) (xs ys : List Arrival) → list_any p xs ≡ true → find p (xs ++ ys) ≡ find p xs
find_first p [] ys e = cc
find_first p (x ∷ xs) ys e = by_test (p x) e (find_first p xs ys)
  where
    by_test : (b : Bool) → (b || list_any p xs) ≡ true → (list_any p xs ≡ true → find p (xs ++ ys) ≡ find p xs) → (if b then Some x else find p (xs ++ ys)) ≡ (if b then Some x else find p xs)
    by_test true e later = refl
    by_test false e later = later e

find_nothing : (p : Arrival → Bool) (ys : List Arrival) → list_any p ys ≡ false → find p ys ≡ None
find_nothing p [] e = refl
find_nothing p (y ∷ ys) e = by_test (p y) e (find_nothing p ys)
  where
    by_test : (b : Bool) → (b || list_any p ys) ≡ false → (list_any p ys ≡ false → find p ys ≡ None) → (if b then Some y else find p ys) ≡ None
    by_test true e later = cc
    by_test false e later = later e

find_no_more : (p : Arrival → Bool) (xs ys : List Arrival) → list_any p ys ≡ false → find p (xs ++ ys) ≡ find p xs
find_no_more p [] ys e = find_nothing p ys e
find_no_more p (x ∷ xs) ys e = ap (λ (o : Option Arrival). if p x then Some x else o) (find_no_more p xs ys e)

either : (more come : Bool) → (more && not come) ≡ false → (more ≡ false) ⊎ (come ≡ true)
either true true e = inr refl
either true false e = cc
either false come e = inl refl

result_same : (arrivals more : List Arrival) (id : NotificationId) → (is_among more id && not (is_among arrivals id)) ≡ false
    → state_of_result (first_result (arrivals ++ more) id) ≡ state_of_result (first_result arrivals id)
result_same arrivals more id e = ap (λ (o : Option Arrival). state_of_result (result_of o)) (by_either (either (is_among more id) (is_among arrivals id) e))
  where
    by_either : (is_among more id ≡ false) ⊎ (is_among arrivals id ≡ true)
        → find (λ (arrival : Arrival). same_id arrival.id id) (arrivals ++ more) ≡ find (λ (arrival : Arrival). same_id arrival.id id) arrivals
    by_either (inl e) = find_no_more (λ (arrival : Arrival). same_id arrival.id id) arrivals more e
    by_either (inr e) = find_first (λ (arrival : Arrival). same_id arrival.id id) arrivals more e

among_same : (arrivals more : List Arrival) (id : NotificationId) → (is_among more id && not (is_among arrivals id)) ≡ false → is_among (arrivals ++ more) id ≡ is_among arrivals id
among_same arrivals more id e =
    list_any-append (λ (arrival : Arrival). same_id arrival.id id) arrivals more ∙ by_either (is_among arrivals id) (is_among more id) (either (is_among more id) (is_among arrivals id) e)
  where
    by_either : (come more : Bool) → (more ≡ false) ⊎ (come ≡ true) → (come || more) ≡ come
    by_either true more h = refl
    by_either false more (inl e) = e
    by_either false more (inr e) = cc

ids_same : (arrivals more : List Arrival) (ids : List NotificationId) → list_any (λ (id : NotificationId). is_among more id && not (is_among arrivals id)) ids ≡ false
    → list_any (λ (id : NotificationId). is_among (arrivals ++ more) id) ids ≡ list_any (λ (id : NotificationId). is_among arrivals id) ids
ids_same arrivals more [] e = refl
ids_same arrivals more (id ∷ ids) e =
    let parts = or-false (is_among more id && not (is_among arrivals id)) (list_any (λ (other : NotificationId). is_among more other && not (is_among arrivals other)) ids) e in
    ap₂ (λ (a b : Bool). a || b) (among_same arrivals more id parts.0) (ids_same arrivals more ids parts.1)

pub only_awaited_wake : OnlyAwaitedWake
only_awaited_wake arrivals more None e = refl
only_awaited_wake arrivals more (Some (ForTree tree)) e =
    awake_same (λ (id : NotificationId). is_among more id && not (is_among arrivals id)) (λ (id : NotificationId). state_of_result (first_result arrivals id))
    (λ (id : NotificationId). state_of_result (first_result (arrivals ++ more) id)) (result_same arrivals more) tree e
only_awaited_wake arrivals more (Some (ForAny ids)) e = ids_same arrivals more ids e
