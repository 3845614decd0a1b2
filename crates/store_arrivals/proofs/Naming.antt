-- An arrival whose id no leaf names leaves what a tree has come to as it was.
use Rattle.std.proofs.Common.{◌≡◌, ℕ, zero, suc, ◌+◌, Bool, true, false, ◌||◌, List, [], ◌∷◌, ◌++◌, map, take, Some, refl, sym, ap, ◌∙◌}
use Rattle.std.specs.Prelude.{if◌then◌else◌}
use Rattle.std.specs.List.{list_any, find, slice_get}
use Rattle.std.proofs.lemmas.List.Folds.{list_any-append}
use Rattle.journal_model.specs.Notification.{Arrival, same_id}
use Rattle.journal_model.specs.declared.notification.NotificationId.{NotificationId}
use Rattle.journal_model.specs.AwaitTree.{AwaitState, Pending, Succeeded, Failed, is_completed, AwaitTree, AwaitTrees, Single, Combined, no_trees, and_trees, combined_state, await_state, child_states, has_ended, has_ended_node, some_has_ended_node, is_awake}
use Rattle.journal_model.specs.Delivery.{state_of_result}
use Rattle.journal_model.specs.Attempt.{is_woken, result_of}
use Rattle.journal_model.specs.Event.{Suspension}
use Rattle.protocol_records.specs.declared.future.Future.{Future}
use Rattle.protocol_trees.specs.Shape.{forest, state_meant}
use Rattle.protocol_trees.specs.Future.{future_tree, leaves_in, children_in}
use Rattle.protocol_trees.specs.FutureShape.{future_tree_is}
use Rattle.protocol_trees.proofs.Tallying.{one_more}
use Rattle.protocol_trees.specs.declared.tree.AwaitState.{AwaitState as State}
use Rattle.store_frames.specs.declared.first.FirstArrivals.{FirstArrivals}
use Rattle.store_frames.specs.First.{AreFirst, arrived_state, first_state, or_pending}
use Rattle.store_frames.proofs.Waking.{leaf_meant}
use Rattle.store_frames.specs.AwaitedFutures.{IsAwaited}
use Rattle.due_laws.specs.Leaves.{has_leaf, some_has_leaf}
use Rattle.store_arrivals.specs.NamedArrivals.{is_completed_among, names_any}

or_first : (a b : Bool) → (a || b) ≡ false → a ≡ false
or_first true b e = e
or_first false b e = refl

or_second : (a b : Bool) → (a || b) ≡ false → b ≡ false
or_second true b e = cc
or_second false b e = e

-- ---- trees whose leaves stay

module _ {Leaf : Type 0} (test : Leaf → Bool) (one other : Leaf → AwaitState) (same : (leaf : Leaf) → test leaf ≡ false → one leaf ≡ other leaf) where
  mutual
    same_state : (tree : AwaitTree Leaf) → has_leaf test tree ≡ false → await_state tree one ≡ await_state tree other
    same_state (Single leaf) none = same leaf none
    same_state (Combined combinator trees) none = ap (combined_state combinator) (same_states trees none)

    same_states : (trees : AwaitTrees Leaf) → some_has_leaf test trees ≡ false → child_states trees one ≡ child_states trees other
    same_states no_trees none = refl
    same_states (and_trees tree trees) none = λ i. same_state tree (or_first (has_leaf test tree) (some_has_leaf test trees) none) i ∷ same_states trees (or_second (has_leaf test tree) (some_has_leaf test trees) none) i

  mutual
    same_end : (tree : AwaitTree Leaf) → has_leaf test tree ≡ false → has_ended_node tree one ≡ has_ended_node tree other
    same_end (Single leaf) none = refl
    same_end (Combined combinator trees) none = λ i. has_ended combinator (same_states trees none i) || same_ends trees none i

    same_ends : (trees : AwaitTrees Leaf) → some_has_leaf test trees ≡ false → some_has_ended_node trees one ≡ some_has_ended_node trees other
    same_ends no_trees none = refl
    same_ends (and_trees tree trees) none = λ i. same_end tree (or_first (has_leaf test tree) (some_has_leaf test trees) none) i || same_ends trees (or_second (has_leaf test tree) (some_has_leaf test trees) none) i

  same_awake : (tree : AwaitTree Leaf) → has_leaf test tree ≡ false → is_awake tree one ≡ is_awake tree other
  same_awake tree none = λ i. is_completed (same_state tree none i) || same_end tree none i

-- ---- leaves that name no arrival

still_pending : (state : AwaitState) → is_completed state ≡ false → state ≡ Pending
still_pending Pending e = refl
still_pending Succeeded e = cc
still_pending Failed e = cc

unnamed_leaf : (old new : List Arrival) (id : NotificationId) → is_completed_among new id ≡ false → arrived_state (old ++ new) id ≡ arrived_state old id
unnamed_leaf [] new id none = still_pending (arrived_state new id) none
unnamed_leaf (arrival ∷ old) new id none = by_test (same_id arrival.id id) (unnamed_leaf old new id none)
  where
    by_test : (b : Bool) → arrived_state (old ++ new) id ≡ arrived_state old id
        → state_of_result (result_of (if b then Some arrival else find (λ (a : Arrival). same_id a.id id) (old ++ new)))
        ≡ state_of_result (result_of (if b then Some arrival else find (λ (a : Arrival). same_id a.id id) old))
    by_test true later = refl
    by_test false later = later

pub unnamed_sleeps : (suspension : Suspension) (future : Future) (old new : List Arrival) → IsAwaited suspension future → names_any new (future_tree future) ≡ false
    → is_woken old (Some suspension) ≡ false → false ≡ is_woken (old ++ new) (Some suspension)
unnamed_sleeps suspension future old new awaited none asleep =
    sym asleep ∙ sym (awaited old)
    ∙ sym (same_awake (is_completed_among new) (arrived_state (old ++ new)) (arrived_state old) (unnamed_leaf old new) (future_tree future) none)
    ∙ awaited (old ++ new)

-- ---- whether an id is that of an arrival, as its state tells

pub among_is : (first : FirstArrivals) (arrivals : List Arrival) (id : NotificationId) (state : State) → AreFirst first arrivals → state ≡ or_pending (first_state first id)
    → is_completed (state_meant state) ≡ is_completed_among arrivals id
among_is first arrivals id state are is =
    ap (λ (s : State). is_completed (state_meant s)) is ∙ ap is_completed (leaf_meant (first_state first id) arrivals id (are id))

-- ---- a node's leaves, and the trees in it, one after another

or_last : (a : Bool) {b : Bool} → b ≡ true → (a || b) ≡ true
or_last true e = refl
or_last false e = e

or_assoc : (a b c : Bool) → ((a || b) || c) ≡ (a || (b || c))
or_assoc true b c = refl
or_assoc false b c = refl

any_at : {A : Type 0} (test : A → Bool) (xs : List A) (i : ℕ) (x : A) → slice_get xs i ≡ Some x → test x ≡ true → list_any test xs ≡ true
any_at test [] i x there holds = absurd cc
any_at test (y ∷ ys) zero x there holds = let same : y ≡ x = cc in ap (λ b. b || list_any test ys) (ap test same ∙ holds)
any_at test (y ∷ ys) (suc i) x there holds = or_last (test y) (any_at test ys i x there holds)

pub none_more : {A : Type 0} (test : A → Bool) (xs : List A) (i : ℕ) (x : A) → slice_get xs i ≡ Some x → list_any test (take i xs) ≡ false → test x ≡ false → list_any test (take (i + 1) xs) ≡ false
none_more test xs i x there before own =
    ap (list_any test) (one_more xs i x there) ∙ list_any-append test (take i xs) (x ∷ [])
    ∙ (λ j. before j || (own j || false))

leaves_first : {Leaf : Type 0} (test : Leaf → Bool) (leaves : List Leaf) (children : List (AwaitTree Leaf))
    → some_has_leaf test (forest (map (λ leaf. Single leaf) leaves ++ children)) ≡ (list_any test leaves || list_any (has_leaf test) children)
leaves_first {Leaf} test [] children = in_children children
  where
    in_children : (trees : List (AwaitTree Leaf)) → some_has_leaf test (forest trees) ≡ list_any (has_leaf test) trees
    in_children [] = refl
    in_children (tree ∷ trees) = ap (λ b. has_leaf test tree || b) (in_children trees)
leaves_first test (leaf ∷ leaves) children =
    ap (λ b. test leaf || b) (leaves_first test leaves children) ∙ sym (or_assoc (test leaf) (list_any test leaves) (list_any (has_leaf test) children))

module _ (arrivals : List Arrival) (future : Future) where
  names_is : names_any arrivals (future_tree future) ≡ (list_any (is_completed_among arrivals) (leaves_in future) || list_any (names_any arrivals) (children_in future))
  names_is = ap (names_any arrivals) (future_tree_is future) ∙ leaves_first (is_completed_among arrivals) (leaves_in future) (children_in future)

  pub leaf_names : (i : ℕ) (id : NotificationId) → slice_get (leaves_in future) i ≡ Some id → is_completed_among arrivals id ≡ true → true ≡ names_any arrivals (future_tree future)
  leaf_names i id there among =
      sym (names_is ∙ ap (λ b. b || list_any (names_any arrivals) (children_in future)) (any_at (is_completed_among arrivals) (leaves_in future) i id there among))

  pub child_names : (i : ℕ) (child : AwaitTree NotificationId) → slice_get (children_in future) i ≡ Some child → names_any arrivals child ≡ true → true ≡ names_any arrivals (future_tree future)
  child_names i child there named =
      sym (names_is ∙ or_last (list_any (is_completed_among arrivals) (leaves_in future)) (any_at (names_any arrivals) (children_in future) i child there named))

  pub none_names : list_any (is_completed_among arrivals) (leaves_in future) ≡ false → list_any (names_any arrivals) (children_in future) ≡ false → false ≡ names_any arrivals (future_tree future)
  none_names leaves children = sym (names_is ∙ (λ i. leaves i || children i))
