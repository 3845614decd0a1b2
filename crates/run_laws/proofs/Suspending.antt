-- What a suspension has to hold, so that it tells what is still waited for.
use Rattle.std.proofs.Common.{ℕ, ◌≡◌, refl, sym, ap, ap₂, ◌∙◌, Bool, true, false, true≢false, ◌||◌, if◌then◌else◌, List, [], ◌∷◌, ◌++◌, Option, Some, None}
use Rattle.std.proofs.Math.Path.{fun_ext}
use Rattle.std.specs.List.{list_any}
use Rattle.protocol_types.specs.Feature.{lacks_feature}
use Rattle.protocol_types.specs.declared.feature.Feature.TheVariants as features
use Rattle.journal_model.specs.declared.notification.NotificationId.{NotificationId}
use Rattle.journal_model.specs.AwaitTree.{AwaitState, Pending, Succeeded, Failed, is_completed, AwaitTree, Single, Combined, AwaitTrees, no_trees, and_trees, FirstCompleted, combined_state, await_state, child_states, has_ended, has_ended_node, some_has_ended_node, is_awake}
use Rattle.journal_model.specs.PrunedTrees.{SameTree, pruned, earlier_or_later, only_leaves, state_of_some}
use Rattle.journal_model.specs.Event.{ForTree, ForAny}
use Rattle.journal_laws.proofs.Leaving.{or-false}
use Rattle.journal_laws.proofs.Pruning.{pruned-awake}
use Rattle.run_laws.specs.SuspensionContent.{TellsAwaitedTree, leaf_ids, leaf_ids_of_trees}
use Rattle.run_laws.proofs.SameTrees.{same_awake}

any-append : (p : NotificationId → Bool) (xs ys : List NotificationId) → list_any p (xs ++ ys) ≡ (list_any p xs || list_any p ys)
any-append p [] ys = refl
any-append p (x ∷ xs) ys = ap (λ (b : Bool). p x || b) (any-append p xs ys) ∙ or-assoc (p x) (list_any p xs) (list_any p ys)
  where
    or-assoc : (a b c : Bool) → (a || (b || c)) ≡ ((a || b) || c)
    or-assoc true b c = refl
    or-assoc false b c = refl

abbrev pending : Option NotificationId → AwaitState
pending leaf = Pending

module _ (states : NotificationId → AwaitState) where
  pending_is : (state : AwaitState) → is_completed state ≡ false → state ≡ Pending
  pending_is Pending e = refl
  pending_is Succeeded e = absurd (true≢false e)
  pending_is Failed e = absurd (true≢false e)

  first_false : (a b : Bool) → (a || b) ≡ false → a ≡ false
  first_false a b e = (or-false a b e).0

  -- where none of its ids is completed, a tree is as if nothing had come
  mutual
    state_pending : (tree : AwaitTree (Option NotificationId)) → list_any (λ id. is_completed (states id)) (leaf_ids tree) ≡ false → await_state tree (state_of_some states) ≡ await_state tree pending
    state_pending (Single None) e = refl
    state_pending (Single (Some id)) e = pending_is (states id) (first_false (is_completed (states id)) false e)
    state_pending (Combined combinator children) e = ap (combined_state combinator) (states_pending children e)

    states_pending : (trees : AwaitTrees (Option NotificationId)) → list_any (λ id. is_completed (states id)) (leaf_ids_of_trees trees) ≡ false → child_states trees (state_of_some states) ≡ child_states trees pending
    states_pending no_trees e = refl
    states_pending (and_trees tree trees) e =
        let (own, others) = or-false (list_any (λ id. is_completed (states id)) (leaf_ids tree)) (list_any (λ id. is_completed (states id)) (leaf_ids_of_trees trees))
        (sym (any-append (λ id. is_completed (states id)) (leaf_ids tree) (leaf_ids_of_trees trees)) ∙ e) in
        ap₂ (λ (x : AwaitState) (rest : List AwaitState). x ∷ rest) (state_pending tree own) (states_pending trees others)

  mutual
    ended_pending : (tree : AwaitTree (Option NotificationId)) → list_any (λ id. is_completed (states id)) (leaf_ids tree) ≡ false → has_ended_node tree (state_of_some states) ≡ has_ended_node tree pending
    ended_pending (Single leaf) e = refl
    ended_pending (Combined combinator children) e =
        ap₂ (λ (a b : Bool). a || b) (ap (has_ended combinator) (states_pending children e)) (some_pending children e)

    some_pending : (trees : AwaitTrees (Option NotificationId)) → list_any (λ id. is_completed (states id)) (leaf_ids_of_trees trees) ≡ false → some_has_ended_node trees (state_of_some states) ≡ some_has_ended_node trees pending
    some_pending no_trees e = refl
    some_pending (and_trees tree trees) e =
        let (own, others) = or-false (list_any (λ id. is_completed (states id)) (leaf_ids tree)) (list_any (λ id. is_completed (states id)) (leaf_ids_of_trees trees))
        (sym (any-append (λ id. is_completed (states id)) (leaf_ids tree) (leaf_ids_of_trees trees)) ∙ e) in
        ap₂ (λ (a b : Bool). a || b) (ended_pending tree own) (some_pending trees others)

  awake_listed : (tree : AwaitTree (Option NotificationId)) → is_awake tree pending ≡ false → is_awake tree (state_of_some states) ≡ true → list_any (λ id. is_completed (states id)) (leaf_ids tree) ≡ true
  awake_listed tree asleep awake = by_listed (list_any (λ id. is_completed (states id)) (leaf_ids tree)) refl
    where
      by_listed : (b : Bool) → list_any (λ id. is_completed (states id)) (leaf_ids tree) ≡ b → b ≡ true
      by_listed true e = refl
      by_listed false e =
          absurd (true≢false (sym awake ∙ ap₂ (λ (a b : Bool). a || b) (ap (λ (state : AwaitState). is_completed state) (state_pending tree e)) (ended_pending tree e) ∙ asleep))

-- where suspensions have lists: all ids of the tree are listed
pub tells_ids : (version : ℕ) (tree : AwaitTree (Option NotificationId)) (ids : List NotificationId) → lacks_feature version features.AwaitTree ≡ true → is_awake tree pending ≡ false
    → ((p : NotificationId → Bool) → list_any p (leaf_ids tree) ≡ true → list_any p ids ≡ true) → TellsAwaitedTree version tree (Some (ForAny ids))
tells_ids version tree ids old asleep listed = (old, λ states awake. listed (λ id. is_completed (states id)) (awake_listed states tree asleep awake))

-- where they have trees: a tree that is the same but for the order and the repeats of children
pub tells_tree : (version : ℕ) (tree : AwaitTree (Option NotificationId)) (told : AwaitTree NotificationId) → SameTree told (only_leaves (λ leaf. leaf) tree) → TellsAwaitedTree version tree (Some (ForTree told))
tells_tree version tree told same = λ states. same_awake states same

-- a single leaf is read as a node of it alone
pub tells_leaf : (version : ℕ) (id : NotificationId) → TellsAwaitedTree version (Single (Some id)) (Some (ForTree (Combined FirstCompleted (and_trees (Single id) no_trees))))
tells_leaf version id = λ states. by_state (states id)
  where
    by_state : (state : AwaitState) → is_awake (Combined FirstCompleted (and_trees (Single id) no_trees)) (λ other. state) ≡ is_awake (Single id) (λ other. state)
    by_state Pending = refl
    by_state Succeeded = refl
    by_state Failed = refl

-- what is left of a tree that is not awake is not awake by itself
pub left_asleep : (early : Option NotificationId → AwaitState) (tree : AwaitTree (Option NotificationId)) → is_awake tree early ≡ false → is_awake (pruned tree early) pending ≡ false
left_asleep early tree asleep = pruned-awake early pending tree asleep ∙ ap (is_awake tree) (fun_ext nothing_more) ∙ asleep
  where
    nothing_more : (leaf : Option NotificationId) → earlier_or_later early pending leaf ≡ early leaf
    nothing_more leaf = by_state (early leaf)
      where
        by_state : (state : AwaitState) → (if is_completed state then state else Pending) ≡ state
        by_state Pending = refl
        by_state Succeeded = refl
        by_state Failed = refl
