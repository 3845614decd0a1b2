-- What is awaited over handles, and what a delivery leaves of it.
use Rattle.std.proofs.Common.{◌≡◌, refl, sym, ap, ap₂, ◌∙◌, ℕ, ◌+◌, Bool, true, false, if◌then◌else◌, List, ◌++◌, map, Some, None}
use Rattle.std.proofs.Math.Path.{fun_ext}
use Rattle.journal_model.specs.declared.notification.NotificationId.{NotificationId}
use Rattle.journal_model.specs.AwaitTree.{AwaitState, Pending, Succeeded, Failed, AwaitTree, Single, Combined, AwaitTrees, no_trees, and_trees, is_awake, is_completed, map_leaves, map_leaves_of_trees}
use Rattle.journal_model.specs.PrunedTrees.{pruned, earlier_or_later}
use Rattle.attempt_model.specs.Results.{Slots}
use Rattle.attempt_laws.proofs.Waking.{awake-map, pruned-map}
use Rattle.vm_flat_trees.specs.declared.node.FlatNode.{FlatNode}
use Rattle.vm_flat_trees.specs.SleepingTree.{handle_in, state_in, awaited, has_woken, leaf_over, awaited_over, heard, delivered, ways_for, still_waits, leaf_read, first_read, awaited_in}
use Rattle.vm_flat_trees.specs.NotificationRecipients.{is_for, waits_for}
use Rattle.vm_flat_trees.specs.NotificationDelivery.{brought, sites, all_sites, total, depth_at, ways_of}
use Rattle.vm_flat_trees.specs.Flat.{size_of, sizes_of, flat_of, read_back}
use Rattle.vm_flat_trees.proofs.Keeping.{awake-later}
use Rattle.vm_flat_trees.proofs.Reading.{read-flat, same-leaves}

-- ---- trees with other leaves

mutual
  map-map : {A B C : Type 0} (f : A → B) (g : B → C) (t : AwaitTree A) → map_leaves g (map_leaves f t) ≡ map_leaves (λ a. g (f a)) t
  map-map f g (Single leaf) = refl
  map-map f g (Combined combinator trees) = ap (Combined combinator) (all-map f g trees)

  all-map : {A B C : Type 0} (f : A → B) (g : B → C) (ts : AwaitTrees A) → map_leaves_of_trees g (map_leaves_of_trees f ts) ≡ map_leaves_of_trees (λ a. g (f a)) ts
  all-map f g no_trees = refl
  all-map f g (and_trees t ts) = ap₂ and_trees (map-map f g t) (all-map f g ts)

mutual
  size-map : {A B : Type 0} (f : A → B) (t : AwaitTree A) → size_of (map_leaves f t) ≡ size_of t
  size-map f (Single leaf) = refl
  size-map f (Combined combinator trees) = ap (λ (n : ℕ). 1 + n) (sizes-map f trees)

  sizes-map : {A B : Type 0} (f : A → B) (ts : AwaitTrees A) → sizes_of (map_leaves_of_trees f ts) ≡ sizes_of ts
  sizes-map f no_trees = refl
  sizes-map f (and_trees t ts) = ap₂ (λ (n m : ℕ). n + m) (size-map f t) (sizes-map f ts)

module _ {A B : Type 0} (f : A → B) (test : B → Bool) where
  mutual
    sites-map : (place depth : ℕ) (t : AwaitTree A) → sites test place depth (map_leaves f t) ≡ sites (λ a. test (f a)) place depth t
    sites-map place depth (Single leaf) = refl
    sites-map place depth (Combined combinator trees) = all_sites-map (place + 1) (depth + 1) trees

    all_sites-map : (place depth : ℕ) (ts : AwaitTrees A) → all_sites test place depth (map_leaves_of_trees f ts) ≡ all_sites (λ a. test (f a)) place depth ts
    all_sites-map place depth no_trees = refl
    all_sites-map place depth (and_trees t ts) =
        ap₂ (λ (xs ys : List (ℕ × ℕ)). xs ++ ys) (sites-map place depth t)
        (ap (λ (n : ℕ). all_sites test (place + n) depth (map_leaves_of_trees f ts)) (size-map f t) ∙ all_sites-map (place + size_of t) depth ts)

-- ---- over handles

module _ (slots : Slots) (leaves : ℕ → AwaitState) (tree : AwaitTree ℕ) where
  pub over-asleep : is_awake tree leaves ≡ false → awaited_over slots leaves tree ≡ Some (map_leaves (leaf_over slots leaves) tree)
  over-asleep asleep = ap (λ (b : Bool). if b then None else Some (map_leaves (leaf_over slots leaves) tree)) (awake-map (leaf_over slots leaves) state_in tree ∙ asleep)

  pub over-awake : is_awake tree leaves ≡ true → awaited_over slots leaves tree ≡ None
  over-awake awake = ap (λ (b : Bool). if b then None else Some (map_leaves (leaf_over slots leaves) tree)) (awake-map (leaf_over slots leaves) state_in tree ∙ awake)

  pub over-woken : has_woken (awaited_over slots leaves tree) ≡ is_awake tree leaves
  over-woken = by_cases (is_awake tree leaves) refl
    where
      by_cases : (b : Bool) → is_awake tree leaves ≡ b → has_woken (awaited_over slots leaves tree) ≡ b
      by_cases true e = ap has_woken (over-awake e)
      by_cases false e = ap has_woken (over-asleep e)

  -- the flat vector holds it
  pub over-flat : (nodes : List FlatNode) (awake : Bool) → awake ≡ is_awake tree leaves → (awake ≡ false → nodes ≡ flat_of tree leaves) → awaited_in slots nodes awake ≡ awaited_over slots leaves tree
  over-flat nodes true is flat = sym (over-awake (sym is))
  over-flat nodes false is flat = ap (λ (xs : List FlatNode). first_read (read_back (leaf_read slots) xs)) (flat refl) ∙ ap first_read (read-flat (leaf_read slots) tree leaves) ∙ sym (over-asleep (sym is))

  pub over-later : (id : NotificationId) (state : AwaitState) → delivered id state (awaited_over slots leaves tree) ≡ awaited_over slots (earlier_or_later leaves (brought (waits_for slots id) state)) tree
  over-later id state = by_cases (is_awake tree leaves) refl
    where
      by_cases : (b : Bool) → is_awake tree leaves ≡ b → delivered id state (awaited_over slots leaves tree) ≡ awaited_over slots (earlier_or_later leaves (brought (waits_for slots id) state)) tree
      by_cases true e =
          ap (delivered id state) (over-awake e)
          ∙ sym (ap (λ (b : Bool). if b then None else Some (map_leaves (leaf_over slots (earlier_or_later leaves (brought (waits_for slots id) state))) tree))
          (awake-map (leaf_over slots (earlier_or_later leaves (brought (waits_for slots id) state))) state_in tree ∙ awake-later tree leaves (brought (waits_for slots id) state) e))
      by_cases false e = ap (delivered id state) (over-asleep e) ∙ ap awaited (map-map (leaf_over slots leaves) (heard id state) tree)

  -- of what is pending nothing is heard
  pub over-pending : (id : NotificationId) → delivered id Pending (awaited_over slots leaves tree) ≡ awaited_over slots leaves tree
  over-pending id = over-later id Pending ∙ ap (λ (states : ℕ → AwaitState). awaited_over slots states tree) (fun_ext (λ handle. by_state (leaves handle) (waits_for slots id handle)))
    where
      by_state : (s : AwaitState) (b : Bool) → (if is_completed s then s else (if b then Pending else Pending)) ≡ s
      by_state Pending true = refl
      by_state Pending false = refl
      by_state Succeeded b = refl
      by_state Failed b = refl

  pub over-ways : (id : NotificationId) → is_awake tree leaves ≡ false → ways_for id (awaited_over slots leaves tree) ≡ ways_of (waits_for slots id) tree
  over-ways id asleep =
      ap (ways_for id) (over-asleep asleep) ∙ ap (λ (xs : List (ℕ × ℕ)). total (map depth_at xs)) (sites-map (leaf_over slots leaves) (λ leaf. is_for id leaf.id) 0 1 tree)

  pub over-left : still_waits (map_leaves (leaf_over slots leaves) tree) ≡ pruned tree leaves
  over-left =
      ap (map_leaves handle_in) (pruned-map (leaf_over slots leaves) state_in tree) ∙ map-map (leaf_over slots leaves) handle_in (pruned tree leaves) ∙ same-leaves (pruned tree leaves)
