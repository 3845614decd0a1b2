-- What a delivery keeps of a flat vector.
use Rattle.std.proofs.Common.{◌≡◌, refl, sym, ap, ap₂, ◌∙◌, subst, ℕ, ◌≤◌, Bool, true, false, List, Option, Some, None, Result, Ok, Err, IfOk}
use Rattle.std.specs.Option.{ForSome}
use Rattle.std.specs.declared.alloc.AllocError.{AllocError}
use Rattle.journal_model.specs.declared.notification.NotificationId.{NotificationId}
use Rattle.journal_model.specs.AwaitTree.{AwaitState, Pending, Succeeded, Failed, AwaitTree, is_awake, is_completed, map_leaves}
use Rattle.journal_model.specs.Future.{tree_of}
use Rattle.journal_model.specs.declared.future.UnresolvedFuture.{UnresolvedFuture}
use Rattle.journal_model.specs.PrunedTrees.{pruned, earlier_or_later}
use Rattle.attempt_model.specs.Results.{Slots}
use Rattle.vm_flat_trees.specs.declared.node.FlatNode.{FlatNode}
use Rattle.vm_flat_trees.specs.SleepingTree.{AwaitedLeaf, Awaited, leaf_over, awaited_over, delivered, awaited_in, has_woken, still_waits, ways_for}
use Rattle.vm_flat_trees.specs.NotificationRecipients.{waits_for}
use Rattle.vm_flat_trees.specs.NotificationDelivery.{brought, places_of, CanHear, CanHearOf, Delivers, Hears}
use Rattle.vm_flat_trees.specs.Flat.{flat_of}
use Rattle.vm_flat_trees.specs.Places.{places_where}
use Rattle.vm_flat_trees.proofs.Finding.{where-flat}
use Rattle.vm_flat_trees.proofs.Awaiting.{over-asleep, over-awake, over-woken, over-flat, over-later, over-pending, over-ways, over-left}
use Rattle.vm_awaits.specs.Awaits.{AwaitsSome}
use Rattle.vm_awaits.specs.Ids.{FindsLeaves}
use Rattle.vm_awaits.specs.declared.ids.IdLeaves.{IdLeaves}

is-pending : (s : AwaitState) → is_completed s ≡ false → s ≡ Pending
is-pending Pending e = refl
is-pending Succeeded e = cc
is-pending Failed e = cc

-- one that is awake
pub nothing-heard : (slots : Slots) (nodes : List FlatNode) (awake : Bool) (value : Awaited) (id : NotificationId) (state : AwaitState) → awaited_in slots nodes awake ≡ value → awake ≡ true → value ≡ delivered id state value
nothing-heard slots nodes awake value id state view is =
    let none : value ≡ None = sym view ∙ ap (awaited_in slots nodes) is in
    none ∙ sym (ap (delivered id state) none)

module _ (slots : Slots) (nodes : List FlatNode) (index : Option IdLeaves) (awake : Bool) (value : Awaited) (view : awaited_in slots nodes awake ≡ value) (some : AwaitsSome slots nodes index awake) where
  pub seen-over : value ≡ awaited_over slots some.leaves some.tree
  seen-over = sym view ∙ over-flat slots some.leaves some.tree nodes awake some.awaits.awake_is some.awaits.nodes_are

  pub seen-awake : awake ≡ has_woken value
  seen-awake = some.awaits.awake_is ∙ sym (ap has_woken seen-over ∙ over-woken slots some.leaves some.tree)

  -- what is pending changes nothing
  pub pending-unheard : (id : NotificationId) (state : AwaitState) → is_completed state ≡ false → value ≡ delivered id state value
  pending-unheard id state waits =
      sym (ap₂ (λ (s : AwaitState) (v : Awaited). delivered id s v) (is-pending state waits) seen-over ∙ over-pending slots some.leaves some.tree id ∙ sym seen-over)

  -- what is left of it
  pub seen-left : (result : Result UnresolvedFuture AllocError) → IfOk result (λ answer. (tree : AwaitTree ℕ) (leaves : ℕ → AwaitState) → nodes ≡ flat_of tree leaves → is_awake tree leaves ≡ false → tree_of answer ≡ pruned tree leaves)
      → IfOk result (λ answer. ForSome value (λ tree. tree_of answer ≡ still_waits tree))
  seen-left (Err error) told = tt
  seen-left (Ok answer) told = λ tree is. by_cases (is_awake some.tree some.leaves) refl tree is
    where
      by_cases : (b : Bool) → is_awake some.tree some.leaves ≡ b → (tree : AwaitTree AwaitedLeaf) → value ≡ Some tree → tree_of answer ≡ still_waits tree
      by_cases true e tree is = let none : value ≡ None = seen-over ∙ over-awake slots some.leaves some.tree e in absurd cc
      by_cases false e tree is =
          let whole : Some (map_leaves (leaf_over slots some.leaves) some.tree) ≡ Some tree = sym (seen-over ∙ over-asleep slots some.leaves some.tree e) ∙ is in
          let same : map_leaves (leaf_over slots some.leaves) some.tree ≡ tree = cc in
          told some.tree some.leaves (some.awaits.nodes_are (some.awaits.awake_is ∙ e)) e ∙ sym (over-left slots some.leaves some.tree) ∙ ap still_waits same

  module _ (asleep : awake ≡ false) (before : List FlatNode) (nodes_same : before ≡ nodes) where
    same-flat : before ≡ flat_of some.tree some.leaves
    same-flat = nodes_same ∙ some.awaits.nodes_are asleep

    same-places : (id : NotificationId) → places_where (waits_for slots id) 0 before ≡ places_of (waits_for slots id) some.tree
    same-places id = ap (places_where (waits_for slots id) 0) same-flat ∙ where-flat (waits_for slots id) some.leaves some.tree

    pub seen-hears : (id : NotificationId) → CanHear before (places_where (waits_for slots id) 0 before) some.tree some.leaves (waits_for slots id)
    seen-hears id = record { flat = same-flat; asleep = sym some.awaits.awake_is ∙ asleep; places_are = same-places id }

    pub can-hear : (id : NotificationId) → CanHearOf before (places_where (waits_for slots id) 0 before)
    can-hear id = record { tree = some.tree; leaves = some.leaves; test = waits_for slots id; can = seen-hears id }

    -- what was looked up is that of the nodes
    pub looked-up : ForSome index (FindsLeaves slots before)
    looked-up = λ found is id. some.awaits.places_are found is id ∙ sym (same-places id)

  module _ (asleep : awake ≡ false) (id : NotificationId) (before : List FlatNode) (nodes_same : before ≡ nodes)
      (state : AwaitState) (after : List FlatNode) (wakes : Bool) (visits : ℕ) (told : Delivers before (places_where (waits_for slots id) 0 before) state after wakes visits) where
    hears : Hears some.tree some.leaves (waits_for slots id) state after wakes visits
    hears = told some.tree some.leaves (waits_for slots id) (seen-hears asleep before nodes_same id)

    pub keeps-some : (items : List FlatNode) → items ≡ after → (found : Option IdLeaves) → ForSome found (FindsLeaves slots before) → AwaitsSome slots items found wakes
    keeps-some items same found finds = record {
      tree = some.tree;
      leaves = earlier_or_later some.leaves (brought (waits_for slots id) state);
      awaits = record { awake_is = hears.awake; nodes_are = λ e. same ∙ hears.flat e; places_are = λ known is one. finds known is one ∙ same-places asleep before nodes_same one };
    }

    pub all-heard : (items : List FlatNode) → items ≡ after → awaited_in slots items wakes ≡ delivered id state value
    all-heard items same =
        over-flat slots (earlier_or_later some.leaves (brought (waits_for slots id) state)) some.tree items wakes hears.awake (λ e. same ∙ hears.flat e)
        ∙ sym (over-later slots some.leaves some.tree id state) ∙ ap (delivered id state) (sym seen-over)

    pub few-visits : visits ≤ ways_for id value
    few-visits =
        subst (λ (n : ℕ). visits ≤ n) (sym (over-ways slots some.leaves some.tree id (sym some.awaits.awake_is ∙ asleep)) ∙ ap (ways_for id) (sym seen-over)) hears.few
