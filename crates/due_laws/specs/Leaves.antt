-- Which arrivals can wake a suspension.
use Rattle.std.specs.Prelude.{◌≡◌, Bool, false, not, ◌&&◌, ◌||◌, List, ◌++◌, Option, Some, None}
use Rattle.std.specs.List.{list_any}
use Rattle.journal_model.specs.Notification.{Arrival, same_id}
use Rattle.journal_model.specs.declared.notification.NotificationId.{NotificationId}
use Rattle.journal_model.specs.AwaitTree.{AwaitTree, Single, Combined, AwaitTrees, no_trees, and_trees}
use Rattle.journal_model.specs.Event.{Suspension, ForTree, ForAny}
use Rattle.journal_model.specs.Attempt.{is_woken}

-- whether some leaf passes a test
abbrev mutual
  pub has_leaf : {Leaf : Type 0} → (Leaf → Bool) → AwaitTree Leaf → Bool
  has_leaf test (Single leaf) = test leaf
  has_leaf test (Combined combinator children) = some_has_leaf test children

  pub some_has_leaf : {Leaf : Type 0} → (Leaf → Bool) → AwaitTrees Leaf → Bool
  some_has_leaf test no_trees = false
  some_has_leaf test (and_trees tree trees) = has_leaf test tree || some_has_leaf test trees

abbrev pub is_among : List Arrival → NotificationId → Bool
is_among arrivals id = list_any (λ arrival. same_id arrival.id id) arrivals

-- whether arrivals bring an id that has not come yet, and that a suspension waits for
abbrev pub brings_awaited : List Arrival → List Arrival → Option Suspension → Bool
brings_awaited arrivals more None = false
brings_awaited arrivals more (Some (ForTree tree)) = has_leaf (λ id. is_among more id && not (is_among arrivals id)) tree
brings_awaited arrivals more (Some (ForAny ids)) = list_any (λ id. is_among more id && not (is_among arrivals id)) ids

-- others change nothing
abbrev pub OnlyAwaitedWake : Type 0
OnlyAwaitedWake = (arrivals more : List Arrival) (suspension : Option Suspension) → brings_awaited arrivals more suspension ≡ false
    → is_woken (arrivals ++ more) suspension ≡ is_woken arrivals suspension
