-- The laws of this crate.
use Rattle.std.specs.Prelude.{◌≡◌, ℕ, suc, Bool, true, false, List, ◌++◌, length, Option, Some}
use Rattle.std.specs.List.{list_any}
use Rattle.protocol_types.specs.Feature.{has_feature, lacks_feature}
use Rattle.protocol_types.specs.declared.feature.Feature.TheVariants as features
use Rattle.journal_model.specs.declared.notification.NotificationId.{NotificationId}
use Rattle.journal_model.specs.Notification.{Arrival, same_id, cancel_id}
use Rattle.journal_model.specs.AwaitTree.{AwaitTree, Single, Combined, no_trees, and_trees, FirstCompleted, Pending, is_awake}
use Rattle.journal_model.specs.Request.{Request}
use Rattle.journal_model.specs.History.{place_of}
use Rattle.journal_model.specs.Delivery.{leaf_state}
use Rattle.journal_model.specs.PrunedTrees.{SameTree, only_leaves, pruned}
use Rattle.journal_model.specs.Run.{Handler, Invocation, GoesOn, Waits, run, run_requests}
use Rattle.journal_model.specs.Event.{Suspension, ForTree, ForAny}
use Rattle.journal_model.specs.Attempt.{is_woken}
use Rattle.journal_model.specs.Headline.{GoesPast, all_stand}
use Rattle.run_laws.specs.SuspensionContent.{TellsAwaitedTree, left_of, WaitsAll, leaf_ids}

-- a suspension is awake under later arrivals wherever the run over all of them goes past its await
abbrev pub WokenWherePast : Type 0
WokenWherePast = (next : Handler) (given : Invocation) (first later : List Arrival) (requests : List Request) (suspension : Suspension)
    → WaitsAll next given first requests (Some suspension) → GoesPast next given first (first ++ later) → is_woken later (Some suspension) ≡ true

-- and where each handle stands for an id and nothing is cancelled, only there, if suspensions tell trees
abbrev pub PastWhereWoken : Type 0
PastWhereWoken = (next : Handler) (given : Invocation) (first later : List Arrival) (requests : List Request) (suspension : Suspension)
    → (waits : WaitsAll next given first requests (Some suspension)) → has_feature given.version features.AwaitTree ≡ true → all_stand waits.tree ≡ true
    → list_any (λ (arrival : Arrival). same_id arrival.id cancel_id) (first ++ later) ≡ false
    → is_woken later (Some suspension) ≡ true → GoesPast next given first (first ++ later)

-- a tree that is the same but for the order and the repeats of children tells what is waited for
abbrev pub TreesTell : Type 0
TreesTell = (version : ℕ) (tree : AwaitTree (Option NotificationId)) (told : AwaitTree NotificationId)
    → SameTree told (only_leaves (λ leaf. leaf) tree) → TellsAwaitedTree version tree (Some (ForTree told))

-- a single leaf is told by a node of it alone
abbrev pub LeavesTell : Type 0
LeavesTell = (version : ℕ) (id : NotificationId) → TellsAwaitedTree version (Single (Some id)) (Some (ForTree (Combined FirstCompleted (and_trees (Single id) no_trees))))

-- where suspensions tell lists, a list with all ids of a tree that is not awake by itself tells what is waited for
abbrev pub IdsTell : Type 0
IdsTell = (version : ℕ) (tree : AwaitTree (Option NotificationId)) (ids : List NotificationId)
    → lacks_feature version features.AwaitTree ≡ true → is_awake tree (λ leaf. Pending) ≡ false
    → ((p : NotificationId → Bool) → list_any p (leaf_ids tree) ≡ true → list_any p ids ≡ true) → TellsAwaitedTree version tree (Some (ForAny ids))

pub record SuspensionsTell : Type 0 where
  pub trees : TreesTell
  pub leaves : LeavesTell
  pub lists : IdsTell

-- where a run comes to wait at an await, it waits for what a suspension tells that tells what was left of the tree before it
abbrev pub AwaitsTell : Type 0
AwaitsTell = (next : Handler) (given : Invocation) (arrivals : List Arrival) (calls : ℕ) (requests : List Request) (ids left : AwaitTree (Option NotificationId)) (suspension : Suspension)
    → (run next given arrivals calls).ending ≡ GoesOn → (run next given arrivals (suc calls)).ending ≡ Waits ids → run_requests next given arrivals (suc calls) ≡ requests
    → left ≡ pruned ids (leaf_state given.options (run next given arrivals calls).steps arrivals (place_of (run next given arrivals calls).steps) (length arrivals))
    → TellsAwaitedTree given.version left (Some suspension) → WaitsAll next given arrivals requests (Some suspension)

-- and where a cancellation waits for one of its children, that child is told
abbrev pub ChildrenTell : Type 0
ChildrenTell = (next : Handler) (given : Invocation) (arrivals : List Arrival) (calls : ℕ) (requests : List Request) (child : Option NotificationId) (suspension : Suspension)
    → (run next given arrivals calls).ending ≡ Waits (Single child) → run_requests next given arrivals calls ≡ requests
    → TellsAwaitedTree given.version (Single child) (Some suspension) → WaitsAll next given arrivals requests (Some suspension)

-- what a run waits for is not awake by itself
abbrev pub WaitsAsleep : Type 0
WaitsAsleep = (next : Handler) (given : Invocation) (arrivals : List Arrival) (calls : ℕ) (tree : AwaitTree (Option NotificationId)) → (run next given arrivals calls).ending ≡ Waits tree
    → is_awake (left_of given arrivals (run next given arrivals calls) tree) (λ leaf. Pending) ≡ false

pub record AwaitsAreTold : Type 0 where
  pub awaits : AwaitsTell
  pub children : ChildrenTell
  pub asleep : WaitsAsleep
