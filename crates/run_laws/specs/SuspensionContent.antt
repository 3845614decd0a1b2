-- What a suspension has to tell of the tree that a waiting run still waits for.
use Rattle.std.specs.Prelude.{◌≡◌, ℕ, true, List, [], ◌∷◌, ◌++◌, length, Option, Some, None}
use Rattle.std.specs.List.{list_any}
use Rattle.protocol_types.specs.Feature.{lacks_feature}
use Rattle.protocol_types.specs.declared.feature.Feature.TheVariants as features
use Rattle.journal_model.specs.declared.notification.NotificationId.{NotificationId}
use Rattle.journal_model.specs.Notification.{Arrival}
use Rattle.journal_model.specs.AwaitTree.{AwaitTree, AwaitState, Single, Combined, AwaitTrees, no_trees, and_trees, is_completed, is_awake}
use Rattle.journal_model.specs.Request.{Request}
use Rattle.journal_model.specs.History.{place_of}
use Rattle.journal_model.specs.Delivery.{leaf_state}
use Rattle.journal_model.specs.PrunedTrees.{pruned, only_leaves, state_of_some}
use Rattle.journal_model.specs.Run.{Handler, Invocation, Progress, Waits, run, run_requests}
use Rattle.journal_model.specs.Event.{Suspension, ForTree, ForAny}

-- what a suspension tells of the tree that is still waited for: the same wakes it, or, in versions
-- whose suspensions have lists, whatever wakes it is listed
abbrev pub TellsAwaitedTree : ℕ → AwaitTree (Option NotificationId) → Option Suspension → Type 0
TellsAwaitedTree version tree None = ⊥
TellsAwaitedTree version tree (Some (ForTree told)) = (states : NotificationId → AwaitState) → is_awake told states ≡ is_awake (only_leaves (λ leaf. leaf) tree) states
TellsAwaitedTree version tree (Some (ForAny ids)) =
    (lacks_feature version features.AwaitTree ≡ true) × ((states : NotificationId → AwaitState) → is_awake tree (state_of_some states) ≡ true → list_any (λ id. is_completed (states id)) ids ≡ true)

-- the tree that a run which waits after these steps still waits for, with the leaves that stand for no id
abbrev pub left_of : Invocation → List Arrival → Progress → AwaitTree (Option NotificationId) → AwaitTree (Option NotificationId)
left_of given arrivals progress tree = pruned tree (leaf_state given.options progress.steps arrivals (place_of progress.steps) (length arrivals))

-- the run over these arrivals waits with exactly these requests, for what the suspension tells
pub record WaitsAll (next : Handler) (given : Invocation) (arrivals : List Arrival) (requests : List Request) (suspension : Option Suspension) : Type 0 where
  pub calls : ℕ
  pub tree : AwaitTree (Option NotificationId)
  pub waits : (run next given arrivals calls).ending ≡ Waits tree
  pub exactly : requests ≡ run_requests next given arrivals calls
  pub tells : TellsAwaitedTree given.version (left_of given arrivals (run next given arrivals calls) tree) suspension

-- the ids that the leaves of a tree stand for
abbrev mutual
  pub leaf_ids : AwaitTree (Option NotificationId) → List NotificationId
  leaf_ids (Single None) = []
  leaf_ids (Single (Some id)) = id ∷ []
  leaf_ids (Combined combinator children) = leaf_ids_of_trees children

  pub leaf_ids_of_trees : AwaitTrees (Option NotificationId) → List NotificationId
  leaf_ids_of_trees no_trees = []
  leaf_ids_of_trees (and_trees tree trees) = leaf_ids tree ++ leaf_ids_of_trees trees
