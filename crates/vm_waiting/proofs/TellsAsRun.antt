-- What is told of a tree that stays asleep is what the run still waits for.
use Rattle.std.proofs.Common.{◌≡◌, refl, sym, ap, ◌∙◌, ℕ, suc, List, Option}
use Rattle.journal_model.specs.declared.notification.NotificationId.{NotificationId}
use Rattle.journal_model.specs.Notification.{Arrival}
use Rattle.journal_model.specs.AwaitTree.{AwaitTree, Single, Combined, AwaitTrees, no_trees, and_trees, map_leaves, map_leaves_of_trees}
use Rattle.journal_model.specs.Request.{Request}
use Rattle.journal_model.specs.History.{Step, stands_for}
use Rattle.journal_model.specs.PrunedTrees.{only_leaves, only_children, and_leaf, asking_of, still_awaited, tree_count}
use Rattle.journal_model.specs.Run.{Handler, Invocation, Progress, run}
use Rattle.attempt_model.specs.Results.{slot_of}
use Rattle.attempt_model.specs.Machine.{Machine}
use Rattle.attempt_model.specs.Simulation.{WaitsWithRun}
use Rattle.vm_awaits.specs.Views.{AsyncResults}
use Rattle.vm_waiting.specs.WaitReport.{WaitsTellAsRun}

-- there are as many trees with other leaves
mapped_count : {A B : Type 0} (f : A → B) (trees : AwaitTrees A) → tree_count (map_leaves_of_trees f trees) ≡ tree_count trees
mapped_count f no_trees = refl
mapped_count f (and_trees tree trees) = ap suc (mapped_count f trees)

-- leaves are replaced, and then left out, in one step
only_mapped : {A B : Type 0} (f : A → Option B) (trees : AwaitTrees A) → only_children (λ (leaf : Option B). leaf) (map_leaves_of_trees f trees) ≡ only_children f trees
only_mapped f no_trees = refl
only_mapped f (and_trees (Single leaf) trees) = ap (and_leaf (f leaf)) (only_mapped f trees)
only_mapped f (and_trees (Combined combinator children) trees) =
    λ i. and_trees (Combined (asking_of combinator (mapped_count f children i) (tree_count (only_mapped f children i))) (only_mapped f children i)) (only_mapped f trees i)

pub left_out : {A B : Type 0} (f : A → Option B) (tree : AwaitTree A) → only_leaves (λ (leaf : Option B). leaf) (map_leaves f tree) ≡ only_leaves f tree
left_out f (Single leaf) = refl
left_out f (Combined combinator children) = λ i. Combined (asking_of combinator (mapped_count f children i) (tree_count (only_mapped f children i))) (only_mapped f children i)

tells_of_run : (handler : Handler) (given : Invocation) (journal : List Request) (arrivals : List Arrival) (calls : ℕ) (tree : AwaitTree ℕ) (m : Machine)
    → (waits : WaitsWithRun handler given journal arrivals calls tree m)
    → only_leaves (slot_of m.slots) tree ≡ still_awaited given.options (run handler given arrivals calls).steps arrivals waits.ids
tells_of_run handler given journal arrivals calls tree m waits =
    (λ i. only_leaves (λ (handle : ℕ). waits.stands.tables.handles handle i) tree)
    ∙ ap (λ (steps : List Step). only_leaves (stands_for steps) tree) (sym (ap (λ (p : Progress). p.steps) waits.stands.going))
    ∙ sym (left_out (stands_for (run handler given arrivals calls).steps) tree)
    ∙ ap (λ (t : AwaitTree (Option NotificationId)). only_leaves (λ (leaf : Option NotificationId). leaf) t) waits.rest

pub tells_as_run : WaitsTellAsRun
tells_as_run tree active handler given journal arrivals calls m sees waits =
    ap (λ (r : AsyncResults). only_leaves (slot_of r.slots) tree) sees.results ∙ tells_of_run handler given journal arrivals calls tree m waits
