-- A node of the record of a future, leaf by leaf.
use Rattle.std.proofs.Common.{◌≡◌, refl, sym, ap, ap₂, ◌∙◌, arith, ℕ, suc, ◌+◌, ◌<◌, ◌≤◌, length, drop, get_or, List, [], ◌∷◌, ◌++◌, append_assoc, append-nil, map, Option, Some, None}
use Rattle.std.proofs.lemmas.List.{at_drop_all, at_drop_more}
use Rattle.journal_model.specs.declared.notification.NotificationId.{NotificationId}
use Rattle.journal_model.specs.declared.notification.NotificationId.TheVariants.{CompletionId, SignalId, SignalName}
use Rattle.journal_model.specs.AwaitTree as Trees
use Rattle.journal_model.specs.AwaitTree.{AwaitTree, AwaitTrees, no_trees, and_trees}
use Rattle.journal_model.specs.Future.{trees_from, tree_of}
use Rattle.journal_model.specs.Spelling.{completions_in, signals_in, names_in, required_by}
use Rattle.journal_model.specs.PrunedTrees.{and_leaf, only_leaves, only_children, asking_of, over_left, tree_count}
use Rattle.journal_model.specs.declared.future.UnresolvedFuture.{UnresolvedFuture}
use Rattle.protocol_records.specs.declared.future.Future.{Future}
use Rattle.protocol_stream.specs.Records.{combinator_record, future_node, future_record, nested_records}
use Rattle.vm_awaits.specs.Records.{count_of, no_node, with_id, with_leaf, with_nested}
use Rattle.vm_awaits.specs.declared.records.NodeParts.{NodeParts}

-- the parts, and behind them those of these trees
abbrev pub with_trees : NodeParts → AwaitTrees NotificationId → NodeParts
with_trees parts trees = record {
  completions = parts.completions ++ completions_in trees;
  signals = parts.signals ++ signals_in trees;
  names = parts.names ++ names_in trees;
  nested = parts.nested ++ nested_records trees;
}

with_nothing : (parts : NodeParts) → with_trees parts no_trees ≡ parts
with_nothing parts = rw (append-nil parts.completions, append-nil parts.signals, append-nil parts.names, append-nil parts.nested) refl

id_first : (parts : NodeParts) (id : NotificationId) (trees : AwaitTrees NotificationId) → with_trees (with_id id parts) trees ≡ with_trees parts (and_trees (Trees.Single id) trees)
id_first parts (CompletionId n) trees = rw (append_assoc parts.completions (n ∷ []) (completions_in trees)) refl
id_first parts (SignalId n) trees = rw (append_assoc parts.signals (n ∷ []) (signals_in trees)) refl
id_first parts (SignalName name) trees = rw (append_assoc parts.names (name ∷ []) (names_in trees)) refl

leaf_first : (parts : NodeParts) (leaf : Option NotificationId) (trees : AwaitTrees NotificationId) → with_trees (with_leaf leaf parts) trees ≡ with_trees parts (and_leaf leaf trees)
leaf_first parts None trees = refl
leaf_first parts (Some id) trees = id_first parts id trees

-- each tree of a node stands in it once
listed : (trees : AwaitTrees NotificationId) → length (completions_in trees) + length (signals_in trees) + length (names_in trees) + length (nested_records trees) ≡ tree_count trees
listed no_trees = refl
listed (and_trees (Trees.Single (CompletionId n)) trees) = omega (arith, listed trees)
listed (and_trees (Trees.Single (SignalId n)) trees) = omega (arith, listed trees)
listed (and_trees (Trees.Single (SignalName name)) trees) = omega (arith, listed trees)
listed (and_trees (Trees.Combined combinator children) trees) = omega (arith, listed trees)

module _ (stands : ℕ → Option NotificationId) where
  -- the parts, and behind them those of these futures
  abbrev pub with_futures : NodeParts → List UnresolvedFuture → NodeParts
  with_futures parts futures = with_trees parts (only_children stands (trees_from (map tree_of futures)))

  pub no_futures : (parts : NodeParts) → with_futures parts [] ≡ parts
  no_futures parts = with_nothing parts

  -- the first of the futures is a leaf
  pub future_is_leaf : (parts : NodeParts) (handle : ℕ) (future : UnresolvedFuture) (futures : List UnresolvedFuture) → tree_of future ≡ Trees.Single handle
      → with_futures (with_leaf (stands handle) parts) futures ≡ with_futures parts (future ∷ futures)
  future_is_leaf parts handle future futures opened =
      leaf_first parts (stands handle) (only_children stands (trees_from (map tree_of futures)))
      ∙ ap (λ (t : AwaitTree ℕ). with_trees parts (only_children stands (and_trees t (trees_from (map tree_of futures))))) (sym opened)

  -- or a node
  pub future_is_node : (parts : NodeParts) (combinator : Trees.Combinator) (inside : AwaitTrees ℕ) (told : Future) (future : UnresolvedFuture) (futures : List UnresolvedFuture)
      → tree_of future ≡ Trees.Combined combinator inside → told ≡ future_record (only_leaves stands (tree_of future))
      → with_futures (with_nested told parts) futures ≡ with_futures parts (future ∷ futures)
  future_is_node parts combinator inside told future futures opened is =
      let told_is : told ≡ future_record (over_left combinator inside (only_children stands inside)) = is ∙ ap (λ (t : AwaitTree ℕ). future_record (only_leaves stands t)) opened in
      ap (λ (f : Future). with_futures (with_nested f parts) futures) told_is
      ∙ ap (λ (fs : List Future). record { completions = parts.completions ++ completions_in (only_children stands (trees_from (map tree_of futures))); signals = parts.signals ++ signals_in (only_children stands (trees_from (map tree_of futures))); names = parts.names ++ names_in (only_children stands (trees_from (map tree_of futures))); nested = fs })
      (append_assoc parts.nested (future_record (over_left combinator inside (only_children stands inside)) ∷ []) (nested_records (only_children stands (trees_from (map tree_of futures)))))
      ∙ ap (λ (t : AwaitTree ℕ). with_trees parts (only_children stands (and_trees t (trees_from (map tree_of futures))))) (sym opened)

  -- the next future is gathered
  next_future : (parts : NodeParts) (futures : List UnresolvedFuture) (i : ℕ) (future : UnresolvedFuture) → i < length futures → future ≡ get_or futures i future
      → with_futures parts (drop i futures) ≡ with_futures parts (future ∷ drop (i + 1) futures)
  next_future parts futures i future within is =
      at_drop_more (λ (fs : List UnresolvedFuture). with_futures parts fs) futures i future within
      ∙ ap (λ (f : UnresolvedFuture). with_futures parts (f ∷ drop (i + 1) futures)) (sym is)

  pub leaf_gathered : (parts after whole : NodeParts) (handle : ℕ) (futures : List UnresolvedFuture) (i : ℕ) (future : UnresolvedFuture) → i < length futures → future ≡ get_or futures i future
      → tree_of future ≡ Trees.Single handle → after ≡ with_leaf (stands handle) parts → with_futures parts (drop i futures) ≡ whole → with_futures after (drop (i + 1) futures) ≡ whole
  leaf_gathered parts after whole handle futures i future within is opened is_after before =
      ap (λ (p : NodeParts). with_futures p (drop (i + 1) futures)) is_after
      ∙ future_is_leaf parts handle future (drop (i + 1) futures) opened
      ∙ sym (next_future parts futures i future within is) ∙ before

  pub node_gathered : (parts after whole : NodeParts) (combinator : Trees.Combinator) (inside : AwaitTrees ℕ) (told : Future) (futures : List UnresolvedFuture) (i : ℕ) (future : UnresolvedFuture) → i < length futures → future ≡ get_or futures i future
      → tree_of future ≡ Trees.Combined combinator inside → told ≡ future_record (only_leaves stands (tree_of future)) → after ≡ with_nested told parts
      → with_futures parts (drop i futures) ≡ whole → with_futures after (drop (i + 1) futures) ≡ whole
  node_gathered parts after whole combinator inside told futures i future within is opened means is_after before =
      ap (λ (p : NodeParts). with_futures p (drop (i + 1) futures)) is_after
      ∙ future_is_node parts combinator inside told future (drop (i + 1) futures) opened means
      ∙ sym (next_future parts futures i future within is) ∙ before

  -- so many are left of the children of a node
  pub left_of_children : (parts : NodeParts) (futures : List UnresolvedFuture) → parts ≡ with_futures no_node futures → count_of parts ≡ tree_count (only_children stands (trees_from (map tree_of futures)))
  left_of_children parts futures is = ap count_of is ∙ listed (only_children stands (trees_from (map tree_of futures)))

  -- so many trees are the children of a node
  all_children : (futures : List UnresolvedFuture) → length futures ≡ tree_count (trees_from (map tree_of futures))
  all_children [] = refl
  all_children (future ∷ futures) = ap suc (all_children futures)

  -- behind the last there is nothing more
  nothing_more : (parts : NodeParts) → with_futures parts [] ≡ parts
  nothing_more parts =
      λ i. record { completions = append-nil parts.completions i; signals = append-nil parts.signals i; names = append-nil parts.names i; nested = append-nil parts.nested i }

  pub all_gathered : (parts : NodeParts) (futures : List UnresolvedFuture) (i : ℕ) → length futures ≤ i → with_futures parts (drop i futures) ≡ with_futures no_node futures → parts ≡ with_futures no_node futures
  all_gathered parts futures i over gathered = sym (at_drop_all (with_futures parts) futures i over ∙ nothing_more parts) ∙ gathered

  -- the record of a node over what is left of its children
  pub node_recorded : (combinator asking : Trees.Combinator) (future : UnresolvedFuture) (futures : List UnresolvedFuture) (parts : NodeParts) → tree_of future ≡ Trees.Combined combinator (trees_from (map tree_of futures))
      → parts ≡ with_futures no_node futures → asking ≡ asking_of combinator (length futures) (count_of parts)
      → future_node parts.completions parts.signals parts.names parts.nested (combinator_record asking) (required_by asking) ≡ future_record (only_leaves stands (tree_of future))
  node_recorded combinator asking future futures parts opened gathered asks =
      let asks_is : asking ≡ asking_of combinator (tree_count (trees_from (map tree_of futures))) (tree_count (only_children stands (trees_from (map tree_of futures)))) =
      asks ∙ ap₂ (asking_of combinator) (all_children futures) (left_of_children parts futures gathered) in
      (λ i. future_node (gathered i).completions (gathered i).signals (gathered i).names (gathered i).nested (combinator_record (asks_is i)) (required_by (asks_is i)))
      ∙ ap (λ (t : AwaitTree ℕ). future_record (only_leaves stands t)) (sym opened)
