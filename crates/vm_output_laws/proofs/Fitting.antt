-- The ids of trees that fit, in three lists, fit.
use Rattle.std.specs.Prelude.{List, IsUtf8}
use Rattle.std.specs.List.{AllByRecursion}
use Rattle.journal_model.specs.declared.notification.NotificationId.{NotificationId}
use Rattle.journal_model.specs.AwaitTree.{AwaitTree, Single, Combined, AwaitTrees, no_trees, and_trees}
use Rattle.journal_model.specs.Spelling.{completions_in, signals_in, names_in}
use Rattle.vm_waiting.specs.SuspensionFrames.{below, leaves_by_node}
use Rattle.vm_request_laws.specs.Trees.{LeavesFit, AllLeavesFit}
use Rattle.vm_request_laws.proofs.RequestBounds.{all_append, IsSmall, completions_fit, signals_fit, names_fit}

module _ {Leaf : Type 0} (own : AwaitTrees NotificationId → List Leaf) (P : Leaf → Type 0) (owned : (trees : AwaitTrees NotificationId) → AllLeavesFit trees → AllByRecursion P (own trees)) where
  below_fit : (trees : AwaitTrees NotificationId) → AllLeavesFit trees → AllByRecursion P (below own trees)
  below_fit no_trees h = tt
  below_fit (and_trees (Single leaf) trees) h = below_fit trees h.1
  below_fit (and_trees (Combined combinator children) trees) h =
      all_append P _ (below own trees) (all_append P (own children) (below own children) (owned children h.0.1) (below_fit children h.0.1)) (below_fit trees h.1)

  listed_fit : (tree : AwaitTree NotificationId) → LeavesFit tree → AllByRecursion P (leaves_by_node own tree)
  listed_fit (Single leaf) h = owned (and_trees (Single leaf) no_trees) (h, tt)
  listed_fit (Combined combinator children) h = all_append P (own children) (below own children) (owned children h.1) (below_fit children h.1)

pub completions_listed : (tree : AwaitTree NotificationId) → LeavesFit tree → AllByRecursion IsSmall (leaves_by_node completions_in tree)
completions_listed = listed_fit completions_in IsSmall completions_fit

pub signals_listed : (tree : AwaitTree NotificationId) → LeavesFit tree → AllByRecursion IsSmall (leaves_by_node signals_in tree)
signals_listed = listed_fit signals_in IsSmall signals_fit

pub names_listed : (tree : AwaitTree NotificationId) → LeavesFit tree → AllByRecursion IsUtf8 (leaves_by_node names_in tree)
names_listed = listed_fit names_in IsUtf8 names_fit
