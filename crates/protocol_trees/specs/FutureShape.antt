-- A future's tree is a node over its leaves and the trees of the futures in it.
use Rattle.std.specs.Prelude.{◌≡◌, ℕ, List}
use Rattle.journal_model.specs.AwaitTree as Trees
use Rattle.journal_model.specs.declared.notification.NotificationId.{NotificationId}
use Rattle.protocol_records.specs.declared.future.Future.{Future, out-Future, fold_out-Future}
use Rattle.protocol_records.specs.declared.future.CombinatorType.{CombinatorType}
use Rattle.protocol_records.specs.declared.future.CombinatorType.TheVariants as combinators
use Rattle.protocol_trees.specs.Shape.{shape_combinator, node, IsShaped}
use Rattle.protocol_trees.specs.Future.{shape_in, ids_in, leaves_in, children_in, future_tree}

pub future_tree_is : (f : Future) → future_tree f ≡ node (shape_combinator (shape_in (out-Future f).combinator_type (out-Future f).required)) (leaves_in f) (children_in f)
unfolding future_tree
future_tree_is f = fold_out-Future (Trees.AwaitTree NotificationId) (λ f. node (shape_combinator (shape_in f.combinator_type f.required)) (ids_in f.waiting_completions f.waiting_signals f.waiting_named_signals) f.nested_futures) f

shaped : (combinator : CombinatorType) (required : ℕ) (leaves : List NotificationId) (children : List (Trees.AwaitTree NotificationId)) (tree : Trees.AwaitTree NotificationId) → tree ≡ node (shape_combinator (shape_in combinator required)) leaves children → IsShaped (shape_in combinator required) leaves children tree
shaped combinators.Unknown required leaves children tree e = e
shaped combinators.FirstCompleted required leaves children tree e = e
shaped combinators.AllCompleted required leaves children tree e = e
shaped combinators.FirstSucceededOrAllFailed required leaves children tree e = e
shaped combinators.AllSucceededOrFirstFailed required leaves children tree e = e
shaped combinators.AtLeastSucceeded required leaves children tree e = e
shaped (combinators.Other number) required leaves children tree e = e

pub future_shaped : (f : Future) → IsShaped (shape_in (out-Future f).combinator_type (out-Future f).required) (leaves_in f) (children_in f) (future_tree f)
future_shaped f = shaped (out-Future f).combinator_type (out-Future f).required (leaves_in f) (children_in f) (future_tree f) (future_tree_is f)
