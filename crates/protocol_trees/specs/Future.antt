-- The tree that a future's record is, over the ids of notifications.
use Rattle.std.specs.Prelude.{ℕ, List, ◌++◌, map}
use Rattle.journal_model.specs.AwaitTree as Trees
use Rattle.journal_model.specs.declared.notification.NotificationId.{NotificationId}
use Rattle.journal_model.specs.declared.notification.NotificationId.TheVariants as ids
use Rattle.protocol_records.specs.declared.future.Future.{Future, fold-Future, out-Future}
use Rattle.protocol_records.specs.declared.future.CombinatorType.{CombinatorType}
use Rattle.protocol_records.specs.declared.future.CombinatorType.TheVariants as combinators
use Rattle.protocol_trees.specs.Shape.{shape_combinator, node}
use Rattle.protocol_trees.specs.declared.future.NotificationIdRef.{NotificationIdRef}
use Rattle.protocol_trees.specs.declared.future.NotificationIdRef.TheVariants as refs
use Rattle.protocol_trees.specs.declared.tree.AwaitTreeShape.{AwaitTreeShape}
use Rattle.protocol_trees.specs.declared.tree.AwaitTreeShape.TheVariants as shapes

-- a number without a name means unknown
abbrev pub shape_in : CombinatorType → (required : ℕ) → AwaitTreeShape
shape_in combinators.FirstCompleted required = shapes.FirstCompleted
shape_in combinators.AllCompleted required = shapes.AllCompleted
shape_in combinators.FirstSucceededOrAllFailed required = shapes.FirstSucceededOrAllFailed
shape_in combinators.AllSucceededOrFirstFailed required = shapes.AllSucceededOrFirstFailed
shape_in combinators.AtLeastSucceeded required = shapes.AtLeast required
shape_in _ required = shapes.Unknown

-- completions first, then signals by number, then by name
abbrev pub ids_in : List ℕ → List ℕ → List (List ℕ) → List NotificationId
ids_in completions signals names = map ids.CompletionId completions ++ (map ids.SignalId signals ++ map ids.SignalName names)

unfoldable pub future_tree : Future → Trees.AwaitTree NotificationId
future_tree = fold-Future (Trees.AwaitTree NotificationId) (λ f. node (shape_combinator (shape_in f.combinator_type f.required)) (ids_in f.waiting_completions f.waiting_signals f.waiting_named_signals) f.nested_futures)

abbrev pub leaves_in : Future → List NotificationId
leaves_in f = ids_in (out-Future f).waiting_completions (out-Future f).waiting_signals (out-Future f).waiting_named_signals

abbrev pub children_in : Future → List (Trees.AwaitTree NotificationId)
children_in f = map future_tree (out-Future f).nested_futures

-- the id that a reference names
abbrev pub id_meant : NotificationIdRef → NotificationId
id_meant (refs.CompletionId number) = ids.CompletionId number
id_meant (refs.SignalId number) = ids.SignalId number
id_meant (refs.SignalName name) = ids.SignalName name.now
