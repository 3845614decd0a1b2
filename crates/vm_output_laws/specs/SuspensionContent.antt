-- What suspensions tell.
use Rattle.std.specs.Prelude.{◌≡◌, ℕ, false, Option, Some}
use Rattle.protocol_types.specs.declared.feature.Feature.TheVariants.{AwaitTree as TellsTrees}
use Rattle.protocol_types.specs.Feature.{lacks_feature}
use Rattle.journal_model.specs.declared.notification.NotificationId.{NotificationId}
use Rattle.journal_model.specs.AwaitTree.{AwaitTree, Pending, is_awake}
use Rattle.journal_model.specs.PrunedTrees.{only_leaves}
use Rattle.run_laws.specs.SuspensionContent.{TellsAwaitedTree}
use Rattle.vm_output_laws.specs.SentFrames.{suspension_told}

-- A suspension tells the tree over the ids that are left, or before version 7 all of them in three lists; that is what a run waits for
-- which waits for that tree, if the tree is not awake by itself.
abbrev pub SuspensionsTell : Type 0
SuspensionsTell = (version : ℕ) (tree : AwaitTree (Option NotificationId)) → is_awake tree (λ leaf. Pending) ≡ false
    → TellsAwaitedTree version tree (Some (suspension_told (lacks_feature version TellsTrees) (only_leaves (λ leaf. leaf) tree)))
