-- Both laws are proved in `Leaving` and in `Pruning`.
use Rattle.std.proofs.Common.{◌≡◌, refl, Option, Some, None, inr}
use Rattle.journal_model.specs.declared.notification.NotificationId.{NotificationId}
use Rattle.journal_model.specs.AwaitTree.{AwaitState, Pending}
use Rattle.journal_model.specs.PrunedTrees.{state_of_some}
use Rattle.journal_laws.proofs.Leaving.{only_leaves-awake}
use Rattle.journal_laws.proofs.Pruning.{pruned-awake}
use Rattle.journal_laws.proofs.suspensions_wake.Goals as goal

same_state : (states : NotificationId → AwaitState) (a : Option NotificationId) (b : NotificationId) → a ≡ Some b → states b ≡ state_of_some states a
same_state states None b e = cc
same_state states (Some c) b e = let same : c ≡ b = cc in rw same refl

stays_pending : (states : NotificationId → AwaitState) (a : Option NotificationId) → a ≡ None → state_of_some states a ≡ Pending
stays_pending states None e = refl
stays_pending states (Some c) e = cc

pub returns-clause-leaving_out : goal.returns-clause-leaving_out
returns-clause-leaving_out c = λ states tree awake.
    only_leaves-awake (λ leaf. leaf) (state_of_some states) states (λ a b e. inr (same_state states a b e)) (stays_pending states) tree awake

pub returns-clause-pruning : goal.returns-clause-pruning
returns-clause-pruning c = λ early late tree asleep. pruned-awake early late tree asleep
