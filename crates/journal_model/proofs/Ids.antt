-- Ids that are the same are equal.
use Rattle.std.proofs.Common.{◌≡◌, ap, true, eqb-true}
use Rattle.std.proofs.lemmas.Slice.Eq.{bytes_eq-Decides}
use Rattle.journal_model.specs.declared.notification.NotificationId.{NotificationId}
use Rattle.journal_model.specs.declared.notification.NotificationId.TheVariants.{CompletionId, SignalId, SignalName}
use Rattle.journal_model.specs.Notification.{same_id}

pub same_id-same : (a b : NotificationId) → same_id a b ≡ true → a ≡ b
same_id-same (CompletionId n) (CompletionId m) e = ap CompletionId (eqb-true n m e)
same_id-same (SignalId n) (SignalId m) e = ap SignalId (eqb-true n m e)
same_id-same (SignalName s) (SignalName t) e = ap SignalName ((bytes_eq-Decides s t).0 e)
same_id-same _ _ e = cc
