-- How what waits to be taken is seen.
use Rattle.std.specs.Prelude.{List, [], ◌∷◌, Option, Some, None, nat_eq, bytes_eq}
use Rattle.std.specs.declared.collections.VecDeque.{VecDeque}
use Rattle.indexmap.specs.IndexMap.{get}
use Rattle.journal_model.specs.declared.notification.NotificationId.TheVariants.{CompletionId, SignalId, SignalName}
use Rattle.journal_model.specs.declared.notification.NotificationResult.{NotificationResult}
use Rattle.attempt_model.specs.Results.{Ready}
use Rattle.vm_awaits.specs.declared.ready.ReadyNotifications.{ReadyNotifications}

abbrev pub one_or_none : Option NotificationResult → List NotificationResult
one_or_none None = []
one_or_none (Some result) = result ∷ []

-- the deliveries of a key, none where there is nothing of it
abbrev pub items_of : {A : Type 0} → Option (VecDeque NotificationResult A) → List NotificationResult
items_of None = []
items_of (Some deliveries) = deliveries.items

abbrev pub ready_in : ReadyNotifications → Ready
ready_in ready (CompletionId n) = one_or_none (get nat_eq ready.completions n)
ready_in ready (SignalId n) = items_of (get nat_eq ready.signals n)
ready_in ready (SignalName name) = items_of (get bytes_eq ready.names name)

abbrev pub none_ready : Ready
none_ready id = []
