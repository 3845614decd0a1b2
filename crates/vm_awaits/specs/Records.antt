-- What stands in a node of the record of a future.
use Rattle.std.specs.Prelude.{ℕ, ◌+◌, length, [], ◌∷◌, ◌++◌, Option, Some, None}
use Rattle.journal_model.specs.declared.notification.NotificationId.{NotificationId}
use Rattle.journal_model.specs.declared.notification.NotificationId.TheVariants.{CompletionId, SignalId, SignalName}
use Rattle.protocol_records.specs.declared.future.Future.{Future}
use Rattle.vm_awaits.specs.declared.records.NodeParts.{NodeParts}

abbrev pub no_node : NodeParts
no_node = record { completions = []; signals = []; names = []; nested = [] }

-- one leaf more
abbrev pub with_id : NotificationId → NodeParts → NodeParts
with_id (CompletionId number) parts = record parts { completions = parts.completions ++ number ∷ [] }
with_id (SignalId number) parts = record parts { signals = parts.signals ++ number ∷ [] }
with_id (SignalName name) parts = record parts { names = parts.names ++ name ∷ [] }

-- one handle more, where it stands for something
abbrev pub with_leaf : Option NotificationId → NodeParts → NodeParts
with_leaf None parts = parts
with_leaf (Some id) parts = with_id id parts

-- one node more
abbrev pub with_nested : Future → NodeParts → NodeParts
with_nested future parts = record parts { nested = parts.nested ++ future ∷ [] }

-- how many leaves and nodes stand in it
abbrev pub count_of : NodeParts → ℕ
count_of parts = length parts.completions + length parts.signals + length parts.names + length parts.nested
