-- Whether a tree names one of some arrivals: whether a leaf is the id of one.
use Rattle.std.specs.Prelude.{Bool, List}
use Rattle.journal_model.specs.Notification.{Arrival}
use Rattle.journal_model.specs.declared.notification.NotificationId.{NotificationId}
use Rattle.journal_model.specs.AwaitTree.{AwaitTree, is_completed}
use Rattle.due_laws.specs.Leaves.{has_leaf}
use Rattle.store_frames.specs.First.{arrived_state}

abbrev pub is_completed_among : List Arrival → NotificationId → Bool
is_completed_among arrivals id = is_completed (arrived_state arrivals id)

abbrev pub names_any : List Arrival → AwaitTree NotificationId → Bool
names_any arrivals tree = has_leaf (is_completed_among arrivals) tree
