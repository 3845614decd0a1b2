-- No leaf so far is the id of an arrival, and no tree so far names one.
use Rattle.std.proofs.Common.{◌≡◌, false, take, List}
use Rattle.std.specs.List.{list_any}
use Rattle.journal_model.specs.Notification.{Arrival}
use Rattle.protocol_trees.specs.Future.{future_tree, leaves_in, children_in}
use Rattle.protocol_trees.proofs.Forests.{tree_size}
use Rattle.store_frames.specs.First.{AreFirst}
use Rattle.store_arrivals.specs.NamedArrivals.{is_completed_among, names_any}
use Rattle.store_arrivals.proofs.named.+names_any.Given as goal

abbrev pub decreases-names_any : goal.decreases-names_any
decreases-names_any l = tree_size (future_tree l.awaited.now)

abbrev pub invariant-loop-index : goal.invariant-loop-index
invariant-loop-index l = (arrivals : List Arrival) → AreFirst l.first arrivals → list_any (is_completed_among arrivals) (take l.index (leaves_in l.awaited)) ≡ false

abbrev pub invariant-loop-place : goal.invariant-loop-place
invariant-loop-place l = (arrivals : List Arrival) → AreFirst l.first arrivals → list_any (names_any arrivals) (take l.place (children_in l.awaited)) ≡ false
