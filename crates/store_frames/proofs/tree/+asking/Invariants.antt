-- None of the futures so far has a node that asks for a number.
use Rattle.std.proofs.Common.{◌≡◌, false, take}
use Rattle.std.specs.List.{list_any}
use Rattle.journal_model.specs.AwaitTree.{has_number}
use Rattle.protocol_trees.specs.Future.{future_tree}
use Rattle.store_frames.proofs.tree.+asking.Given as goal

abbrev pub invariant-some_has_number-loop-one : goal.invariant-some_has_number-loop-one
invariant-some_has_number-loop-one l = list_any (λ one. has_number (future_tree one)) (take l.one-index l.nested) ≡ false
