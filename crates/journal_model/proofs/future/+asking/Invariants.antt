-- None of the children so far has a node that asks for a number.
use Rattle.std.proofs.Common.{◌≡◌, false, take}
use Rattle.std.specs.List.{list_any}
use Rattle.journal_model.specs.AwaitTree.{has_number}
use Rattle.journal_model.specs.Future.{tree_of}
use Rattle.journal_model.proofs.future.+asking.Given as goal

abbrev pub invariant-some_has_number-loop-child : goal.invariant-some_has_number-loop-child
invariant-some_has_number-loop-child l = list_any (λ child. has_number (tree_of child)) (take l.child-index l.child-items) ≡ false
