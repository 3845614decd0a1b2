-- The numbers of the children so far fit.
use Rattle.std.proofs.Common.{◌<◌, take}
use Rattle.std.specs.List.{AllByRecursion}
use Rattle.journal_model.specs.AwaitTree.{levels_of}
use Rattle.journal_model.specs.Future.{tree_of}
use Rattle.vm_request_laws.specs.Calls.{NumbersFit}
use Rattle.vm_attempt.proofs.typed.+futures_typed.Given as goal

abbrev pub invariant-futures_are_typed-loop-child : goal.invariant-futures_are_typed-loop-child
invariant-futures_are_typed-loop-child l = AllByRecursion (λ child. levels_of (tree_of child) < l.levels → NumbersFit (tree_of child)) (take l.child-index l.child-items)
