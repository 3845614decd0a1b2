-- None of the children so far is deeper; a child is looked at with one level less.
use Rattle.std.proofs.Common.{◌≡◌, ◌-◌, false, take}
use Rattle.std.specs.Prelude.{nat_lt}
use Rattle.std.specs.List.{list_any}
use Rattle.journal_model.specs.AwaitTree.{levels_of}
use Rattle.journal_model.specs.Future.{tree_of}
use Rattle.journal_model.proofs.future.+measuring.Given as goal

abbrev pub invariant-some_is_deeper-loop-child : goal.invariant-some_is_deeper-loop-child
invariant-some_is_deeper-loop-child l = list_any (λ child. nat_lt (l.levels - 1) (levels_of (tree_of child))) (take l.child-index l.child-items) ≡ false
