-- The words that are left are read onto the trees that were.
use Rattle.std.proofs.Common.{◌≡◌, ◌≤◌, [], Some, length, take}
use Rattle.call_lines.specs.TreeReader.{all_onto, from_top}
use Rattle.call_lines.proofs.Stacking.{words_in}
use Rattle.call_lines.proofs.tree.stacked.Given as goal

abbrev pub invariant-loop-left : goal.invariant-loop-left
invariant-loop-left l = (l.left ≤ length l.words) × (all_onto (words_in (take l.left l.words)) (Some (from_top l.stack.items)) ≡ all_onto (words_in l.words) (Some []))

abbrev pub decreases-loop-left : goal.decreases-loop-left
decreases-loop-left l = l.left
