-- So many children were taken from the top.
use Rattle.std.proofs.Common.{◌≡◌, ◌++◌, length, map}
use Rattle.journal_model.specs.Future.{tree_of}
use Rattle.call_lines.specs.TreeReader.{from_top}
use Rattle.call_lines.proofs.tree.children.Given as goal

abbrev pub invariant-loop-taken : goal.invariant-loop-taken
invariant-loop-taken l = (length l.children ≡ l._taken) × (from_top l.fn.stack.items ≡ map tree_of l.children ++ from_top l.stack.items)
