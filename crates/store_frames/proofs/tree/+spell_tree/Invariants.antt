use Rattle.std.proofs.Common.{◌≡◌, ◌++◌, take, map}
use Rattle.protocol_wire.specs.Parts.{part_spelling, repeated_bytes}
use Rattle.protocol_table.specs.declared.table.future.TheConstants.{NESTED_FUTURES}
use Rattle.store_frames.proofs.Trees.{tree_spelling}
use Rattle.store_frames.proofs.tree.+spell_tree.Given as goal

abbrev pub invariant-loop-nested : goal.invariant-loop-nested
invariant-loop-nested l = l.out.items ≡ l.initial.out.items ++ part_spelling (repeated_bytes NESTED_FUTURES.number (map tree_spelling (take l.nested-index l.nested-items)))
