use Rattle.std.proofs.Common.{◌≡◌, drop}
use Rattle.journal_model.specs.Future.{tree_of}
use Rattle.attempt_model.specs.Results.{slot_of}
use Rattle.protocol_trees.proofs.Forests.{tree_size}
use Rattle.vm_awaits.specs.Records.{no_node}
use Rattle.vm_awaits.proofs.Gathering.{with_futures}
use Rattle.vm_awaits.proofs.records.+record_of.Given as goal

abbrev pub decreases-record_of : goal.decreases-record_of
decreases-record_of l = tree_size (tree_of l.future.now)

abbrev pub invariant-loop-child : goal.invariant-loop-child
invariant-loop-child l = with_futures (slot_of l.slots) l.parts (drop l.child-index l.children) ≡ with_futures (slot_of l.slots) no_node l.children
