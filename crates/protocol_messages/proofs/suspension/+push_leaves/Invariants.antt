use Rattle.std.proofs.Common.{◌≡◌, take}
use Rattle.protocol_messages.proofs.Preorder.{with_nested}
use Rattle.protocol_messages.proofs.suspension.+push_leaves.Given as goal

abbrev pub invariant-loop-nested : goal.invariant-loop-nested
invariant-loop-nested l = l.lists ≡ with_nested l.initial.lists (take l.nested-index l.nested-items)
