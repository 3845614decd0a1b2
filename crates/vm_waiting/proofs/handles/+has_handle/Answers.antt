use Rattle.std.proofs.Common.{arith}
use Rattle.vm_awaits.specs.Trees.{combinator_meant}
use Rattle.vm_awaits.proofs.Futures.{child_is_smaller}
use Rattle.vm_waiting.proofs.handles.+has_handle.Goals as goal

pub has_handle-requires : goal.has_handle-requires
has_handle-requires t c =
    let smaller = child_is_smaller (combinator_meant c.in-Node.field-0) c.args.future.now c.in-Node.children.now c.loop-child.child-index c.child-item.result c.in-Node.ensures c.loop-child-test.true c.child-item.is in
    (omega (arith, smaller, c.decreases), tt)
