use Rattle.vm_waiting.proofs.Nested.{future_deep, child_deep}
use Rattle.vm_waiting.proofs.waits_for.WaitsFor.is_too_deep.Goals as goal

pub returns-in-Future : goal.returns-in-Future
returns-in-Future c = future_deep c.args.self.now c.in-Future.left c.is_nested_within.result c.in-Future.is c.is_nested_within.ensures

pub returns-in-Child : goal.returns-in-Child
returns-in-Child c = child_deep c.args.self.now _ c.in-Child.is
