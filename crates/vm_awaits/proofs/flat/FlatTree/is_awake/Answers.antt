use Rattle.vm_awaits.proofs.Keeping.{seen-awake}
use Rattle.vm_awaits.proofs.flat.FlatTree.is_awake.Goals as goal

pub returns : goal.returns
returns c = seen-awake c.self.inside.slots.now c.self.inside.nodes.items c.self.inside.leaves c.self.inside.is_awake c.args.self.now c.self.view_is c.self.invariant
