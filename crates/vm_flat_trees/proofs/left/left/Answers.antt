use Rattle.std.proofs.Common.{arith}
use Rattle.std.proofs.lemmas.Grind.{common_steps}
use Rattle.vm_flat_trees.proofs.Front.{first-left, none-left_then}
use Rattle.vm_flat_trees.proofs.left.left.Goals as goal

pub returns-in-Some : goal.returns-in-Some
returns-in-Some c = first-left c.args.nodes.now c.in_ok-futures.futures.items c.pop_front.new.self.items c.in-Some.future c.in_ok-futures.ensures c.in-Some.ensures.items

pub returns : goal.returns
returns c = none-left_then c.args.nodes.now c.in_ok-futures.futures.items _ c.in_ok-futures.ensures (grind (arith, common_steps))
