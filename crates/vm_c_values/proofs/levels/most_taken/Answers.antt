use Rattle.std.proofs.Common.{reverse}
use Rattle.vm_c_values.proofs.Nesting.{takes_level}
use Rattle.vm_c_values.proofs.levels.most_taken.Goals as goal

pub loop-taken-preserved : goal.loop-taken-preserved
loop-taken-preserved c =
    takes_level c.args.count (reverse c.args.levels.now.items) c.loop-taken._taken c.loop-taken.most c.in-Some.level c.max-most.result c.loop-taken.levels.items c.pop.new.self.items
    c.loop-taken-test.true c.loop-taken.invariant c.in-Some.ensures.items c.max-most.ensures
