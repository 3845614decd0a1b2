use Rattle.vm_c_values.proofs.Nesting.{levels_one}
use Rattle.vm_c_values.proofs.levels.stacked.Goals as goal

pub loop-split-preserved : goal.loop-split-preserved
loop-split-preserved c =
    levels_one c.args.nodes.now c.loop-split.rest.now c.in-Some.split.1.now c.in-Some.split.0.now c.loop-split.levels.items c.level_of-level.new.levels.items c.push.new.self.items c.level_of-level.result
    c.loop-split.invariant c.in-Some.ensures.cases.0 c.level_of-level.ensures.level c.level_of-level.ensures.left c.in_ok-push.ensures.items
