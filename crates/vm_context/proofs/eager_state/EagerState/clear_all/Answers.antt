use Rattle.vm_context.proofs.Telling.{cleared_follows}
use Rattle.vm_context.proofs.eager_state.EagerState.clear_all.Goals as goal

pub returns-clause-knows : goal.returns-clause-knows
returns-clause-knows c = cleared_follows c.args.self.now c.clear.new.self.entries c.clear.ensures.empty
