use Rattle.vm_context.proofs.Telling.{start_follows}
use Rattle.vm_context.proofs.eager_state.EagerState.new.Goals as goal

pub returns-clause-knows : goal.returns-clause-knows
returns-clause-knows c = start_follows c.args.is_partial c.in_ok-values.values.entries c.args.pairs.items c.in_ok-values.ensures
