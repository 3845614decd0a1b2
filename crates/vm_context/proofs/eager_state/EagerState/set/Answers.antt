use Rattle.std.proofs.Common.{Some}
use Rattle.vm_context.proofs.Telling.{kept_at, kept_as_it_was, set_follows}
use Rattle.vm_context.proofs.eager_state.EagerState.set.Goals as goal

pub returns-clause-ok : goal.returns-clause-ok
returns-clause-ok c = rw (← c.self.view_is) (kept_at c.keep.result c.self.inside.is_partial c.self.inside.values.entries c.keep.new.values.entries c.args.key (Some c.args.value) c.keep.ensures.ok)

pub returns-clause-knows : goal.returns-clause-knows
returns-clause-knows c = rw (← c.self.view_is) (set_follows c.keep.result c.self.inside.is_partial c.self.inside.values.entries c.keep.new.values.entries c.args.key c.args.value c.keep.ensures.ok)

pub returns-clause-err : goal.returns-clause-err
returns-clause-err c = rw (← c.self.view_is) (kept_as_it_was c.keep.result c.self.inside.is_partial c.self.inside.values.entries c.keep.new.values.entries c.keep.ensures.err)
