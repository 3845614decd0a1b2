use Rattle.std.proofs.Common.{◌∙◌}
use Rattle.vm_context.proofs.Entries.{put_is}
use Rattle.vm_context.proofs.eager_state.keep.Goals as goal

pub returns-clause-ok : goal.returns-clause-ok
returns-clause-ok c = c.in_ok-insert.ensures.entries ∙ put_is c.args.values.now.entries c.args.key c.args.value
