use Rattle.std.proofs.Common.{◌∙◌, []}
use Rattle.store_arrivals.proofs.wake.is_named.Goals as goal

pub returns-in-Ok-clause-told : goal.returns-in-Ok-clause-told
returns-in-Ok-clause-told c = c.names_any-named.ensures c.args.new.now (c.in-Ok.ensures.told [] c.new.ensures)

pub returns-in-Err-clause-told : goal.returns-in-Err-clause-told
returns-in-Err-clause-told c = c.in-Err.ensures.told [] c.new.ensures
