use Rattle.std.proofs.Common.{Bool, ap}
use Rattle.store_arrivals.proofs.woken.woken_row.Goals as goal

pub returns-in-Ok-clause-told : goal.returns-in-Ok-clause-told
returns-in-Ok-clause-told g c clean events id store of =
    ap (λ (awake : Bool). record c.args.row { progress = record c.args.row.progress { is_awake = awake } }) (c.in-Ok.ensures.told clean events id store of)
