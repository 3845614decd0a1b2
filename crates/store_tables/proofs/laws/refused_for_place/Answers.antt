use Rattle.store_tables.proofs.Ruled.{rules_refuse}
use Rattle.store_tables.proofs.laws.refused_for_place.Goals as goal

pub returns : goal.returns
returns c = record { writes = rules_refuse }
