-- The laws are proved in `Steps`.
use Rattle.store_live_laws.proofs.Steps.{recorded, is_acknowledged, as_before}
use Rattle.store_live_laws.proofs.recorded_kept.Goals as goal

pub returns : goal.returns
returns c = record { recorded = recorded; acknowledged = is_acknowledged; as_before = as_before }
