-- The law is proved in `Sizes`.
use Rattle.store_sql_laws.proofs.Sizes.{none_is_too_big}
use Rattle.store_sql_laws.proofs.none_is_too_big.Goals as goal

pub returns : goal.returns
returns c = none_is_too_big
