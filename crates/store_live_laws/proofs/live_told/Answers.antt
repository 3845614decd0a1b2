-- The laws are proved in `Tests`.
use Rattle.store_live_laws.proofs.Tests.{live_told, live_is_open}
use Rattle.store_live_laws.proofs.live_told.Goals as goal

pub returns-clause-live : goal.returns-clause-live
returns-clause-live c = live_told

pub returns-clause-is_open : goal.returns-clause-is_open
returns-clause-is_open c = live_is_open
