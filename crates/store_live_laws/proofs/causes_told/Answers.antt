-- The laws are proved in `Tests`.
use Rattle.store_live_laws.proofs.Tests.{causes_told, stale_told}
use Rattle.store_live_laws.proofs.causes_told.Goals as goal

pub returns-clause-live : goal.returns-clause-live
returns-clause-live c = causes_told

pub returns-clause-stale : goal.returns-clause-stale
returns-clause-stale c = stale_told
