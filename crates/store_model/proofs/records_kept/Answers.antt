-- The laws are proved in `Keeping`, `Ticking` and `Forgetting`.
use Rattle.store_model.proofs.Keeping.{kept_at_first, kept_after}
use Rattle.store_model.proofs.Ticking.{kept_in_any_order}
use Rattle.store_model.proofs.Forgetting.{kept_without}
use Rattle.store_model.proofs.records_kept.Goals as goal

pub returns-clause-at_first : goal.returns-clause-at_first
returns-clause-at_first c = kept_at_first

pub returns-clause-after : goal.returns-clause-after
returns-clause-after c = kept_after

pub returns-clause-in_any_order : goal.returns-clause-in_any_order
returns-clause-in_any_order c = kept_in_any_order

pub returns-clause-without : goal.returns-clause-without
returns-clause-without c = kept_without
