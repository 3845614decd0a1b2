-- The laws are proved in `Ending` and `Counting`.
use Rattle.store_arrivals.proofs.Ending.{all_ending, rows_of_tick}
use Rattle.store_arrivals.proofs.Counting.{all_ended_counted}
use Rattle.store_arrivals.proofs.laws.ended_grouped.Goals as goal

pub returns-clause-ending : goal.returns-clause-ending
returns-clause-ending c = all_ending

pub returns-clause-rows : goal.returns-clause-rows
returns-clause-rows c = rows_of_tick

pub returns-clause-counted : goal.returns-clause-counted
returns-clause-counted c = all_ended_counted
