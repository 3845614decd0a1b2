-- The laws are proved in `Applying`.
use Rattle.schedule_model.proofs.Applying.{none_held, reaches}
use Rattle.schedule_model.specs.Schedule.{FeedsOne, ClosesOne, MovesOne, TurnsOne}
use Rattle.schedule_model.proofs.laws.attempts_are_held.Goals as goal

pub returns-clause-none : goal.returns-clause-none
returns-clause-none g c = none_held

pub returns-clause-feeds : goal.returns-clause-feeds
returns-clause-feeds g c = λ count. reaches (FeedsOne count)

pub returns-clause-closes : goal.returns-clause-closes
returns-clause-closes g c = reaches ClosesOne

pub returns-clause-moves : goal.returns-clause-moves
returns-clause-moves g c = λ count. reaches (MovesOne count)

pub returns-clause-turns : goal.returns-clause-turns
returns-clause-turns g c = λ outcome. reaches (TurnsOne g.H.Handler.next_call outcome)
