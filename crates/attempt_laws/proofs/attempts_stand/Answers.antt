-- The laws are proved in `Simulating`.
use Rattle.attempt_laws.proofs.Standing.{begins, reads_on, fits_on}
use Rattle.attempt_laws.proofs.attempts_stand.Goals as goal

pub returns-clause-begins : goal.returns-clause-begins
returns-clause-begins c = begins

pub returns-clause-reads : goal.returns-clause-reads
returns-clause-reads c = λ handler given journal arrivals arrival calls m stands. reads_on handler given journal arrivals arrival calls m stands

pub returns-clause-fits : goal.returns-clause-fits
returns-clause-fits c = fits_on
