-- Both are proved in `Reading`.
use Rattle.input_laws.proofs.ArrivalsRead.{read_first, read_all}
use Rattle.input_laws.proofs.read_is_handed.Goals as goal

pub returns-clause-first : goal.returns-clause-first
returns-clause-first c = read_first

pub returns-clause-all : goal.returns-clause-all
returns-clause-all c = read_all
