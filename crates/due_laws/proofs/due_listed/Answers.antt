-- All are proved in `Listing`.
use Rattle.due_laws.proofs.DueList.{due_listed, awake_found, due_tells}
use Rattle.due_laws.proofs.due_listed.Goals as goal

pub returns-clause-listed : goal.returns-clause-listed
returns-clause-listed c = due_listed

pub returns-clause-found : goal.returns-clause-found
returns-clause-found c = awake_found

pub returns-clause-tells : goal.returns-clause-tells
returns-clause-tells c = due_tells
