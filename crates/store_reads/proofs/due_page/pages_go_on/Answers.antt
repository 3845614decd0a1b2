use Rattle.store_reads.proofs.DuePage.{pages_are_due, pages_go_on}
use Rattle.store_reads.proofs.due_page.pages_go_on.Goals as goal

pub returns-clause-go_on : goal.returns-clause-go_on
returns-clause-go_on c = pages_go_on

pub returns-clause-due : goal.returns-clause-due
returns-clause-due c = pages_are_due
