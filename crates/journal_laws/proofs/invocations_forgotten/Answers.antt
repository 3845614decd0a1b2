-- The laws are proved in `Forgetting`, `Staying`, `Waking` and `Several`.
use Rattle.journal_laws.proofs.Forgetting.{forgets}
use Rattle.journal_laws.proofs.Staying.{headline_stays}
use Rattle.journal_laws.proofs.Waking.{never_late, wakes_exactly}
use Rattle.journal_laws.proofs.Several.{several_forget}
use Rattle.journal_laws.proofs.invocations_forgotten.Goals as goal

pub returns-clause-others : goal.returns-clause-others
returns-clause-others c = forgets

pub returns-clause-headline : goal.returns-clause-headline
returns-clause-headline c = headline_stays

pub returns-clause-waking : goal.returns-clause-waking
returns-clause-waking c = λ handler given events id other d. (never_late id other d events handler given, wakes_exactly id other d events handler given)

pub returns-clause-several : goal.returns-clause-several
returns-clause-several c = several_forget
