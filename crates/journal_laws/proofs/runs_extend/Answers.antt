-- Both laws are proved in `Extension`.
use Rattle.journal_model.proofs.Extension.{requests-more, requests-longer}
use Rattle.journal_laws.proofs.runs_extend.Goals as goal

pub returns-clause-by_arrivals : goal.returns-clause-by_arrivals
returns-clause-by_arrivals c = requests-more

pub returns-clause-by_calls : goal.returns-clause-by_calls
returns-clause-by_calls c = requests-longer
