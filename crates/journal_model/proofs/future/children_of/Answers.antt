use Rattle.journal_model.proofs.Sizes.{has_children}
use Rattle.journal_model.proofs.future.children_of.Goals as goal

pub returns-in-FirstCompleted : goal.returns-in-FirstCompleted
returns-in-FirstCompleted c = has_children c.args.future c.in-FirstCompleted.children c.in-FirstCompleted.is
