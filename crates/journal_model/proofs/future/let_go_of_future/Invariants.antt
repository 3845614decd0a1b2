-- First less is left of all, then of the one that is looked at.
use Rattle.journal_model.proofs.Sizes.{left_over}
use Rattle.journal_model.proofs.future.let_go_of_future.Given as goal

abbrev pub decreases-down : goal.decreases-down
decreases-down l = left_over l.next l.beside
