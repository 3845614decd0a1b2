-- The laws are proved in `Causing`.
use Rattle.journal_store.specs.Causes.{TriesEvent, TriesFrame, TriesFrameOf}
use Rattle.journal_store.proofs.Causing.{asking_wants, forgetting_wants, writing_wants}
use Rattle.journal_store.proofs.laws.refused_for_memory.Goals as goal

pub returns-clause-asking : goal.returns-clause-asking
returns-clause-asking g c = asking_wants g.S.Store

pub returns-clause-event : goal.returns-clause-event
returns-clause-event g c one = writing_wants g.S.Store (TriesEvent one)

pub returns-clause-frame : goal.returns-clause-frame
returns-clause-frame g c id attempt = writing_wants g.S.Store (TriesFrame id attempt)

pub returns-clause-accepted : goal.returns-clause-accepted
returns-clause-accepted g c id attempt bytes replies = writing_wants g.S.Store (TriesFrameOf id attempt bytes replies)

pub returns-clause-forgotten : goal.returns-clause-forgotten
returns-clause-forgotten g c = forgetting_wants g.S.Store
