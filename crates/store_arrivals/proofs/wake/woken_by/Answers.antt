use Rattle.std.proofs.Common.{◌∙◌, subst}
use Rattle.store_refusals.specs.Preparations.{TellsOrRefuses}
use Rattle.store_frames.specs.First.{AreFirst}
use Rattle.store_arrivals.proofs.wake.woken_by.Goals as goal

pub returns-in-Ok-clause-told : goal.returns-in-Ok-clause-told
returns-in-Ok-clause-told c = λ suspension arrivals waits told. c.is_woken-woken.ensures arrivals (subst (TellsOrRefuses (λ first. AreFirst first arrivals)) c.in-Ok.is told) ∙ waits arrivals
