use Rattle.std.proofs.Common.{subst}
use Rattle.store_frames.specs.First.{AreFirst}
use Rattle.store_frames.specs.KeptArrivals.{ReadsKept}
use Rattle.store_arrivals.proofs.Hearing.{fault_refused}
use Rattle.store_arrivals.proofs.Unasked.{fault_unasked}
use Rattle.store_arrivals.proofs.wake.with_new.Goals as goal

pub returns-in-Err-clause-told : goal.returns-in-Err-clause-told
returns-in-Err-clause-told c = λ arrivals reads.
    fault_refused c.in-Err.fault c.refusal_of.result (subst (ReadsKept (λ first. AreFirst first arrivals)) c.in-Err.is reads) c.refusal_of.ensures

pub returns-in-Err-clause-unasked : goal.returns-in-Err-clause-unasked
returns-in-Err-clause-unasked c = fault_unasked c.in-Err.fault c.refusal_of.result c.refusal_of.ensures
