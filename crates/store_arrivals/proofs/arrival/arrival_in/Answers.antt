use Rattle.std.proofs.Common.{Option, subst₂, ℕ}
use Rattle.journal_model.specs.Notification.{Bytes}
use Rattle.journal_model.specs.Spelling.{notification_payload}
use Rattle.store_invocations.proofs.Refusing.{refused_memory}
use Rattle.store_refusals.proofs.Causes.{memory_unasked}
use Rattle.store_invocations.specs.Rows.{payload_tests}
use Rattle.store_arrivals.specs.Arrivals.{IsArrival, IsArrivalWritten}
use Rattle.store_arrivals.proofs.arrival.arrival_in.Goals as goal

pub returns-in_ok-made-in-Ok-clause-decided : goal.returns-in_ok-made-in-Ok-clause-decided
returns-in_ok-made-in-Ok-clause-decided c = (
  c.in-Ok.ensures.decided.0,
  subst₂ (λ (answered : Option ℕ) (payload : Bytes). IsArrivalWritten c.args.row c.args.ty answered payload c.in_ok-made-in-Ok.made)
      c.answered_id-answered.ensures c.in-Ok.ensures.decided.1 c.in_ok-made-in-Ok.ensures,
)

pub returns-in_err-made-in-Ok-clause-decided : goal.returns-in_err-made-in-Ok-clause-decided
returns-in_err-made-in-Ok-clause-decided c =
    refused_memory (payload_tests (notification_payload c.args.arrival)) (IsArrival c.args.row c.args.ty c.args.arrival)
    c.from_residual.result c.from_residual.ensures.1

pub returns-in-Err-clause-decided : goal.returns-in-Err-clause-decided
returns-in-Err-clause-decided c = c.in-Err.ensures.decided

pub returns-in_err-made-in-Ok-clause-unasked : goal.returns-in_err-made-in-Ok-clause-unasked
returns-in_err-made-in-Ok-clause-unasked c = memory_unasked c.from_residual.result c.from_residual.ensures.1
