use Rattle.std.proofs.Common.{◌≡◌, subst, sym}
use Rattle.journal_model.specs.Spelling.{frame_bytes}
use Rattle.journal_model.specs.Cause.{those_that_hold}
use Rattle.store_refusals.specs.RefusalConditions.{IsRefused}
use Rattle.store_invocations.specs.Rows.{payload_tests}
use Rattle.store_invocations.proofs.Framing.{fits, long_of, not_framed, short_of}
use Rattle.store_invocations.proofs.Reading.{decided_err}
use Rattle.store_invocations.proofs.frame.payload_frame.Goals as goal

pub returns-clause-decided : goal.returns-clause-decided
returns-clause-decided c =
    let payload = c.args.payload.now in (
      fits payload (short_of payload c.frame_of.result _ c.in_ok-frame.was c.frame_of.ensures.too_long),
      c.in_ok-frame.ensures.ok,
    )

pub returns-in_err-frame-clause-decided : goal.returns-in_err-frame-clause-decided
returns-in_err-frame-clause-decided c =
    let payload = c.args.payload.now in
    decided_err (payload_tests payload) (λ frame. frame ≡ frame_bytes c.args.ty payload) c.from_residual.result c.from_residual.ensures.1 (λ why gives.
    subst (IsRefused (those_that_hold (payload_tests payload))) (sym gives)
    (not_framed payload _ (long_of payload c.frame_of.result _ c.in_err-frame.was c.frame_of.ensures.too_long)))
