use Rattle.std.proofs.Common.{◌≡◌, ◌∙◌, subst}
use Rattle.journal_model.specs.Notification.{Bytes}
use Rattle.journal_model.specs.Spelling.{frame_bytes}
use Rattle.protocol_types.specs.declared.message_type.MessageType.{MessageType}
use Rattle.store_invocations.proofs.Refusing.{refused_memory}
use Rattle.store_invocations.specs.Rows.{Decides, payload_tests}
use Rattle.store_invocations.specs.Start.{start_frame_payload}
use Rattle.store_invocations.proofs.start.start_frame.Goals as goal

pub returns-clause-decided : goal.returns-clause-decided
returns-clause-decided c =
    subst (λ (payload : Bytes). Decides (payload_tests payload) (λ start. start ≡ frame_bytes MessageType.Start payload) c.payload_frame.result)
    (c.as_slice.ensures.value ∙ c.in_ok-payload.ensures) c.payload_frame.ensures.decided

pub returns-in_err-payload-clause-decided : goal.returns-in_err-payload-clause-decided
returns-in_err-payload-clause-decided c =
    let payload = start_frame_payload c.args.row.now c.args.states.now c.args.now in
    refused_memory (payload_tests payload) (λ start. start ≡ frame_bytes MessageType.Start payload) c.from_residual.result c.from_residual.ensures.1
