use Rattle.std.proofs.Common.{◌≡◌, ◌∙◌, subst, IfOk}
use Rattle.journal_model.specs.Notification.{Bytes}
use Rattle.journal_model.specs.Spelling.{frame_bytes}
use Rattle.protocol_types.specs.declared.message_type.MessageType.{MessageType}
use Rattle.protocol_laws.proofs.Notifications.{acknowledgements_spelled}
use Rattle.store_reads.proofs.frame.acknowledgement.Goals as goal

pub returns : goal.returns
returns c =
    subst (λ (payload : Bytes). IfOk c.frame.result (λ frame. frame ≡ frame_bytes MessageType.ProposeRunCompletionAck payload))
    (c.as_slice.ensures.value ∙ c.in_ok-payload.ensures ∙ acknowledgements_spelled c.args.completion) c.frame.ensures
