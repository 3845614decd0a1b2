use Rattle.std.proofs.Common.{refl}
use Rattle.protocol_wire.proofs.Lengths.{measured}
use Rattle.protocol_calls.specs.Fields.{workflow_target_parts}
use Rattle.protocol_calls.proofs.workflow_target.WorkflowTargetRecord.payload_len.Goals as goal

pub returns : goal.returns
returns c = measured (workflow_target_parts c.args.self.now) _ (_, c.len_text-len.ensures, (_, c.len_text-len-2.ensures, (_, c.len_optional_text.ensures, refl)))
