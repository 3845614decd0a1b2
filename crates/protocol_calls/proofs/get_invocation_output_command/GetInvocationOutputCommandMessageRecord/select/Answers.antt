use Rattle.std.proofs.Common.{refl}
use Rattle.protocol_table.specs.declared.table.RecordType.TheVariants as types
use Rattle.protocol_table.specs.declared.table.get_invocation_output_command.TheConstants as table
use Rattle.protocol_wire.proofs.SoundAt.{records_sound, texts_sound}
use Rattle.protocol_calls.proofs.get_invocation_output_command.GetInvocationOutputCommandMessageRecord.select.Goals as goal

pub text_at-requires : goal.text_at-requires
text_at-requires c = texts_sound c.args.levels types.GetInvocationOutputCommand table.NAME.number c.args.payload.now c.requires refl

pub target_at-requires : goal.target_at-requires
target_at-requires c = (
  texts_sound c.args.levels types.GetInvocationOutputCommand table.INVOCATION_ID.number c.args.payload.now c.requires refl,
  records_sound c.args.levels types.GetInvocationOutputCommand types.WorkflowTarget table.WORKFLOW_TARGET.number c.args.payload.now c.requires refl,
  records_sound c.args.levels types.GetInvocationOutputCommand types.IdempotentRequestTarget table.IDEMPOTENT_REQUEST_TARGET.number c.args.payload.now c.requires refl,
)
