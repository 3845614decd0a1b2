use Rattle.std.proofs.Common.{◌∙◌}
use Rattle.protocol_wire.specs.Fields.{fields}
use Rattle.protocol_wire.specs.ComingFields.{coming}
use Rattle.protocol_wire.proofs.Choices.{chosen_number, absent_number}
use Rattle.protocol_wire.proofs.chosen.chosen_u32_at.Goals as goal

pub returns-else-lacks : goal.returns-else-lacks
returns-else-lacks c = c.low_number.ensures ∙ chosen_number c.args.variants.now c.args.field.number (fields c.args.payload.now) (coming c.last_run_at.result) c.requires c.last_run_at.ensures

pub returns-then-lacks : goal.returns-then-lacks
returns-then-lacks c = absent_number c.args.variants.now c.args.field.number (fields c.args.payload.now) (coming c.fields.result) c.requires c.fields.ensures.all (c.lacks.ensures c.if-lacks.true)
