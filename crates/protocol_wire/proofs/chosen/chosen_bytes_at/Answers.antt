use Rattle.protocol_wire.specs.Fields.{fields}
use Rattle.protocol_wire.specs.ComingFields.{coming}
use Rattle.protocol_wire.proofs.Choices.{chosen_text, absent_text}
use Rattle.protocol_wire.proofs.chosen.chosen_bytes_at.Goals as goal

pub returns-else-lacks : goal.returns-else-lacks
returns-else-lacks c = rw (← chosen_text c.args.variants.now c.args.field.number (fields c.args.payload.now) (coming c.last_run_at.result) c.requires c.last_run_at.ensures) c.copied_bytes.ensures

pub returns-then-lacks : goal.returns-then-lacks
returns-then-lacks c = absent_text c.args.variants.now c.args.field.number (fields c.args.payload.now) (coming c.fields.result) c.requires c.fields.ensures.all (c.lacks.ensures c.if-lacks.true)
