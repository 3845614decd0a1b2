use Rattle.std.proofs.Common.{◌-◌}
use Rattle.protocol_wire.specs.Check.{payload_fault}
use Rattle.protocol_wire.proofs.Runs.{run_records_sound}
use Rattle.protocol_wire.specs.Fields.{fields}
use Rattle.protocol_wire.specs.ComingFields.{coming}
use Rattle.protocol_wire.proofs.Choices.{chosen_record, absent_record}
use Rattle.protocol_wire.proofs.chosen.chosen_record_at.Goals as goal

pub joined_record-requires : goal.joined_record-requires
joined_record-requires g c = run_records_sound (payload_fault (c.args.levels - 1) g.R.Record.record_type) c.args.variants.now c.args.field.number (fields c.args.payload.now) (coming c.last_run_at.result) c.requires.0 c.last_run_at.ensures c.requires.1

pub returns-else-lacks : goal.returns-else-lacks
returns-else-lacks g c = rw (← chosen_record c.args.variants.now c.args.field.number (fields c.args.payload.now) (coming c.last_run_at.result) c.requires.0 c.last_run_at.ensures (g.R.Record.of (c.args.levels - 1))) c.joined_record.ensures

pub returns-then-lacks : goal.returns-then-lacks
returns-then-lacks g c = absent_record c.args.variants.now c.args.field.number (fields c.args.payload.now) (coming c.fields.result) c.requires.0 c.fields.ensures.all (c.lacks.ensures c.if-lacks.true) (g.R.Record.of (c.args.levels - 1))
