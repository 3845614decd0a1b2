use Rattle.std.proofs.Common.{refl}
use Rattle.protocol_table.specs.declared.table.RecordType.TheVariants as types
use Rattle.protocol_table.specs.declared.table.propose_run_completion.TheConstants as table
use Rattle.protocol_wire.proofs.SoundAt.{records_sound}
use Rattle.protocol_controls.proofs.propose_run_completion.result_at.Goals as goal

pub chosen_bytes_at-requires : goal.chosen_bytes_at-requires
chosen_bytes_at-requires c = refl

pub chosen_record_at-requires : goal.chosen_record_at-requires
chosen_record_at-requires c = (refl, records_sound c.args.levels types.ProposeRunCompletion types.Failure table.FAILURE.number c.args.payload.now c.requires refl)
