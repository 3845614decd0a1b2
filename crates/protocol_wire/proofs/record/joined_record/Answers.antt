use Rattle.std.proofs.Common.{sym, ap, ◌∙◌, ◌-◌}
use Rattle.std.specs.Prelude.{option_map}
use Rattle.protocol_wire.specs.ComingFields.{coming}
use Rattle.protocol_wire.specs.Selection.{values, texts}
use Rattle.protocol_wire.proofs.Joined.{sole_sound, sound_joined}
use Rattle.protocol_wire.proofs.record.joined_record.Goals as goal

pub select_within-requires : goal.select_within-requires
unfolding texts
select_within-requires g c = rw c.saturating_sub-below.ensures (sole_sound (c.args.levels - 1) g.R.Record.record_type (values c.args.field.number (coming c.args.all)) c.in-Some.bytes.now c.requires c.in-Some.ensures)

pub select_within-requires-in-Some-2 : goal.select_within-requires-in-Some-2
unfolding texts
select_within-requires-in-Some-2 g c = rw (c.as_slice.ensures.value, c.saturating_sub-below.ensures) (sound_joined (c.args.levels - 1) g.R.Record.record_type (values c.args.field.number (coming c.args.all)) c.in-Some-2.bytes.items c.requires
    (sym c.in_ok-joined_bytes.ensures ∙ ap (option_map (λ v. v.items)) c.in-Some-2.is))
