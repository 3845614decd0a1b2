use Rattle.std.proofs.Common.{refl}
use Rattle.protocol_calls.proofs.invocation_target.target_at.Goals as goal

pub chosen_text_at-requires : goal.chosen_text_at-requires
chosen_text_at-requires c = (refl, c.requires.0)

pub chosen_record_at-requires : goal.chosen_record_at-requires
chosen_record_at-requires c = (refl, c.requires.1)

pub chosen_record_at-requires-2 : goal.chosen_record_at-requires-2
chosen_record_at-requires-2 c = (refl, c.requires.2)
