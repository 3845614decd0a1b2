use Rattle.std.proofs.Common.{◌∙◌}
use Rattle.protocol_messages.proofs.LeafLengths.{without_tag}
use Rattle.protocol_messages.proofs.leaf_lengths.len_number.Goals as goal

pub returns : goal.returns
returns c = c.saturating_sub.ensures ∙ without_tag c.args.number c.len_present_u32.result c.len_present_u32.ensures
