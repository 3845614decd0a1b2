use Rattle.std.proofs.Common.{◌∙◌}
use Rattle.std.specs.Str.{is_utf8}
use Rattle.store_frames.proofs.TextLemmas.{and_true}
use Rattle.store_frames.proofs.keys.is_key_text.Goals as goal

pub returns : goal.returns
returns c = c.is_text.ensures ∙ and_true (is_utf8 c.args.key.now)
