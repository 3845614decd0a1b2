-- The last is taken, and the others stand before what is left.
use Rattle.std.proofs.Common.{◌∙◌}
use Rattle.journal_model.proofs.Sizes.{exchange_split}
use Rattle.journal_model.proofs.future.exchanged.Goals as goal

pub returns : goal.returns
returns c = exchange_split _ _ _ _ _ _ c.into_vec-items.ensures c.len-at.ensures c.requires c.replaced-last.ensures.value (c.from_vec.ensures ∙ c.replaced-last.ensures.after)
