use Rattle.std.proofs.Common.{◌∙◌, ◌++◌, ap, List, ℕ}
use Rattle.protocol_stream.proofs.Spellings.{bytes_field-is}
use Rattle.store_frames.proofs.tree.put_tree.Goals as goal

pub returns : goal.returns
returns c = c.in_ok-put_tagged_bytes.ensures ∙ ap (λ (s : List ℕ). c.args.out.now.items ++ s) (bytes_field-is 1 c.args.tree.now)
