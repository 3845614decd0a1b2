use Rattle.std.proofs.Common.{sym, ◌∙◌}
use Rattle.vm_awaits.proofs.Kept.{has_told}
use Rattle.vm_awaits.proofs.children.Children.has.Goals as goal

pub returns : goal.returns
returns c = rw (← c.self.view_is) (c.contains_key.ensures ∙ has_told c.args.completion c.self.inside.ids.entries)
