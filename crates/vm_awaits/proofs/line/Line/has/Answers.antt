use Rattle.std.proofs.Common.{ltb, ap, ◌∙◌}
use Rattle.journal_model.specs.Journal.{completes}
use Rattle.vm_awaits.proofs.Lining.{counted}
use Rattle.vm_awaits.proofs.line.Line.has.Goals as goal

pub returns : goal.returns
returns c = rw (← c.self.view_is) (ap (ltb 0) (c.count_of.ensures ∙ c.self.invariant c.args.completion) ∙ counted (completes c.args.completion) c.self.inside.notifications.items)
