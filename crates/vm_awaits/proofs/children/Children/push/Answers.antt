use Rattle.std.proofs.Common.{ap, ◌∙◌, ℕ, List, map, Option}
use Rattle.journal_model.specs.Notification.{Text}
use Rattle.vm_awaits.specs.Children.{child_told}
use Rattle.vm_awaits.proofs.Kept.{put_told}
use Rattle.vm_awaits.proofs.children.Children.push.Goals as goal

pub returns-clause-ok : goal.returns-clause-ok
returns-clause-ok c =
    rw (← c.self.view_is) (ap (λ (es : List (ℕ × Option Text)). map child_told es) c.in_ok-insert.ensures.entries ∙ put_told c.args.completion c.self.inside.ids.entries)
