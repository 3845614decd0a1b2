use Rattle.std.proofs.Common.{sym, ap, ◌∙◌, ℕ, nat_eq, List, map, Option, Some}
use Rattle.std.specs.Map.{set_value}
use Rattle.indexmap.specs.IndexMap.{IndexMap}
use Rattle.journal_model.specs.Notification.{Text}
use Rattle.vm_awaits.specs.Children.{child_told}
use Rattle.vm_awaits.proofs.Kept.{kept_told, none_kept}
use Rattle.vm_awaits.proofs.children.Children.keep_id.Goals as goal

pub returns-in-Some : goal.returns-in-Some
returns-in-Some c =
    rw (← c.self.view_is)
    (ap (λ (es : List (ℕ × Option Text)). map child_told es) (c.get_mut.follows.holds c.replace.new.dest).0 ∙ ap (λ (e : Option Text). map child_told (set_value (nat_eq c.args.completion) c.self.inside.ids.entries e)) c.replace.ensures.after
    ∙ kept_told c.args.completion c.args.id c.self.inside.ids.entries c.get_mut.ensures.unique)

pub returns : goal.returns
returns c = rw (← c.self.view_is) (ap (λ (m : IndexMap ℕ (Option Text) _). map child_told m.entries) c.get_mut.follows.holds-at-none ∙ none_kept c.args.completion c.args.id c.self.inside.ids.entries (sym c.in_default.ensures.value))
