use Rattle.std.proofs.Common.{◌≡◌, ◌∙◌, sym, ap, subst, [], List, map}
use Rattle.store_tables.specs.declared.row.SleepRow.{SleepRow}
use Rattle.store_arrivals.specs.Groups.{Group, grouped}
use Rattle.store_arrivals.specs.declared.groups.SleepGroup.{SleepGroup}
use Rattle.store_arrivals.specs.SleepGroups.{as_group}
use Rattle.store_arrivals.proofs.Grouping.{put_each, put_last, put_none}
use Rattle.store_arrivals.proofs.groups.groups_of.Goals as goal

pub loop-row-init : goal.loop-row-init
loop-row-init c =
    let none : c.new-groups.result.items ≡ [] = c.new-groups.ensures.items in
    subst (λ (groups : List SleepGroup). put_each c.args.rows.items (map as_group groups) ≡ grouped c.args.rows.items) (sym none) (put_none c.args.rows.items)

pub loop-row-preserved : goal.loop-row-preserved
loop-row-preserved c =
    ap (put_each c.pop.new.self.items) c.in_ok-put_first.ensures
    ∙ sym (put_last c.pop.new.self.items c.in-Some.row (map as_group c.loop-row.groups.items))
    ∙ ap (λ (rows : List SleepRow). put_each rows (map as_group c.loop-row.groups.items)) (sym c.in-Some.ensures.items)
    ∙ c.loop-row.invariant
