use Rattle.std.proofs.Common.{sym, ◌∙◌, subst, ℕ, List}
use Rattle.vm_flat_trees.specs.Counts.{state_meant}
use Rattle.vm_flat_trees.specs.NotificationDelivery.{CanHearOf, Delivers}
use Rattle.vm_awaits.proofs.telling.tell_leaves.Goals as goal

pub deliver_to-requires-clause-hears : goal.deliver_to-requires-clause-hears
deliver_to-requires-clause-hears c =
    subst (λ (places : List ℕ). CanHearOf c.args.nodes.now places) (sym (c.at.ensures ∙ c.requires.finds _ c.in-Some.is c.args.id.now)) c.requires.hears

pub returns-in-Some : goal.returns-in-Some
returns-in-Some c =
    subst (λ (places : List ℕ). Delivers c.args.nodes.now places (state_meant c.args.state) c.deliver_to.new.nodes c.deliver_to.result.is_awake c.deliver_to.result.visits)
    (c.at.ensures ∙ c.requires.finds _ c.in-Some.is c.args.id.now) c.deliver_to.ensures
