use Rattle.std.proofs.Common.{sym, ap, ◌∙◌}
use Rattle.vm_awaits.specs.Views.{results_of}
use Rattle.vm_waiting.specs.ChildCancellation.{state_as}
use Rattle.vm_waiting.proofs.KnownChildren.{looks_all, looks_no_id, looks_unknown, looks_further}
use Rattle.vm_waiting.proofs.children.look_for_children.Goals as goal

pub returns-in-AllIds : goal.returns-in-AllIds
returns-in-AllIds c =
    looks_all c.args.children.now (results_of c.args.results.now) (results_of c.steps.results) c.steps.invariant (sym c.children_known.ensures ∙ ap state_as c.in-AllIds.is)

pub returns-in-NoId : goal.returns-in-NoId
returns-in-NoId c =
    looks_no_id c.args.children.now (results_of c.args.results.now) (results_of c.steps.results) c.steps.invariant (sym c.children_known.ensures ∙ ap state_as c.in-NoId.is)

pub returns-then-not-branch : goal.returns-then-not-branch
returns-then-not-branch c =
    looks_unknown c.args.children.now (results_of c.args.results.now) (results_of c.steps.results) c.steps.invariant (results_of c.look_at_one.new.self) c.in-Unknown.completion
    (sym c.children_known.ensures ∙ ap state_as c.in-Unknown.is) (sym c.if-not-branch.true ∙ c.in_ok-look_at_one-in-Unknown.ensures.next) c.in_ok-look_at_one-in-Unknown.ensures.ok

pub steps-preserved : goal.steps-preserved
steps-preserved c =
    looks_further c.args.children.now (results_of c.args.results.now) (results_of c.steps.results) c.steps.invariant (results_of c.look_at_one.new.self) c.in-Unknown.completion
    (sym c.children_known.ensures ∙ ap state_as c.in-Unknown.is) (sym c.if-not-branch.false ∙ c.in_ok-look_at_one-in-Unknown.ensures.next) c.in_ok-look_at_one-in-Unknown.ensures.ok
