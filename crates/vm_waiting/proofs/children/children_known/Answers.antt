use Rattle.std.proofs.Common.{sym, ap, ◌∙◌}
use Rattle.std.specs.Option.{option_copied}
use Rattle.vm_awaits.specs.Views.{ready_of}
use Rattle.vm_awaits.specs.Children.{child_told}
use Rattle.vm_waiting.specs.ChildCancellation.{state_as}
use Rattle.vm_waiting.proofs.KnownChildren.{unknown_at, no_id_at, next_at, state_past}
use Rattle.vm_waiting.proofs.children.children_known.Goals.{in-Some+in-AllIds, in_default}
use Rattle.vm_waiting.proofs.children.children_known.Goals as goal

pub returns-in-Unknown : goal.returns-in-Unknown
returns-in-Unknown c =
    unknown_at (ready_of c.args.results.now) c.args.children.now c.loop-place.place (child_told (c.in-Some.completion, option_copied c.in-Some.taken)) (sym c.in-Some.ensures) c.loop-place.invariant
    c.in-Unknown.unknown (sym c.known_of.ensures ∙ ap state_as c.in-Unknown.is)

pub returns-in-NoId : goal.returns-in-NoId
returns-in-NoId c =
    no_id_at (ready_of c.args.results.now) c.args.children.now c.loop-place.place (child_told (c.in-Some.completion, option_copied c.in-Some.taken)) (sym c.in-Some.ensures) c.loop-place.invariant
    (sym c.known_of.ensures ∙ ap state_as c.in-NoId.is)

pub loop-place-preserved : goal.loop-place-preserved
loop-place-preserved c = elim c.match-get.branch [
  | in-Some+in-AllIds w ↦ next_at (ready_of c.args.results.now) c.args.children.now c.loop-place.place (child_told (w.in-Some.completion, option_copied w.in-Some.taken)) (sym w.in-Some.ensures)
      c.loop-place.invariant (sym w.known_of.ensures ∙ ap state_as w.in-AllIds.is)
  | in_default w ↦ state_past (ready_of c.args.results.now) c.args.children.now c.loop-place.place (sym w.in_default.ensures) c.loop-place.invariant
]
