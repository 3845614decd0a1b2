use Rattle.std.proofs.Common.{sym}
use Rattle.std.specs.Option.{option_copied}
use Rattle.vm_awaits.specs.Views.{ready_of}
use Rattle.vm_awaits.specs.Children.{child_told}
use Rattle.vm_waiting.proofs.KnownChildren.{id_at, ids_past}
use Rattle.vm_waiting.proofs.children.ids_of.Goals.{in-Some+in_ok-push_id, in_default}
use Rattle.vm_waiting.proofs.children.ids_of.Goals as goal

pub loop-place-preserved : goal.loop-place-preserved
loop-place-preserved c = elim c.match-get.branch [
  | in-Some+in_ok-push_id w ↦ rw w.ids-is (id_at (ready_of c.args.results.now) c.args.children.now c.loop-place.place (child_told (w.in-Some.completion, option_copied w.in-Some.taken)) (sym w.in-Some.ensures)
      c.loop-place.ids.items w.push_id.new.ids.items (option_copied w.id_of.result) c.loop-place.invariant w.id_of.ensures w.in_ok-push_id.ensures)
  | in_default w ↦ rw w.ids-is (ids_past (ready_of c.args.results.now) c.args.children.now c.loop-place.place (sym w.in_default.ensures) c.loop-place.ids.items c.loop-place.invariant)
]
