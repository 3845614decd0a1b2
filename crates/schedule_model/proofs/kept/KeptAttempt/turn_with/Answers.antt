use Rattle.schedule_model.proofs.Executing.{failed_none, over_none, turned}
use Rattle.schedule_model.proofs.Keeping.{turns_again, turns_over}
use Rattle.schedule_model.specs.AttemptMemory.{closed_if}
use Rattle.schedule_model.proofs.kept.KeptAttempt.turn_with.Goals as goal
use Rattle.schedule_model.proofs.kept.KeptAttempt.turn_with.Goals.{in-Whole, in-Over, in-Failed}

pub returns : goal.returns
returns g c = elim c.match-self.branch [
  | in-Whole w ↦ rw (← c.self.view_is, w.in-Whole.is, w.result-is, w.self-inside-is, w.effects-is) (rw w.deref_mut.ensures.value at w.turn_with.ensures)
  | in-Over w ↦
      let seen = w.in-Over.field-1.value in
      rw (← c.self.view_is, w.in-Over.is, w.result-is, w.self-inside-is, w.effects-is)
      (turned g.E.Effects.executes g.H.Handler.next_call c.args.id.now seen c.args.effects.now w.turn_again.result seen
      (λ ran. turns_over g.H.Handler.next_call ran w.in-Over.finish seen w.turn_again.result (rw w.in-Over.is at c.self.invariant) w.turn_again.ensures)
      (over_none w.in-Over.finish w.turn_again.result w.turn_again.ensures))
  | in-Failed w ↦
      let error = w.in-Failed.error.value in
      let kept = closed_if w.in-Failed.is_closed w.in-Failed.seen.value in
      let fails = rw w.deref.ensures at w.failed_again.ensures in
      rw (← c.self.view_is, w.in-Failed.is, w.result-is, w.self-inside-is, w.effects-is)
      (turned g.E.Effects.executes g.H.Handler.next_call c.args.id.now kept c.args.effects.now w.failed_again.result kept
      (λ ran. turns_again g.H.Handler.next_call ran error w.in-Failed.is_closed w.in-Failed.seen.value w.failed_again.result (rw w.in-Failed.is at c.self.invariant) fails)
      (failed_none error w.failed_again.result fails))
]
