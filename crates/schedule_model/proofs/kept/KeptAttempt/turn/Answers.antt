use Rattle.schedule_model.proofs.Keeping.{turns_again, turns_over}
use Rattle.schedule_model.proofs.kept.KeptAttempt.turn.Goals as goal
use Rattle.schedule_model.proofs.kept.KeptAttempt.turn.Goals.{in-Whole, in-Over, in-Failed}

pub returns : goal.returns
returns g c = elim c.match-self.branch [
  | in-Whole w ↦ rw (← c.self.view_is, w.in-Whole.is, w.result-is, w.self-inside-is) (rw w.deref_mut.ensures.value at w.turn.ensures)
  | in-Over w ↦
      rw (← c.self.view_is, w.in-Over.is, w.result-is, w.self-inside-is)
      (turns_over g.H.Handler.next_call c.args.outcome w.in-Over.finish w.in-Over.field-1.value w.turn_again.result (rw w.in-Over.is at c.self.invariant) w.turn_again.ensures)
  | in-Failed w ↦
      rw (← c.self.view_is, w.in-Failed.is, w.result-is, w.self-inside-is)
      (turns_again g.H.Handler.next_call c.args.outcome w.in-Failed.error.value w.in-Failed.is_closed w.in-Failed.seen.value w.failed_again.result (rw w.in-Failed.is at c.self.invariant)
      (rw w.deref.ensures at w.failed_again.ensures))
]
