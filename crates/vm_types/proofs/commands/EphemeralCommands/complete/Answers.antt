use Rattle.std.proofs.lemmas.Result.{err_from_is_err_and}
use Rattle.vm_types.proofs.Ready.{answer_ignored, answer_kept, was_asked}
use Rattle.vm_types.proofs.commands.EphemeralCommands.complete.Goals as goal

pub returns-then-not-is_known-clause-ok : goal.returns-then-not-is_known-clause-ok
returns-then-not-is_known-clause-ok c = rw (← c.self.view_is)
    (answer_ignored _ c.self.inside.in_flight.keys c.self.inside.ready.entries c.args.id.number c.args.value c.is_known.result c.is_known.ensures c.if-not-is_known.true)

pub returns-in_err-answer-clause-memory : goal.returns-in_err-answer-clause-memory
returns-in_err-answer-clause-memory c =
    let p = err_from_is_err_and c.from_residual.result c.from_residual.ensures.1 in
    rw (p.1, ← c.self.view_is)
    (was_asked c.self.inside.in_flight.keys c.self.inside.ready.entries c.args.id.number c.is_known.result c.is_known.ensures c.if-not-is_known.false c.in_err-answer.ensures.absent)

pub returns-clause-ok : goal.returns-clause-ok
returns-clause-ok c = rw (← c.self.view_is)
    (answer_kept _ c.self.inside.in_flight.keys c.remove.new.self.keys c.self.inside.ready.entries c.answer.new.ready.entries c.args.id.number c.args.value
    c.is_known.result c.is_known.ensures c.if-not-is_known.false c.remove.ensures.keys c.in_ok-answer.ensures.ok)
