use Rattle.std.proofs.Common.{arith, refl, sym, ◌∙◌}
use Rattle.schedule_model.proofs.Placing.{indexed_push, indexed_still, ok_there}
use Rattle.schedule_model.proofs.attempts.HeldAttempts.push.Goals as goal

pub invariant_of-self-in-Ok : goal.invariant_of-self-in-Ok
invariant_of-self-in-Ok g c =
    indexed_push c.self.inside.places c.note.new.self c.self.inside.attempts.items c.reserve.new.self.items c.put.new.attempts.items c.args.one c.len-place.result
    c.self.invariant c.reserve.ensures.items (omega (arith, c.len-place.ensures, c.reserve.new.self.ok.0)) c.in-Ok.ensures.ok c.put.ensures

pub invariant_of-self-in-Err : goal.invariant_of-self-in-Err
invariant_of-self-in-Err g c =
    indexed_still c.self.inside.places c.note.new.self c.self.inside.attempts.items c.reserve.new.self.items c.self.invariant c.in-Err.ensures.err c.reserve.ensures.items

pub invariant_of-self : goal.invariant_of-self
invariant_of-self g c =
    indexed_still c.self.inside.places c.self.inside.places c.self.inside.attempts.items c.reserve.new.self.items c.self.invariant (λ id n. refl) c.reserve.ensures.items

pub put-requires : goal.put-requires
put-requires g c =
    let room = ok_there c.reserve.result (sym c.is_err.ensures.value ∙ c.if-is_err.false) c.reserve.ensures.ok in
    omega (arith, room)
