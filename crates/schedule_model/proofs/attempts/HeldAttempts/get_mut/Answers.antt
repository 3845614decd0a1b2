use base.Fml.{GName}
use Rattle.std.proofs.Common.{refl, inl}
use Rattle.schedule_model.proofs.Placing.{found_none, found_first, written}
use Rattle.schedule_model.proofs.attempts.HeldAttempts.get_mut.Goals as goal

pub returns-in-None : goal.returns-in-None
returns-in-None g c =
    let id = c.args.invocation.now in
    let n = c.args.number in
    rw (← c.self.view_is) (
      refl,
      record { writes_back = tt; found = found_none c.self.inside.places c.self.inside.attempts.items id n c.place.result c.self.invariant c.place.ensures c.in-None.is },
    )

pub returns-in-Some : goal.returns-in-Some
returns-in-Some g c =
    let id = c.args.invocation.now in
    let n = c.args.number in
    let places = c.self.inside.places in
    let held = c.self.inside.attempts.items in
    let one = c.index_mut-one.result.now in
    let read = c.index_mut-one.ensures.value in
    rw (← c.self.view_is) (
      (let name : GName = _ in λ i. inl (name, λ w. written places held id n c.place.result c.self.invariant c.place.ensures c.in-Some.place c.in-Some.is one read w i)),
      record { writes_back = tt; found = found_first places held id n c.place.result c.self.invariant c.place.ensures c.in-Some.place c.in-Some.is one read },
    )
