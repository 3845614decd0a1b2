use Rattle.std.proofs.Common.{refl, subst, ◌∙◌, arith, List, [], ◌∷◌, length-append}
use Rattle.journal_model.specs.Notification.{Text}
use Rattle.scheduler.specs.DueAttempts.{GoesOnEach}
use Rattle.scheduler.proofs.DueAttempts.{all_yielded, none_more, one_put}
use Rattle.scheduler.proofs.scheduler.Scheduler.go_on_with_each.Goals as goal

pub loop-id-init : goal.loop-id-init
loop-id-init g c = record {
  each = (c.in-Ok.ensures.items, refl);
  count = omega (arith, c.in-Ok.ensures.len);
  room = omega (arith, c.in-Ok.ensures.capacity, c.len.ensures, c.args.ids.ok.0);
}

pub loop-id-preserved-in-Some-go_on_unless_put_off : goal.loop-id-preserved-in-Some-go_on_unless_put_off
loop-id-preserved-in-Some-go_on_unless_put_off g c =
    let inv = c.loop-id.invariant in
    let id = c.in-Some.id in
    record {
      each = one_put g.S.Store g.W.Effects.executes g.W.Host.gives g.H.Handler.next_call c.args.now c.loop-id.yielded c.loop-id.outcomes.items c.push_reserved.new.self.items id
          c.in-Some-go_on_unless_put_off.told _ _ _ c.push_reserved.ensures.items inv.each (rw c.in-Some-go_on_unless_put_off.is at c.go_on_unless_put_off.ensures);
      count = omega (arith, c.push_reserved.ensures.len, inv.count, length-append c.loop-id.yielded (id ∷ []));
      room = omega (arith, inv.room, c.push_reserved.ensures.capacity);
    }

pub loop-id-preserved : goal.loop-id-preserved
loop-id-preserved g c =
    let inv = c.loop-id.invariant in
    let id = c.in-Some.id in
    record {
      each = none_more g.S.Store g.W.Effects.executes g.W.Host.gives g.H.Handler.next_call c.args.now c.loop-id.yielded c.loop-id.outcomes.items id _ _ _ inv.each
          (rw c.in-None-go_on_unless_put_off.is at c.go_on_unless_put_off.ensures);
      count = omega (arith, inv.count, length-append c.loop-id.yielded (id ∷ []));
      room = inv.room;
    }

pub returns-clause-ok : goal.returns-clause-ok
returns-clause-ok g c =
    let h = c.into_iter-id-iterator.ensures.into_iter_gives in
    let all = all_yielded c.into_iter-id-iterator.result c.args.ids.items h.0 (h.1 ∙ c.args.ids.ok.0) c.loop-id.yielded c.loop-id.id-iterator c.loop-id.yielded_by c.next.result c.next.new.self c.in-None.is
    c.next.ensures.steps in
    subst (λ (ids : List Text). GoesOnEach g.S.Store g.W.Effects.executes g.W.Host.gives g.H.Handler.next_call c.args.now ids c.loop-id.outcomes.items
    (record { scheduler = c.args.self.now; host = c.args.host.now; waits = c.args.waits.now }) (record { scheduler = c.loop-id.self; host = c.loop-id.host; waits = c.loop-id.waits })) all
    c.loop-id.invariant.each
