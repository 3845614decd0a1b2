-- What waits for a handle is what waits for the id that it stands for.
use Rattle.std.proofs.Common.{◌∙◌, ◌-◌, ◌<◌, ℕ, sym, subst}
use Rattle.journal_model.specs.declared.notification.NotificationId.TheVariants.{SignalId}
use Rattle.vm_awaits.specs.ReadyViews.{ready_in}
use Rattle.vm_awaits.proofs.Taking.{ready_taken, cancel_slot, other_slot, slot_known, within_slots}
use Rattle.vm_awaits.proofs.slots.take_for.Goals as goal

pub returns-then-number-eq-CANCEL-clause-ready : goal.returns-then-number-eq-CANCEL-clause-ready
returns-then-number-eq-CANCEL-clause-ready c =
    ready_taken c.args.handle c.args.slots.now.items (ready_in c.args.ready.now) (SignalId 1) c.take.result (ready_in c.take.new.self)
    (cancel_slot c.args.slots.now.items c.args.handle (sym c.number-number.ensures ∙ c.if-number-eq-CANCEL.true)) c.take.ensures.value c.take.ensures.rest

pub index_mut-requires : goal.index_mut-requires
index_mut-requires c =
    subst (λ (n : ℕ). c.number-number.result - 17 < n) c.as_slice.ensures.len
    (within_slots c.as_slice.result.now c.number-number.result c.in-Some.id.now (sym c.in-Some.ensures))

pub returns-then-is_some-clause-ready : goal.returns-then-is_some-clause-ready
returns-then-is_some-clause-ready c =
    ready_taken c.args.handle c.args.slots.now.items (ready_in c.args.ready.now) c.in-Some.id.now c.take-taken.result (ready_in c.take-taken.new.self)
    (other_slot c.args.slots.now.items c.args.handle c.in-Some.id.now (slot_known c.args.slots.now.items c.as_slice.result.now c.args.handle c.number-number.result c.in-Some.id.now c.as_slice.ensures.value c.number-number.ensures c.in-Some.ensures))
    c.take-taken.ensures.value c.take-taken.ensures.rest

pub returns-else-is_some-clause-ready : goal.returns-else-is_some-clause-ready
returns-else-is_some-clause-ready c =
    ready_taken c.args.handle c.args.slots.now.items (ready_in c.args.ready.now) c.in-Some.id.now c.take-taken.result (ready_in c.take-taken.new.self)
    (other_slot c.args.slots.now.items c.args.handle c.in-Some.id.now (slot_known c.args.slots.now.items c.as_slice.result.now c.args.handle c.number-number.result c.in-Some.id.now c.as_slice.ensures.value c.number-number.ensures c.in-Some.ensures))
    c.take-taken.ensures.value c.take-taken.ensures.rest
