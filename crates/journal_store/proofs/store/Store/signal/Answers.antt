use Rattle.std.proofs.Common.{refl, arith}
use Rattle.sqlite.specs.State.{State, HasCleanDisk}
use Rattle.sqlite.specs.Held.{state}
use Rattle.journal_model.specs.Event.{Event}
use Rattle.store_calls.specs.AbstractStore.{Adds}
use Rattle.store_calls.specs.Calls.{Signals}
use Rattle.journal_store.specs.StoreView.{stored}
use Rattle.journal_store.specs.Causes.{TriesEvent}
use Rattle.journal_store.proofs.Enduring.{signal_landed}
use Rattle.journal_store.proofs.Lasting.{settled_written, undone_kept}
use Rattle.journal_store.proofs.Leading.{arrives}
use Rattle.journal_store.proofs.Recording.{looked}
use Rattle.journal_store.proofs.Arriving.{arrival_recorded}
use Rattle.journal_store.proofs.Standing.{commits_after}
use Rattle.journal_store.proofs.Waiting.{written_waits}
use Rattle.journal_store.proofs.Causing.{asked_unwritten, event_tried}
use Rattle.journal_store.proofs.store.Store.signal.Goals as goal

pub returns-in-Ok-clause-does : goal.returns-in-Ok-clause-does
returns-in-Ok-clause-does g c =
    let old : State = state g.S.Store c.self.inside.tables in
    let mid : State = state g.S.Store c.prepare_signal.new.tables in
    let new : State = state g.S.Store c.record_arrival.new.self.connection in
    let id = c.args.id.now in
    rw (← c.self.view_is) (arrives g.S.Store (stored c.self.inside.tables c.self.inside.live) c.record_arrival.new.self (Event.Signal id c.args.key c.args.brought) id c.record_arrival.result
    (λ clean events stands.
    let early : HasCleanDisk mid = omega (arith, c.record_arrival.ensures.made.crash.clean, clean) in
    arrival_recorded events (Event.Signal id c.args.key c.args.brought) id old mid new _ _
    c.self.inside.live c.record_arrival.new.self.live c.in-Ok.made c.record_arrival.result refl (λ one. refl) c.prepare_signal.ensures.fits
    c.prepare_signal.ensures.looks.crash c.prepare_signal.ensures.looks.kept c.record_arrival.ensures.made.crash clean (c.in-Ok.ensures.prepared early events stands.kept)
    c.record_arrival.ensures.place (c.record_arrival.ensures.made.done clean) c.record_arrival.ensures.made.why c.record_arrival.ensures.made.undone c.record_arrival.ensures.noted c.record_arrival.ensures.stays stands)
    (written_waits c.in-Ok.made.writes.items c.record_arrival.result c.self.inside.live c.record_arrival.new.self.live c.record_arrival.ensures.noted c.record_arrival.ensures.stays))

pub returns-in-Err-clause-does : goal.returns-in-Err-clause-does
returns-in-Err-clause-does g c =
    rw (← c.self.view_is) (looked g.S.Store c.self.inside.tables c.prepare_signal.new.tables c.self.inside.live (Event.Signal c.args.id.now c.args.key c.args.brought) c.in-Err.why
    c.prepare_signal.ensures.looks c.in-Err.ensures.prepared)

pub returns-in-Ok-clause-crash : goal.returns-in-Ok-clause-crash
returns-in-Ok-clause-crash g c =
    rw (← c.self.view_is) (commits_after (Adds (Event.Signal c.args.id.now c.args.key c.args.brought)) (state g.S.Store c.self.inside.tables) (state g.S.Store c.prepare_signal.new.tables) (state g.S.Store c.record_arrival.new.self.connection)
    (Event.Signal c.args.id.now c.args.key c.args.brought) c.in-Ok.made.writes.items (λ events. c.prepare_signal.ensures.fits) (λ s causes. signal_landed s c.args.id.now c.args.key c.args.brought causes)
    (λ s t it. it.events) c.prepare_signal.ensures.looks.crash c.prepare_signal.ensures.looks.kept
    c.record_arrival.ensures.made.crash (λ clean events store. let ready = c.in-Ok.ensures.prepared clean events store in (ready.0, ready.1.writes)))

pub returns-in-Ok-clause-waits : goal.returns-in-Ok-clause-waits
returns-in-Ok-clause-waits g c =
    rw (← c.self.view_is) (written_waits c.in-Ok.made.writes.items c.record_arrival.result c.self.inside.live c.record_arrival.new.self.live c.record_arrival.ensures.noted c.record_arrival.ensures.stays)

pub returns-in-Ok-clause-settled : goal.returns-in-Ok-clause-settled
returns-in-Ok-clause-settled g c =
    settled_written g.S.Store c.self.inside.tables c.prepare_signal.new.tables c.record_arrival.new.self.connection c.self.inside.live c.record_arrival.new.self.live c.args.self.now c.self.view_is
    (Event.Signal c.args.id.now c.args.key c.args.brought) c.in-Ok.made.writes.items (Signals c.args.id.now c.args.key c.args.brought c.record_arrival.result)
    c.record_arrival.result c.record_arrival.ensures.made (λ clean events store. (c.in-Ok.ensures.prepared clean events store).1.writes) (λ events none. cc) (returns-in-Ok-clause-does g c)

pub returns-in-Ok-clause-kept : goal.returns-in-Ok-clause-kept
returns-in-Ok-clause-kept g c =
    let mid : State = state g.S.Store c.prepare_signal.new.tables in
    rw (← c.self.view_is) (undone_kept c.record_arrival.result (state g.S.Store c.self.inside.tables) mid (state g.S.Store c.record_arrival.new.self.connection)
    (λ clean. omega (arith, c.record_arrival.ensures.made.crash.clean, clean)) c.prepare_signal.ensures.looks.kept c.record_arrival.ensures.made.undone)

pub returns-in-Ok-clause-cause : goal.returns-in-Ok-clause-cause
returns-in-Ok-clause-cause g c =
    rw (← c.self.view_is) (event_tried g.S.Store (Event.Signal c.args.id.now c.args.key c.args.brought) c.prepare_signal.new.tables (stored c.self.inside.tables c.self.inside.live) c.record_arrival.new.self c.in-Ok.made.writes.items c.record_arrival.result
    c.prepare_signal.ensures.looks (λ clean events store. (c.in-Ok.ensures.prepared clean events store).1.writes) c.record_arrival.ensures.made)

pub returns-in-Err-clause-cause : goal.returns-in-Err-clause-cause
returns-in-Err-clause-cause g c =
    rw (← c.self.view_is) (asked_unwritten g.S.Store (TriesEvent (Event.Signal c.args.id.now c.args.key c.args.brought)) (stored c.self.inside.tables c.self.inside.live) (stored c.prepare_signal.new.tables c.self.inside.live) c.in-Err.why c.in-Err.ensures.cause)
