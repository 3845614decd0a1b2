use Rattle.std.proofs.Common.{arith}
use Rattle.sqlite.specs.State.{State}
use Rattle.sqlite.specs.Held.{state}
use Rattle.journal_model.specs.Event.{Event}
use Rattle.journal_store.specs.StoreView.{stored}
use Rattle.journal_store.specs.Causes.{TriesEvent}
use Rattle.journal_store.proofs.Lasting.{undone_kept}
use Rattle.journal_store.proofs.Recording.{looked}
use Rattle.journal_store.proofs.Ticking.{tick_lands, tick_settled, ticks}
use Rattle.journal_store.proofs.Waiting.{written_waits}
use Rattle.journal_store.proofs.Causing.{asked_unwritten, event_tried}
use Rattle.journal_store.proofs.store.Store.tick.Goals as goal

pub returns-in-Ok-clause-does : goal.returns-in-Ok-clause-does
returns-in-Ok-clause-does g c =
    rw (← c.self.view_is) (ticks g.S.Store c.self.inside.tables c.prepare_tick.new.tables c.record_tick.new.self.connection c.self.inside.live c.record_tick.new.self.live c.args.now c.in-Ok.made
    c.prepare_tick.ensures.looks c.in-Ok.ensures.prepared c.record_tick.result c.record_tick.ensures.made c.record_tick.ensures.count c.record_tick.ensures.noted c.record_tick.ensures.stays)

pub returns-in-Err-clause-does : goal.returns-in-Err-clause-does
returns-in-Err-clause-does g c =
    rw (← c.self.view_is) (looked g.S.Store c.self.inside.tables c.prepare_tick.new.tables c.self.inside.live (Event.Tick c.args.now) c.in-Err.why c.prepare_tick.ensures.looks c.in-Err.ensures.prepared)

pub returns-in-Ok-clause-waits : goal.returns-in-Ok-clause-waits
returns-in-Ok-clause-waits g c =
    rw (← c.self.view_is) (written_waits c.in-Ok.made.writes.items c.record_tick.result c.self.inside.live c.record_tick.new.self.live c.record_tick.ensures.noted c.record_tick.ensures.stays)

pub returns-in-Ok-clause-crash : goal.returns-in-Ok-clause-crash
returns-in-Ok-clause-crash g c =
    rw (← c.self.view_is) (tick_lands g.S.Store c.self.inside.tables c.prepare_tick.new.tables c.record_tick.new.self.connection c.self.inside.live c.record_tick.new.self.live c.args.now c.in-Ok.made
    c.prepare_tick.ensures.looks c.in-Ok.ensures.prepared c.record_tick.ensures.made.crash)

pub returns-in-Ok-clause-settled : goal.returns-in-Ok-clause-settled
returns-in-Ok-clause-settled g c =
    rw (← c.self.view_is) (tick_settled g.S.Store c.self.inside.tables c.prepare_tick.new.tables c.record_tick.new.self.connection c.self.inside.live c.record_tick.new.self.live c.args.now c.in-Ok.made
    c.prepare_tick.ensures.looks c.in-Ok.ensures.prepared c.record_tick.result c.record_tick.ensures.made c.is_settled-settled.ensures.settled c.in-Ok.ensures.asked
    (ticks g.S.Store c.self.inside.tables c.prepare_tick.new.tables c.record_tick.new.self.connection c.self.inside.live c.record_tick.new.self.live c.args.now c.in-Ok.made
    c.prepare_tick.ensures.looks c.in-Ok.ensures.prepared c.record_tick.result c.record_tick.ensures.made c.record_tick.ensures.count c.record_tick.ensures.noted c.record_tick.ensures.stays))

pub returns-in-Ok-clause-kept : goal.returns-in-Ok-clause-kept
returns-in-Ok-clause-kept g c =
    let mid : State = state g.S.Store c.prepare_tick.new.tables in
    rw (← c.self.view_is) (undone_kept c.record_tick.result (state g.S.Store c.self.inside.tables) mid (state g.S.Store c.record_tick.new.self.connection)
    (λ clean. omega (arith, c.record_tick.ensures.made.crash.clean, clean)) c.prepare_tick.ensures.looks.kept c.record_tick.ensures.made.undone)

pub returns-in-Ok-clause-cause : goal.returns-in-Ok-clause-cause
returns-in-Ok-clause-cause g c =
    rw (← c.self.view_is) (event_tried g.S.Store (Event.Tick c.args.now) c.prepare_tick.new.tables (stored c.self.inside.tables c.self.inside.live) c.record_tick.new.self c.in-Ok.made.writes.items c.record_tick.result
    c.prepare_tick.ensures.looks (λ clean events store. let ready = (c.in-Ok.ensures.prepared clean events store).1 in (ready.ids, ready.ending, ready.writes)) c.record_tick.ensures.made)

pub returns-in-Err-clause-cause : goal.returns-in-Err-clause-cause
returns-in-Err-clause-cause g c =
    rw (← c.self.view_is) (asked_unwritten g.S.Store (TriesEvent (Event.Tick c.args.now)) (stored c.self.inside.tables c.self.inside.live) (stored c.prepare_tick.new.tables c.self.inside.live) c.in-Err.why c.in-Err.ensures.cause)
