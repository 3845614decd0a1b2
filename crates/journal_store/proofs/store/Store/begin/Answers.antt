use Rattle.std.proofs.Common.{refl, arith}
use Rattle.sqlite.specs.State.{State, HasCleanDisk}
use Rattle.sqlite.specs.Held.{state}
use Rattle.journal_model.specs.Event.{Event}
use Rattle.store_calls.specs.Calls.{BeginsAttempt}
use Rattle.journal_store.specs.Attempts.{BeginsSome}
use Rattle.journal_store.specs.StoreView.{stored}
use Rattle.journal_store.specs.Causes.{TriesEvent}
use Rattle.journal_store.proofs.Enduring.{begin_landed}
use Rattle.journal_store.proofs.Lasting.{settled_written, undone_kept}
use Rattle.journal_store.proofs.Leading.{begins}
use Rattle.journal_store.proofs.Recording.{looked}
use Rattle.journal_store.proofs.Beginning.{begin_recorded, other_tests}
use Rattle.journal_store.proofs.Standing.{commits_after}
use Rattle.journal_store.proofs.Causing.{asked_unwritten, event_tried}
use Rattle.journal_store.proofs.store.Store.begin.Goals as goal

pub returns-in-Ok-clause-does : goal.returns-in-Ok-clause-does
returns-in-Ok-clause-does g c =
    let old : State = state g.S.Store c.self.inside.tables in
    let mid : State = state g.S.Store c.prepare_begin.new.tables in
    let new : State = state g.S.Store c.record_begin.new.self.connection in
    rw (← c.self.view_is) (begins g.S.Store (stored c.self.inside.tables c.self.inside.live) c.record_begin.new.self c.args.id.now c.args.now c.record_begin.result
    (λ clean events stands.
    let early : HasCleanDisk mid = omega (arith, c.record_begin.ensures.made.crash.clean, clean) in
    begin_recorded events c.args.id.now c.args.now old mid new _ _ c.self.inside.live.attempts c.record_begin.new.self.live.attempts c.in-Ok.made (other_tests events c.args.id.now c.args.now) c.record_begin.result refl
    c.prepare_begin.ensures.looks.crash c.prepare_begin.ensures.looks.kept c.record_begin.ensures.made.crash clean (c.in-Ok.ensures.prepared early events stands.kept)
    c.record_begin.ensures.told (c.record_begin.ensures.made.done clean) c.record_begin.ensures.put c.record_begin.ensures.made.why c.record_begin.ensures.made.undone c.record_begin.ensures.stays stands)
    c.record_begin.ensures.waits)

pub returns-in-Err-clause-does : goal.returns-in-Err-clause-does
returns-in-Err-clause-does g c =
    rw (← c.self.view_is) (looked g.S.Store c.self.inside.tables c.prepare_begin.new.tables c.self.inside.live (Event.Begin c.args.id.now c.args.now) c.in-Err.why
    c.prepare_begin.ensures.looks c.in-Err.ensures.prepared)

pub returns-in-Ok-clause-crash : goal.returns-in-Ok-clause-crash
returns-in-Ok-clause-crash g c =
    rw (← c.self.view_is) (commits_after (BeginsSome c.args.id.now c.args.now) (state g.S.Store c.self.inside.tables) (state g.S.Store c.prepare_begin.new.tables) (state g.S.Store c.record_begin.new.self.connection)
    (Event.Begin c.args.id.now c.args.now) c.in-Ok.made.writes.items (λ events. tt) (λ s causes. begin_landed s c.args.id.now c.args.now causes) (λ s t it. it.1.leaves.events) c.prepare_begin.ensures.looks.crash c.prepare_begin.ensures.looks.kept
    c.record_begin.ensures.made.crash (λ clean events store. let ready = c.in-Ok.ensures.prepared clean events store in (ready.0, ready.1.writes)))

pub returns-in-Ok-clause-settled : goal.returns-in-Ok-clause-settled
returns-in-Ok-clause-settled g c =
    settled_written g.S.Store c.self.inside.tables c.prepare_begin.new.tables c.record_begin.new.self.connection c.self.inside.live c.record_begin.new.self.live c.args.self.now c.self.view_is
    (Event.Begin c.args.id.now c.args.now) c.in-Ok.made.writes.items (BeginsAttempt c.args.id.now c.args.now c.record_begin.result)
    c.record_begin.result c.record_begin.ensures.made (λ clean events store. (c.in-Ok.ensures.prepared clean events store).1.writes) (λ events none. cc) (returns-in-Ok-clause-does g c)

pub returns-in-Ok-clause-kept : goal.returns-in-Ok-clause-kept
returns-in-Ok-clause-kept g c =
    let mid : State = state g.S.Store c.prepare_begin.new.tables in
    rw (← c.self.view_is) (undone_kept c.record_begin.result (state g.S.Store c.self.inside.tables) mid (state g.S.Store c.record_begin.new.self.connection)
    (λ clean. omega (arith, c.record_begin.ensures.made.crash.clean, clean)) c.prepare_begin.ensures.looks.kept c.record_begin.ensures.made.undone)

pub returns-in-Ok-clause-cause : goal.returns-in-Ok-clause-cause
returns-in-Ok-clause-cause g c =
    rw (← c.self.view_is) (event_tried g.S.Store (Event.Begin c.args.id.now c.args.now) c.prepare_begin.new.tables (stored c.self.inside.tables c.self.inside.live) c.record_begin.new.self c.in-Ok.made.writes.items c.record_begin.result
    c.prepare_begin.ensures.looks (λ clean events store. (c.in-Ok.ensures.prepared clean events store).1.writes) c.record_begin.ensures.made)

pub returns-in-Err-clause-cause : goal.returns-in-Err-clause-cause
returns-in-Err-clause-cause g c =
    rw (← c.self.view_is) (asked_unwritten g.S.Store (TriesEvent (Event.Begin c.args.id.now c.args.now)) (stored c.self.inside.tables c.self.inside.live) (stored c.prepare_begin.new.tables c.self.inside.live) c.in-Err.why c.in-Err.ensures.cause)
