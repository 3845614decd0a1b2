use Rattle.std.proofs.Common.{arith}
use Rattle.sqlite.specs.State.{State}
use Rattle.sqlite.specs.Held.{state}
use Rattle.journal_model.specs.Event.{Event}
use Rattle.store_calls.specs.AbstractStore.{Adds}
use Rattle.store_calls.specs.Calls.{Invokes}
use Rattle.store_calls.proofs.Landing.{invoked}
use Rattle.journal_store.specs.StoreView.{stored}
use Rattle.journal_store.specs.Causes.{TriesEvent}
use Rattle.journal_store.proofs.Lasting.{settled_written, undone_kept}
use Rattle.journal_store.proofs.Recording.{invokes, looked}
use Rattle.journal_store.proofs.Standing.{commits_after}
use Rattle.journal_store.proofs.Causing.{asked_unwritten, event_tried}
use Rattle.journal_store.proofs.store.Store.invoke.Goals as goal

pub returns-in-Ok-clause-does : goal.returns-in-Ok-clause-does
returns-in-Ok-clause-does g c =
    rw (← c.self.view_is) (invokes g.S.Store c.self.inside.tables c.prepare_invoke-prepared.new.tables c.commit_ready.new.tables c.self.inside.live c.args.new c.in-Ok.writes.items c.commit_ready.result
    c.prepare_invoke-prepared.ensures.looks c.in-Ok.ensures.prepared c.commit_ready.ensures)

pub returns-in-Err-clause-does : goal.returns-in-Err-clause-does
returns-in-Err-clause-does g c =
    rw (← c.self.view_is) (looked g.S.Store c.self.inside.tables c.prepare_invoke-prepared.new.tables c.self.inside.live (Event.Invoke c.args.new) c.in-Err.why
    c.prepare_invoke-prepared.ensures.looks c.in-Err.ensures.prepared)

pub returns-in-Ok-clause-crash : goal.returns-in-Ok-clause-crash
returns-in-Ok-clause-crash g c =
    rw (← c.self.view_is) (commits_after (Adds (Event.Invoke c.args.new)) (state g.S.Store c.self.inside.tables) (state g.S.Store c.prepare_invoke-prepared.new.tables) (state g.S.Store c.commit_ready.new.tables)
    (Event.Invoke c.args.new) c.in-Ok.writes.items (λ events. tt) (λ s causes. invoked s c.args.new causes) (λ s t it. it.events) c.prepare_invoke-prepared.ensures.looks.crash c.prepare_invoke-prepared.ensures.looks.kept
    c.commit_ready.ensures.crash c.in-Ok.ensures.prepared)

pub returns-in-Ok-clause-settled : goal.returns-in-Ok-clause-settled
returns-in-Ok-clause-settled g c =
    settled_written g.S.Store c.self.inside.tables c.prepare_invoke-prepared.new.tables c.commit_ready.new.tables c.self.inside.live c.self.inside.live c.args.self.now c.self.view_is
    (Event.Invoke c.args.new) c.in-Ok.writes.items (Invokes c.args.new c.commit_ready.result) c.commit_ready.result c.commit_ready.ensures
    (λ clean events store. (c.in-Ok.ensures.prepared clean events store).1) (λ events none. cc) (returns-in-Ok-clause-does g c)

pub returns-in-Ok-clause-kept : goal.returns-in-Ok-clause-kept
returns-in-Ok-clause-kept g c =
    let mid : State = state g.S.Store c.prepare_invoke-prepared.new.tables in
    rw (← c.self.view_is) (undone_kept c.commit_ready.result (state g.S.Store c.self.inside.tables) mid (state g.S.Store c.commit_ready.new.tables)
    (λ clean. omega (arith, c.commit_ready.ensures.crash.clean, clean)) c.prepare_invoke-prepared.ensures.looks.kept c.commit_ready.ensures.undone)

pub returns-in-Ok-clause-cause : goal.returns-in-Ok-clause-cause
returns-in-Ok-clause-cause g c =
    rw (← c.self.view_is) (event_tried g.S.Store (Event.Invoke c.args.new) c.prepare_invoke-prepared.new.tables (stored c.self.inside.tables c.self.inside.live) (stored c.commit_ready.new.tables c.self.inside.live) c.in-Ok.writes.items c.commit_ready.result
    c.prepare_invoke-prepared.ensures.looks (λ clean events store. (c.in-Ok.ensures.prepared clean events store).1) c.commit_ready.ensures)

pub returns-in-Err-clause-cause : goal.returns-in-Err-clause-cause
returns-in-Err-clause-cause g c =
    rw (← c.self.view_is) (asked_unwritten g.S.Store (TriesEvent (Event.Invoke c.args.new)) (stored c.self.inside.tables c.self.inside.live) (stored c.prepare_invoke-prepared.new.tables c.self.inside.live) c.in-Err.why c.in-Err.ensures.cause)
