use Rattle.std.proofs.Common.{arith}
use Rattle.sqlite.specs.State.{State}
use Rattle.sqlite.specs.Held.{state}
use Rattle.journal_store.specs.StoreView.{stored}
use Rattle.journal_store.proofs.Causing.{asked_unforgotten, forgetting_tried}
use Rattle.journal_store.proofs.Forgetting.{forgets, forgets_none, forgotten_after, settles}
use Rattle.journal_store.proofs.Lasting.{undone_kept}
use Rattle.journal_store.proofs.store.Store.forget.Goals as goal

pub returns-in-Ok-clause-does : goal.returns-in-Ok-clause-does
returns-in-Ok-clause-does g c =
    rw (← c.self.view_is) (forgets g.S.Store c.self.inside.tables c.prepare_forget.new.tables c.commit_ready.new.tables c.self.inside.live c.args.ids.now c.in-Ok.writes.items c.commit_ready.result
    c.prepare_forget.ensures.looks c.in-Ok.ensures.made (λ clean events store. (c.in-Ok.ensures.decided clean events store).0) c.commit_ready.ensures)

pub returns-in-Err-clause-does : goal.returns-in-Err-clause-does
returns-in-Err-clause-does g c =
    rw (← c.self.view_is) (forgets_none g.S.Store c.self.inside.tables c.prepare_forget.new.tables c.prepare_forget.new.tables c.self.inside.live c.args.ids.now c.in-Err.why
    c.prepare_forget.ensures.looks c.in-Err.ensures.decided)

pub returns-in-Ok-clause-crash : goal.returns-in-Ok-clause-crash
returns-in-Ok-clause-crash g c =
    rw (← c.self.view_is) (forgotten_after (state g.S.Store c.self.inside.tables) (state g.S.Store c.prepare_forget.new.tables) (state g.S.Store c.commit_ready.new.tables) c.args.ids.now c.in-Ok.writes.items
    c.prepare_forget.ensures.looks.crash c.prepare_forget.ensures.looks.kept c.commit_ready.ensures.crash c.in-Ok.ensures.made (λ clean events store. (c.in-Ok.ensures.decided clean events store).0))

pub returns-in-Ok-clause-settled : goal.returns-in-Ok-clause-settled
returns-in-Ok-clause-settled g c some =
    settles g.S.Store c.self.inside.tables c.prepare_forget.new.tables c.commit_ready.new.tables c.self.inside.live c.args.ids.now c.args.self.now c.self.view_is c.in-Ok.writes.items c.commit_ready.result some
    c.in-Ok.ensures.made c.commit_ready.ensures (returns-in-Ok-clause-does g c)

pub returns-in-Ok-clause-kept : goal.returns-in-Ok-clause-kept
returns-in-Ok-clause-kept g c =
    let mid : State = state g.S.Store c.prepare_forget.new.tables in
    rw (← c.self.view_is) (undone_kept c.commit_ready.result (state g.S.Store c.self.inside.tables) mid (state g.S.Store c.commit_ready.new.tables)
    (λ clean. omega (arith, c.commit_ready.ensures.crash.clean, clean)) c.prepare_forget.ensures.looks.kept c.commit_ready.ensures.undone)

pub returns-in-Ok-clause-cause : goal.returns-in-Ok-clause-cause
returns-in-Ok-clause-cause g c =
    rw (← c.self.view_is) (forgetting_tried g.S.Store c.prepare_forget.new.tables (stored c.self.inside.tables c.self.inside.live) (stored c.commit_ready.new.tables c.self.inside.live) c.args.ids.now c.in-Ok.writes.items
    c.prepare_forget.ensures.looks c.in-Ok.ensures.made c.commit_ready.result c.commit_ready.ensures)

pub returns-in-Err-clause-cause : goal.returns-in-Err-clause-cause
returns-in-Err-clause-cause g c =
    rw (← c.self.view_is) (asked_unforgotten g.S.Store (stored c.self.inside.tables c.self.inside.live) (stored c.prepare_forget.new.tables c.self.inside.live) c.args.ids.now c.in-Err.why c.in-Err.ensures.cause)
