use Rattle.std.proofs.Common.{arith}
use Rattle.sqlite.specs.State.{State}
use Rattle.sqlite.specs.Held.{state}
use Rattle.journal_store.specs.StoreView.{stored}
use Rattle.journal_store.specs.Causes.{TriesFrame}
use Rattle.journal_store.proofs.Enduring.{quiet_endures}
use Rattle.journal_store.proofs.Lasting.{undone_kept}
use Rattle.journal_store.proofs.FrameAcceptance.{frame_tried, is_here, seen_lands, seen_refused, seen_settled, seen_taken, steps_so}
use Rattle.journal_store.proofs.Causing.{asked_unwritten, tried_by}
use Rattle.journal_store.proofs.store.Store.take_seen.Goals as goal

pub returns-in-Ok-clause-does : goal.returns-in-Ok-clause-does
returns-in-Ok-clause-does g c =
    let one = is_here c.self.inside.tables c.self.inside.live c.args.self.now c.self.view_is c.args.id.now c.args.attempt c.args.seen c.requires.live c.requires.seen in
    rw (← c.self.view_is) (steps_so g.S.Store c.self.inside.tables c.prepare_frame.new.tables c.take_prepared.new.self.connection c.self.inside.live c.take_prepared.new.self.live c.args.id.now c.args.attempt c.args.seen one c.take_prepared.result
    (seen_taken g.S.Store c.self.inside.tables c.prepare_frame.new.tables c.take_prepared.new.self.connection c.self.inside.live c.take_prepared.new.self.live c.args.id.now c.args.attempt c.args.seen one
    c.in-Ok.made c.take_prepared.result c.prepare_frame.ensures.looks c.take_prepared.ensures.made c.in-Ok.ensures.prepared c.take_prepared.ensures.reply c.take_prepared.ensures.left c.take_prepared.ensures.stays))

pub returns-in-Ok-clause-crash : goal.returns-in-Ok-clause-crash
returns-in-Ok-clause-crash g c =
    let one = is_here c.self.inside.tables c.self.inside.live c.args.self.now c.self.view_is c.args.id.now c.args.attempt c.args.seen c.requires.live c.requires.seen in
    rw (← c.self.view_is) (seen_lands g.S.Store c.self.inside.tables c.prepare_frame.new.tables c.take_prepared.new.self.connection c.self.inside.live c.take_prepared.new.self.live c.args.id.now c.args.attempt c.args.seen one
    c.in-Ok.made c.prepare_frame.ensures.looks c.take_prepared.ensures.made.crash c.in-Ok.ensures.prepared)

pub returns-in-Err-clause-does : goal.returns-in-Err-clause-does
returns-in-Err-clause-does g c =
    let one = is_here c.self.inside.tables c.self.inside.live c.args.self.now c.self.view_is c.args.id.now c.args.attempt c.args.seen c.requires.live c.requires.seen in
    rw (← c.self.view_is) (seen_refused g.S.Store c.self.inside.tables c.prepare_frame.new.tables c.prepare_frame.new.tables c.self.inside.live c.end_refused.new.live c.args.id.now c.args.attempt c.args.seen one
    c.in-Err.why c.prepare_frame.ensures.looks c.end_refused.ensures c.in-Err.ensures.prepared)

pub returns-in-Err-clause-crash : goal.returns-in-Err-clause-crash
returns-in-Err-clause-crash g c =
    rw (← c.self.view_is) (quiet_endures g.S.Store _ (stored c.self.inside.tables c.self.inside.live) (stored c.prepare_frame.new.tables c.end_refused.new.live) c.prepare_frame.ensures.looks.crash)

pub returns-in-Ok-clause-kept : goal.returns-in-Ok-clause-kept
returns-in-Ok-clause-kept g c =
    let mid : State = state g.S.Store c.prepare_frame.new.tables in
    rw (← c.self.view_is) (undone_kept c.take_prepared.result (state g.S.Store c.self.inside.tables) mid (state g.S.Store c.take_prepared.new.self.connection)
    (λ clean. omega (arith, c.take_prepared.ensures.made.crash.clean, clean)) c.prepare_frame.ensures.looks.kept c.take_prepared.ensures.made.undone)

pub returns-in-Ok-clause-settled : goal.returns-in-Ok-clause-settled
returns-in-Ok-clause-settled g c =
    let one = is_here c.self.inside.tables c.self.inside.live c.args.self.now c.self.view_is c.args.id.now c.args.attempt c.args.seen c.requires.live c.requires.seen in
    rw (← c.self.view_is) (seen_settled g.S.Store c.self.inside.tables c.prepare_frame.new.tables c.take_prepared.new.self.connection c.self.inside.live c.take_prepared.new.self.live c.args.id.now c.args.attempt c.args.seen one
    c.in-Ok.made c.take_prepared.result c.prepare_frame.ensures.looks c.take_prepared.ensures.made c.is_settled-settled.ensures.settled c.in-Ok.ensures.asked c.in-Ok.ensures.prepared c.take_prepared.ensures.reply
    (seen_taken g.S.Store c.self.inside.tables c.prepare_frame.new.tables c.take_prepared.new.self.connection c.self.inside.live c.take_prepared.new.self.live c.args.id.now c.args.attempt c.args.seen one
    c.in-Ok.made c.take_prepared.result c.prepare_frame.ensures.looks c.take_prepared.ensures.made c.in-Ok.ensures.prepared c.take_prepared.ensures.reply c.take_prepared.ensures.left c.take_prepared.ensures.stays))

pub returns-in-Ok-clause-cause : goal.returns-in-Ok-clause-cause
returns-in-Ok-clause-cause g c =
    let one = is_here c.self.inside.tables c.self.inside.live c.args.self.now c.self.view_is c.args.id.now c.args.attempt c.args.seen c.requires.live c.requires.seen in
    rw (← c.self.view_is) (tried_by g.S.Store (TriesFrame c.args.id.now c.args.attempt) c.prepare_frame.new.tables (stored c.self.inside.tables c.self.inside.live) c.take_prepared.new.self c.in-Ok.made.writes.items c.prepare_frame.ensures.looks
    (frame_tried g.S.Store c.self.inside.tables c.prepare_frame.new.tables c.take_prepared.new.self.connection c.self.inside.live c.take_prepared.new.self.live c.args.id.now c.args.attempt c.args.seen one
    c.in-Ok.made c.in-Ok.ensures.prepared) c.take_prepared.result c.take_prepared.ensures.made)

pub returns-in-Err-clause-cause : goal.returns-in-Err-clause-cause
returns-in-Err-clause-cause g c =
    rw (← c.self.view_is) (asked_unwritten g.S.Store (TriesFrame c.args.id.now c.args.attempt) (stored c.self.inside.tables c.self.inside.live) (stored c.prepare_frame.new.tables c.end_refused.new.live) c.in-Err.why c.in-Err.ensures.cause)
