-- A read that the store answers is made ready with its answer; any other command is decided by the row alone.
use Rattle.std.proofs.Common.{◌∙◌, false, sym}
use Rattle.sqlite.specs.Held.{state}
use Rattle.journal_model.specs.Journal.{object_state}
use Rattle.store_frames.specs.declared.frame.AttemptFrame.TheVariants as told
use Rattle.store_refusals.proofs.Causes.{err_unasked}
use Rattle.store_steps.proofs.Causes.{decided_unasked}
use Rattle.store_steps.proofs.Commands.{command_answered, command_refused, unread_command}
use Rattle.store_steps.proofs.Taking.{taken_by_row}
use Rattle.store_steps.proofs.Waking.{other_frames}
use Rattle.store_steps.proofs.prepare.command_by_row.Goals as goal

pub returns-in-Ok-Some-clause-prepared : goal.returns-in-Ok-Some-clause-prepared
returns-in-Ok-Some-clause-prepared g c clean events store of =
    let asked = c.in-Ok-Some.ensures.decided clean events store in
    command_answered events store.accepted c.args.id.now c.args.row of c.args.attempt c.args.command c.in-Ok-Some.answer (sym c.in-Ok-Some.field-0-is ∙ asked.1) asked.0
    c.read_with.result c.read_with.ensures.decided

pub returns-in-Ok-None-clause-prepared : goal.returns-in-Ok-None-clause-prepared
returns-in-Ok-None-clause-prepared g c clean events store of =
    let asked = c.in-Ok-None.ensures.decided clean events store in
    taken_by_row events store.accepted c.args.id.now c.args.row of c.args.attempt false (told.Command c.args.command) c.decide_by_row.result
    (unread_command (object_state events c.args.row.object) c.args.command (sym c.in-Ok-None.field-0-is ∙ asked.1)) (other_frames events c.args.id.now c.args.attempt c.args.command) c.decide_by_row.ensures.ok c.decide_by_row.ensures.err

pub returns-in-Err-clause-prepared : goal.returns-in-Err-clause-prepared
returns-in-Err-clause-prepared g c clean events store of =
    command_refused events store.accepted c.args.id.now c.args.row of c.args.attempt c.args.command c.in-Err.why (c.in-Err.ensures.decided clean events store)

pub returns-in-Ok-Some-clause-cause : goal.returns-in-Ok-Some-clause-cause
returns-in-Ok-Some-clause-cause g c =
    err_unasked (state g.S.Store c.args.tables.now) (state g.S.Store c.answer_at_once.new.tables) c.read_with.result c.read_with.ensures.unasked

pub returns-in-Ok-None-clause-cause : goal.returns-in-Ok-None-clause-cause
returns-in-Ok-None-clause-cause g c =
    err_unasked (state g.S.Store c.args.tables.now) (state g.S.Store c.answer_at_once.new.tables) c.decide_by_row.result
    (decided_unasked c.args.row.progress c.args.attempt (told.Command c.args.command) c.decide_by_row.result c.decide_by_row.ensures.err)
