use Rattle.std.proofs.Common.{arith}
use Rattle.sqlite.specs.Held.{state}
use Rattle.sqlite.specs.State.{State, HasCleanDisk}
use Rattle.journal_model.specs.Event.{Event}
use Rattle.journal_model.specs.Cause.{adding_tests}
use Rattle.protocol_types.specs.MessageType.{type_number}
use Rattle.store_refusals.proofs.Causes.{err_later}
use Rattle.store_invocations.proofs.Refusing.{refused_more}
use Rattle.store_invocations.proofs.Standing.{store_kept}
use Rattle.store_arrivals.specs.AskedCompletions.{completion_tests}
use Rattle.store_arrivals.proofs.Written.{all_ready}
use Rattle.store_arrivals.proofs.result.prepare_for.Goals as goal

pub returns-in-Ok-clause-decided : goal.returns-in-Ok-clause-decided
returns-in-Ok-clause-decided g c clean events store of =
    let old : State = state g.S.Store c.args.tables.now in
    let mid : State = state g.S.Store c.type_of_result.new.tables in
    let early : HasCleanDisk mid = omega (arith, c.prepare_woken.ensures.looks.crash.clean, clean) in
    let told = c.in-Ok.ensures.decided early events store in
    let now = store_kept events old mid c.type_of_result.ensures.looks.crash c.type_of_result.ensures.looks.kept store in
    all_ready events c.args.id.now c.args.completion c.args.brought c.args.row c.in-Ok.ty store.accepted of told.0 told.1 c.prepare_woken.result
    (c.prepare_woken.ensures.decided clean events c.args.id.now now of)

pub returns-in-Err-clause-decided : goal.returns-in-Err-clause-decided
returns-in-Err-clause-decided g c clean events store of =
    let id = c.args.id.now in
    let n = c.args.completion in
    refused_more (completion_tests events id n c.args.brought) (adding_tests events id (Event.Result id n c.args.brought)) _ (c.in-Err.ensures.decided clean events store)

pub returns-in-Ok-clause-cause : goal.returns-in-Ok-clause-cause
returns-in-Ok-clause-cause g c =
    err_later (state g.S.Store c.args.tables.now) (state g.S.Store c.type_of_result.new.tables) (state g.S.Store c.prepare_woken.new.tables) _ _ c.type_of_result.ensures.looks.crash c.prepare_woken.ensures.looks.crash
    c.prepare_woken.result c.prepare_woken.ensures.cause
