use Rattle.std.proofs.Common.{arith, []}
use Rattle.sqlite.specs.State.{State, HasCleanDisk}
use Rattle.sqlite.specs.Held.{state}
use Rattle.sql_tables.specs.Causes.{RefusesToRun}
use Rattle.sql_tables.proofs.Queries.{keeps_on, on_ok}
use Rattle.store_tables.specs.Tables.{by_awake_text}
use Rattle.store_tables.proofs.Caused.{passed, told_by, told_later}
use Rattle.store_tables.proofs.Texts.{makes_by_awake, makes_by_open_object}
use Rattle.store_tables.proofs.Unrefused.{index_there, index_told}
use Rattle.store_tables.proofs.opening.index_invocations.Goals as goal

pub returns-clause-kept : goal.returns-clause-kept
returns-clause-kept g c clean =
    let a : State = state g.S.Store c.args.tx.now.conn.now in
    let b : State = state g.S.Store c.run.new.tx.conn.now in
    let d : State = state g.S.Store c.run-2.new.tx.conn.now in
    let clean_b : HasCleanDisk b = omega (arith, c.run-2.ensures.survives.clean) in
    keeps_on a b d (c.run.ensures.kept clean_b) (c.run-2.ensures.kept clean)

pub returns-clause-ok : goal.returns-clause-ok
returns-clause-ok g c clean =
    let a : State = state g.S.Store c.args.tx.now.conn.now in
    let b : State = state g.S.Store c.run.new.tx.conn.now in
    let d : State = state g.S.Store c.run-2.new.tx.conn.now in
    let made_b = index_there makes_by_open_object a b c.run.ensures.survives c.requires c.in_ok-run.ensures.ran in
    on_ok c.run-2.result (c.run-2.ensures.ran clean) (λ last. index_there makes_by_awake b d c.run-2.ensures.survives made_b (λ _. last) clean)

pub returns-in_err-run-clause-cause : goal.returns-in_err-run-clause-cause
returns-in_err-run-clause-cause g c =
    let a : State = state g.S.Store c.args.tx.now.conn.now in
    let b : State = state g.S.Store c.run.new.tx.conn.now in
    passed a b c.in_err-run.field-0.0 c.from_residual.result c.from_residual.ensures.1
    (index_told makes_by_open_object a b c.run.ensures.survives c.requires c.in_err-run.field-0.0 c.in_err-run.ensures.refused)

pub returns-clause-cause : goal.returns-clause-cause
returns-clause-cause g c =
    let a : State = state g.S.Store c.args.tx.now.conn.now in
    let b : State = state g.S.Store c.run.new.tx.conn.now in
    let d : State = state g.S.Store c.run-2.new.tx.conn.now in
    let made_b = index_there makes_by_open_object a b c.run.ensures.survives c.requires c.in_ok-run.ensures.ran in
    told_later a b d (λ _. ⊥) (λ _. ⊥) c.run.ensures.survives c.run-2.ensures.survives c.run-2.result
    (told_by b d c.run-2.result (RefusesToRun by_awake_text [] b d) c.run-2.ensures.refused (index_told makes_by_awake b d c.run-2.ensures.survives made_b))
