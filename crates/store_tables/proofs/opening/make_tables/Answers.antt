use Rattle.std.proofs.Common.{arith, []}
use Rattle.sqlite.specs.State.{State, HasCleanDisk}
use Rattle.sqlite.specs.Held.{state}
use Rattle.sql_tables.specs.Causes.{RefusesToRun}
use Rattle.sql_tables.specs.Columns.{no_schema}
use Rattle.sql_tables.proofs.Queries.{keeps_on, on_ok}
use Rattle.store_tables.specs.Tables.{state_text, with_entry, with_invocation, with_meta, with_sleep}
use Rattle.store_tables.proofs.Caused.{passed, passed_later, survives_on, told_by, told_later}
use Rattle.store_tables.proofs.Texts.{makes_entry, makes_invocation, makes_meta, makes_sleep, makes_state}
use Rattle.store_tables.proofs.Unrefused.{IsUnderWay, first_there, table_there, table_told, under_way}
use Rattle.store_tables.proofs.opening.make_tables.Goals as goal

pub returns-in_err-run-2-clause-kept : goal.returns-in_err-run-2-clause-kept
returns-in_err-run-2-clause-kept g c clean =
    let a : State = state g.S.Store c.args.tx.now.conn.now in
    let b : State = state g.S.Store c.run.new.tx.conn.now in
    let d : State = state g.S.Store c.run-2.new.tx.conn.now in
    let clean_b : HasCleanDisk b = omega (arith, c.run-2.ensures.survives.clean) in
    keeps_on a b d (c.run.ensures.kept clean_b) (c.run-2.ensures.kept clean)

pub returns-in_err-run-3-clause-kept : goal.returns-in_err-run-3-clause-kept
returns-in_err-run-3-clause-kept g c clean =
    let a : State = state g.S.Store c.args.tx.now.conn.now in
    let b : State = state g.S.Store c.run.new.tx.conn.now in
    let d : State = state g.S.Store c.run-2.new.tx.conn.now in
    let e : State = state g.S.Store c.run-3.new.tx.conn.now in
    let clean_d : HasCleanDisk d = omega (arith, c.run-3.ensures.survives.clean) in
    let clean_b : HasCleanDisk b = omega (arith, c.run-2.ensures.survives.clean) in
    keeps_on a d e (keeps_on a b d (c.run.ensures.kept clean_b) (c.run-2.ensures.kept clean_d)) (c.run-3.ensures.kept clean)

pub returns-in_err-run-4-clause-kept : goal.returns-in_err-run-4-clause-kept
returns-in_err-run-4-clause-kept g c clean =
    let a : State = state g.S.Store c.args.tx.now.conn.now in
    let b : State = state g.S.Store c.run.new.tx.conn.now in
    let d : State = state g.S.Store c.run-2.new.tx.conn.now in
    let e : State = state g.S.Store c.run-3.new.tx.conn.now in
    let f : State = state g.S.Store c.run-4.new.tx.conn.now in
    let clean_e : HasCleanDisk e = omega (arith, c.run-4.ensures.survives.clean) in
    let clean_d : HasCleanDisk d = omega (arith, c.run-3.ensures.survives.clean) in
    let clean_b : HasCleanDisk b = omega (arith, c.run-2.ensures.survives.clean) in
    keeps_on a e f (keeps_on a d e (keeps_on a b d (c.run.ensures.kept clean_b) (c.run-2.ensures.kept clean_d)) (c.run-3.ensures.kept clean_e)) (c.run-4.ensures.kept clean)

pub returns-clause-kept : goal.returns-clause-kept
returns-clause-kept g c clean =
    let a : State = state g.S.Store c.args.tx.now.conn.now in
    let b : State = state g.S.Store c.run.new.tx.conn.now in
    let d : State = state g.S.Store c.run-2.new.tx.conn.now in
    let e : State = state g.S.Store c.run-3.new.tx.conn.now in
    let f : State = state g.S.Store c.run-4.new.tx.conn.now in
    let h : State = state g.S.Store c.run-5.new.tx.conn.now in
    let clean_f : HasCleanDisk f = omega (arith, c.run-5.ensures.survives.clean) in
    let clean_e : HasCleanDisk e = omega (arith, c.run-4.ensures.survives.clean) in
    let clean_d : HasCleanDisk d = omega (arith, c.run-3.ensures.survives.clean) in
    let clean_b : HasCleanDisk b = omega (arith, c.run-2.ensures.survives.clean) in
    keeps_on a f h (keeps_on a e f (keeps_on a d e (keeps_on a b d (c.run.ensures.kept clean_b) (c.run-2.ensures.kept clean_d)) (c.run-3.ensures.kept clean_e)) (c.run-4.ensures.kept clean_f)) (c.run-5.ensures.kept clean)

pub returns-clause-ok : goal.returns-clause-ok
returns-clause-ok g c clean =
    let a : State = state g.S.Store c.args.tx.now.conn.now in
    let b : State = state g.S.Store c.run.new.tx.conn.now in
    let d : State = state g.S.Store c.run-2.new.tx.conn.now in
    let e : State = state g.S.Store c.run-3.new.tx.conn.now in
    let f : State = state g.S.Store c.run-4.new.tx.conn.now in
    let h : State = state g.S.Store c.run-5.new.tx.conn.now in
    let made_b = first_there a b c.run.ensures.survives c.requires.empty c.in_ok-run.ensures.ran in
    let made_d = table_there makes_invocation b d c.run-2.ensures.survives made_b c.in_ok-run-2.ensures.ran in
    let made_e = table_there makes_meta d e c.run-3.ensures.survives made_d c.in_ok-run-3.ensures.ran in
    let made_f = table_there makes_sleep e f c.run-4.ensures.survives made_e c.in_ok-run-4.ensures.ran in
    on_ok c.run-5.result (c.run-5.ensures.ran clean) (λ last. table_there makes_state f h c.run-5.ensures.survives made_f (λ _. last) clean)

pub returns-in_err-run-clause-cause : goal.returns-in_err-run-clause-cause
returns-in_err-run-clause-cause g c =
    let a : State = state g.S.Store c.args.tx.now.conn.now in
    let b : State = state g.S.Store c.run.new.tx.conn.now in
    let way : IsUnderWay no_schema a = λ clean. (c.requires.empty clean, c.requires.inside clean) in
    passed a b c.in_err-run.field-0.0 c.from_residual.result c.from_residual.ensures.1
    (table_told makes_entry a b c.run.ensures.survives way c.in_err-run.field-0.0 c.in_err-run.ensures.refused)

pub returns-in_err-run-2-clause-cause : goal.returns-in_err-run-2-clause-cause
returns-in_err-run-2-clause-cause g c =
    let a : State = state g.S.Store c.args.tx.now.conn.now in
    let b : State = state g.S.Store c.run.new.tx.conn.now in
    let d : State = state g.S.Store c.run-2.new.tx.conn.now in
    let made_b = first_there a b c.run.ensures.survives c.requires.empty c.in_ok-run.ensures.ran in
    passed_later a b d (λ _. ⊥) (λ _. ⊥) c.run.ensures.survives c.run-2.ensures.survives c.in_err-run-2.field-0.0 c.from_residual-in_err-run-2.result c.from_residual-in_err-run-2.ensures.1
    (table_told makes_invocation b d c.run-2.ensures.survives (under_way with_entry b made_b) c.in_err-run-2.field-0.0 c.in_err-run-2.ensures.refused)

pub returns-in_err-run-3-clause-cause : goal.returns-in_err-run-3-clause-cause
returns-in_err-run-3-clause-cause g c =
    let a : State = state g.S.Store c.args.tx.now.conn.now in
    let b : State = state g.S.Store c.run.new.tx.conn.now in
    let d : State = state g.S.Store c.run-2.new.tx.conn.now in
    let e : State = state g.S.Store c.run-3.new.tx.conn.now in
    let made_b = first_there a b c.run.ensures.survives c.requires.empty c.in_ok-run.ensures.ran in
    let made_d = table_there makes_invocation b d c.run-2.ensures.survives made_b c.in_ok-run-2.ensures.ran in
    passed_later a d e (λ _. ⊥) (λ _. ⊥) (survives_on a b d c.run.ensures.survives c.run-2.ensures.survives) c.run-3.ensures.survives c.in_err-run-3.field-0.0 c.from_residual-in_err-run-3.result c.from_residual-in_err-run-3.ensures.1
    (table_told makes_meta d e c.run-3.ensures.survives (under_way with_invocation d made_d) c.in_err-run-3.field-0.0 c.in_err-run-3.ensures.refused)

pub returns-in_err-run-4-clause-cause : goal.returns-in_err-run-4-clause-cause
returns-in_err-run-4-clause-cause g c =
    let a : State = state g.S.Store c.args.tx.now.conn.now in
    let b : State = state g.S.Store c.run.new.tx.conn.now in
    let d : State = state g.S.Store c.run-2.new.tx.conn.now in
    let e : State = state g.S.Store c.run-3.new.tx.conn.now in
    let f : State = state g.S.Store c.run-4.new.tx.conn.now in
    let made_b = first_there a b c.run.ensures.survives c.requires.empty c.in_ok-run.ensures.ran in
    let made_d = table_there makes_invocation b d c.run-2.ensures.survives made_b c.in_ok-run-2.ensures.ran in
    let made_e = table_there makes_meta d e c.run-3.ensures.survives made_d c.in_ok-run-3.ensures.ran in
    passed_later a e f (λ _. ⊥) (λ _. ⊥) (survives_on a d e (survives_on a b d c.run.ensures.survives c.run-2.ensures.survives) c.run-3.ensures.survives) c.run-4.ensures.survives c.in_err-run-4.field-0.0 c.from_residual-in_err-run-4.result c.from_residual-in_err-run-4.ensures.1
    (table_told makes_sleep e f c.run-4.ensures.survives (under_way with_meta e made_e) c.in_err-run-4.field-0.0 c.in_err-run-4.ensures.refused)

pub returns-clause-cause : goal.returns-clause-cause
returns-clause-cause g c =
    let a : State = state g.S.Store c.args.tx.now.conn.now in
    let b : State = state g.S.Store c.run.new.tx.conn.now in
    let d : State = state g.S.Store c.run-2.new.tx.conn.now in
    let e : State = state g.S.Store c.run-3.new.tx.conn.now in
    let f : State = state g.S.Store c.run-4.new.tx.conn.now in
    let h : State = state g.S.Store c.run-5.new.tx.conn.now in
    let made_b = first_there a b c.run.ensures.survives c.requires.empty c.in_ok-run.ensures.ran in
    let made_d = table_there makes_invocation b d c.run-2.ensures.survives made_b c.in_ok-run-2.ensures.ran in
    let made_e = table_there makes_meta d e c.run-3.ensures.survives made_d c.in_ok-run-3.ensures.ran in
    let made_f = table_there makes_sleep e f c.run-4.ensures.survives made_e c.in_ok-run-4.ensures.ran in
    told_later a f h (λ _. ⊥) (λ _. ⊥) (survives_on a e f (survives_on a d e (survives_on a b d c.run.ensures.survives c.run-2.ensures.survives) c.run-3.ensures.survives) c.run-4.ensures.survives) c.run-5.ensures.survives c.run-5.result
    (told_by f h c.run-5.result (RefusesToRun state_text [] f h) c.run-5.ensures.refused (table_told makes_state f h c.run-5.ensures.survives (under_way with_sleep f made_f)))
