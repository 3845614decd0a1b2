use Rattle.std.proofs.Common.{arith}
use Rattle.sqlite.specs.State.{State, HasCleanDisk}
use Rattle.sqlite.specs.Held.{state}
use Rattle.sql_tables.proofs.Queries.{keeps_on}
use Rattle.store_tables.proofs.Caused.{passed_later, survives_on, told_later}
use Rattle.store_tables.proofs.opening.make_schema.Goals as goal

pub returns-in_err-index_invocations-clause-kept : goal.returns-in_err-index_invocations-clause-kept
returns-in_err-index_invocations-clause-kept g c clean =
    let a : State = state g.S.Store c.args.tx.now.conn.now in
    let b : State = state g.S.Store c.make_tables.new.tx.conn.now in
    let d : State = state g.S.Store c.index_invocations.new.tx.conn.now in
    let clean_b : HasCleanDisk b = omega (arith, c.index_invocations.ensures.survives.clean) in
    keeps_on a b d (c.make_tables.ensures.kept clean_b) (c.index_invocations.ensures.kept clean)

pub returns-in_err-index_entries-clause-kept : goal.returns-in_err-index_entries-clause-kept
returns-in_err-index_entries-clause-kept g c clean =
    let a : State = state g.S.Store c.args.tx.now.conn.now in
    let b : State = state g.S.Store c.make_tables.new.tx.conn.now in
    let d : State = state g.S.Store c.index_invocations.new.tx.conn.now in
    let e : State = state g.S.Store c.index_entries.new.tx.conn.now in
    let clean_d : HasCleanDisk d = omega (arith, c.index_entries.ensures.survives.clean) in
    let clean_b : HasCleanDisk b = omega (arith, c.index_invocations.ensures.survives.clean) in
    keeps_on a d e (keeps_on a b d (c.make_tables.ensures.kept clean_b) (c.index_invocations.ensures.kept clean_d)) (c.index_entries.ensures.kept clean)

pub returns-clause-kept : goal.returns-clause-kept
returns-clause-kept g c clean =
    let a : State = state g.S.Store c.args.tx.now.conn.now in
    let b : State = state g.S.Store c.make_tables.new.tx.conn.now in
    let d : State = state g.S.Store c.index_invocations.new.tx.conn.now in
    let e : State = state g.S.Store c.index_entries.new.tx.conn.now in
    let f : State = state g.S.Store c.index_sleeps.new.tx.conn.now in
    let clean_e : HasCleanDisk e = omega (arith, c.index_sleeps.ensures.survives.clean) in
    let clean_d : HasCleanDisk d = omega (arith, c.index_entries.ensures.survives.clean) in
    let clean_b : HasCleanDisk b = omega (arith, c.index_invocations.ensures.survives.clean) in
    keeps_on a e f (keeps_on a d e (keeps_on a b d (c.make_tables.ensures.kept clean_b) (c.index_invocations.ensures.kept clean_d)) (c.index_entries.ensures.kept clean_e)) (c.index_sleeps.ensures.kept clean)

pub returns-in_err-index_invocations-clause-cause : goal.returns-in_err-index_invocations-clause-cause
returns-in_err-index_invocations-clause-cause g c =
    let a : State = state g.S.Store c.args.tx.now.conn.now in
    let b : State = state g.S.Store c.make_tables.new.tx.conn.now in
    let d : State = state g.S.Store c.index_invocations.new.tx.conn.now in
    passed_later a b d (λ _. ⊥) (λ _. ⊥) c.make_tables.ensures.survives c.index_invocations.ensures.survives c.in_err-index_invocations.field-0.0 c.from_residual-in_err-index_invocations.result c.from_residual-in_err-index_invocations.ensures.1 c.in_err-index_invocations.ensures.cause

pub returns-in_err-index_entries-clause-cause : goal.returns-in_err-index_entries-clause-cause
returns-in_err-index_entries-clause-cause g c =
    let a : State = state g.S.Store c.args.tx.now.conn.now in
    let b : State = state g.S.Store c.make_tables.new.tx.conn.now in
    let d : State = state g.S.Store c.index_invocations.new.tx.conn.now in
    let e : State = state g.S.Store c.index_entries.new.tx.conn.now in
    passed_later a d e (λ _. ⊥) (λ _. ⊥) (survives_on a b d c.make_tables.ensures.survives c.index_invocations.ensures.survives) c.index_entries.ensures.survives c.in_err-index_entries.field-0.0 c.from_residual-in_err-index_entries.result c.from_residual-in_err-index_entries.ensures.1 c.in_err-index_entries.ensures.cause

pub returns-clause-cause : goal.returns-clause-cause
returns-clause-cause g c =
    let a : State = state g.S.Store c.args.tx.now.conn.now in
    let b : State = state g.S.Store c.make_tables.new.tx.conn.now in
    let d : State = state g.S.Store c.index_invocations.new.tx.conn.now in
    let e : State = state g.S.Store c.index_entries.new.tx.conn.now in
    let f : State = state g.S.Store c.index_sleeps.new.tx.conn.now in
    told_later a e f (λ _. ⊥) (λ _. ⊥) (survives_on a d e (survives_on a b d c.make_tables.ensures.survives c.index_invocations.ensures.survives) c.index_entries.ensures.survives) c.index_sleeps.ensures.survives c.index_sleeps.result c.index_sleeps.ensures.cause
