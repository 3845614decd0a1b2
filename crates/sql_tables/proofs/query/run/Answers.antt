use Rattle.std.proofs.Common.{inl, inr, IsTrue, sym, subst}
use Rattle.std.proofs.lemmas.Bool.{cases_Bool}
use Rattle.sqlite.specs.Held.{state}
use Rattle.sqlite.specs.State.{State, KeepsCommit}
use Rattle.sqlite.specs.Values.{bound}
use Rattle.sql_tables.proofs.Refused.{passed_refusal}
use Rattle.sql_tables.proofs.Queries.{failed_run_keeps, keeps_itself, run_keeps, went_inside}
use Rattle.sql_tables.proofs.query.run.Goals as goal

pub returns-in_err-execute-clause-kept : goal.returns-in_err-execute-clause-kept
returns-in_err-execute-clause-kept g c clean =
    let old : State = state g.S.Store c.args.tx.now.conn.now in
    let new : State = state g.S.Store c.execute.new.self.conn.now in
    elim (cases_Bool old.in_transaction) [
      | inl inside ↦ failed_run_keeps c.args.sql.now (bound c.args.params.now) old new _ (c.in_err-execute.ensures.runs clean inside)
      | inr outside ↦ subst (λ h. KeepsCommit old (state g.S.Store h)) (sym (c.execute.ensures.ended outside).1) (keeps_itself old)
    ]

pub returns-clause-kept : goal.returns-clause-kept
returns-clause-kept g c clean =
    let old : State = state g.S.Store c.args.tx.now.conn.now in
    let new : State = state g.S.Store c.execute.new.self.conn.now in
    let inside : IsTrue old.in_transaction = went_inside old.in_transaction c.execute.result _ _ _ c.in_ok-execute.was c.execute.ensures.ended in
    run_keeps c.args.sql.now (bound c.args.params.now) old new c.in_ok-execute.field-0 (c.in_ok-execute.ensures.runs clean inside)

pub returns-clause-ran : goal.returns-clause-ran
returns-clause-ran g c clean =
    let old : State = state g.S.Store c.args.tx.now.conn.now in
    let inside : IsTrue old.in_transaction = went_inside old.in_transaction c.execute.result _ _ _ c.in_ok-execute.was c.execute.ensures.ended in
    let ran = c.in_ok-execute.ensures.runs clean inside in
    record { count = c.in_ok-execute.field-0; ran = ran.0; was_open = ran.1.was_open; inside = ran.1.mode }

pub returns-in_err-execute-clause-refused : goal.returns-in_err-execute-clause-refused
returns-in_err-execute-clause-refused g c clean =
    let old : State = state g.S.Store c.args.tx.now.conn.now in
    let new : State = state g.S.Store c.execute.new.self.conn.now in
    passed_refusal c.args.sql.now (bound c.args.params.now) old new c.in_err-execute.field-0.0 c.from_residual.result c.from_residual.ensures.1 (λ outside. (c.in_err-execute.ensures.ended outside).0) (c.in_err-execute.ensures.runs clean)
