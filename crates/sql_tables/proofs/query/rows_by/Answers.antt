use Rattle.std.proofs.Common.{◌≡◌, ◌∙◌, true, not, sym, ap, subst, arith, rules, IsTrue}
use Rattle.sqlite.specs.Held.{state}
use Rattle.sqlite.specs.State.{State, HasCleanDisk, KeepsCommit}
use Rattle.sqlite.specs.Values.{bound}
use Rattle.sql_tables.proofs.Queries.{asked_or_late, failed_or_late_keeps, shown_answers, shown_keeps, shown_open, undone_keeps}
use Rattle.sql_tables.specs.Causes.{IsCause}
use Rattle.sql_tables.proofs.Causes.{asked_cause, begun_cause, cause_before}
use Rattle.sql_tables.proofs.query.rows_by.Goals as goal

pub returns-in-Ok-clause-answers : goal.returns-in-Ok-clause-answers
returns-in-Ok-clause-answers g c clean =
    let old : State = state g.S.Store c.args.conn.now in
    let begun : State = state g.S.Store c.transaction-tx.result.conn.now in
    let mid : State = state g.S.Store c.query_all-rows.new.self.conn.now in
    let same : c.drop.new.self.0 ≡ c.conn-1.given.0 = search rules in
    let clean_after : HasCleanDisk (state g.S.Store c.drop.new.self.0) = subst (λ h. HasCleanDisk (state g.S.Store h)) (sym same) clean in
    let clean_mid : HasCleanDisk mid = omega (arith, c.drop.ensures.survives.clean, clean_after) in
    let shown = c.in-Ok.ensures.ok clean_mid in
    let sql = c.args.sql.now in
    let params = bound c.args.params.now in (
      subst IsTrue (ap (λ h. (state g.S.Store h).is_open) c.transaction-tx.ensures.begun) (shown_open sql params begun mid c.in-Ok.rows.items shown),
      shown_answers sql params old begun mid c.in-Ok.rows.items (ap (λ h. (state g.S.Store h).now) c.transaction-tx.ensures.begun) shown,
    )

pub returns-in-Ok-clause-kept : goal.returns-in-Ok-clause-kept
returns-in-Ok-clause-kept g c clean is_open =
    let old : State = state g.S.Store c.args.conn.now in
    let begun : State = state g.S.Store c.transaction-tx.result.conn.now in
    let mid : State = state g.S.Store c.query_all-rows.new.self.conn.now in
    let same : c.drop.new.self.0 ≡ c.conn-1.given.0 = search rules in
    let clean_after : HasCleanDisk (state g.S.Store c.drop.new.self.0) = subst (λ h. HasCleanDisk (state g.S.Store h)) (sym same) clean in
    let clean_mid : HasCleanDisk mid = omega (arith, c.drop.ensures.survives.clean, clean_after) in
    let inside : begun.in_transaction ≡ true = ap (λ h. (state g.S.Store h).in_transaction) c.transaction-tx.ensures.begun in
    let kept : KeepsCommit begun mid = shown_keeps c.args.sql.now (bound c.args.params.now) begun mid c.in-Ok.rows.items inside (c.in-Ok.ensures.ok clean_mid) in
    let idle : c.is_autocommit-settled.result ≡ true = c.is_autocommit-settled.ensures.value ∙ ap not c.requires in
    subst (λ h. IsTrue (state g.S.Store h).is_open → IsTrue old.is_open × ((state g.S.Store h).now ≡ old.now)) same
    (undone_keeps old begun mid (state g.S.Store c.drop.new.self.0) (ap (λ h. (state g.S.Store h).committed) c.transaction-tx.ensures.begun) (ap (λ h. (state g.S.Store h).is_open) c.transaction-tx.ensures.begun)
    (c.is_autocommit-settled.ensures.settled idle) kept (c.drop.ensures.undone clean_after)) is_open

pub returns-in-Err-clause-kept : goal.returns-in-Err-clause-kept
returns-in-Err-clause-kept g c clean is_open =
    let old : State = state g.S.Store c.args.conn.now in
    let begun : State = state g.S.Store c.transaction-tx.result.conn.now in
    let mid : State = state g.S.Store c.query_all-rows.new.self.conn.now in
    let same : c.drop.new.self.0 ≡ c.conn-1.given.0 = search rules in
    let clean_after : HasCleanDisk (state g.S.Store c.drop.new.self.0) = subst (λ h. HasCleanDisk (state g.S.Store h)) (sym same) clean in
    let clean_mid : HasCleanDisk mid = omega (arith, c.drop.ensures.survives.clean, clean_after) in
    let kept : KeepsCommit begun mid = failed_or_late_keeps c.args.sql.now (bound c.args.params.now) begun mid c.in-Err.cause (c.in-Err.ensures.err clean_mid) in
    let idle : c.is_autocommit-settled.result ≡ true = c.is_autocommit-settled.ensures.value ∙ ap not c.requires in
    subst (λ h. IsTrue (state g.S.Store h).is_open → IsTrue old.is_open × ((state g.S.Store h).now ≡ old.now)) same
    (undone_keeps old begun mid (state g.S.Store c.drop.new.self.0) (ap (λ h. (state g.S.Store h).committed) c.transaction-tx.ensures.begun) (ap (λ h. (state g.S.Store h).is_open) c.transaction-tx.ensures.begun)
    (c.is_autocommit-settled.ensures.settled idle) kept (c.drop.ensures.undone clean_after)) is_open

pub returns-in-Err-clause-cause : goal.returns-in-Err-clause-cause
returns-in-Err-clause-cause g c asked clean cause is =
    let old : State = state g.S.Store c.args.conn.now in
    let begun : State = state g.S.Store c.transaction-tx.result.conn.now in
    let mid : State = state g.S.Store c.query_all-rows.new.self.conn.now in
    let same : c.drop.new.self.0 ≡ c.conn-1.given.0 = search rules in
    let clean_after : HasCleanDisk (state g.S.Store c.drop.new.self.0) = subst (λ h. HasCleanDisk (state g.S.Store h)) (sym same) clean in
    let clean_mid : HasCleanDisk mid = omega (arith, c.drop.ensures.survives.clean, clean_after) in
    let its : c.in-Err.cause ≡ cause = cc in
    let inside : begun.in_transaction ≡ true = ap (λ h. (state g.S.Store h).in_transaction) c.transaction-tx.ensures.begun in
    let told = asked_or_late c.args.sql.now (bound c.args.params.now) begun mid c.in-Err.cause inside (c.in-Err.ensures.err clean_mid) in
    let early : IsCause begun mid c.in-Err.cause = asked_cause asked.0 c.args.sql.now (bound c.args.params.now) begun mid c.in-Err.cause
    (subst (λ h. IsTrue (state g.S.Store h).is_open → (state g.S.Store h).now.schema ≡ asked.0) (sym c.transaction-tx.ensures.begun) asked.1) asked.2 told in
    let after : IsCause begun (state g.S.Store c.drop.new.self.0) c.in-Err.cause = cause_before begun mid (state g.S.Store c.drop.new.self.0) _ _ c.in-Err.cause c.query_all-rows.ensures.survives c.drop.ensures.survives early in
    subst (IsCause old (state g.S.Store c.conn-1.given.0)) its (begun_cause g.S.Store c.args.conn.now c.transaction-tx.result.conn.now _ c.in-Err.cause c.transaction-tx.ensures.begun (subst (λ h. IsCause begun (state g.S.Store h) c.in-Err.cause) same after))
