use Rattle.std.proofs.Common.{◌≡◌, rules, subst, IfErr}
use Rattle.sqlite.specs.Held.{Held, state}
use Rattle.sqlite.specs.State.{State}
use Rattle.sql_tables.specs.Causes.{TellsErrorCause}
use Rattle.store_tables.proofs.Caused.{passed, passed_later, survives_on, told_before, told_of_commit, told_outside}
use Rattle.store_tables.proofs.opening.create.Goals as goal

pub returns-in_err-make_schema-clause-cause : goal.returns-in_err-make_schema-clause-cause
returns-in_err-make_schema-clause-cause g c =
    let a : State = state g.S.Store c.transaction-tx.result.conn.now in
    let b : State = state g.S.Store c.make_schema.new.tx.conn.now in
    let last : Held g.row.S.Denot = c.drop-tx.new.self.0 in
    let same : last ≡ c.conn-1.given.0 = search rules in
    subst (λ (h : Held g.row.S.Denot). IfErr c.from_residual.result (TellsErrorCause (state g.S.Store c.args.conn.now) (state g.S.Store h))) same
    (told_outside g.S.Store c.args.conn.now c.transaction-tx.result.conn.now (state g.S.Store last) c.from_residual.result c.transaction-tx.ensures.begun
    (told_before a b (state g.S.Store last) (λ _. ⊥) (λ _. ⊥) c.make_schema.ensures.survives c.drop-tx.ensures.survives c.from_residual.result
    (passed a b c.in_err-make_schema.field-0.0 c.from_residual.result c.from_residual.ensures.1 c.in_err-make_schema.ensures.cause)))

pub returns-in_err-add_mark-clause-cause : goal.returns-in_err-add_mark-clause-cause
returns-in_err-add_mark-clause-cause g c =
    let a : State = state g.S.Store c.transaction-tx.result.conn.now in
    let b : State = state g.S.Store c.make_schema.new.tx.conn.now in
    let d : State = state g.S.Store c.add_mark.new.tx.conn.now in
    let last : Held g.row.S.Denot = c.drop-tx-in_err-add_mark.new.self.0 in
    let same : last ≡ c.conn-in_err-add_mark-1.given.0 = search rules in
    subst (λ (h : Held g.row.S.Denot). IfErr c.from_residual-in_err-add_mark.result (TellsErrorCause (state g.S.Store c.args.conn.now) (state g.S.Store h))) same
    (told_outside g.S.Store c.args.conn.now c.transaction-tx.result.conn.now (state g.S.Store last) c.from_residual-in_err-add_mark.result c.transaction-tx.ensures.begun
    (told_before a d (state g.S.Store last) (λ _. ⊥) (λ _. ⊥) (survives_on a b d c.make_schema.ensures.survives c.add_mark.ensures.survives) c.drop-tx-in_err-add_mark.ensures.survives c.from_residual-in_err-add_mark.result
    (passed_later a b d (λ _. ⊥) (λ _. ⊥) c.make_schema.ensures.survives c.add_mark.ensures.survives c.in_err-add_mark.field-0.0 c.from_residual-in_err-add_mark.result c.from_residual-in_err-add_mark.ensures.1 c.in_err-add_mark.ensures.cause)))

pub returns-clause-cause : goal.returns-clause-cause
returns-clause-cause g c =
    let a : State = state g.S.Store c.transaction-tx.result.conn.now in
    let b : State = state g.S.Store c.make_schema.new.tx.conn.now in
    let d : State = state g.S.Store c.add_mark.new.tx.conn.now in
    let last : Held g.row.S.Denot = c.commit.new.self.0 in
    let same : last ≡ c.conn-2-1.given.0 = search rules in
    subst (λ (h : Held g.row.S.Denot). IfErr c.commit.result (TellsErrorCause (state g.S.Store c.args.conn.now) (state g.S.Store h))) same
    (told_outside g.S.Store c.args.conn.now c.transaction-tx.result.conn.now (state g.S.Store last) c.commit.result c.transaction-tx.ensures.begun
    (told_of_commit a d (state g.S.Store last) (λ _. ⊥) (λ db. db ≡ d.now.trees) (survives_on a b d c.make_schema.ensures.survives c.add_mark.ensures.survives) c.commit.ensures.survives c.commit.result (λ clean. (c.in_ok-add_mark.ensures.ok clean).1) c.commit.ensures.err))
