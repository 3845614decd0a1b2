use Rattle.std.proofs.Common.{◌≡◌, ◌⊎◌, ◌∙◌, ◌==◌, ◌+◌, ◌++◌, ◌∷◌, sym, ap, subst, not, true, true≢false, inr, arith, rules, List, [], length, drop, take, IsTrue}
use Rattle.std.proofs.lemmas.List.{take_all, take_more}
use Rattle.sqlite.specs.State.{State}
use Rattle.sqlite.specs.Held.{Held, state}
use Rattle.sqlite.proofs.StateLemmas.{survives_then}
use Rattle.sql_tables.specs.Causes.{TellsWriteCause}
use Rattle.sql_tables.proofs.Queries.{keeps_on}
use Rattle.store_tables.specs.Records.{Write, applied_all}
use Rattle.store_tables.specs.Statements.{statements_of_all}
use Rattle.store_tables.specs.Steps.{ChangesRecords, TurnsRecords}
use Rattle.store_tables.proofs.Caused.{survives_on}
use Rattle.store_tables.proofs.Committed.{committed, given_up, kept_from, opened_from, refused_behind, split_at, steps_from, survives_from, turns_from}
use Rattle.store_tables.proofs.Moves.{steps_on, turns_on}
use Rattle.store_tables.proofs.write.commit_all.Goals as goal

pub loop-write-preserved : goal.loop-write-preserved
loop-write-preserved g c =
    let old : State = state g.S.Store c.transaction-tx.result.conn.now in
    let mid : State = state g.S.Store c.loop-write.tx.conn.now in
    let new : State = state g.S.Store c.apply.new.tx.conn.now in
    record {
      same_reference = search rules;
      survives = survives_then old mid new _ _ (λ _. ⊥) (λ _ db none. none) (λ _ db none. none) c.loop-write.invariant.survives c.apply.ensures.alters.survives;
      kept = λ clean. keeps_on old mid new (c.loop-write.invariant.kept (omega (arith, c.apply.ensures.alters.survives.clean))) (c.apply.ensures.alters.kept clean);
      opened = λ clean. inr (((c.loop-write.invariant.kept (omega (arith, c.apply.ensures.alters.survives.clean))).was_open) (c.in_ok-apply.ensures.alters.done clean).was_open);
      turns = λ clean.
          rw (take_more c.args.writes.now c.loop-write.write-index c.write-item.result c.loop-write-test.true, ← c.write-item.is)
          (turns_on (take c.loop-write.write-index c.args.writes.now) c.write-item.result old.now.trees mid.now.trees new.now.trees
          (c.loop-write.invariant.turns (omega (arith, c.apply.ensures.alters.survives.clean))) (c.in_ok-apply.ensures.alters.done clean).records);
      steps = λ clean is_open.
          let was = c.loop-write.invariant.steps (omega (arith, c.apply.ensures.alters.survives.clean)) is_open in
          let now = c.in_ok-apply.ensures.alters.done clean in
          rw (take_more c.args.writes.now c.loop-write.write-index c.write-item.result c.loop-write-test.true, ← c.write-item.is) (steps_on (take c.loop-write.write-index c.args.writes.now) c.write-item.result old mid new c.loop-write.invariant.survives.limit was now);
      inside = λ clean. (c.in_ok-apply.ensures.alters.done clean).inside;
    }

pub returns : goal.returns
returns g c =
    let old : Held g.row.S.Denot = c.tables.inside.connection in
    let began : Held g.row.S.Denot = c.transaction-tx.result.conn.now in
    let mid : Held g.row.S.Denot = c.loop-write.tx.conn.now in
    let writes = c.args.writes.now in
    let i = c.loop-write.invariant in
    let begun = c.transaction-tx.ensures.begun in
    let all : take c.loop-write.write-index writes ≡ writes = take_all c.loop-write.write-index writes c.loop-write-test.false in
    let autocommit : c.is_autocommit-settled.result ≡ true = c.is_autocommit-settled.ensures.value ∙ ap not c.tables.invariant.1 in
    rw (← c.tables.view_is) (committed g.S.Store g.met.S.Store.settled old mid c.commit.new.self.0 writes
    (λ none. absurd (true≢false (sym (ap (λ (some : List Write). length some == 0) none) ∙ sym c.is_empty.ensures ∙ c.if-is_empty.false)))
    (λ is_open. c.is_autocommit-settled.ensures.settled autocommit is_open)
    (survives_from g.S.Store old mid began begun i.survives)
    (λ clean. kept_from g.S.Store old mid began begun (i.kept clean))
    (λ clean. opened_from g.S.Store old mid began writes begun (subst (λ (some : List Write). (some ≡ []) ⊎ IsTrue (state g.S.Store began).is_open) all (i.opened clean)))
    (λ clean. turns_from g.S.Store old mid began (applied_all writes) begun (subst (λ (some : List Write). TurnsRecords (applied_all some) (state g.S.Store began).now.trees (state g.S.Store mid).now.trees) all (i.turns clean)))
    (λ clean. steps_from g.S.Store old mid began (applied_all writes) (statements_of_all writes) begun (subst (λ (some : List Write). IsTrue (state g.S.Store began).is_open → ChangesRecords (applied_all some) (statements_of_all some) (state g.S.Store began) (state g.S.Store mid)) all (i.steps clean)))
    i.inside
    c.commit.ensures.survives c.commit.result c.commit.ensures.ok c.commit.ensures.err)

pub returns-in_err-apply : goal.returns-in_err-apply
returns-in_err-apply g c =
    let old : Held g.row.S.Denot = c.tables.inside.connection in
    let began : Held g.row.S.Denot = c.transaction-tx.result.conn.now in
    let mid : Held g.row.S.Denot = c.loop-write.tx.conn.now in
    let last : Held g.row.S.Denot = c.apply.new.tx.conn.now in
    let i = c.loop-write.invariant in
    let it = c.apply.ensures.alters in
    let autocommit : c.is_autocommit-settled.result ≡ true = c.is_autocommit-settled.ensures.value ∙ ap not c.tables.invariant.1 in
    let a : State = state g.S.Store began in
    let b : State = state g.S.Store mid in
    let d : State = state g.S.Store last in
    let some = take c.loop-write.write-index c.args.writes.now in
    let more = drop (c.loop-write.write-index + 1) c.args.writes.now in
    let split : some ++ c.write-item.result ∷ more ≡ c.args.writes.now =
    subst (λ (w : Write). some ++ w ∷ more ≡ c.args.writes.now) (sym c.write-item.is) (split_at c.loop-write.write-index c.args.writes.now c.write-item.result c.loop-write-test.true) in
    rw (← c.tables.view_is) (given_up g.S.Store old began last c.drop-tx.new.self.0 c.args.writes.now c.in_err-apply.field-0.0 c.from_residual.result c.from_residual.ensures.1
    c.transaction-tx.ensures.begun (λ is_open. c.is_autocommit-settled.ensures.settled autocommit is_open)
    (survives_on a b d i.survives it.survives)
    (λ clean. keeps_on a b d (i.kept (omega (arith, it.survives.clean, clean))) (it.kept clean))
    (subst (λ (all : List Write). TellsWriteCause (statements_of_all all) a d c.in_err-apply.field-0.0) split (refused_behind a b d some more c.write-item.result c.in_err-apply.field-0.0 i.steps i.kept i.survives it.survives c.in_err-apply.ensures.alters.why))
    c.drop-tx.ensures.survives c.drop-tx.ensures.undone)
