use Rattle.std.proofs.Common.{◌≡◌, ℕ, [], refl, sym, ap, subst, ◌∙◌, inl, take, arith, List}
use Rattle.std.proofs.lemmas.List.{take_all, take_more}
use Rattle.sqlite.specs.Held.{state}
use Rattle.sqlite.specs.State.{State, HasCleanDisk}
use Rattle.journal_model.specs.Cause.{those_that_hold}
use Rattle.store_tables.proofs.Chained.{looks_on}
use Rattle.store_refusals.specs.Forgetting.{forget_tests_of_all}
use Rattle.store_refusals.specs.RefusalConditions.{IsRefused}
use Rattle.store_refusals.proofs.Causes.{cause_by, err_later}
use Rattle.store_invocations.specs.ForgottenRows.{forgetting_writes_of_all}
use Rattle.store_invocations.proofs.Forgetting.{first_tells, none_with, writes_with}
use Rattle.store_invocations.proofs.Reading.{decided_err}
use Rattle.store_invocations.proofs.Standing.{store_kept}
use Rattle.store_invocations.proofs.forget.prepare_forget.Goals as goal

pub loop-id-init : goal.loop-id-init
loop-id-init g c = record {
  none = λ clean events store. refl;
  made = c.new-writes.ensures.items;
  looks = record {
    kept = λ clean is_open. (is_open, refl);
    crash = record {
      clean = omega arith;
      shield = λ it. it;
      counts = omega arith;
      limit = refl;
      closes = λ clean is_open. inl is_open;
      crash = λ clean db may. inl may;
    };
  };
}

pub loop-id-preserved : goal.loop-id-preserved
loop-id-preserved g c =
    let old : State = state g.S.Store c.args.tables.now in
    let mid : State = state g.S.Store c.loop-id.tables in
    let ids = c.args.ids.now in
    let some = take c.loop-id.id-index ids in
    let one = c.id-item.result in
    record {
      none = λ clean events store.
          let early : HasCleanDisk mid = omega (arith, c.forget_one.ensures.looks.crash.clean, clean) in
          let now = store_kept events old mid c.loop-id.invariant.looks.crash c.loop-id.invariant.looks.kept store in
          rw (take_more ids c.loop-id.id-index one c.loop-id-test.true, ← c.id-item.is)
          (none_with events some one (c.loop-id.invariant.none early events store) (c.in_ok-forget_one.ensures.decided clean events now).0);
      made =
          rw (take_more ids c.loop-id.id-index one c.loop-id-test.true, ← c.id-item.is)
          (writes_with some one c.loop-id.writes.items c.forget_one.new.writes.items c.loop-id.invariant.made c.in_ok-forget_one.ensures.made);
      looks = looks_on g.S.Store c.args.tables.now c.loop-id.tables c.forget_one.new.tables c.loop-id.invariant.looks c.forget_one.ensures.looks;
    }

pub returns-clause-decided : goal.returns-clause-decided
returns-clause-decided g c clean events store =
    let all : take c.loop-id.id-index c.args.ids.now ≡ c.args.ids.now = take_all c.loop-id.id-index c.args.ids.now c.loop-id-test.false in
    (subst (λ (ids : List (List ℕ)). those_that_hold (forget_tests_of_all events ids) ≡ []) all (c.loop-id.invariant.none clean events store), tt)

pub returns-clause-made : goal.returns-clause-made
returns-clause-made g c = c.loop-id.invariant.made ∙ ap forgetting_writes_of_all (take_all c.loop-id.id-index c.args.ids.now c.loop-id-test.false)

pub returns-in_err-forget_one-clause-decided : goal.returns-in_err-forget_one-clause-decided
returns-in_err-forget_one-clause-decided g c clean events store =
    let old : State = state g.S.Store c.args.tables.now in
    let mid : State = state g.S.Store c.loop-id.tables in
    let ids = c.args.ids.now in
    let early : HasCleanDisk mid = omega (arith, c.forget_one.ensures.looks.crash.clean, clean) in
    let now = store_kept events old mid c.loop-id.invariant.looks.crash c.loop-id.invariant.looks.kept store in
    decided_err (forget_tests_of_all events ids) (λ _. Unit {0}) c.from_residual.result c.from_residual.ensures.1 (λ why gives.
    subst (IsRefused (those_that_hold (forget_tests_of_all events ids))) (sym gives)
    (first_tells events ids c.loop-id.id-index c.id-item.result _ c.loop-id-test.true c.id-item.is (c.loop-id.invariant.none early events store) (c.in_err-forget_one.ensures.decided clean events now)))

pub returns-in_err-forget_one-clause-looks : goal.returns-in_err-forget_one-clause-looks
returns-in_err-forget_one-clause-looks g c =
    looks_on g.S.Store c.args.tables.now c.loop-id.tables c.forget_one.new.tables c.loop-id.invariant.looks c.forget_one.ensures.looks

pub returns-in_err-forget_one-clause-cause : goal.returns-in_err-forget_one-clause-cause
returns-in_err-forget_one-clause-cause g c =
    err_later (state g.S.Store c.args.tables.now) (state g.S.Store c.loop-id.tables) (state g.S.Store c.forget_one.new.tables) _ _ c.loop-id.invariant.looks.crash c.forget_one.ensures.looks.crash _
    (cause_by (state g.S.Store c.loop-id.tables) (state g.S.Store c.forget_one.new.tables) _ c.from_residual.result c.from_residual.ensures.1 c.in_err-forget_one.ensures.cause)
