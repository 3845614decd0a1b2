use Rattle.std.proofs.Common.{◌≡◌, ◌∙◌, true, false, sym, arith}
use Rattle.store_tables.specs.Records.{StateRow}
use Rattle.store_tables.specs.Questions.{is_before}
use Rattle.store_tables.proofs.Orders.{all_ascend, ascends_at, ascends_on}
use Rattle.store_tables.proofs.order.do_states_ascend.Goals as goal

pub returns-clause-exact : goal.returns-clause-exact
returns-clause-exact c is = all_ascend (λ x. x.key) c.args.states.now c.loop-at.at (omega (arith, c.loop-at-test.false)) c.loop-at.invariant.1

pub returns-then-not-is_first-clause-complete : goal.returns-then-not-is_first-clause-complete
returns-then-not-is_first-clause-complete c up =
    let x = c.index-states-at.result in
    let y = c.index-states-at-in-loop-at.result in
    let yes : is_before x.key y.key ≡ true =
    ascends_at (λ (row : StateRow). row.key) c.args.states.now c.loop-at.at x y up c.loop-at.invariant.0 (omega (arith, c.loop-at-test.true)) c.index-states-at.is c.index-states-at-in-loop-at.is in
    let no : is_before x.key y.key ≡ false = rw (c.as_slice.ensures, c.as_slice-in-loop-at.ensures, ← c.index-states-at.is, ← c.index-states-at-in-loop-at.is) at (sym c.is_first.ensures ∙ c.if-not-is_first.true) in
    let both : true ≡ false = sym yes ∙ no in
    absurd cc

pub loop-at-preserved : goal.loop-at-preserved
loop-at-preserved c =
    let x = c.index-states-at.result in
    let y = c.index-states-at-in-loop-at.result in
    let before : is_before x.key y.key ≡ true = rw (c.as_slice.ensures, c.as_slice-in-loop-at.ensures, ← c.index-states-at.is, ← c.index-states-at-in-loop-at.is) at (sym c.is_first.ensures ∙ c.if-not-is_first.false) in (
      omega arith,
      ascends_on (λ (row : StateRow). row.key) c.args.states.now c.loop-at.at x y c.loop-at.invariant.0 (omega (arith, c.loop-at-test.true)) c.index-states-at.is c.index-states-at-in-loop-at.is before c.loop-at.invariant.1,
    )
