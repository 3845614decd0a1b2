use Rattle.std.proofs.Common.{◌≡◌, ◌∙◌, true, false, sym, arith}
use Rattle.store_tables.specs.Records.{IdRow}
use Rattle.store_tables.specs.Questions.{is_before}
use Rattle.store_tables.proofs.Orders.{all_ascend, ascends_at, ascends_on}
use Rattle.store_tables.proofs.order.do_ids_ascend.Goals as goal

pub returns-clause-exact : goal.returns-clause-exact
returns-clause-exact c is = all_ascend (λ x. x.id) c.args.ids.now c.loop-at.at (omega (arith, c.loop-at-test.false)) c.loop-at.invariant.1

pub returns-then-not-is_named_first-clause-complete : goal.returns-then-not-is_named_first-clause-complete
returns-then-not-is_named_first-clause-complete c up =
    let x = c.index-ids-at.result in
    let y = c.index-ids-at-in-loop-at.result in
    let yes : is_before x.id y.id ≡ true =
    ascends_at (λ (row : IdRow). row.id) c.args.ids.now c.loop-at.at x y up c.loop-at.invariant.0 (omega (arith, c.loop-at-test.true)) c.index-ids-at.is c.index-ids-at-in-loop-at.is in
    let no : is_before x.id y.id ≡ false = sym c.is_named_first.ensures ∙ c.if-not-is_named_first.true in
    let both : true ≡ false = sym yes ∙ no in
    absurd cc

pub loop-at-preserved : goal.loop-at-preserved
loop-at-preserved c =
    let x = c.index-ids-at.result in
    let y = c.index-ids-at-in-loop-at.result in
    let before : is_before x.id y.id ≡ true = sym c.is_named_first.ensures ∙ c.if-not-is_named_first.false in (
      omega arith,
      ascends_on (λ (row : IdRow). row.id) c.args.ids.now c.loop-at.at x y c.loop-at.invariant.0 (omega (arith, c.loop-at-test.true)) c.index-ids-at.is c.index-ids-at-in-loop-at.is before c.loop-at.invariant.1,
    )
