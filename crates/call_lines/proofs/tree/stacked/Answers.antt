use Rattle.std.proofs.Common.{◌-◌, ◌∙◌, sym, arith, take, get_or}
use Rattle.std.proofs.lemmas.Result.{err_from_is_err_and}
use Rattle.call_lines.proofs.Stacking.{all_stacked, last_of, no_node, not_rooted, reads_one}
use Rattle.call_lines.proofs.tree.stacked.Goals as goal

pub returns-in_default : goal.returns-in_default
returns-in_default c =
    let words = c.args.words.now in
    let left = c.loop-left.left in
    no_node words (take left words) (take (left - 1) words) (get_or words (left - 1) _) c.loop-left.stack.items c.loop-left.invariant.1 (last_of words left _ c.loop-left-test.true c.loop-left.invariant.0) (sym c.parse_node.ensures ∙ c.in_default.is)

pub returns-in_err-tree : goal.returns-in_err-tree
returns-in_err-tree c =
    let words = c.args.words.now in
    let left = c.loop-left.left in
    let p = err_from_is_err_and c.from_residual.result c.from_residual.ensures.1 in
    rw (p.1, p.2)
    (not_rooted words (take left words) (take (left - 1) words) (get_or words (left - 1) _) c.loop-left.stack.items c.in-Some.node c.rooted.new.stack.items c.in_err-tree.field-0.0 c.loop-left.invariant.1 (last_of words left _ c.loop-left-test.true c.loop-left.invariant.0) (sym c.parse_node.ensures ∙ c.in-Some.is)
    c.in_err-tree.ensures)

pub loop-left-preserved : goal.loop-left-preserved
loop-left-preserved c =
    let words = c.args.words.now in
    let left = c.loop-left.left in (
      omega (arith, c.loop-left.invariant.0),
      reads_one words (take left words) (take (left - 1) words) (get_or words (left - 1) _) c.loop-left.stack.items c.in-Some.node c.rooted.new.stack.items c.put.new.stack.items c.in_ok-tree.tree c.loop-left.invariant.1 (last_of words left _ c.loop-left-test.true c.loop-left.invariant.0)
          (sym c.parse_node.ensures ∙ c.in-Some.is) c.in_ok-tree.ensures c.in_ok-put.ensures,
    )

pub returns : goal.returns
returns c = all_stacked c.args.words.now c.loop-left.left _ (omega (arith, c.loop-left-test.false)) c.loop-left.invariant.1
