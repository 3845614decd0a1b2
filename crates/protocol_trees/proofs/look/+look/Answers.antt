use Rattle.std.proofs.Common.{◌≡◌, sym, subst, map, take, arith, rules}
use Rattle.std.proofs.lemmas.List.{take_all}
use Rattle.protocol_trees.specs.Shape.{IsShaped}
use Rattle.protocol_trees.specs.declared.tree.AwaitTreeShape.{AwaitTreeShape}
use Rattle.protocol_trees.proofs.Forests.{child_smaller, leaf_tallied, child_tallied, looked_whole}
use Rattle.protocol_trees.proofs.look.+look.Goals as goal

pub loop-index-preserved : goal.loop-index-preserved
loop-index-preserved g t c = λ states are.
    leaf_tallied states c.shape-shape.result c.loop-index.tally c.with-tally.result (g.T.AwaitTree.leaves_of c.args.tree) c.loop-index.index (g.T.AwaitTree.meant c.leaf.result) c.leaves-state.result c.leaf.ensures
    (are c.leaf.result c.leaves-state.result c.leaves-state.ensures) c.with-tally.ensures (c.loop-index.invariant states are)

pub look-requires : goal.look-requires
look-requires g t c κs within =
    let smaller = child_smaller (g.T.AwaitTree.shape_of c.args.tree) (g.T.AwaitTree.leaves_of c.args.tree) (g.T.AwaitTree.children_of c.args.tree) (g.T.AwaitTree.tree c.args.tree) c.loop-place.place (g.T.AwaitTree.tree c.child.result) (g.T.AwaitTree.is_shaped c.args.tree) c.child.ensures in
    (omega (arith, smaller, c.decreases), search (rules, within, c.requires))

pub loop-place-preserved : goal.loop-place-preserved
loop-place-preserved g t c = λ states are.
    child_tallied states c.shape-shape.result c.loop-place.tally c.with-tally-in-loop-place.result (map states (g.T.AwaitTree.leaves_of c.args.tree)) (g.T.AwaitTree.children_of c.args.tree) c.loop-place.place (g.T.AwaitTree.tree c.child.result) c.look.result c.child.ensures
    (c.look.ensures states are) c.with-tally-in-loop-place.ensures (c.loop-place.invariant states are)

pub returns : goal.returns
returns g t c = λ states are.
    let children : take c.loop-place.place (g.T.AwaitTree.children_of c.args.tree) ≡ g.T.AwaitTree.children_of c.args.tree =
    take_all c.loop-place.place (g.T.AwaitTree.children_of c.args.tree) (omega (arith, c.loop-place-test.false, c.child_count-place-end.ensures)) in
    let whole = looked_whole states c.shape-shape.result (g.T.AwaitTree.leaves_of c.args.tree) (g.T.AwaitTree.children_of c.args.tree) (g.T.AwaitTree.tree c.args.tree) c.loop-place.tally
    (subst (λ (shape : AwaitTreeShape). IsShaped shape (g.T.AwaitTree.leaves_of c.args.tree) (g.T.AwaitTree.children_of c.args.tree) (g.T.AwaitTree.tree c.args.tree)) (sym c.shape-shape.ensures) (g.T.AwaitTree.is_shaped c.args.tree))
    (rw children at (c.loop-place.invariant states are)) in
    rw c.looked.ensures whole
