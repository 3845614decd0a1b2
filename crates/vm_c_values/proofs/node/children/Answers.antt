use Rattle.std.proofs.Common.{◌≡◌, ap, [], ◌∷◌, ◌++◌, length, length-append, arith}
use Rattle.journal_model.specs.declared.future.UnresolvedFuture.{UnresolvedFuture}
use Rattle.vm_c_values.proofs.Stacking.{takes_one}
use Rattle.vm_c_values.proofs.node.children.Goals as goal

pub loop-taken-preserved : goal.loop-taken-preserved
loop-taken-preserved c =
    let pushed : c.push.new.self ≡ c.loop-taken.children ++ c.in-Some.child ∷ [] = c.in_ok-push.ensures.ok in
    let longer : length c.push.new.self ≡ length (c.loop-taken.children ++ c.in-Some.child ∷ []) = ap length pushed in (
      omega (arith, longer, length-append c.loop-taken.children (c.in-Some.child ∷ []), c.loop-taken.invariant.0),
      takes_one c.args.stack.now.items c.loop-taken.stack.items c.pop.new.self.items c.loop-taken.children c.push.new.self c.in-Some.child
          c.loop-taken.invariant.1 c.in-Some.ensures.items pushed,
      omega (arith, c.loop-taken.invariant.2, ap length c.in-Some.ensures.items, length-append c.pop.new.self.items (c.in-Some.child ∷ [])),
    )
