use Rattle.std.proofs.Common.{◌≡◌, ap, [], ◌∷◌, ◌++◌, length, length-append, arith, rules}
use Rattle.call_lines.proofs.Stacking.{takes_one, too_few}
use Rattle.call_lines.proofs.tree.children.Goals as goal

pub loop-taken-preserved : goal.loop-taken-preserved
loop-taken-preserved c =
    let pushed : c.push.new.self ≡ c.loop-taken.children ++ c.in-Some.child ∷ [] = c.in_ok-push.ensures.ok in
    let longer : length c.push.new.self ≡ length (c.loop-taken.children ++ c.in-Some.child ∷ []) = ap length pushed in (
      omega (arith, longer, length-append c.loop-taken.children (c.in-Some.child ∷ []), c.loop-taken.invariant.0),
      takes_one c.args.stack.now.items c.loop-taken.stack.items c.pop.new.self.items c.loop-taken.children c.push.new.self c.in-Some.child
          c.loop-taken.invariant.1 c.in-Some.ensures.items pushed,
    )

pub returns-in_default : goal.returns-in_default
returns-in_default c =
    let none : c.loop-taken.stack.items ≡ [] = search rules in
    too_few c.args.stack.now.items c.loop-taken.stack.items c.loop-taken.children c.loop-taken._taken c.args.count c.loop-taken.invariant.1 none c.loop-taken.invariant.0 c.loop-taken-test.true
