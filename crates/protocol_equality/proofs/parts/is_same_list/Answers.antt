use Rattle.std.proofs.Common.{ℕ, ◌+◌, ◌&&◌, drop, sym, ap, ◌∙◌, arith}
use Rattle.std.specs.Cmp.Lexicographic.{pointwise}
use Rattle.protocol_equality.proofs.Lists.{begun, ended}
use Rattle.protocol_equality.proofs.parts.is_same_list.Goals as goal

pub returns-then-not-is_same : goal.returns-then-not-is_same
returns-then-not-is_same g c =
    let xs = c.args.one.now in
    let ys = c.args.two.now in
    let i : ℕ = c.loop-at.at in
    let E = g.T.Same.same in
    let inv = c.loop-at.invariant in
    let m = inv.0 in
    let turn = begun E xs ys i c.index-one-at.result c.index-two-at.result (omega arith) (omega arith) c.index-one-at.is c.index-two-at.is in
    ap (λ b. b && pointwise E (drop (i + 1) xs) (drop (i + 1) ys)) c.if-not-is_same.ensures ∙ sym turn ∙ inv.2

pub loop-at-preserved : goal.loop-at-preserved
loop-at-preserved g c =
    let xs = c.args.one.now in
    let ys = c.args.two.now in
    let i : ℕ = c.loop-at.at in
    let E = g.T.Same.same in
    let inv = c.loop-at.invariant in
    let m = inv.0 in
    let turn = begun E xs ys i c.index-one-at.result c.index-two-at.result (omega arith) (omega arith) c.index-one-at.is c.index-two-at.is in
    (m, omega arith, ap (λ b. b && pointwise E (drop (i + 1) xs) (drop (i + 1) ys)) c.if-not-is_same.ensures ∙ sym turn ∙ inv.2)

pub returns : goal.returns
returns g c =
    let xs = c.args.one.now in
    let ys = c.args.two.now in
    let inv = c.loop-at.invariant in
    let m = inv.0 in
    ended g.T.Same.same xs ys c.loop-at.at (omega arith) (omega arith) ∙ inv.2
