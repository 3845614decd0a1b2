use Rattle.std.proofs.Common.{◌≡◌, ◌≤◌, length, drop}
use Rattle.std.specs.Cmp.Lexicographic.{pointwise}
use Rattle.protocol_equality.proofs.parts.is_same_list.Given as goal

-- what is answered of the parts from here on is answered of the lists
abbrev pub invariant-loop-at : goal.invariant-loop-at
invariant-loop-at g l = (length l.one ≡ length l.two) × (l.at ≤ length l.one) × (pointwise g.T.Same.same (drop l.at l.one) (drop l.at l.two) ≡ pointwise g.T.Same.same l.one l.two)
