use Rattle.std.proofs.Common.{◌≡◌, length, map}
use Rattle.call_lines.specs.WordReader.{pairs_of}
use Rattle.call_lines.proofs.Pairs.{behind}
use Rattle.call_lines.proofs.word.parse_pairs.Given as goal

abbrev pub invariant-loop-left : goal.invariant-loop-left
invariant-loop-left l = behind l.pairs (pairs_of (map (λ word. word.now) l.left)) ≡ pairs_of (map (λ word. word.now) l.words)

abbrev pub decreases-loop-left : goal.decreases-loop-left
decreases-loop-left l = length l.left
