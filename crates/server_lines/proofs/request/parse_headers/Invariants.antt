use Rattle.std.proofs.Common.{◌≡◌, length, map}
use Rattle.server_lines.specs.RequestReader.{headers_of}
use Rattle.server_lines.proofs.Headers.{behind}
use Rattle.server_lines.proofs.request.parse_headers.Given as goal

abbrev pub invariant-loop-left : goal.invariant-loop-left
invariant-loop-left l = behind l.headers (headers_of (map (λ word. word.now) l.left)) ≡ headers_of (map (λ word. word.now) l.words)

abbrev pub decreases-loop-left : goal.decreases-loop-left
decreases-loop-left l = length l.left
