-- The words that are left spell the ids that are missing.
use Rattle.std.proofs.Common.{◌≡◌, drop, map}
use Rattle.server_lines.specs.RequestReader.{ids_of}
use Rattle.server_lines.proofs.Ids.{behind}
use Rattle.server_lines.proofs.request.parse_ids.Given as goal

abbrev pub invariant-loop-word : goal.invariant-loop-word
invariant-loop-word l = behind l.ids (ids_of (map (λ word. word.now) (drop l.word-index l.words))) ≡ ids_of (map (λ word. word.now) l.words)
