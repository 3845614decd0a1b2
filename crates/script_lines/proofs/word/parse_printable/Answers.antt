use Rattle.std.proofs.Common.{◌∙◌, sym}
use Rattle.std.proofs.lemmas.Str.{IsUtf8-from_ascii}
use Rattle.script_lines.proofs.WordLaws.{printable-IsAscii}
use Rattle.script_lines.proofs.word.parse_printable.Goals as goal

pub from_known_utf8-requires : goal.from_known_utf8-requires
from_known_utf8-requires c = rw c.in_ok-bytes.ensures (IsUtf8-from_ascii c.args.bytes.now (printable-IsAscii c.args.bytes.now (sym c.is_printable.ensures ∙ c.if-not-is_printable.false)))
