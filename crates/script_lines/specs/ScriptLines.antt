-- What is left of a script.
use Rattle.std.specs.Prelude.{ℕ, ◌+◌, List}
use Rattle.script_lines.specs.declared.script.NumberedLine.{NumberedLine}
use Rattle.script_lines.specs.declared.script.ScriptLines.{ScriptLines}
use Rattle.script_lines.specs.Script.{numbered_from, lines_of_rest}

-- the lines that are still to come
abbrev pub lines_left : ScriptLines → List (ℕ × List ℕ)
lines_left lines = numbered_from (lines.passed + 1) (lines_of_rest lines.rest)

-- a line and its number
abbrev pub line_numbered : NumberedLine → ℕ × List ℕ
line_numbered line = (line.number, line.bytes.now)
