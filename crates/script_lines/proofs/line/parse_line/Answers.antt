use Rattle.std.proofs.Common.{◌∙◌, sym, ap, map, List, ℕ, Bor}
use Rattle.script_lines.specs.LineReader.{line_of}
use Rattle.script_lines.proofs.LineLaws.{read_line, read_no_line}
use Rattle.script_lines.proofs.line.parse_line.Goals as goal

pub returns-in-Ok : goal.returns-in-Ok
returns-in-Ok c =
    read_line c.args.bytes.now c.in-Ok.line
    (ap line_of (sym c.in_ok-words.ensures ∙ ap (λ (ws : List (Bor (List ℕ))). map (λ w. w.now) ws) (sym c.deref.ensures.value)) ∙ c.in-Ok.ensures)

pub returns-in-Err-NotUnderstood : goal.returns-in-Err-NotUnderstood
returns-in-Err-NotUnderstood c =
    read_no_line c.args.bytes.now
    (ap line_of (sym c.in_ok-words.ensures ∙ ap (λ (ws : List (Bor (List ℕ))). map (λ w. w.now) ws) (sym c.deref.ensures.value)) ∙ (rw c.in-Err-NotUnderstood.field-0-is at c.in-Err-NotUnderstood.ensures))
