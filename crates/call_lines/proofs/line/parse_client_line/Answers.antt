use Rattle.std.proofs.Common.{◌∙◌, sym, ap, map, List, ℕ, Bor}
use Rattle.call_lines.specs.LineReader.{line_spelled}
use Rattle.call_lines.proofs.line.parse_client_line.Goals as goal

pub returns-in-Ok : goal.returns-in-Ok
returns-in-Ok c =
    sym (ap (line_spelled c.args.line.now) (sym c.in_ok-words.ensures ∙ ap (λ (ws : List (Bor (List ℕ))). map (λ w. w.now) ws) (sym c.deref.ensures.value)) ∙ c.in-Ok.ensures)

pub returns-in-Err-NotUnderstood : goal.returns-in-Err-NotUnderstood
returns-in-Err-NotUnderstood c =
    sym (ap (line_spelled c.args.line.now) (sym c.in_ok-words.ensures ∙ ap (λ (ws : List (Bor (List ℕ))). map (λ w. w.now) ws) (sym c.deref.ensures.value)) ∙ (rw c.in-Err-NotUnderstood.field-0-is at c.in-Err-NotUnderstood.ensures))
