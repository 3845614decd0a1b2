use Rattle.std.proofs.Common.{◌∙◌, sym, ap, map, List, ℕ, Bor}
use Rattle.server_lines.specs.RequestReader.{request_spelled}
use Rattle.server_lines.proofs.request.parse_request.Goals as goal

pub returns-in-Ok : goal.returns-in-Ok
returns-in-Ok c =
    sym (ap request_spelled (sym c.in_ok-words.ensures ∙ ap (λ (ws : List (Bor (List ℕ))). map (λ w. w.now) ws) (sym c.deref.ensures.value)) ∙ c.in-Ok.ensures)

pub returns-in-Err-NotUnderstood : goal.returns-in-Err-NotUnderstood
returns-in-Err-NotUnderstood c =
    sym (ap request_spelled (sym c.in_ok-words.ensures ∙ ap (λ (ws : List (Bor (List ℕ))). map (λ w. w.now) ws) (sym c.deref.ensures.value)) ∙ (rw c.in-Err-NotUnderstood.field-0-is at c.in-Err-NotUnderstood.ensures))
