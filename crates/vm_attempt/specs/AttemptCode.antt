-- The code of an attempt, by which proofs tell attempts apart: it is made of the code of its handler.
use Rattle.std.specs.Prelude.{ℕ, refl}
use Rattle.std.specs.Borrow.{u8}
use Rattle.std.specs.Coded.{Coded, code_by, coded×}
use Rattle.vm_attempt.specs.contracts.attempt.Attempt.{the_row}
use Rattle.vm_attempt.specs.declared.attempt.Attempt.{Attempt}

-- an attempt with another handler
abbrev pub with_handler : {H K : Type 0} → K → Attempt H → Attempt K
with_handler handler a =
    record { alloc = a.alloc; handler = handler; vm = a.vm; input = a.input; answers = a.answers; over = a.over; front = a.front; behind = a.behind }

abbrev pub attempt_code : {H : Type 0} → Coded H → Coded (Attempt H)
attempt_code {H} handler =
    code_by (H × Attempt ℕ) (coded× handler (the_row u8).coded) (λ a. (a.handler, with_handler 0 a)) (λ p. with_handler p.0 p.1) (λ _. refl)
