-- The code of an attempt that is held, by which proofs tell lists of such apart: it is made of the code of the handler.
use Rattle.std.specs.Prelude.{ℕ, List, refl}
use Rattle.std.specs.Coded.{Coded, code_by, coded×, coded_ℕ, coded_list}
use Rattle.vm_attempt.specs.AttemptCode.{attempt_code}
use Rattle.vm_attempt.specs.declared.attempt.Attempt.{Attempt}
use Rattle.schedule_model.specs.declared.held.HeldAttempt.{HeldAttempt}

abbrev pub held_code : {H : Type 0} → Coded H → Coded (HeldAttempt H)
held_code {H} handler =
    code_by (List ℕ × (ℕ × Attempt H)) (coded× (coded_list coded_ℕ) (coded× coded_ℕ (attempt_code handler))) (λ h. (h.invocation, (h.number, h.attempt)))
    (λ p. record { invocation = p.0; number = p.1.0; attempt = p.1.1 }) (λ _. refl)
