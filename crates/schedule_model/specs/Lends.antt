-- What is held once a `&mut` to an attempt has ended.
use Rattle.std.specs.Prelude.{ℕ, List, Option}
use Rattle.std.specs.Borrow.{Fml, RattleType, MutBor, LendsIf}
use Rattle.vm_attempt.specs.declared.attempt.Attempt.{Attempt}
use Rattle.schedule_model.specs.declared.held.HeldAttempt.{HeldAttempt}
use Rattle.schedule_model.specs.HeldAttempts.{with_attempt}
use Rattle.schedule_model.specs.contracts.attempts.HeldAttempts.{the_row}
use Rattle.schedule_model.specs.contracts.kept.KeptAttempt.{the_row as attempt_row}

-- an attempt, held under its invocation and number
abbrev pub held_as : {H : Type 0} → List ℕ → ℕ → Attempt H → HeldAttempt H
held_as id number attempt = record { invocation = id; number = number; attempt = attempt }

module _ (H : RattleType) (held : MutBor (List (HeldAttempt H.Denot))) (id : List ℕ) (number : ℕ) where
  -- the first one of this invocation and number is the last that was written through r, and at `None` all stays
  abbrev pub lends_attempt : Option (MutBor (Attempt H.Denot)) → Fml
  lends_attempt r = LendsIf (the_row H) (attempt_row H) held r (λ w. with_attempt held.now (held_as id number w) w) held.now
