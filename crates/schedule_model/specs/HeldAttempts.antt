-- The attempts that are held: which one is meant, and one that has changed in its place.
use Rattle.std.specs.Prelude.{ℕ, ◌==◌, ◌&&◌, Bool, bytes_eq, List, Option}
use Rattle.std.specs.List.{find}
use Rattle.journal_model.specs.Notification.{Text}
use Rattle.vm_attempt.specs.declared.attempt.Attempt.{Attempt}
use Rattle.schedule_model.specs.declared.held.HeldAttempt.{HeldAttempt}
use Rattle.schedule_model.specs.First.{with_first}

module _ {H : Type 0} where
  -- whether it is this attempt
  abbrev pub is_held : Text → ℕ → HeldAttempt H → Bool
  is_held id number held = bytes_eq held.invocation id && (held.number == number)

  -- the first one that is
  abbrev pub held_of : List (HeldAttempt H) → Text → ℕ → Option (HeldAttempt H)
  held_of held id number = find (is_held id number) held

  -- one that is held, changed
  abbrev pub with_attempt : List (HeldAttempt H) → HeldAttempt H → Attempt H → List (HeldAttempt H)
  with_attempt held one attempt = with_first (is_held one.invocation one.number) held (record one { attempt = attempt })
