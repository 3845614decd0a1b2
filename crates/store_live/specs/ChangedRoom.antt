-- Live attempts of which nothing but the room in their inputs has changed.
use Rattle.std.specs.Prelude.{◌≡◌, ℕ, List, Option, Some, None}
use Rattle.store_live.specs.declared.attempt.LiveAttempt.{LiveAttempt}
use Rattle.store_live.specs.Attempts.{ByInvocation, attempt_of}

-- a live attempt is as before, but for room that was made for its input
abbrev pub IsAsBefore : Option LiveAttempt → Option LiveAttempt → Type 0
IsAsBefore None None = Unit {0}
IsAsBefore (Some one) (Some other) = other ≡ record one { input = record (one.input) { room = other.input.room } }
IsAsBefore _ _ = ⊥

abbrev pub AreAsBefore : ByInvocation → ByInvocation → Type 0
AreAsBefore old new = (id : List ℕ) → IsAsBefore (attempt_of old id) (attempt_of new id)
