-- Which of the attempts that are held are let go of, and what is left.
use Rattle.std.specs.Prelude.{◌≡◌, ℕ, ◌==◌, ◌&&◌, Bool, true, not, filter, if◌then◌else◌, List, Option, Some, None}
use Rattle.journal_model.specs.Notification.{Text}
pub use Rattle.journal_laws.specs.Forgetting.{is_among}
use Rattle.schedule_model.specs.declared.held.HeldAttempt.{HeldAttempt}
use Rattle.schedule_model.specs.declared.leaving.PlacesLeft.{PlacesLeft}
use Rattle.schedule_model.specs.AttemptIndex.{IsIndexed}
use Rattle.schedule_model.specs.HeldAttempts.{held_of}

-- whether it is this number, where one is told
abbrev pub is_numbered : Option ℕ → ℕ → Bool
is_numbered None n = true
is_numbered (Some number) n = n == number

-- whether an attempt is one of these invocations', and has this number, where one is told
abbrev pub goes : List Text → Option ℕ → Text → ℕ → Bool
goes ids number id n = is_among ids id && is_numbered number n

module _ {H : Type 0} where
  -- those that are left
  abbrev pub left_of : List Text → Option ℕ → List (HeldAttempt H) → List (HeldAttempt H)
  left_of ids number held = filter (λ one. not (goes ids number one.invocation one.number)) held

  -- attempts stand at these places
  abbrev pub HasPlaces : PlacesLeft → List (HeldAttempt H) → Type 0
  HasPlaces room held = IsIndexed room.places held

-- None of those that are let go of is held any more, and each other is held as before.
abbrev pub AreLetGo : Type 0 → Type 0
AreLetGo H = (ids : List Text) (number : Option ℕ) (held : List (HeldAttempt H)) (id : Text) (n : ℕ) → held_of (left_of ids number held) id n ≡ (if goes ids number id n then None else held_of held id n)
