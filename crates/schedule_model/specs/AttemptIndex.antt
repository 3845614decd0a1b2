-- The places of attempts are those of a list.
use Rattle.std.specs.Prelude.{◌≡◌, ℕ, List}
use Rattle.std.specs.List.{position}
use Rattle.schedule_model.specs.declared.held.HeldAttempt.{HeldAttempt}
use Rattle.schedule_model.specs.HeldAttempts.{is_held}
use Rattle.schedule_model.specs.declared.places.AttemptPlaces.{AttemptPlaces}
use Rattle.schedule_model.specs.Places.{place_in}

abbrev pub IsIndexed : {H : Type 0} → AttemptPlaces → List (HeldAttempt H) → Type 0
IsIndexed places attempts = (id : List ℕ) (n : ℕ) → place_in places id n ≡ position (is_held id n) attempts
