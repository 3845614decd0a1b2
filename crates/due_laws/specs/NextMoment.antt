-- When the next sleep ends.
use Rattle.std.specs.Prelude.{◌≡◌, ℕ, ◌<◌, Bool, true, false, not, ◌&&◌, List, Option, Some, None}
use Rattle.journal_model.specs.Notification.{Text}
use Rattle.journal_model.specs.Event.{Event}
use Rattle.journal_model.specs.Journal.{is_open, entries_of, slept}
use Rattle.journal_model.specs.Cause.{is_empty}

-- whether a moment ends a sleep of an open invocation
abbrev pub ends_sleep : List Event → ℕ → Text → Bool
ends_sleep events now id = is_open events id && not (is_empty (slept (entries_of events id) now))

-- the first moment that ends a sleep, if there is one: before it no tick brings anything
abbrev pub IsNextMoment : List Event → Option ℕ → Type 0
IsNextMoment events None = (now : ℕ) (id : Text) → ends_sleep events now id ≡ false
IsNextMoment events (Some moment) =
    ((id : Text) × (ends_sleep events moment id ≡ true)) × ((now : ℕ) (id : Text) → now < moment → ends_sleep events now id ≡ false)
