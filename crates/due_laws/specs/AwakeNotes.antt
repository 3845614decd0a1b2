-- What is noted of an invocation so that it is known, without its journal, whether it is due.
use Rattle.std.specs.Prelude.{ℕ, Bool, ◌&&◌, if◌then◌else◌, List, [], ◌∷◌, length, drop, Option, Some, None, bytes_eq}
use Rattle.journal_model.specs.Notification.{Text, Arrival}
use Rattle.journal_model.specs.Event.{Frame, Event}
use Rattle.journal_model.specs.Journal.{is_open, recorded_arrivals}
use Rattle.journal_model.specs.Attempt.{begins_attempt, input_pieces, bytes_handed, arrivals_within, suspension_of, is_woken}

-- ---- how many arrivals an attempt was handed whole

abbrev pub arrivals_heard : List Event → Text → ℕ
arrivals_heard events id = arrivals_within (input_pieces events id) (bytes_handed events id)

-- that number is kept with a suspension and with the end frame
abbrev pub heard_at : List Event → Text → Frame → Option ℕ
heard_at earlier id (Frame.Suspend suspension) = Some (arrivals_heard earlier id)
heard_at earlier id Frame.End = Some (arrivals_heard earlier id)
heard_at earlier id _ = None

abbrev pub heard_in : List Event → Text → Event → Option ℕ
heard_in earlier id (Event.Move other attempt frame) = if bytes_eq other id then heard_at earlier id frame else None
heard_in earlier id _ = None

abbrev pub or_kept : Option ℕ → Option ℕ → Option ℕ
or_kept None kept = kept
or_kept (Some number) kept = Some number

-- of the last attempt, if it was suspended or ended its invocation
abbrev pub heard_of : List Event → Text → Option ℕ
heard_of [] id = None
heard_of (event ∷ earlier) id = if begins_attempt id event then None else or_kept (heard_in earlier id event) (heard_of earlier id)

abbrev pub or_zero : Option ℕ → ℕ
or_zero None = 0
or_zero (Some n) = n

-- the arrivals that it was not handed
abbrev pub not_heard : List Event → Text → List Arrival
not_heard events id = drop (or_zero (heard_of events id)) (recorded_arrivals events id)

-- the flag: open, and not suspended since the last begin, or awake under the arrivals that the suspended attempt was not handed
abbrev pub is_awake_kept : List Event → Text → Bool
is_awake_kept events id = is_open events id && is_woken (not_heard events id) (suspension_of events id)

-- ---- what is noted

pub record Noted : Type 0 where
  pub heard : Option ℕ
  pub arrivals : ℕ
  pub is_awake : Bool

abbrev pub noted_of : List Event → Text → Noted
noted_of events id = record {
  heard = heard_of events id;
  arrivals = length (recorded_arrivals events id);
  is_awake = is_awake_kept events id;
}
