-- How far an invocation is after an event, from how far it was before.
use Rattle.std.specs.Prelude.{◌≡◌, ℕ, ◌+◌, max, ◌==◌, true, if◌then◌else◌, List, ◌∷◌, length, Option, Some, None}
use Rattle.journal_model.specs.Notification.{Bytes, Text}
use Rattle.journal_model.specs.Request.{Request, completions_asked}
use Rattle.journal_model.specs.Event.{Suspension, Frame, Event}
use Rattle.journal_model.specs.Journal.{invocation_of, invoked_by, version_of, closes, entries_of, slept}
use Rattle.journal_model.specs.Cause.{greatest}
use Rattle.store_tables.specs.declared.row.Progress.{Progress}
use Rattle.store_tables.specs.declared.row.Closing.TheVariants.{Ended, Failed}
use Rattle.due_laws.specs.AwakeNotes.{Noted, noted_of}
use Rattle.store_model.specs.Places.{handed_place}
use Rattle.store_model.specs.Progress.{payload_of_suspension, output_payload, behavior_number, progress_of}
use Rattle.store_model.specs.Writes.{ends_sleep}

-- with what is noted of how much was handed, and of whether it is awake
abbrev pub noted_into : Noted → Progress → Progress
noted_into noted p = record p { heard = noted.heard; is_awake = noted.is_awake }

-- so many entries were added, and so many of them are arrivals
abbrev pub grown : ℕ → ℕ → Progress → Progress
grown n arrived p = record p { entries = p.entries + n; attempts_since_entry = 0; first_moment = 0; arrivals = p.arrivals + arrived }

-- how many answers the store adds to a request at once
abbrev pub answers_at_once : Request → ℕ
answers_at_once (Request.GetLazyState key n name) = 1
answers_at_once (Request.GetLazyStateKeys n name) = 1
answers_at_once _ = 0

abbrev pub payload_or : Option Bytes → Option Bytes → Option Bytes
payload_or None before = before
payload_or (Some payload) before = Some payload

abbrev pub after_command : Request → Progress → Progress
after_command request p = record (grown (1 + answers_at_once request) (answers_at_once request) p) {
  last_completion = max p.last_completion (greatest (completions_asked request));
  answer = payload_or (output_payload request) p.answer;
}

abbrev pub after_begin : ℕ → Progress → Progress
after_begin now p = record p {
  attempts = 1 + p.attempts;
  attempts_since_entry = p.attempts_since_entry + 1;
  first_moment = if p.attempts_since_entry == 0 then now else p.first_moment;
  suspension = None;
  handed = None;
}

abbrev pub suspended_or : Option Suspension → Option Bytes → Option Bytes
suspended_or None before = before
suspended_or (Some suspension) before = Some (payload_of_suspension suspension)

-- after a frame of an invocation that speaks this version, whose attempt was handed what stands before the place
abbrev pub progress_after_frame : ℕ → ℕ → Frame → Progress → Progress
progress_after_frame version place (Frame.Command request) p = after_command request p
progress_after_frame version place (Frame.RunOutcome n value is_acknowledged) p = grown 1 1 p
progress_after_frame version place (Frame.Suspend suspension) p = record p {
  suspension = suspended_or suspension p.suspension;
  handed = Some place;
}
progress_after_frame version place (Frame.Error code message behavior delay) p = record p {
  last_error = Some (record { code = code; behavior = behavior_number behavior; delay = delay; message = message });
  open_object = if closes version (Frame.Error code message behavior delay) then None else p.open_object;
  closing = if closes version (Frame.Error code message behavior delay) then Some Failed else p.closing;
}
progress_after_frame version place Frame.End p = record p { open_object = None; closing = Some Ended; handed = Some place }
progress_after_frame version place _ p = p

-- after an event of the invocation, with what is noted then
abbrev pub after_event : List Event → Event → Progress → Progress
after_event events (Event.Result id n result) p = grown 1 1 p
after_event events (Event.Signal id key result) p = grown 1 1 p
after_event events (Event.Cancel id) p = grown 1 1 p
after_event events (Event.Begin id now) p = after_begin now p
after_event events (Event.Move id attempt frame) p = progress_after_frame (version_of events id) (handed_place events id) frame p
after_event events _ p = p

abbrev pub ProgressFollows : Type 0
ProgressFollows = (events : List Event) (event : Event) (id : Text) → invocation_of event ≡ Some id → invoked_by event ≡ None
    → progress_of (event ∷ events) id ≡ after_event events event (noted_into (noted_of (event ∷ events) id) (progress_of events id))

-- and after a tick that ends sleeps of it
abbrev pub ProgressTicks : Type 0
ProgressTicks = (events : List Event) (now : ℕ) (id : Text) → ends_sleep events now id ≡ true
    → progress_of (Event.Tick now ∷ events) id ≡ grown (length (slept (entries_of events id) now)) (length (slept (entries_of events id) now)) (noted_into (noted_of (Event.Tick now ∷ events) id) (progress_of events id))
