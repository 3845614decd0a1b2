-- What is kept of an invocation beside its journal, read off the accepted events.
use Rattle.std.specs.Prelude.{ℕ, true, ◌+◌, if◌then◌else◌, List, [], ◌∷◌, ◌++◌, length, filter_map, Option, Some, None, option_map}
use Rattle.journal_model.specs.Notification.{Bytes, Text}
use Rattle.journal_model.specs.declared.notification.NotificationId.{NotificationId}
use Rattle.journal_model.specs.declared.notification.NotificationId.TheVariants.{CompletionId, SignalId, SignalName}
use Rattle.journal_model.specs.Request.{Request}
use Rattle.journal_model.specs.declared.invocation.NewInvocation.{NewInvocation}
use Rattle.journal_model.specs.Event.{Behavior, Retry, Pause, Fail, Suspension, ForTree, ForAny, Frame, Event}
use Rattle.journal_model.specs.Spelling.{packed_numbers, repeated_bytes, suspension_payload, request_payload}
use Rattle.journal_model.specs.Journal.{Closing as Closed, ByEnd, ByFailure, invocation_begun, frames_of, is_open, entries_of, recorded_arrivals, recorded_requests, closing_of}
use Rattle.journal_model.specs.Attempt.{attempts_begun, suspension_of}
use Rattle.journal_model.specs.Start.{attempts_since_entry}
use Rattle.journal_model.specs.Cause.{last_completion}
use Rattle.store_tables.specs.declared.row.Closing.{Closing}
use Rattle.store_tables.specs.declared.row.LastError.{LastError}
use Rattle.store_tables.specs.declared.row.Progress.{Progress}
use Rattle.store_tables.specs.declared.row.Closing.TheVariants.{Ended, Failed}
use Rattle.due_laws.specs.AwakeNotes.{heard_of, is_awake_kept}
use Rattle.store_model.specs.Places.{handed_of}

abbrev pub first_item : {A : Type 0} → List A → Option A
first_item [] = None
first_item (x ∷ xs) = Some x

abbrev pub second_of : {A : Type 0} → List A → Option A
second_of [] = None
second_of (x ∷ xs) = first_item xs

abbrev pub or_last : {A : Type 0} → A → Option A → Option A
or_last x None = Some x
or_last x (Some later) = Some later

abbrev pub last_of : {A : Type 0} → List A → Option A
last_of [] = None
last_of (x ∷ xs) = or_last x (last_of xs)

abbrev pub number_or_zero : Option ℕ → ℕ
number_or_zero None = 0
number_or_zero (Some n) = n

-- the ids of a list by their kinds
abbrev pub completions_among : List NotificationId → List ℕ
completions_among [] = []
completions_among (CompletionId n ∷ ids) = n ∷ completions_among ids
completions_among (_ ∷ ids) = completions_among ids

abbrev pub signals_among : List NotificationId → List ℕ
signals_among [] = []
signals_among (SignalId n ∷ ids) = n ∷ signals_among ids
signals_among (_ ∷ ids) = signals_among ids

abbrev pub names_among : List NotificationId → List Text
names_among [] = []
names_among (SignalName name ∷ ids) = name ∷ names_among ids
names_among (_ ∷ ids) = names_among ids

-- the canonical payload of a suspension: one future, or before version 7 three lists
abbrev pub payload_of_suspension : Suspension → Bytes
payload_of_suspension (ForTree tree) = suspension_payload tree
payload_of_suspension (ForAny ids) =
    packed_numbers 1 (completions_among ids) ++ (packed_numbers 2 (signals_among ids) ++ repeated_bytes 3 (names_among ids))

-- the object of an invocation
abbrev pub object_of_invocation : List Event → Text → Option Text
object_of_invocation events id = option_map (λ (new : NewInvocation). new.object) (invocation_begun events id)

-- what is put out, by the payload of its request
abbrev pub output_payload : Request → Option Bytes
output_payload (Request.Output value name) = Some (request_payload (Request.Output value name))
output_payload _ = None

abbrev pub last_output : List Request → Option Bytes
last_output requests = last_of (filter_map output_payload requests)

abbrev pub way_closed : Closed → Closing
way_closed ByEnd = Ended
way_closed (ByFailure code message) = Failed

abbrev pub behavior_number : Behavior → ℕ
behavior_number Retry = 0
behavior_number Pause = 1
behavior_number Fail = 2

abbrev pub error_in : Frame → Option LastError
error_in (Frame.Error code message behavior delay) =
    Some (record { code = code; behavior = behavior_number behavior; delay = delay; message = message })
error_in _ = None

abbrev pub last_error_of : List Event → Text → Option LastError
last_error_of events id = first_item (filter_map error_in (frames_of events id))

-- of an invocation of an object that was just begun: it is open, and its input is the one entry
abbrev pub begun_progress : Text → Progress
begun_progress object = record {
  open_object = Some object;
  suspension = None;
  handed = None;
  closing = None;
  answer = None;
  last_error = None;
  attempts = 0;
  attempts_since_entry = 0;
  first_moment = 0;
  last_completion = 0;
  entries = 1;
  heard = None;
  arrivals = 0;
  is_awake = true;
}

abbrev pub progress_of : List Event → Text → Progress
progress_of events id = record {
  open_object = if is_open events id then object_of_invocation events id else None;
  suspension = option_map payload_of_suspension (suspension_of events id);
  handed = handed_of events id;
  closing = option_map way_closed (closing_of events id);
  answer = last_output (recorded_requests events id);
  last_error = last_error_of events id;
  attempts = attempts_begun events id;
  attempts_since_entry = length (attempts_since_entry events id);
  first_moment = number_or_zero (first_item (attempts_since_entry events id));
  last_completion = last_completion (recorded_requests events id);
  entries = 1 + length (entries_of events id);
  heard = heard_of events id;
  arrivals = length (recorded_arrivals events id);
  is_awake = is_awake_kept events id;
}
