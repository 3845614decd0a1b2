-- A request as one that asks for a completion, and what it may be given from outside: by the line of its command, and by whether the
-- completion is its second.
use Rattle.std.specs.Prelude.{Result, Ok, Err, ℕ, Bool, true, false, not, if◌then◌else◌, List, [], ◌∷◌, Option, Some, None, is_some, option_and_then}
use Rattle.journal_model.specs.Spelling.{request_type}
use Rattle.journal_model.specs.Notification.{Text}
use Rattle.journal_model.specs.declared.notification.NotificationResult.{NotificationResult}
use Rattle.journal_model.specs.Request.{Request, completions_asked}
use Rattle.journal_model.specs.Event.{Event}
use Rattle.journal_model.specs.Journal.{entries_of, open_request}
use Rattle.journal_model.specs.Cause.{Tests, refuses_kind}
use Rattle.journal_model.specs.declared.cause.Cause.{Cause}
use Rattle.protocol_types.specs.declared.message_type.MessageType.{MessageType}
use Rattle.protocol_types.specs.declared.message_type.MessageType.TheVariants as types
use Rattle.protocol_stream.specs.declared.command_facts.Completion.{Completion}
use Rattle.protocol_stream.specs.CommandFacts.{accepts, completion_at, facts_of}
use Rattle.store_tables.specs.Questions.{is_number}
use Rattle.store_model.specs.Progress.{first_item, second_of}
use Rattle.store_refusals.specs.declared.refusal.Refusal.{Refusal}
use Rattle.store_refusals.specs.declared.refusal.Refusal.TheVariants as refusal
use Rattle.store_arrivals.specs.declared.asking.AskedCompletion.{AskedCompletion}

-- whether a completion is the first, and the second, that a request asks for
abbrev pub is_first : ℕ → Request → Bool
is_first n request = is_number n (first_item (completions_asked request))

abbrev pub is_second : ℕ → Request → Bool
is_second n request = is_number n (second_of (completions_asked request))

abbrev pub first_type : ℕ → Request → Option MessageType
first_type n request = if is_first n request then Some (request_type request) else None

abbrev pub second_type : ℕ → Request → Option MessageType
second_type n request = if is_second n request then Some (request_type request) else None

abbrev pub completion_asked_by : ℕ → Request → AskedCompletion
completion_asked_by n request = record { ty = request_type request; is_second = not (is_first n request) }

abbrev pub as_second : MessageType → AskedCompletion
as_second ty = record { ty = ty; is_second = true }

-- whether a request of this type is a run
abbrev pub is_run_command : MessageType → Bool
is_run_command types.RunCommand = true
is_run_command _ = false

-- the completion, by the line of the request's command
abbrev pub completion_for : AskedCompletion → Option Completion
completion_for asked = option_and_then (λ facts. completion_at asked.is_second facts.completions) (facts_of asked.ty)

-- the type of the notification by which a completion is given this from outside, where it may be
abbrev pub type_for : Option Completion → NotificationResult → Result MessageType Refusal
type_for None brought = Err (refusal.Cause Cause.WrongKind)
type_for (Some one) brought = if accepts one.completed_by brought then Ok one.notification else Err (refusal.Cause Cause.WrongKind)

-- the tests of a result, whether a request waits for it and may be given it
abbrev pub completion_tests : List Event → Text → ℕ → NotificationResult → Tests
completion_tests events id n brought =
    (not (is_some (open_request (entries_of events id) n)), Cause.CompletionNotOpen)
    ∷ (refuses_kind (open_request (entries_of events id) n) n brought, Cause.WrongKind) ∷ []
