-- What each command asks for, what completes it, and what is kept of it: one line a command.
use Rattle.std.specs.Prelude.{◌≡◌, ◌≢◌, ℕ, ◌||◌, Bool, true, false, List, [], ◌∷◌, Option, Some, None, is_some}
use Rattle.journal_model.specs.declared.notification.NotificationResult.{NotificationResult}
use Rattle.journal_model.specs.Request.{Request, completions_asked, output_value}
use Rattle.journal_model.specs.State.{StateMap, state_change}
use Rattle.journal_model.specs.Spelling.{completion_type, request_type}
use Rattle.journal_model.specs.Journal.{sleep_in}
use Rattle.journal_model.specs.Cause.{is_failure, is_invocation_id, is_outcome, is_void, may_complete}
use Rattle.protocol_types.specs.declared.message_type.MessageType.{MessageType}
use Rattle.protocol_types.specs.declared.message_type.MessageType.TheVariants as types
use Rattle.protocol_stream.specs.declared.command_facts.CompletedBy.{CompletedBy}
use Rattle.protocol_stream.specs.declared.command_facts.CompletedBy.TheVariants as by
use Rattle.protocol_stream.specs.declared.command_facts.Completion.{Completion}
use Rattle.protocol_stream.specs.declared.command_facts.Completions.{Completions}
use Rattle.protocol_stream.specs.declared.command_facts.Completions.TheVariants as asked
use Rattle.protocol_stream.specs.declared.command_facts.Kept.{Kept}
use Rattle.protocol_stream.specs.declared.command_facts.Kept.TheVariants as kept
use Rattle.protocol_stream.specs.declared.command_facts.CommandFacts.{CommandFacts}
use Rattle.protocol_types.specs.MessageType.{type_number, named_type}

-- whether a call from outside may bring this
abbrev pub accepts : CompletedBy → NotificationResult → Bool
accepts by.Store brought = false
accepts by.Attempt brought = false
accepts by.InvocationId brought = is_invocation_id brought
accepts by.Outcome brought = is_outcome brought
accepts by.VoidOrOutcome brought = is_void brought || is_outcome brought
accepts by.VoidOrFailure brought = is_void brought || is_failure brought

-- the completion with the first id, or of two the one with the second
abbrev pub completion_at : Bool → Completions → Option Completion
completion_at is_second asked.Nothing = None
completion_at is_second (asked.One one) = Some one
completion_at false (asked.Two first second) = Some first
completion_at true (asked.Two first second) = Some second

abbrev pub completion_by : MessageType → CompletedBy → Completion
completion_by notification who = record { notification = notification; completed_by = who }

abbrev pub asking_nothing : Kept → CommandFacts
asking_nothing what = record { completions = asked.Nothing; kept = what }

abbrev pub asking_one : MessageType → CompletedBy → Kept → CommandFacts
asking_one notification who what = record { completions = asked.One (completion_by notification who); kept = what }

abbrev pub asking_two : Completion → Completion → CommandFacts
asking_two first second = record { completions = asked.Two first second; kept = kept.Nothing }

abbrev pub facts_of : MessageType → Option CommandFacts
facts_of types.InputCommand = Some (asking_nothing kept.Nothing)
facts_of types.OutputCommand = Some (asking_nothing kept.Answer)
facts_of types.GetLazyStateCommand = Some (asking_one types.GetLazyStateCompletionNotification by.Store kept.Nothing)
facts_of types.SetStateCommand = Some (asking_nothing kept.State)
facts_of types.ClearStateCommand = Some (asking_nothing kept.State)
facts_of types.ClearAllStateCommand = Some (asking_nothing kept.State)
facts_of types.GetLazyStateKeysCommand = Some (asking_one types.GetLazyStateKeysCompletionNotification by.Store kept.Nothing)
facts_of types.GetEagerStateCommand = Some (asking_nothing kept.Nothing)
facts_of types.GetEagerStateKeysCommand = Some (asking_nothing kept.Nothing)
facts_of types.GetPromiseCommand = Some (asking_one types.GetPromiseCompletionNotification by.Outcome kept.Nothing)
facts_of types.PeekPromiseCommand = Some (asking_one types.PeekPromiseCompletionNotification by.VoidOrOutcome kept.Nothing)
facts_of types.CompletePromiseCommand = Some (asking_one types.CompletePromiseCompletionNotification by.VoidOrFailure kept.Nothing)
facts_of types.SleepCommand = Some (asking_one types.SleepCompletionNotification by.Store kept.Moment)
facts_of types.CallCommand =
    Some (asking_two (completion_by types.CallInvocationIdCompletionNotification by.InvocationId) (completion_by types.CallCompletionNotification by.Outcome))
facts_of types.OneWayCallCommand = Some (asking_one types.CallInvocationIdCompletionNotification by.InvocationId kept.Nothing)
facts_of types.SendSignalCommand = Some (asking_nothing kept.Nothing)
facts_of types.RunCommand = Some (asking_one types.RunCompletionNotification by.Attempt kept.Nothing)
facts_of types.AttachInvocationCommand = Some (asking_one types.AttachInvocationCompletionNotification by.Outcome kept.Nothing)
facts_of types.GetInvocationOutputCommand = Some (asking_one types.GetInvocationOutputCompletionNotification by.VoidOrOutcome kept.Nothing)
facts_of types.CompleteAwakeableCommand = Some (asking_nothing kept.Nothing)
facts_of _ = None

-- ---- these are what the definitions of durable execution say of a request

-- a request is recorded as a message of a named type
abbrev pub RequestsTyped : Type 0
RequestsTyped = (request : Request) → named_type (type_number (request_type request)) ≡ Some (request_type request)

-- an id comes by the notification of this type, and may be given what the request may be
pub record CompletesRequest (one : Completion) (request : Request) (n : ℕ) : Type 0 where
  pub ty : one.notification ≡ completion_type request n
  pub given : (brought : NotificationResult) → accepts one.completed_by brought ≡ may_complete request n brought

-- these are the completions of the ids
abbrev pub CompleteAll : Completions → Request → List ℕ → Type 0
CompleteAll asked.Nothing request ids = ids ≡ []
CompleteAll (asked.One one) request (n ∷ []) = CompletesRequest one request n
CompleteAll (asked.Two first second) request (m ∷ n ∷ []) = CompletesRequest first request m × (n ≢ m → CompletesRequest second request n)
CompleteAll _ request ids = ⊥

abbrev pub is_answer : Kept → Bool
is_answer kept.Answer = true
is_answer _ = false

abbrev pub is_moment : Kept → Bool
is_moment kept.Moment = true
is_moment _ = false

abbrev pub is_state : Kept → Bool
is_state kept.State = true
is_state _ = false

pub record HasFacts (facts : CommandFacts) (request : Request) : Type 0 where
  pub completions : CompleteAll facts.completions request (completions_asked request)
  pub answer : is_some (output_value request) ≡ is_answer facts.kept
  pub moment : is_moment facts.kept ≡ false → sleep_in request ≡ []
  pub state : is_state facts.kept ≡ false → (state : StateMap) → state_change request state ≡ state

abbrev pub HasLine : Option CommandFacts → Request → Type 0
HasLine None request = ⊥
HasLine (Some facts) request = HasFacts facts request

abbrev pub RequestsHaveLines : Type 0
RequestsHaveLines = (request : Request) → HasLine (facts_of (request_type request)) request
