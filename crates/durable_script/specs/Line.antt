-- What a line does to what the scheduler stands for, and its text with the line feed.
use Rattle.std.specs.Prelude.{◌≡◌, ◌⊎◌, ℕ, Bool, true, false, suc, zero, ◌+◌, ◌≤◌, List, [], ◌∷◌, ◌++◌, length, Option, Some, IsSome}
use Rattle.std.specs.List.{AllByRecursion}
use Rattle.std.specs.declared.alloc.Global.{Global}
use Rattle.built_in_handlers.specs.declared.built_in.BuiltIn.{BuiltIn}
use Rattle.built_in_handlers.specs.BuiltIn.{built_in, function_of}
use Rattle.journal_model.specs.Run.{Handler}
use Rattle.journal_model.specs.declared.invocation.NewInvocation.{NewInvocation}
use Rattle.journal_model.specs.declared.notification.NotificationResult.{NotificationResult}
use Rattle.journal_model.specs.declared.notification.NotificationResult.TheVariants as result
use Rattle.journal_model.specs.declared.invocation.StateMode.{StateMode}
use Rattle.vm_types.specs.Options.{default_options}
use Rattle.durable_schedule.specs.Attempts.turn
use Rattle.durable_schedule.specs.Schedules.event
use Rattle.durable_schedule.specs.Schedules.{FitsEvent, Event, Reply, Turned, Scheduled, Applies}
use Rattle.script_lines.specs.declared.line.Line.{Line}
use Rattle.script_lines.specs.declared.line.Line.TheVariants.{Invoke, Result, Signal, Cancel, Tick, Begin, Feed, Close, Turn, Move, Stop, Due, Show, State}
use Rattle.script_lines.specs.declared.outcome.LineOutcome.{LineOutcome}
use Rattle.script_lines.specs.declared.value.LineValue.{LineValue}
use Rattle.script_lines.specs.declared.value.LineValue.TheVariants as value
use Rattle.script_lines.specs.Word.{handler_word}
use Rattle.script_lines.specs.declared.word.HandlerName.{HandlerName}
use Rattle.durable_script.specs.Outcome.{given_outcome}
use Rattle.durable_script.specs.ReplyTexts.{printed, refused_memory}
use Rattle.durable_script.specs.ShowLines.{ShowsOnly, Shows, ShowsDue, TellsState}

-- the handler that a name stands for
abbrev pub IsNamed : HandlerName → BuiltIn → Type 0
IsNamed name handler = (alloc : Global) × (built_in alloc (handler_word name) ≡ Some handler)

-- a line's invocation has no headers
abbrev pub new_invocation : List ℕ → List ℕ → ℕ → StateMode → ℕ → List ℕ → NewInvocation
new_invocation id object version state seed input =
    record { id = id; object = object; input = input; headers = []; version = version; seed = seed; state = state }

-- what a line's value brings; its failures have no pairs
abbrev pub brought : LineValue → NotificationResult
brought value.Void = result.Void
brought (value.Value bytes) = result.Value bytes
brought (value.Failure code message) = result.Failure (record { code = code; message = message; metadata = [] })
brought (value.InvocationId id) = result.InvocationId id

-- a begin of an invocation with the handler that a name stands for
abbrev pub IsBegin : List ℕ → HandlerName → ℕ → Event BuiltIn → Type 0
IsBegin id name now one = (handler : BuiltIn) × IsNamed name handler × (one ≡ event.Begin id handler now)

-- one event is applied, which is such as a caller can bring
pub record AppliesOne (one : Event BuiltIn) (reply : Reply) (old new : Scheduled BuiltIn) : Type 0 where
  pub applied : Applies function_of default_options one reply old new
  pub fits : FitsEvent one

-- one event is applied, and its reply printed
pub record DoesEvent (one : Event BuiltIn) (text : List ℕ) (old new : Scheduled BuiltIn) : Type 0 where
  pub reply : Reply
  pub applies : AppliesOne one reply old new
  pub text_is : text ≡ printed 1 reply ++ 10 ∷ []

-- the same with some text
abbrev pub DoesSomeEvent : Event BuiltIn → Scheduled BuiltIn → Scheduled BuiltIn → Type 0
DoesSomeEvent one old new = (text : List ℕ) × DoesEvent one text old new

-- whether a reply is that of a turn behind which there is another to make: a call was answered, or the body of a run executed
abbrev pub goes_on : Reply → Bool
goes_on (Turned turn.Answered) = true
goes_on (Turned turn.RanBody) = true
goes_on _ = false

-- a turn of an attempt, in which the body of a run ends as the line says
abbrev pub turn_event : List ℕ → ℕ → Option LineOutcome → Event BuiltIn
turn_event id attempt outcome = event.Turn id attempt (given_outcome outcome)

-- a turn is taken, behind which there is another to make
pub record TurnGoesOn (id : List ℕ) (attempt : ℕ) (outcome : Option LineOutcome) (old new : Scheduled BuiltIn) : Type 0 where
  pub answer : Reply
  pub another : goes_on answer ≡ true
  pub applies : AppliesOne (turn_event id attempt outcome) answer old new

-- so many of them
abbrev pub TurnsGoOn : List ℕ → ℕ → Option LineOutcome → ℕ → Scheduled BuiltIn → Scheduled BuiltIn → Type 0
TurnsGoOn id attempt outcome zero old new = new ≡ old
TurnsGoOn id attempt outcome (suc turns) old new =
    (between : Scheduled BuiltIn) × TurnsGoOn id attempt outcome turns old between × TurnGoesOn id attempt outcome between new

-- a turn is taken; or memory is refused for the copy of the outcome that the line gives, and none is
abbrev pub TakesTurn : List ℕ → ℕ → Option LineOutcome → Reply → Scheduled BuiltIn → Scheduled BuiltIn → Type 0
TakesTurn id attempt outcome answer old new = AppliesOne (turn_event id attempt outcome) answer old new ⊎ (IsSome outcome × (answer ≡ refused_memory) × (new ≡ old))

-- so many turns were taken, of as many as were asked for: behind the first behind which there is no other to make, none is
pub record TookTurns (id : List ℕ) (attempt asked : ℕ) (outcome : Option LineOutcome) (taken : ℕ) (last : Reply) (old new : Scheduled BuiltIn) : Type 0 where
  pub before : ℕ
  pub between : Scheduled BuiltIn
  pub gone_on : TurnsGoOn id attempt outcome before old between
  pub takes : TakesTurn id attempt outcome last between new
  pub taken_are : taken ≡ before + 1
  pub within : taken ≤ asked
  pub all : goes_on last ≡ true → taken ≡ asked

pub record TakesTurns (id : List ℕ) (attempt asked : ℕ) (outcome : Option LineOutcome) (text : List ℕ) (old new : Scheduled BuiltIn) : Type 0 where
  pub taken : ℕ
  pub last : Reply
  pub took : TookTurns id attempt asked outcome taken last old new
  pub text_is : text ≡ printed taken last ++ 10 ∷ []

-- Each line is one event, but for the turns, and for what is shown, which changes nothing.
abbrev pub DoesLine : Line → List ℕ → Scheduled BuiltIn → Scheduled BuiltIn → Type 0
DoesLine (Invoke id object version state seed input) text old new = DoesEvent (event.Invoke (new_invocation id object version state seed input)) text old new
DoesLine (Result id completion value) text old new = DoesEvent (event.Result id completion (brought value)) text old new
DoesLine (Signal id target value) text old new = DoesEvent (event.Signal id target (brought value)) text old new
DoesLine (Cancel id) text old new = DoesEvent (event.Cancel id) text old new
DoesLine (Tick now) text old new = DoesEvent (event.Tick now) text old new
DoesLine (Begin id name now) text old new = (handler : BuiltIn) × IsNamed name handler × DoesEvent (event.Begin id handler now) text old new
DoesLine (Feed id attempt count) text old new = DoesEvent (event.Feed id attempt count) text old new
DoesLine (Close id attempt) text old new = DoesEvent (event.Close id attempt) text old new
DoesLine (Turn id attempt count outcome) text old new = TakesTurns id attempt count outcome text old new
DoesLine (Move id attempt count) text old new = DoesEvent (event.Move id attempt count) text old new
DoesLine (Stop id attempt) text old new = DoesEvent (event.Stop id attempt) text old new
DoesLine Due text old new = ShowsOnly (ShowsDue text) old new
DoesLine (Show id) text old new = ShowsOnly (Shows id text) old new
DoesLine (State object) text old new = ShowsOnly (TellsState object text) old new

-- the last reply is that of a turn, or tells that memory was refused for one more
abbrev pub EndsTurns : Option LineOutcome → (before : List Reply) → (last : Reply) → (answers : List Reply) → Type 0
EndsTurns outcome before last answers = (answers ≡ before ++ last ∷ []) ⊎ (IsSome outcome × (answers ≡ before) × (last ≡ refused_memory))

-- turns of one attempt, behind all but the last of which there is another to make; the last reply is printed, with their number
pub record AreTurns (id : List ℕ) (attempt : ℕ) (outcome : Option LineOutcome) (text : List ℕ) (own : List (Event BuiltIn)) (answers : List Reply) : Type 0 where
  pub turns : AllByRecursion (λ one. one ≡ turn_event id attempt outcome) own
  pub as_many : length own ≡ length answers
  pub before : List Reply
  pub last : Reply
  pub ends : EndsTurns outcome before last answers
  pub gone_on : AllByRecursion (λ answer. goes_on answer ≡ true) before
  pub text_is : text ≡ printed (length before + 1) last ++ 10 ∷ []

-- the event of a line that is one
abbrev pub IsEventOf : Line → Event BuiltIn → Type 0
IsEventOf (Invoke id object version state seed input) one = one ≡ event.Invoke (new_invocation id object version state seed input)
IsEventOf (Result id completion value) one = one ≡ event.Result id completion (brought value)
IsEventOf (Signal id target value) one = one ≡ event.Signal id target (brought value)
IsEventOf (Cancel id) one = one ≡ event.Cancel id
IsEventOf (Tick now) one = one ≡ event.Tick now
IsEventOf (Begin id name now) one = IsBegin id name now one
IsEventOf (Feed id attempt count) one = one ≡ event.Feed id attempt count
IsEventOf (Close id attempt) one = one ≡ event.Close id attempt
IsEventOf (Move id attempt count) one = one ≡ event.Move id attempt count
IsEventOf (Stop id attempt) one = one ≡ event.Stop id attempt
IsEventOf _ one = ⊥

-- the events of a line and their replies, for which it prints this: turns of its attempt, none where something is shown, and otherwise one
abbrev pub AreOfLine : Line → (text : List ℕ) → List (Event BuiltIn) → List Reply → Type 0
AreOfLine (Turn id attempt count outcome) text own answers = AreTurns id attempt outcome text own answers
AreOfLine Due text own answers = (own ≡ []) × (answers ≡ [])
AreOfLine (Show id) text own answers = (own ≡ []) × (answers ≡ [])
AreOfLine (State object) text own answers = (own ≡ []) × (answers ≡ [])
AreOfLine line text own answers = (one : Event BuiltIn) × (reply : Reply) × IsEventOf line one × (own ≡ one ∷ []) × (answers ≡ reply ∷ []) × (text ≡ printed 1 reply ++ 10 ∷ [])

-- the same with some text
abbrev pub DoesSomeLine : Line → Scheduled BuiltIn → Scheduled BuiltIn → Type 0
DoesSomeLine line old new = (text : List ℕ) × DoesLine line text old new

-- A line brings this function to an invocation: if it begins an attempt of it, the handler that it names has this function.
abbrev pub BringsFunction : List ℕ → Handler → Line → Type 0
BringsFunction id next (Begin invocation name now) = invocation ≡ id → (handler : BuiltIn) → IsNamed name handler → function_of handler ≡ next
BringsFunction id next _ = Unit {0}
