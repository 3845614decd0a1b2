-- What a request does to what the store stands for, and its answer with the line feed.
use Rattle.std.specs.Prelude.{◌≡◌, ℕ, Bool, true, false, List, [], ◌∷◌, ◌++◌, map, Option, Some, None, option_map, Result, Ok, Err, IfOk}
use Rattle.journal_model.specs.Notification.{Bytes, Text}
use Rattle.journal_model.specs.declared.value.NonEmptyValue.{NonEmptyValue}
use Rattle.journal_model.specs.Event.{Event}
use Rattle.journal_model.specs.Journal.{is_open}
use Rattle.journal_model.specs.Attempt.{due, is_due}
use Rattle.journal_model.specs.Cause.{those_that_hold}
use Rattle.protocol_types.specs.Version.{version_content_type}
use Rattle.due_laws.specs.NextMoment.{IsNextMoment}
use Rattle.script_lines.specs.Text.{reply_text, refused_text}
use Rattle.script_lines.specs.declared.text.LineReply.TheVariants.{Done, Placed, Ticked}
use Rattle.server_lines.specs.declared.reply.TakenFrame.{TakenFrame}
use Rattle.server_lines.specs.declared.reply.TakenFrame.TheVariants as frame
use Rattle.server_lines.specs.declared.request.Request.{Request}
use Rattle.server_lines.specs.declared.request.Request.TheVariants.{Invoke, Result as ResultRequest, Signal, Cancel, Tick, Begin, Input, Output, Close, Stop, Forget, Due, DueOne, DueAfter, Next, Show, Answer, State, Error, List as ListRequest, Requests}
use Rattle.server_lines.specs.Reply.{begun_line, due_line, error_line, input_line, next_line, no_error_text, not_understood_text, output_line}
use Rattle.server_lines.specs.RequestReader.{request_of}
use Rattle.shown_records.specs.Invocation.{shown_text}
use Rattle.shown_records.specs.ShownTexts.{IsKnown, Shows, TellsState}
use Rattle.store_refusals.specs.declared.refusal.Refusal.{Refusal}
use Rattle.store_refusals.specs.Names.{refusal_name_of}
use Rattle.store_refusals.specs.RefusalConditions.{IsRefused}
use Rattle.store_tables.specs.declared.row.LastError.{LastError}
use Rattle.store_model.specs.Progress.{last_error_of}
use Rattle.store_invocations.specs.InvocationAnswers.{answer_told}
use Rattle.store_invocations.specs.Rows.{known_tests}
use Rattle.store_reads.specs.DuePage.{due_after}
use Rattle.store_reads.specs.Page.{invocations_after}
use Rattle.store_reads.specs.OpenRequests.{open_requests}
use Rattle.store_steps.specs.declared.frame.FrameReply.{FrameReply}
use Rattle.store_steps.specs.declared.frame.FrameReply.TheVariants as reply
use Rattle.store_calls.specs.declared.begun.BegunAttempt.{BegunAttempt}
use Rattle.store_calls.specs.AbstractStore.{Standing, StaysStanding, Adds}
use Rattle.store_calls.specs.Calls.{BeginsAttempt, Cancels, ClosesStoredInput, CompletesCall, HandsOut, Invokes, Signals, Stops, Ticks}
use Rattle.store_calls.specs.Forgetting.{Forgets, LeavesOthers}
use Rattle.store_calls.specs.Frames.{Accepts, AcceptsFirst}
use Rattle.journal_store.specs.Attempts.{BeginsSome}
use Rattle.store_server.specs.StoreChanges.{CommitsNothing, Tells, TellsKnown}
use Rattle.store_server.specs.Rows.{all_listed_text, end_line, listed_of, open_requests_text}

-- with its line feed
abbrev pub line_of : List ℕ → List ℕ
line_of text = text ++ 10 ∷ []

abbrev pub refusal_line : Refusal → List ℕ
refusal_line why = line_of (refused_text (refusal_name_of why))

-- what a call answered, or the name of its refusal
abbrev pub answer_text : {A : Type 0} → (A → List ℕ) → Result A Refusal → List ℕ
answer_text told (Ok answer) = told answer
answer_text told (Err why) = refusal_line why

-- a call did this, and what it answered is told so
pub record Answers {A : Type 0} (told : A → List ℕ) (Call : Result A Refusal → Standing → Standing → Type 0) (text : List ℕ) (old new : Standing) : Type 0 where
  pub answer : Result A Refusal
  pub call : Call answer old new
  pub text_is : text ≡ answer_text told answer

-- this is told of the accepted events, and nothing changes
abbrev pub Shown : (List Event → Type 0) → Standing → Standing → Type 0
Shown IsTold old new = IsTold old.events × StaysStanding old new

-- ---- the texts

abbrev pub done_line : Unit {0} → List ℕ
done_line done = line_of (reply_text Done)

abbrev pub place_line : ℕ → List ℕ
place_line place = line_of (reply_text (Placed place))

abbrev pub ticked_line : ℕ → List ℕ
ticked_line sleeps = line_of (reply_text (Ticked sleeps))

abbrev pub attempt_line : BegunAttempt → List ℕ
attempt_line begun = line_of (begun_line begun.number (version_content_type begun.version) begun.start)

abbrev pub handed_line : Bytes → List ℕ
handed_line bytes = line_of (input_line bytes)

abbrev pub taken_frame : FrameReply → TakenFrame
taken_frame (reply.Recorded place) = frame.Recorded place
taken_frame reply.Noted = frame.Noted
taken_frame reply.Suspended = frame.Suspended
taken_frame reply.Failed = frame.Failed
taken_frame reply.Ended = frame.Ended

abbrev pub taken_line : List FrameReply × Option Refusal → List ℕ
taken_line taken = line_of (output_line (map taken_frame taken.0) (option_map refusal_name_of taken.1))

abbrev pub ids_line : List (List ℕ) → List ℕ
ids_line ids = line_of (due_line ids)

-- of one invocation, its id where it is due
abbrev pub id_if : Bool → List ℕ → List (List ℕ)
id_if true id = id ∷ []
id_if false id = []

-- the last two lines of what is shown: what an invocation answers, and whether it is open
abbrev pub answered_text : Option NonEmptyValue × Bool → List ℕ
answered_text told = shown_text [] told.0 told.1

abbrev pub moment_line : Option ℕ → List ℕ
moment_line moment = line_of (next_line moment)

abbrev pub last_error_text : Option LastError → List ℕ
last_error_text None = no_error_text
last_error_text (Some error) = error_line error.code error.behavior error.delay error.message

abbrev pub last_error_line : Option LastError → List ℕ
last_error_line error = line_of (last_error_text error)

-- ---- what is told of an invocation that is known, or not

abbrev pub HasAnswer : Text → Option NonEmptyValue → Bool → List Event → Type 0
HasAnswer id answer is_open_now events = IsKnown id events × (answer ≡ answer_told events id) × (is_open_now ≡ is_open events id)

abbrev pub IsUnknown : Text → Refusal → List Event → Type 0
IsUnknown id why events = IsRefused (those_that_hold (known_tests events id)) why

-- ---- the requests

-- Each is one call of the store, and the text of its answer.
abbrev pub DoesRequest : Request → List ℕ → Standing → Standing → Type 0
DoesRequest (Invoke new) = Answers done_line (Invokes new)
DoesRequest (ResultRequest id completion value) = Answers place_line (CompletesCall id completion value)
DoesRequest (Signal id key value) = Answers place_line (Signals id key value)
DoesRequest (Cancel id) = Answers place_line (Cancels id)
DoesRequest (Tick now) = Answers ticked_line (Ticks now)
DoesRequest (Begin id now) = Answers attempt_line (BeginsAttempt id now)
DoesRequest (Input id attempt most) = Answers handed_line (HandsOut id attempt most)
DoesRequest (Output id attempt bytes) = Answers taken_line (Accepts id attempt bytes)
DoesRequest (Close id attempt) = Answers done_line (ClosesStoredInput id attempt)
DoesRequest (Stop id attempt) = Answers done_line (Stops id attempt)
DoesRequest (Forget ids) = Answers done_line (Forgets ids)
DoesRequest Due = Answers ids_line (Tells (λ events ids. ids ≡ due events))
DoesRequest (DueOne id) = Answers (λ told. ids_line (id_if told id)) (TellsKnown id (λ events told. told ≡ is_due events id))
DoesRequest (DueAfter after most) = Answers ids_line (Tells (λ events ids. ids ≡ due_after events after most))
DoesRequest Next = Answers moment_line (Tells IsNextMoment)
DoesRequest (Show id) = λ text. Shown (Shows id text)
DoesRequest (Answer id) = Answers answered_text (TellsKnown id (λ events told. told ≡ (answer_told events id, is_open events id)))
DoesRequest (State object) = λ text. Shown (TellsState object text)
DoesRequest (Error id) = Answers last_error_line (TellsKnown id (λ events error. error ≡ last_error_of events id))
DoesRequest (ListRequest after most) = Answers (λ listed. all_listed_text listed ++ end_line) (Tells (λ events listed. listed ≡ map (listed_of events) (invocations_after events (Some after) most)))
DoesRequest (Requests id) = Answers (λ asked. open_requests_text id asked ++ end_line) (TellsKnown id (λ events asked. asked ≡ open_requests events id))

-- What a crash leaves that comes in the middle: what the call commits, or, of an output, its first frames; otherwise nothing is committed.
abbrev pub CutsRequest : Request → Standing → Standing → Type 0
CutsRequest (Invoke new) = Adds (Event.Invoke new)
CutsRequest (ResultRequest id completion value) = Adds (Event.Result id completion value)
CutsRequest (Signal id key value) = Adds (Event.Signal id key value)
CutsRequest (Cancel id) = Adds (Event.Cancel id)
CutsRequest (Tick now) = Adds (Event.Tick now)
CutsRequest (Begin id now) = BeginsSome id now
CutsRequest (Output id attempt bytes) = AcceptsFirst id attempt bytes
CutsRequest (Forget ids) = LeavesOthers ids
CutsRequest _ = CommitsNothing

-- ---- the lines

-- a line that spells no request is answered so, and does nothing
abbrev pub DoesRead : Option Request → List ℕ → Standing → Standing → Type 0
DoesRead None text old new = (text ≡ line_of not_understood_text) × StaysStanding old new
DoesRead (Some request) text old new = DoesRequest request text old new

abbrev pub CutsRead : Option Request → Standing → Standing → Type 0
CutsRead None = CommitsNothing
CutsRead (Some request) = CutsRequest request

-- a line without its line feed
abbrev pub DoesLine : List ℕ → List ℕ → Standing → Standing → Type 0
DoesLine line = DoesRead (request_of line)

abbrev pub CutsLine : List ℕ → Standing → Standing → Type 0
CutsLine line = CutsRead (request_of line)

-- This holds of a text, which was made, or for which there was no memory.
abbrev pub MakesAnswer : {T E : Type 0} → (T → List ℕ) → Result T E → (List ℕ → Type 0) → Type 0
MakesAnswer bytes_of made Holds = (text : List ℕ) × IfOk made (λ it. bytes_of it ≡ text) × Holds text
