-- Invocations, and what one has asked of others, as lines show them.
use Rattle.std.specs.Prelude.{◌≡◌, ℕ, Bool, true, false, List, [], ◌∷◌, ◌++◌, map, Option, Some, None, Result, Ok, Err, is_some, codes}
use Rattle.std.specs.List.{AllByRecursion, flat_map}
use Rattle.journal_model.specs.Notification.{Text}
use Rattle.journal_model.specs.declared.value.NonEmptyValue.{NonEmptyValue}
use Rattle.journal_model.specs.declared.value.NonEmptyValue.TheVariants.{Failure, Success}
use Rattle.journal_model.specs.Event.{Event}
use Rattle.journal_model.specs.Attempt.{live_attempt}
use Rattle.protocol_types.specs.MessageType.{type_number}
use Rattle.server_lines.specs.declared.reply.AnswerKind.{AnswerKind}
use Rattle.server_lines.specs.declared.reply.AnswerKind.TheVariants as kind
use Rattle.server_lines.specs.declared.reply.InvocationStatus.{InvocationStatus}
use Rattle.server_lines.specs.declared.reply.InvocationStatus.TheVariants as status
use Rattle.server_lines.specs.Reply.{invocation_line, open_request_line}
use Rattle.shown_records.specs.ShownTexts.{IsKnown}
use Rattle.store_refusals.specs.declared.refusal.Refusal.{Refusal}
use Rattle.store_refusals.specs.RefusalConditions.{IsRefused}
use Rattle.store_tables.specs.declared.row.Closing.{Closing}
use Rattle.store_tables.specs.declared.row.Closing.TheVariants as closing
use Rattle.store_tables.specs.declared.row.InvocationRow.{InvocationRow}
use Rattle.store_model.specs.Progress.{progress_of}
use Rattle.store_invocations.specs.InvocationAnswers.{answer_told}
use Rattle.store_live.specs.Attempts.{ByInvocation, attempt_of}
use Rattle.store_reads.specs.declared.requests.OpenRequest.{OpenRequest}
use Rattle.store_server.specs.declared.rows.ListedInvocation.{ListedInvocation}

-- of an open invocation: whether an attempt is live, and whether one that is begun now may go on
abbrev pub open_status : (is_live is_awake : Bool) → InvocationStatus
open_status true is_awake = status.Live
open_status false true = status.Due
open_status false false = status.Suspended

abbrev pub status_by : Option Closing → (is_live is_awake : Bool) → InvocationStatus
status_by (Some closing.Ended) is_live is_awake = status.Ended
status_by (Some closing.Failed) is_live is_awake = status.Failed
status_by None is_live is_awake = open_status is_live is_awake

-- how an invocation stands, by its row and its attempts
abbrev pub row_status : InvocationRow → Bool → InvocationStatus
row_status row is_live = status_by row.progress.closing is_live row.progress.is_awake

abbrev pub answer_kind : Option NonEmptyValue → AnswerKind
answer_kind None = kind.Missing
answer_kind (Some (Success bytes)) = kind.Value
answer_kind (Some (Failure failure)) = kind.Failure

abbrev pub listed_of : List Event → InvocationRow → ListedInvocation
listed_of events row = record { row = row; status = row_status row (is_some (live_attempt events row.id)); answer = answer_kind (answer_told events row.id) }

abbrev pub listed_text : ListedInvocation → List ℕ
listed_text listed = invocation_line listed.row.id listed.row.object listed.status listed.row.progress.attempts listed.row.progress.entries listed.answer ++ 10 ∷ []

abbrev pub all_listed_text : List ListedInvocation → List ℕ
all_listed_text invocations = flat_map listed_text invocations

abbrev pub open_request_shown : Text → OpenRequest → List ℕ
open_request_shown id request = open_request_line id request.place request.completion request.second_completion (type_number request.ty) request.payload ++ 10 ∷ []

abbrev pub open_requests_text : Text → List OpenRequest → List ℕ
open_requests_text id requests = flat_map (open_request_shown id) requests

-- behind the last
abbrev pub end_line : List ℕ
end_line = codes "end" ++ 10 ∷ []

-- ---- row by row

-- with the attempts in memory
abbrev pub listed_by : ByInvocation → List Event → InvocationRow → ListedInvocation
listed_by attempts events row = record { row = row; status = row_status row (is_some (attempt_of attempts row.id)); answer = answer_kind (answer_told events row.id) }

-- the row of an invocation that was begun
abbrev pub IsBegunRow : List Event → InvocationRow → Type 0
IsBegunRow events row = IsKnown row.id events × (row.progress ≡ progress_of events row.id)

-- of such a row this is told, or nothing is, for a circumstance
abbrev pub TellsKind : InvocationRow → Result AnswerKind Refusal → List Event → Type 0
TellsKind row (Ok told) events = IsBegunRow events row → told ≡ answer_kind (answer_told events row.id)
TellsKind row (Err why) events = IsBegunRow events row → IsRefused [] why

abbrev pub ListsRow : ByInvocation → InvocationRow → Result ListedInvocation Refusal → List Event → Type 0
ListsRow attempts row (Ok listed) events = IsBegunRow events row → listed ≡ listed_by attempts events row
ListsRow attempts row (Err why) events = IsBegunRow events row → IsRefused [] why

abbrev pub ListsRows : ByInvocation → List InvocationRow → Result (List ListedInvocation) Refusal → List Event → Type 0
ListsRows attempts rows (Ok listed) events = AllByRecursion (IsBegunRow events) rows → listed ≡ map (listed_by attempts events) rows
ListsRows attempts rows (Err why) events = AllByRecursion (IsBegunRow events) rows → IsRefused [] why
