-- The rows of a journal, told apart by their kinds.
use Rattle.std.proofs.Common.{◌≡◌, ◌≢◌, refl, sym, ap, ap₂, ◌∙◌, append_assoc, arith, length, not, ℕ, suc, ◌+◌, ◌==◌, Bool, true, false, if◌then◌else◌, List, [], ◌∷◌, ◌++◌, map, filter, Option, Some, None, IsTrue}
use Rattle.std.proofs.lemmas.Bool.{eqb-true}
use Rattle.sqlite.specs.State.{State}
use Rattle.journal_model.specs.Notification.{Bytes, Text}
use Rattle.journal_model.specs.declared.notification.NotificationId.{NotificationId}
use Rattle.journal_model.specs.declared.notification.NotificationId.TheVariants.{CompletionId, SignalId, SignalName}
use Rattle.journal_model.specs.declared.invocation.NewInvocation.{NewInvocation}
use Rattle.journal_model.specs.Request.{Request}
use Rattle.journal_model.specs.Spelling.{request_type, completion_type, request_payload, notification_payload}
use Rattle.journal_model.specs.Event.{Event}
use Rattle.journal_model.specs.Journal.{Entry, Recorded, Arrived, request_asking, entries_of, invocation_begun, starting_state}
use Rattle.journal_model.specs.Attempt.{notification_type, type_of_completion}
use Rattle.journal_model.specs.Cause.{IsAccepted, those_that_hold}
use Rattle.journal_laws.proofs.ObjectState.{no_entries}
use Rattle.sql_tables.specs.declared.read.ReadError.{ReadError}
use Rattle.sql_tables.specs.declared.read.ReadError.TheVariants.{Refused, Foreign, OutOfMemory}
use Rattle.protocol_types.specs.declared.message_type.MessageType.{MessageType}
use Rattle.protocol_types.specs.declared.message_type.MessageType.TheVariants.{CallInvocationIdCompletionNotification, CallCompletionNotification}
use Rattle.protocol_types.specs.MessageType.{is_command}
use Rattle.store_tables.specs.declared.row.EntryRow.{EntryRow}
use Rattle.store_tables.specs.declared.row.InvocationRow.{InvocationRow}
use Rattle.store_tables.specs.Questions.{IsJournal, IsNoJournal}
use Rattle.store_model.specs.KeptRecords.{entry_row, journal_rows, rows_from, rows_of_journal}
use Rattle.store_model.proofs.Finding.{all_found}
use Rattle.store_model.proofs.Framing.{AreAskedBefore, all_asked_before, kind_stays}
use Rattle.store_refusals.specs.declared.refusal.Refusal.{Refusal}
use Rattle.store_refusals.specs.RefusalConditions.{IsRefused, is_circumstance, reading_refusal}
use Rattle.store_refusals.specs.Preparations.{Keeps}
use Rattle.store_invocations.specs.Rows.{IsRowOf, known_tests}
use Rattle.store_invocations.specs.declared.recorded.RecordedEntry.{RecordedEntry}
use Rattle.store_invocations.specs.JournalContent.{entries_told, entry_read, is_entry, kind_by, told_from}

-- ---- what is read

pub rows_are : (events : List Event) (id : Text) (s : State) (rows : List EntryRow) → Keeps events s → IsJournal id s.now.trees rows → rows ≡ journal_rows events id
rows_are events id s rows k is = is k.records k.held ((all_found events k.records k.accepted k.kept).places id) ∙ k.kept.journals id

pub asked_journal : (events : List Event) (id : Text) (s : State) (e : ReadError) → (e ≡ Foreign → IsTrue s.is_open) → (e ≡ Foreign → IsNoJournal id s.now.trees)
    → (IsTrue s.is_open → Keeps events s) → IsTrue (is_circumstance (reading_refusal e))
asked_journal events id s (Refused cause) is_open none keeps = refl
asked_journal events id s OutOfMemory is_open none keeps = refl
asked_journal events id s Foreign is_open none keeps =
    let k = keeps (is_open refl) in
    absurd (none refl k.records k.held ((all_found events k.records k.accepted k.kept).places id))

-- ---- the kinds

request_is : (request : Request) → is_command (request_type request) ≡ true
request_is (Request.Output value name) = refl
request_is _ = refl

of_a_call : (b : Bool) → is_command (if b then CallInvocationIdCompletionNotification else CallCompletionNotification) ≡ false
of_a_call true = refl
of_a_call false = refl

completion_is_no_request : (request : Request) (n : ℕ) → is_command (completion_type request n) ≡ false
completion_is_no_request (Request.CallService call m k name) n = of_a_call (n == m)
completion_is_no_request _ n = refl

arrival_is_no_request : (entries : List Entry) (id : NotificationId) → is_command (notification_type entries id) ≡ false
arrival_is_no_request entries (CompletionId n) = by_request (request_asking entries n)
  where
    by_request : (o : Option Request) → is_command (type_of_completion o n) ≡ false
    by_request None = refl
    by_request (Some request) = completion_is_no_request request n
arrival_is_no_request entries (SignalId n) = refl
arrival_is_no_request entries (SignalName name) = refl

-- ---- the rows

abbrev entry_with : ℕ → Bool → MessageType → Bytes → RecordedEntry
entry_with place b ty payload = record { place = place; kind = kind_by b; ty = ty; payload = payload }

read_if : EntryRow → List EntryRow → Bool → List RecordedEntry
read_if row rest b = map entry_read (if b then row ∷ rest else rest)

behind_first : (place : ℕ) (b : Bool) → (place + 1 == 0) ≡ b → b ≡ false
behind_first place true e = absurd (let zero = eqb-true (place + 1) 0 e in omega (arith, zero))
behind_first place false e = refl

read_from : (id : Text) (before : List Entry) (place : ℕ) (entries all : List Entry) → (place == 0) ≡ false → AreAskedBefore before entries → (before ++ entries) ≡ all
    → map entry_read (filter is_entry (rows_from id before place entries)) ≡ told_from all place entries
unfolding read_if
read_from id before place [] all later h e = refl
read_from id before place (Recorded request ∷ entries) all later h e =
    ap (read_if (entry_row id before place (Recorded request)) (filter is_entry (rows_from id (before ++ Recorded request ∷ []) (place + 1) entries))) (ap not later)
    ∙ ap₂ (λ (b : Bool) (more : List RecordedEntry). entry_with place b (request_type request) (request_payload request) ∷ more) (request_is request)
    (read_from id (before ++ Recorded request ∷ []) (place + 1) entries all (behind_first place (place + 1 == 0) refl) h.1 (append_assoc before (Recorded request ∷ []) entries ∙ e))
read_from id before place (Arrived arrival ∷ entries) all later h e =
    ap (read_if (entry_row id before place (Arrived arrival)) (filter is_entry (rows_from id (before ++ Arrived arrival ∷ []) (place + 1) entries))) (ap not later)
    ∙ ap (λ (b : Bool). entry_with place b (notification_type before arrival.id) (notification_payload arrival) ∷ map entry_read (filter is_entry (rows_from id (before ++ Arrived arrival ∷ []) (place + 1) entries))) (arrival_is_no_request before arrival.id)
    ∙ ap₂ (λ (ty : MessageType) (more : List RecordedEntry). entry_with place false ty (notification_payload arrival) ∷ more)
    (kind_stays before (Arrived arrival ∷ entries) arrival.id h.0 ∙ ap (λ (some : List Entry). notification_type some arrival.id) e)
    (read_from id (before ++ Arrived arrival ∷ []) (place + 1) entries all (behind_first place (place + 1 == 0) refl) h.1 (append_assoc before (Arrived arrival ∷ []) entries ∙ e))

-- all that is kept
pub entries_read : (events : List Event) (id : Text) → IsAccepted events → map entry_read (filter is_entry (journal_rows events id)) ≡ entries_told events id
entries_read events id accepted = by_begun (invocation_begun events id) refl
  where
    by_begun : (o : Option NewInvocation) → invocation_begun events id ≡ o → map entry_read (filter is_entry (rows_of_journal o id (entries_of events id))) ≡ entries_told events id
    by_begun None is = sym (ap (λ (entries : List Entry). told_from entries 1 entries) (no_entries (starting_state events id) events accepted id is))
    by_begun (Some new) is = read_from id [] 1 (entries_of events id) (entries_of events id) refl (all_asked_before id events accepted) refl

-- ---- an invocation's row counts those of its journal

many_from : (id : Text) (before : List Entry) (place : ℕ) (entries : List Entry) → length (rows_from id before place entries) ≡ length entries
many_from id before place [] = refl
many_from id before place (entry ∷ entries) = ap suc (many_from id (before ++ entry ∷ []) (place + 1) entries)

pub rows_counted : (events : List Event) (id : Text) (row : InvocationRow) → IsRowOf events id row → length (journal_rows events id) ≡ row.progress.entries
rows_counted events id row of =
    let begun : length (journal_rows events id) ≡ suc (length (rows_from id [] 1 (entries_of events id))) = ap (λ (o : Option NewInvocation). length (rows_of_journal o id (entries_of events id))) of.begun in
    let many : length (rows_from id [] 1 (entries_of events id)) ≡ length (entries_of events id) = many_from id [] 1 (entries_of events id) in
    let counted : row.progress.entries ≡ 1 + length (entries_of events id) = ap (λ (r : InvocationRow). r.progress.entries) of.is ∙ ap (λ (one : Text). 1 + length (entries_of events one)) of.named in
    omega (arith, begun, many, counted)

-- so none is missing, and none too many
pub none_missing : (events : List Event) (id : Text) (row : InvocationRow) (rows : List EntryRow) (why : Refusal) → IsRowOf events id row → rows ≡ journal_rows events id
    → length rows ≢ row.progress.entries → IsRefused (those_that_hold (known_tests events id)) why
none_missing events id row rows why of are differ =
    absurd (differ (ap (λ (all : List EntryRow). length all) are ∙ rows_counted events id row of))
