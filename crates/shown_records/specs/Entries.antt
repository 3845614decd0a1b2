-- What a line shows of each entry that is recorded.
use Rattle.std.specs.Prelude.{◌≡◌, ◌⊎◌, ℕ, List, [], ◌∷◌, ◌++◌, Ok, codes}
use Rattle.journal_model.specs.declared.notification.Notification.{Notification}
use Rattle.journal_model.specs.declared.notification.NotificationId.{NotificationId}
use Rattle.journal_model.specs.declared.notification.NotificationId.TheVariants as ids
use Rattle.journal_model.specs.declared.notification.NotificationResult.{NotificationResult}
use Rattle.journal_model.specs.declared.notification.NotificationResult.TheVariants as results
use Rattle.protocol_types.specs.MessageType.{type_number}
use Rattle.protocol_stream.specs.Frame.{message_of}
use Rattle.protocol_messages.specs.Decodings.{DecodesNotification}
use Rattle.store_refusals.specs.declared.refusal.Refusal.{Refusal}
use Rattle.store_refusals.specs.declared.refusal.Refusal.TheVariants.{ForeignRow, OutOfMemory}
use Rattle.store_invocations.specs.declared.recorded.EntryKind.TheVariants as kinds
use Rattle.store_invocations.specs.declared.recorded.RecordedEntry.{RecordedEntry}
use Rattle.script_lines.specs.Text.{request_line}
use Rattle.script_lines.specs.Arrival.{arrival_line, completion_word, failure_words, id_words, keys_words, name_word, signal_word, value_words}
use Rattle.shown_records.specs.declared.entry.ShownEntry.{ShownEntry}
use Rattle.shown_records.specs.declared.entry.ShownEntry.TheVariants.{Arrival, Request}

-- what an arrival is for
abbrev pub id_word : NotificationId → List ℕ
id_word (ids.CompletionId number) = completion_word number
id_word (ids.SignalId number) = signal_word number
id_word (ids.SignalName name) = name_word name

-- what it brings
abbrev pub brought_words : NotificationResult → List ℕ
brought_words results.Void = codes "void"
brought_words (results.Value bytes) = value_words bytes
brought_words (results.Failure failure) = failure_words failure.code failure.message
brought_words (results.InvocationId id) = id_words id
brought_words (results.StateKeys keys) = keys_words keys

-- the line of a request, or of an arrival, each with its place
abbrev pub entry_text : ShownEntry → List ℕ
entry_text (Request entry) = request_line entry.place (type_number entry.ty) entry.payload ++ 10 ∷ []
entry_text (Arrival place arrival) = arrival_line place (id_word arrival.id) (brought_words arrival.result) ++ 10 ∷ []

-- an entry is shown as it is told: a request by its frame, an arrival by what its payload means
abbrev pub IsShown : RecordedEntry → ShownEntry → Type 0
IsShown entry (Request same) = (entry.kind ≡ kinds.Request) × (same ≡ entry)
IsShown entry (Arrival place arrival) =
    (entry.kind ≡ kinds.Arrival) × (place ≡ entry.place) × DecodesNotification (message_of entry.ty entry.payload) (Ok arrival)

abbrev pub AreShown : List RecordedEntry → List ShownEntry → Type 0
AreShown [] [] = Unit {0}
AreShown (entry ∷ entries) (one ∷ shown) = IsShown entry one × AreShown entries shown
AreShown [] (one ∷ shown) = ⊥
AreShown (entry ∷ entries) [] = ⊥

-- there is no memory to read one of them, or it is an arrival whose payload means nothing, which no store writes
abbrev pub IsUnread : RecordedEntry → Refusal → Type 0
IsUnread entry OutOfMemory = Unit {0}
IsUnread entry ForeignRow = (arrival : Notification) → DecodesNotification (message_of entry.ty entry.payload) (Ok arrival) → ⊥
IsUnread entry _ = ⊥

abbrev pub HasUnread : List RecordedEntry → Refusal → Type 0
HasUnread [] why = ⊥
HasUnread (entry ∷ entries) why = IsUnread entry why ⊎ HasUnread entries why

-- there is no memory for all of them, or one is not read
abbrev pub SomeUnread : List RecordedEntry → Refusal → Type 0
SomeUnread entries why = (why ≡ OutOfMemory) ⊎ HasUnread entries why
