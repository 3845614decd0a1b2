-- What recorded requests ask of other invocations, and a store delivers: signals, and the values of awakeables. What calls and sends ask for is made
-- by whoever runs the store, so none of them is a message: no row is put for one, and none keeps its sender from being forgotten.
use Rattle.std.specs.Prelude.{ℕ, zero, suc, List, [], ◌∷◌, Option, Some, None}
use Rattle.journal_model.specs.Notification.{Text}
use Rattle.journal_model.specs.declared.notification.NotificationResult.{NotificationResult}
use Rattle.journal_model.specs.declared.notification.SignalKey.{SignalKey}
use Rattle.journal_model.specs.Value.{result_of_value}
use Rattle.journal_model.specs.Request.{Request, CallRecord, SignalValue}
use Rattle.journal_model.specs.Event.{Event}
use Rattle.journal_model.specs.Journal.{Entry, Recorded, Arrived, entries_of}

-- that one is made, its id to be told to a completion, which no request asks of a store; that a signal comes to one; or that an awakeable is
-- completed, which its text names
pub data Message : Type 0 where
  Makes : CallRecord → (not_before : ℕ) → (completion : ℕ) → Message
  Tells : (target : Text) → SignalKey → NotificationResult → Message
  Completes : (awakeable_id : Text) → NotificationResult → Message

abbrev pub result_of_signal : SignalValue → NotificationResult
result_of_signal SignalValue.Empty = NotificationResult.Void
result_of_signal (SignalValue.Carries value) = result_of_value value

abbrev pub message_of : Request → Option Message
message_of (Request.SendSignal target key value name) = Some (Tells target key (result_of_signal value))
message_of (Request.CompleteAwakeable id value name) = Some (Completes id (result_of_value value))
message_of _ = None

abbrev pub entry_behind : List Entry → ℕ → Option Entry
entry_behind [] n = None
entry_behind (entry ∷ entries) zero = Some entry
entry_behind (entry ∷ entries) (suc n) = entry_behind entries n

-- the entry at a place: the input has place 0
abbrev pub entry_at : List Entry → ℕ → Option Entry
entry_at entries zero = None
entry_at entries (suc n) = entry_behind entries n

abbrev pub message_in : Option Entry → Option Message
message_in (Some (Recorded request)) = message_of request
message_in (Some (Arrived arrival)) = None
message_in None = None

-- the message that is recorded at a place of a sender
abbrev pub message_at : List Event → Text → ℕ → Option Message
message_at events sender place = message_in (entry_at (entries_of events sender) place)
