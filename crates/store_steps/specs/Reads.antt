-- What the store answers to a read of an object's state, and what is made ready of the read.
use Rattle.std.specs.Prelude.{◌≡◌, ℕ, Bool, ◌&&◌, if◌then◌else◌, [], ◌∷◌, Option, Some, None}
use Rattle.journal_model.specs.declared.notification.NotificationResult.{NotificationResult}
use Rattle.journal_model.specs.Delivery.{value_or_void}
use Rattle.journal_model.specs.State.{StateMap, value_of_key, state_keys}
use Rattle.journal_model.specs.Spelling.{notification_payload}
use Rattle.journal_model.specs.Journal.{completion}
use Rattle.protocol_types.specs.declared.feature.Feature.TheVariants.{Acknowledgement}
use Rattle.protocol_types.specs.Feature.{has_feature}
use Rattle.protocol_types.specs.declared.message_type.MessageType.TheVariants as types
use Rattle.store_frames.specs.declared.frame.RecordedCommand.{RecordedCommand}
use Rattle.store_frames.specs.declared.frame.StateUse.{StateUse}
use Rattle.store_frames.specs.declared.frame.StateUse.TheVariants as uses
use Rattle.store_tables.specs.declared.row.InvocationRow.{InvocationRow}
use Rattle.store_tables.specs.declared.row.Write.TheVariants.{SetProgress, AddEntry}
use Rattle.store_model.specs.KeptRecords.{answered_by}
use Rattle.store_model.specs.Steps.{grown}
use Rattle.store_arrivals.specs.Arrivals.{HasFewArrivals, entry_of_arrival}
use Rattle.store_steps.specs.declared.frame.FrameReply.TheVariants as replies
use Rattle.store_steps.specs.declared.frame.PreparedFrame.{PreparedFrame}
use Rattle.store_steps.specs.declared.reads.ReadAnswer.{ReadAnswer}
use Rattle.store_steps.specs.FrameAnswers.{after_recorded, command_row}

-- an attempt that asks for it is told only that the outcome is recorded, where its version has acknowledgements
abbrev pub acknowledged_if : (version n : ℕ) (asks : Bool) → Option ℕ
acknowledged_if version n asks = if asks && has_feature version Acknowledgement then Some n else None

-- ---- by what is kept of the read and of the object

-- the answer, from the state of the object; a command that is no read has none
abbrev pub answer_told : StateMap → StateUse → Option ℕ → Option ReadAnswer
answer_told state (uses.ReadValue key) (Some n) =
    Some (record { ty = types.GetLazyStateCompletionNotification; arrival = completion n (value_or_void (value_of_key state key)) })
answer_told state uses.ReadKeys (Some n) =
    Some (record { ty = types.GetLazyStateKeysCompletionNotification; arrival = completion n (NotificationResult.StateKeys (state_keys state)) })
answer_told state _ _ = None

-- the row of the invocation once the read is recorded
abbrev pub with_read : RecordedCommand → InvocationRow → InvocationRow
with_read command row = record row { progress = after_recorded command row.progress }

-- the read and its answer behind it are written, and how far the invocation is with both
pub record IsReadMade (row : InvocationRow) (command : RecordedCommand) (told : ReadAnswer) (made : PreparedFrame) : Type 0 where
  pub writes : HasFewArrivals row.progress → made.writes.items
      ≡ AddEntry (command_row row.id row.progress.entries command)
      ∷ AddEntry (entry_of_arrival (with_read command row) told.ty (answered_by told.arrival.id) (notification_payload told.arrival))
      ∷ SetProgress row.id (grown 1 1 (after_recorded command row.progress)) ∷ []
  pub reply : made.reply ≡ replies.Recorded row.progress.entries
  pub acknowledged : made.acknowledged ≡ None
