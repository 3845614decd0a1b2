-- A row as a frame that is read.
use Rattle.std.specs.Prelude.{ℕ, ◌<◌, Option, Some, None, is_some}
use Rattle.protocol_types.specs.declared.message_type.MessageType.TheVariants.{ProposeRunCompletionAck}
use Rattle.journal_model.specs.Notification.{Bytes}
use Rattle.journal_model.specs.Spelling.{frame_bytes, acknowledgement_payload}
use Rattle.store_tables.specs.declared.row.EntryRow.{EntryRow}
use Rattle.store_model.specs.Lookups.{row_frame}
use Rattle.store_live.specs.declared.input.FrameRead.{FrameRead}
use Rattle.store_live.specs.declared.input.NextRow.{NextRow}

-- what it tells: what is recorded, or that this outcome came
abbrev pub frame_told : Option ℕ → EntryRow → Bytes
frame_told None row = row_frame row
frame_told (Some completion) row = frame_bytes ProposeRunCompletionAck (acknowledgement_payload completion)

abbrev pub frame_as : Option ℕ → EntryRow → FrameRead
frame_as told row = record { place = row.place; is_arrival = is_some row.arrival; is_acknowledgement = is_some told; bytes = frame_told told row }

-- ordinals count from 1
abbrev pub IsCounted : NextRow → Type 0
IsCounted (NextRow.Entry place) = Unit {0}
IsCounted (NextRow.Arrival ordinal) = 0 < ordinal
