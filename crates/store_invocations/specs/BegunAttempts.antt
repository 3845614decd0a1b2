-- An attempt that is made ready.
use Rattle.std.specs.Prelude.{◌≡◌, ℕ, ◌+◌, true, if◌then◌else◌, List, [], None, length, map}
use Rattle.journal_model.specs.Notification.{Text}
use Rattle.journal_model.specs.Spelling.{frame_bytes}
use Rattle.journal_model.specs.Event.{Event}
use Rattle.journal_model.specs.Journal.{version_of, entries_of, object_state, recorded_arrivals}
use Rattle.journal_model.specs.Attempt.{attempts_begun}
use Rattle.journal_model.specs.Start.{start_payload}
use Rattle.protocol_types.specs.declared.message_type.MessageType.{MessageType}
use Rattle.protocol_types.specs.Version.{version_number}
use Rattle.store_tables.specs.declared.row.InvocationRow.{InvocationRow}
use Rattle.store_tables.specs.declared.row.Progress.{Progress}
use Rattle.store_tables.specs.declared.row.StateRow.{StateRow}
use Rattle.store_model.specs.KeptRecords.{state_row}
use Rattle.store_model.specs.Steps.{after_begin}
use Rattle.store_model.specs.Writes.{writes_of}
use Rattle.store_invocations.specs.declared.attempt.PreparedAttempt.{PreparedAttempt}
use Rattle.store_invocations.specs.Rows.{IsRowOf}

-- an attempt of an invocation, begun at a moment after these events
pub record IsBegun (events : List Event) (id : Text) (now : ℕ) (made : PreparedAttempt) : Type 0 where
  pub writes : made.writes.items ≡ writes_of events (Event.Begin id now)
  pub number : made.number ≡ 1 + attempts_begun events id
  pub version : version_number made.version ≡ version_of events id
  pub start : made.start ≡ frame_bytes MessageType.Start (start_payload events id now)
  pub known : made.known ≡ 1 + length (entries_of events id)
  pub arrivals : made.arrivals ≡ length (recorded_arrivals events id)
  -- the row before these writes
  pub row : IsRowOf events id made.row

-- how far an open invocation is then: nothing of its input was handed to the new attempt, and it may go on
abbrev pub begun_at : ℕ → Progress → Progress
begun_at now p = after_begin now (record p { heard = None; is_awake = true })

-- the state that an attempt of this row's invocation is shown: all of its object's, or none
abbrev pub shown_states : List Event → InvocationRow → List StateRow
shown_states events row = if row.is_whole then map (state_row row.object) (object_state events row.object) else []
