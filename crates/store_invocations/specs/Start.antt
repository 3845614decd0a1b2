-- The start of an attempt, by the rows of its invocation and of its object's state.
use Rattle.std.specs.Prelude.{ℕ, ◌-◌, ◌==◌, Bool, true, false, not, if◌then◌else◌, List, ◌++◌, map, None}
use Rattle.journal_model.specs.Notification.{Bytes}
use Rattle.journal_model.specs.Spelling.{plain_number, plain_bytes, repeated_bytes}
use Rattle.protocol_records.specs.declared.start.StateEntry.{StateEntry}
use Rattle.protocol_records.specs.declared.start.StartMessage.{StartMessage}
use Rattle.store_tables.specs.declared.row.InvocationRow.{InvocationRow}
use Rattle.store_tables.specs.declared.row.Progress.{Progress}
use Rattle.store_tables.specs.declared.row.StateRow.{StateRow}

abbrev pub state_record : StateRow → StateEntry
state_record row = record { key = row.key; value = row.value }

-- how long ago the first attempt since the last entry was begun
abbrev pub since_first : Progress → ℕ → ℕ
since_first progress now = if progress.attempts_since_entry == 0 then 0 else now - progress.first_moment

abbrev pub start_record : InvocationRow → List StateRow → ℕ → StartMessage
start_record row states now = record {
  id = row.id;
  debug_id = row.id;
  known_entries = row.progress.entries;
  state_map = map state_record states;
  partial_state = not row.is_whole;
  key = row.object;
  retry_count_since_last_stored_entry = row.progress.attempts_since_entry;
  duration_since_last_stored_entry = since_first row.progress now;
  random_seed = row.seed;
  scope = None;
  limit_key = None;
  idempotency_key = None;
}

abbrev pub state_bytes : StateRow → Bytes
state_bytes row = plain_bytes 1 row.key ++ plain_bytes 2 row.value

abbrev pub partial_number : Bool → ℕ
partial_number true = 0
partial_number false = 1

-- its canonical payload
abbrev pub start_frame_payload : InvocationRow → List StateRow → ℕ → Bytes
start_frame_payload row states now =
    plain_bytes 1 row.id ++ (plain_bytes 2 row.id ++ (plain_number 3 row.progress.entries
    ++ (repeated_bytes 4 (map state_bytes states) ++ (plain_number 5 (partial_number row.is_whole)
    ++ (plain_bytes 6 row.object ++ (plain_number 7 row.progress.attempts_since_entry
    ++ (plain_number 8 (since_first row.progress now) ++ plain_number 9 row.seed)))))))
