-- The fields of a start.
use Rattle.std.specs.Prelude.{IfSome, IsUtf8, List, [], map, ℕ, ◌-◌, ◌<◌, ◌^◌, ◌∷◌}
use Rattle.std.specs.List.{AllByRecursion}
use Rattle.protocol_wire.specs.Wire.{Field}
use Rattle.protocol_wire.specs.Selection.{bool, optional_text, records, text, u32, u64}
use Rattle.protocol_wire.specs.Parts.{Part, bool_number, optional_bytes, payload_of, plain_bytes, plain_number, repeated_bytes}
use Rattle.protocol_table.specs.declared.table.start.TheConstants.{ID, DEBUG_ID, KNOWN_ENTRIES, STATE_MAP, PARTIAL_STATE, KEY, RETRY_COUNT_SINCE_LAST_STORED_ENTRY, DURATION_SINCE_LAST_STORED_ENTRY, RANDOM_SEED, SCOPE, LIMIT_KEY, IDEMPOTENCY_KEY}
use Rattle.protocol_records.specs.StateEntry.{state_entry_of, state_entry_parts, StateEntryFits}
use Rattle.protocol_records.specs.declared.start.StartMessage.{StartMessage}

abbrev pub start_message_of : ℕ → List Field → StartMessage
start_message_of levels fs = record {
  id = text ID.number fs;
  debug_id = text DEBUG_ID.number fs;
  known_entries = u32 KNOWN_ENTRIES.number fs;
  state_map = records (state_entry_of (levels - 1)) STATE_MAP.number fs;
  partial_state = bool PARTIAL_STATE.number fs;
  key = text KEY.number fs;
  retry_count_since_last_stored_entry = u32 RETRY_COUNT_SINCE_LAST_STORED_ENTRY.number fs;
  duration_since_last_stored_entry = u64 DURATION_SINCE_LAST_STORED_ENTRY.number fs;
  random_seed = u64 RANDOM_SEED.number fs;
  scope = optional_text SCOPE.number fs;
  limit_key = optional_text LIMIT_KEY.number fs;
  idempotency_key = optional_text IDEMPOTENCY_KEY.number fs;
}

abbrev pub start_parts : StartMessage → List Part
start_parts v =
    plain_bytes ID.number v.id ∷
    plain_bytes DEBUG_ID.number v.debug_id ∷
    plain_number KNOWN_ENTRIES.number v.known_entries ∷
    repeated_bytes STATE_MAP.number (map (λ r. payload_of (state_entry_parts r)) v.state_map) ∷
    plain_number PARTIAL_STATE.number (bool_number v.partial_state) ∷
    plain_bytes KEY.number v.key ∷
    plain_number RETRY_COUNT_SINCE_LAST_STORED_ENTRY.number v.retry_count_since_last_stored_entry ∷
    plain_number DURATION_SINCE_LAST_STORED_ENTRY.number v.duration_since_last_stored_entry ∷
    plain_number RANDOM_SEED.number v.random_seed ∷
    optional_bytes SCOPE.number v.scope ∷
    optional_bytes LIMIT_KEY.number v.limit_key ∷
    optional_bytes IDEMPOTENCY_KEY.number v.idempotency_key ∷ []

pub record StartFits (levels : ℕ) (v : StartMessage) : Type 0 where
  pub level : 0 < levels
  pub debug_id : IsUtf8 v.debug_id
  pub known_entries : v.known_entries < 2 ^ 32
  pub state_map : AllByRecursion (StateEntryFits (levels - 1)) v.state_map
  pub key : IsUtf8 v.key
  pub retry_count_since_last_stored_entry : v.retry_count_since_last_stored_entry < 2 ^ 32
  pub duration_since_last_stored_entry : v.duration_since_last_stored_entry < 2 ^ 64
  pub random_seed : v.random_seed < 2 ^ 64
  pub scope : IfSome v.scope IsUtf8
  pub limit_key : IfSome v.limit_key IsUtf8
  pub idempotency_key : IfSome v.idempotency_key IsUtf8
