-- The texts of the statements, and which of them make a write.
use Rattle.std.specs.Prelude.{List, [], ◌∷◌, ℕ, codes, flat_map}
use Rattle.sqlite.specs.declared.types.Value.TheVariants.{Blob, Text}
use Rattle.sqlite_value.specs.Order.{Row}
use Rattle.sql_tables.specs.Cells.{long_cell}
use Rattle.sql_tables.specs.Causes.{Statement}
use Rattle.store_tables.specs.Records.{Write, entry_cells, invocation_cells, progress_cells, sleep_cells, state_cells}
use Rattle.store_tables.specs.declared.row.Write.TheVariants.{AddInvocation, SetProgress, AddEntry, PutState, DropState, DropStates, OpenSleep, CloseSleeps, CloseSleepsUntil, DropInvocation, DropEntries}

abbrev pub mark_text : List ℕ
mark_text = codes "INSERT INTO meta VALUES ('journal_store', 1)"

abbrev pub add_invocation_text : List ℕ
add_invocation_text = codes "INSERT INTO invocation VALUES (?1, ?2, ?3, ?4, ?5, ?6, ?7, ?8, ?9, ?10, ?11, ?12, ?13, ?14, ?15, ?16, ?17, ?18, ?19, ?20, ?21, ?22)"

abbrev pub set_progress_text : List ℕ
set_progress_text = codes "UPDATE invocation SET open_object = ?2, suspension = ?3, handed = ?4, closing = ?5, answer = ?6, error_code = ?7, error_behavior = ?8, error_delay = ?9, error_message = ?10, attempts = ?11, attempts_since_entry = ?12, first_moment = ?13, last_completion = ?14, entries = ?15, heard = ?16, arrivals = ?17, awake = ?18 WHERE id = ?1"

abbrev pub add_entry_text : List ℕ
add_entry_text = codes "INSERT INTO entry VALUES (?1, ?2, ?3, ?4, ?5, ?6, ?7, ?8, ?9)"

abbrev pub add_state_text : List ℕ
add_state_text = codes "INSERT INTO state VALUES (?1, ?2, ?3)"

abbrev pub drop_state_text : List ℕ
drop_state_text = codes "DELETE FROM state WHERE object = ?1 AND key = ?2"

abbrev pub drop_states_text : List ℕ
drop_states_text = codes "DELETE FROM state WHERE object = ?1"

abbrev pub marks_text : List ℕ
marks_text = codes "SELECT * FROM meta"

abbrev pub invocation_by_id_text : List ℕ
invocation_by_id_text = codes "SELECT * FROM invocation WHERE id = ?1"

abbrev pub open_invocation_text : List ℕ
open_invocation_text = codes "SELECT * FROM invocation WHERE open_object = ?1"

abbrev pub awake_ids_text : List ℕ
awake_ids_text = codes "SELECT id FROM invocation WHERE awake = ?1 ORDER BY id"

abbrev pub first_invocation_text : List ℕ
first_invocation_text = codes "SELECT * FROM invocation ORDER BY id LIMIT 1"

abbrev pub invocation_after_text : List ℕ
invocation_after_text = codes "SELECT * FROM invocation WHERE id > ?1 ORDER BY id LIMIT 1"

abbrev pub entry_at_text : List ℕ
entry_at_text = codes "SELECT * FROM entry WHERE invocation = ?1 AND place = ?2"

abbrev pub entry_by_completion_text : List ℕ
entry_by_completion_text = codes "SELECT * FROM entry WHERE invocation = ?1 AND completion = ?2"

abbrev pub entry_by_second_completion_text : List ℕ
entry_by_second_completion_text = codes "SELECT * FROM entry WHERE invocation = ?1 AND second_completion = ?2"

abbrev pub entry_by_answered_text : List ℕ
entry_by_answered_text = codes "SELECT * FROM entry WHERE invocation = ?1 AND answered = ?2"

abbrev pub arrival_at_text : List ℕ
arrival_at_text = codes "SELECT * FROM entry WHERE invocation = ?1 AND arrival = ?2"

abbrev pub arrivals_after_text : List ℕ
arrivals_after_text = codes "SELECT * FROM entry WHERE invocation = ?1 AND arrival > ?2 ORDER BY arrival"

abbrev pub entries_text : List ℕ
entries_text = codes "SELECT * FROM entry WHERE invocation = ?1 ORDER BY place"

abbrev pub state_at_text : List ℕ
state_at_text = codes "SELECT * FROM state WHERE object = ?1 AND key = ?2"

abbrev pub states_text : List ℕ
states_text = codes "SELECT * FROM state WHERE object = ?1 ORDER BY key"

abbrev pub open_sleep_text : List ℕ
open_sleep_text = codes "INSERT INTO sleep VALUES (?1, ?2, ?3)"

abbrev pub close_sleeps_text : List ℕ
close_sleeps_text = codes "DELETE FROM sleep WHERE invocation = ?1"

abbrev pub close_sleeps_until_text : List ℕ
close_sleeps_until_text = codes "DELETE FROM sleep WHERE moment <= ?1"

abbrev pub drop_invocation_text : List ℕ
drop_invocation_text = codes "DELETE FROM invocation WHERE id = ?1"

abbrev pub drop_entries_text : List ℕ
drop_entries_text = codes "DELETE FROM entry WHERE invocation = ?1"

abbrev pub sleeps_until_text : List ℕ
sleeps_until_text = codes "SELECT * FROM sleep WHERE moment <= ?1 ORDER BY invocation, moment, completion"

abbrev pub first_sleep_text : List ℕ
first_sleep_text = codes "SELECT * FROM sleep WHERE moment >= ?1 ORDER BY moment LIMIT 1"

-- ---- writes

abbrev pub statement : List ℕ → Row → Statement
statement sql params = record { sql = sql; params = params }

abbrev pub drop_state : List ℕ → List ℕ → Statement
drop_state object key = statement drop_state_text (Text object ∷ Blob key ∷ [])

abbrev pub statements_of : Write → List Statement
statements_of (AddInvocation invocation) = statement add_invocation_text (invocation_cells invocation) ∷ []
statements_of (SetProgress id progress) = statement set_progress_text (Text id ∷ progress_cells progress) ∷ []
statements_of (AddEntry entry) = statement add_entry_text (entry_cells entry) ∷ []
statements_of (PutState state) = drop_state state.object state.key ∷ statement add_state_text (state_cells state) ∷ []
statements_of (DropState object key) = drop_state object key ∷ []
statements_of (DropStates object) = statement drop_states_text (Text object ∷ []) ∷ []
statements_of (OpenSleep sleep) = statement open_sleep_text (sleep_cells sleep) ∷ []
statements_of (CloseSleeps invocation) = statement close_sleeps_text (Text invocation ∷ []) ∷ []
statements_of (CloseSleepsUntil moment) = statement close_sleeps_until_text (long_cell moment ∷ []) ∷ []
statements_of (DropInvocation id) = statement drop_invocation_text (Text id ∷ []) ∷ []
statements_of (DropEntries invocation) = statement drop_entries_text (Text invocation ∷ []) ∷ []

-- of one write after another
abbrev pub statements_of_all : List Write → List Statement
statements_of_all writes = flat_map statements_of writes
