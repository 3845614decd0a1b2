-- The texts that change the tables are one statement each.
use Rattle.std.proofs.Common.{◌≡◌, ℕ, true, List, [], ◌∷◌, length, refl, arith}
use Rattle.sqlite.specs.declared.types.Value.TheVariants.{Blob, Text}
use Rattle.sqlite.specs.Listing.{understood}
use Rattle.sqlite.proofs.Callers.{IsPlain, command_of}
use Rattle.sqlite_tied.specs.Compute.{everything}
use Rattle.sql_tables.specs.Cells.{long_cell}
use Rattle.sql_tables.proofs.Readable.{IsWhole}
use Rattle.sql_tables.proofs.Refused.{IsChange, change_by, is_change}
use Rattle.store_tables.specs.Tables.{store_schema}
use Rattle.store_tables.specs.Statements.{add_entry_text, add_invocation_text, add_state_text, close_sleeps_text, close_sleeps_until_text, drop_entries_text, drop_invocation_text, drop_state_text, drop_states_text, open_sleep_text, set_progress_text}
use Rattle.store_tables.specs.Records.{EntryRow, InvocationRow, Progress, SleepRow, StateRow, entry_cells, invocation_cells, progress_cells, sleep_cells, state_cells}

whole_add_invocation : IsWhole (understood store_schema add_invocation_text) (length add_invocation_text) 22
unfolding understood everything
whole_add_invocation = (omega arith, refl)

changes_add_invocation : is_change (command_of (understood store_schema add_invocation_text)) ≡ true
unfolding understood everything
changes_add_invocation = refl

plain_add_invocation : IsPlain (understood store_schema add_invocation_text)
unfolding understood everything
plain_add_invocation = (refl, refl)

pub adds_invocation : (i : InvocationRow) → IsChange store_schema add_invocation_text (invocation_cells i)
adds_invocation i = change_by store_schema add_invocation_text (invocation_cells i) (understood store_schema add_invocation_text) refl plain_add_invocation whole_add_invocation changes_add_invocation

whole_add_entry : IsWhole (understood store_schema add_entry_text) (length add_entry_text) 9
unfolding understood everything
whole_add_entry = (omega arith, refl)

changes_add_entry : is_change (command_of (understood store_schema add_entry_text)) ≡ true
unfolding understood everything
changes_add_entry = refl

plain_add_entry : IsPlain (understood store_schema add_entry_text)
unfolding understood everything
plain_add_entry = (refl, refl)

pub adds_entry : (e : EntryRow) → IsChange store_schema add_entry_text (entry_cells e)
adds_entry e = change_by store_schema add_entry_text (entry_cells e) (understood store_schema add_entry_text) refl plain_add_entry whole_add_entry changes_add_entry

whole_add_state : IsWhole (understood store_schema add_state_text) (length add_state_text) 3
unfolding understood everything
whole_add_state = (omega arith, refl)

changes_add_state : is_change (command_of (understood store_schema add_state_text)) ≡ true
unfolding understood everything
changes_add_state = refl

plain_add_state : IsPlain (understood store_schema add_state_text)
unfolding understood everything
plain_add_state = (refl, refl)

pub adds_state : (s : StateRow) → IsChange store_schema add_state_text (state_cells s)
adds_state s = change_by store_schema add_state_text (state_cells s) (understood store_schema add_state_text) refl plain_add_state whole_add_state changes_add_state

whole_open_sleep : IsWhole (understood store_schema open_sleep_text) (length open_sleep_text) 3
unfolding understood everything
whole_open_sleep = (omega arith, refl)

changes_open_sleep : is_change (command_of (understood store_schema open_sleep_text)) ≡ true
unfolding understood everything
changes_open_sleep = refl

plain_open_sleep : IsPlain (understood store_schema open_sleep_text)
unfolding understood everything
plain_open_sleep = (refl, refl)

pub opens_sleep : (s : SleepRow) → IsChange store_schema open_sleep_text (sleep_cells s)
opens_sleep s = change_by store_schema open_sleep_text (sleep_cells s) (understood store_schema open_sleep_text) refl plain_open_sleep whole_open_sleep changes_open_sleep

whole_drop_state : IsWhole (understood store_schema drop_state_text) (length drop_state_text) 2
unfolding understood everything
whole_drop_state = (omega arith, refl)

changes_drop_state : is_change (command_of (understood store_schema drop_state_text)) ≡ true
unfolding understood everything
changes_drop_state = refl

plain_drop_state : IsPlain (understood store_schema drop_state_text)
unfolding understood everything
plain_drop_state = (refl, refl)

pub drops_state : (object key : List ℕ) → IsChange store_schema drop_state_text (Text object ∷ Blob key ∷ [])
drops_state object key = change_by store_schema drop_state_text (Text object ∷ Blob key ∷ []) (understood store_schema drop_state_text) refl plain_drop_state whole_drop_state changes_drop_state

whole_drop_states : IsWhole (understood store_schema drop_states_text) (length drop_states_text) 1
unfolding understood everything
whole_drop_states = (omega arith, refl)

changes_drop_states : is_change (command_of (understood store_schema drop_states_text)) ≡ true
unfolding understood everything
changes_drop_states = refl

plain_drop_states : IsPlain (understood store_schema drop_states_text)
unfolding understood everything
plain_drop_states = (refl, refl)

pub drops_states : (object : List ℕ) → IsChange store_schema drop_states_text (Text object ∷ [])
drops_states object = change_by store_schema drop_states_text (Text object ∷ []) (understood store_schema drop_states_text) refl plain_drop_states whole_drop_states changes_drop_states

whole_close_sleeps : IsWhole (understood store_schema close_sleeps_text) (length close_sleeps_text) 1
unfolding understood everything
whole_close_sleeps = (omega arith, refl)

changes_close_sleeps : is_change (command_of (understood store_schema close_sleeps_text)) ≡ true
unfolding understood everything
changes_close_sleeps = refl

plain_close_sleeps : IsPlain (understood store_schema close_sleeps_text)
unfolding understood everything
plain_close_sleeps = (refl, refl)

pub closes_sleeps : (invocation : List ℕ) → IsChange store_schema close_sleeps_text (Text invocation ∷ [])
closes_sleeps invocation = change_by store_schema close_sleeps_text (Text invocation ∷ []) (understood store_schema close_sleeps_text) refl plain_close_sleeps whole_close_sleeps changes_close_sleeps

whole_close_sleeps_until : IsWhole (understood store_schema close_sleeps_until_text) (length close_sleeps_until_text) 1
unfolding understood everything
whole_close_sleeps_until = (omega arith, refl)

changes_close_sleeps_until : is_change (command_of (understood store_schema close_sleeps_until_text)) ≡ true
unfolding understood everything
changes_close_sleeps_until = refl

plain_close_sleeps_until : IsPlain (understood store_schema close_sleeps_until_text)
unfolding understood everything
plain_close_sleeps_until = (refl, refl)

pub closes_sleeps_until : (moment : ℕ) → IsChange store_schema close_sleeps_until_text (long_cell moment ∷ [])
closes_sleeps_until moment = change_by store_schema close_sleeps_until_text (long_cell moment ∷ []) (understood store_schema close_sleeps_until_text) refl plain_close_sleeps_until whole_close_sleeps_until changes_close_sleeps_until

whole_set_progress : IsWhole (understood store_schema set_progress_text) (length set_progress_text) 18
unfolding understood everything
whole_set_progress = (omega arith, refl)

changes_set_progress : is_change (command_of (understood store_schema set_progress_text)) ≡ true
unfolding understood everything
changes_set_progress = refl

plain_set_progress : IsPlain (understood store_schema set_progress_text)
unfolding understood everything
plain_set_progress = (refl, refl)

pub sets_progress : (id : List ℕ) (p : Progress) → IsChange store_schema set_progress_text (Text id ∷ progress_cells p)
sets_progress id p = change_by store_schema set_progress_text (Text id ∷ progress_cells p) (understood store_schema set_progress_text) refl plain_set_progress whole_set_progress changes_set_progress

whole_drop_invocation : IsWhole (understood store_schema drop_invocation_text) (length drop_invocation_text) 1
unfolding understood everything
whole_drop_invocation = (omega arith, refl)

changes_drop_invocation : is_change (command_of (understood store_schema drop_invocation_text)) ≡ true
unfolding understood everything
changes_drop_invocation = refl

plain_drop_invocation : IsPlain (understood store_schema drop_invocation_text)
unfolding understood everything
plain_drop_invocation = (refl, refl)

pub drops_invocation : (id : List ℕ) → IsChange store_schema drop_invocation_text (Text id ∷ [])
drops_invocation id = change_by store_schema drop_invocation_text (Text id ∷ []) (understood store_schema drop_invocation_text) refl plain_drop_invocation whole_drop_invocation changes_drop_invocation

whole_drop_entries : IsWhole (understood store_schema drop_entries_text) (length drop_entries_text) 1
unfolding understood everything
whole_drop_entries = (omega arith, refl)

changes_drop_entries : is_change (command_of (understood store_schema drop_entries_text)) ≡ true
unfolding understood everything
changes_drop_entries = refl

plain_drop_entries : IsPlain (understood store_schema drop_entries_text)
unfolding understood everything
plain_drop_entries = (refl, refl)

pub drops_entries : (invocation : List ℕ) → IsChange store_schema drop_entries_text (Text invocation ∷ [])
drops_entries invocation = change_by store_schema drop_entries_text (Text invocation ∷ []) (understood store_schema drop_entries_text) refl plain_drop_entries whole_drop_entries changes_drop_entries
