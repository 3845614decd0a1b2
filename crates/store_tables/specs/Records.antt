-- What the store keeps, with no word of SQL, and the rows that it is kept in.
use Rattle.std.specs.Prelude.{ℕ, ◌<◌, ◌^◌, List, [], ◌∷◌, ◌++◌, map, filter, not, ◌&&◌, Bool, bytes_eq, codes, Option, None, Some, IfSome, IsUtf8, if◌then◌else◌}
use Rattle.std.specs.List.{AllByRecursion}
use Rattle.std.specs.List.Sorted.{IsPermutation}
use Rattle.std.specs.Int.{w64, cast_signed}
use Rattle.std.specs.Ordering.{int_cmp, is_ge, is_le}
use Rattle.sqlite.specs.declared.types.Value.{Value}
use Rattle.sqlite.specs.declared.types.Value.TheVariants.{Text, Blob}
use Rattle.sqlite.specs.Values.{or_null}
use Rattle.sqlite_value.specs.Order.{Row, column}
use Rattle.sqlite_trees.specs.Tree.{Trees}
use Rattle.protocol_types.specs.MessageType.{type_number}
use Rattle.protocol_types.specs.Version.{version_number}
use Rattle.sql_tables.specs.Cells.{IsLong, IsShort, flag_cell, long_cell, short_cell}
use Rattle.sql_tables.specs.Content.{HasRows}
use Rattle.store_tables.specs.Kinds.{kept_kind}
pub use Rattle.store_tables.specs.declared.row.Closing.{Closing}
pub use Rattle.store_tables.specs.declared.row.LastError.{LastError}
pub use Rattle.store_tables.specs.declared.row.Progress.{Progress}
pub use Rattle.store_tables.specs.declared.row.InvocationRow.{InvocationRow}
pub use Rattle.store_tables.specs.declared.row.IdRow.{IdRow}
pub use Rattle.store_tables.specs.declared.row.EntryRow.{EntryRow}
pub use Rattle.store_tables.specs.declared.row.StateRow.{StateRow}
pub use Rattle.store_tables.specs.declared.row.SleepRow.{SleepRow}
pub use Rattle.store_tables.specs.declared.row.Mark.{Mark}
pub use Rattle.store_tables.specs.declared.row.Write.{Write}
use Rattle.store_tables.specs.declared.row.Closing.TheVariants.{Ended, Failed}
use Rattle.store_tables.specs.declared.row.Write.TheVariants.{AddInvocation, SetProgress, AddEntry, PutState, DropState, DropStates, OpenSleep, CloseSleeps, CloseSleepsUntil, DropInvocation, DropEntries}

-- no order is kept of them
pub record Records : Type 0 where
  pub invocations : List InvocationRow
  pub entries : List EntryRow
  pub states : List StateRow
  pub sleeps : List SleepRow

abbrev pub no_records : Records
no_records = record { invocations = []; entries = []; states = []; sleeps = [] }

-- ---- what the code can hold

pub record FitsError (e : LastError) : Type 0 where
  pub code : IsShort e.code
  pub behavior : IsShort e.behavior
  pub delay : IfSome e.delay IsLong
  pub message : IsUtf8 e.message

pub record FitsProgress (p : Progress) : Type 0 where
  pub open_object : IfSome p.open_object IsUtf8
  pub handed : IfSome p.handed IsShort
  pub last_error : IfSome p.last_error FitsError
  pub attempts : IsShort p.attempts
  pub attempts_since_entry : IsShort p.attempts_since_entry
  pub first_moment : IsLong p.first_moment
  pub last_completion : IsShort p.last_completion
  pub entries : IsShort p.entries
  pub heard : IfSome p.heard IsShort
  pub arrivals : IsShort p.arrivals

pub record FitsInvocation (i : InvocationRow) : Type 0 where
  pub id : IsUtf8 i.id
  pub object : IsUtf8 i.object
  pub seed : IsLong i.seed
  pub progress : FitsProgress i.progress

abbrev pub FitsId : IdRow → Type 0
FitsId i = IsUtf8 i.id

pub record FitsEntry (e : EntryRow) : Type 0 where
  pub invocation : IsUtf8 e.invocation
  pub place : IsShort e.place
  pub kind : type_number e.kind < 2 ^ 16
  pub completion : IfSome e.completion IsShort
  pub second_completion : IfSome e.second_completion IsShort
  pub answered : IfSome e.answered IsShort
  pub arrival : IfSome e.arrival IsShort
  pub moment : IsLong e.moment

abbrev pub FitsState : StateRow → Type 0
FitsState s = IsUtf8 s.object

pub record FitsSleep (s : SleepRow) : Type 0 where
  pub moment : IsLong s.moment
  pub invocation : IsUtf8 s.invocation
  pub completion : IsShort s.completion

-- ---- as rows

abbrev pub closing_cell : Closing → Value
closing_cell Ended = short_cell 1
closing_cell Failed = short_cell 2

-- the delay, of an error that is there
abbrev pub delay_of : Option LastError → Option ℕ
delay_of None = None
delay_of (Some e) = e.delay

abbrev pub progress_cells : Progress → Row
progress_cells p =
    or_null Text p.open_object ∷ or_null Blob p.suspension ∷ or_null short_cell p.handed ∷ or_null closing_cell p.closing ∷ or_null Blob p.answer
    ∷ or_null (λ e. short_cell e.code) p.last_error ∷ or_null (λ e. short_cell e.behavior) p.last_error ∷ or_null long_cell (delay_of p.last_error) ∷ or_null (λ e. Text e.message) p.last_error
    ∷ short_cell p.attempts ∷ short_cell p.attempts_since_entry ∷ long_cell p.first_moment ∷ short_cell p.last_completion ∷ short_cell p.entries
    ∷ or_null short_cell p.heard ∷ short_cell p.arrivals ∷ flag_cell p.is_awake ∷ []

abbrev pub invocation_cells : InvocationRow → Row
invocation_cells i = Text i.id ∷ Text i.object ∷ short_cell (version_number i.version) ∷ long_cell i.seed ∷ flag_cell i.is_whole ∷ progress_cells i.progress

abbrev pub id_cells : IdRow → Row
id_cells i = Text i.id ∷ []

-- its id without the rest of it
abbrev pub id_row : InvocationRow → IdRow
id_row i = record { id = i.id }

abbrev pub entry_cells : EntryRow → Row
entry_cells e =
    Text e.invocation ∷ short_cell e.place ∷ short_cell (kept_kind e.kind) ∷ Blob e.payload
    ∷ or_null short_cell e.completion ∷ or_null short_cell e.second_completion ∷ or_null short_cell e.answered
    ∷ or_null short_cell e.arrival ∷ long_cell e.moment ∷ []

abbrev pub state_cells : StateRow → Row
state_cells s = Text s.object ∷ Blob s.key ∷ Blob s.value ∷ []

abbrev pub sleep_cells : SleepRow → Row
sleep_cells s = long_cell s.moment ∷ Text s.invocation ∷ short_cell s.completion ∷ []

-- the row by which a database is a store's
abbrev pub cells_of_mark : Mark → Row
cells_of_mark m = Text m.name ∷ short_cell m.version ∷ []

abbrev pub the_mark : Mark
the_mark = record { name = codes "journal_store"; version = 1 }

abbrev pub mark_cells : Row
mark_cells = cells_of_mark the_mark

pub record FitsMark (m : Mark) : Type 0 where
  pub name : IsUtf8 m.name
  pub version : IsShort m.version

-- the first columns of the table `meta` are the mark's, and it has one row
abbrev pub IsMarked : Trees → Type 0
IsMarked db = IsPermutation (map (λ r. column r 1 ∷ column r 2 ∷ []) (db 3)) (mark_cells ∷ [])

-- the tables have these records, in any order
pub record Holds (db : Trees) (r : Records) : Type 0 where
  pub mark : HasRows (db 3) (mark_cells ∷ [])
  pub invocations : HasRows (db 1) (map invocation_cells r.invocations)
  pub entries : HasRows (db 0) (map entry_cells r.entries)
  pub states : HasRows (db 5) (map state_cells r.states)
  pub sleeps : HasRows (db 4) (map sleep_cells r.sleeps)
  pub fit_invocations : AllByRecursion FitsInvocation r.invocations
  pub fit_entries : AllByRecursion FitsEntry r.entries
  pub fit_states : AllByRecursion FitsState r.states
  pub fit_sleeps : AllByRecursion FitsSleep r.sleeps

-- ---- changes

abbrev pub with_invocation : InvocationRow → Records → Records
with_invocation i r = record r { invocations = r.invocations ++ i ∷ [] }

abbrev pub set_in : List ℕ → Progress → InvocationRow → InvocationRow
set_in id p i = if bytes_eq i.id id then record i { progress = p } else i

abbrev pub with_progress : List ℕ → Progress → Records → Records
with_progress id p r = record r { invocations = map (set_in id p) r.invocations }

abbrev pub with_entry : EntryRow → Records → Records
with_entry e r = record r { entries = r.entries ++ e ∷ [] }

abbrev pub is_of_object : List ℕ → StateRow → Bool
is_of_object object s = bytes_eq s.object object

abbrev pub is_at_key : List ℕ → List ℕ → StateRow → Bool
is_at_key object key s = bytes_eq s.object object && bytes_eq s.key key

abbrev pub without_state : List ℕ → List ℕ → Records → Records
without_state object key r = record r { states = filter (λ s. not (is_at_key object key s)) r.states }

abbrev pub without_states : List ℕ → Records → Records
without_states object r = record r { states = filter (λ s. not (is_of_object object s)) r.states }

abbrev pub with_state : StateRow → Records → Records
with_state s r = record r { states = r.states ++ s ∷ [] }

abbrev pub with_sleep : SleepRow → Records → Records
with_sleep s r = record r { sleeps = r.sleeps ++ s ∷ [] }

abbrev pub is_sleep_of : List ℕ → SleepRow → Bool
is_sleep_of invocation s = bytes_eq s.invocation invocation

-- it ends at that moment or before it, both as integers with a sign
abbrev pub ends_by : ℕ → SleepRow → Bool
ends_by moment s = is_le (int_cmp (cast_signed w64 s.moment) (cast_signed w64 moment))

-- it ends at that moment or after it, in the same order
abbrev pub ends_from : ℕ → SleepRow → Bool
ends_from moment s = is_ge (int_cmp (cast_signed w64 s.moment) (cast_signed w64 moment))

abbrev pub without_sleeps : List ℕ → Records → Records
without_sleeps invocation r = record r { sleeps = filter (λ s. not (is_sleep_of invocation s)) r.sleeps }

abbrev pub without_sleeps_until : ℕ → Records → Records
without_sleeps_until moment r = record r { sleeps = filter (λ s. not (ends_by moment s)) r.sleeps }

abbrev pub is_named : List ℕ → InvocationRow → Bool
is_named id i = bytes_eq i.id id

abbrev pub without_invocation : List ℕ → Records → Records
without_invocation id r = record r { invocations = filter (λ i. not (is_named id i)) r.invocations }

abbrev pub is_entry_of : List ℕ → EntryRow → Bool
is_entry_of invocation e = bytes_eq e.invocation invocation

abbrev pub without_entries : List ℕ → Records → Records
without_entries invocation r = record r { entries = filter (λ e. not (is_entry_of invocation e)) r.entries }

-- the records after a write, and after each in turn
abbrev pub applied : Write → Records → Records
applied (AddInvocation invocation) r = with_invocation invocation r
applied (SetProgress id progress) r = with_progress id progress r
applied (AddEntry entry) r = with_entry entry r
applied (PutState state) r = with_state state (without_state state.object state.key r)
applied (DropState object key) r = without_state object key r
applied (DropStates object) r = without_states object r
applied (OpenSleep sleep) r = with_sleep sleep r
applied (CloseSleeps invocation) r = without_sleeps invocation r
applied (CloseSleepsUntil moment) r = without_sleeps_until moment r
applied (DropInvocation id) r = without_invocation id r
applied (DropEntries invocation) r = without_entries invocation r

abbrev pub applied_all : List Write → Records → Records
applied_all [] r = r
applied_all (w ∷ ws) r = applied_all ws (applied w r)
