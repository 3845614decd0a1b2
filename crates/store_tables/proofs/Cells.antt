-- The cells of each record pass the rules on a row alone, and an insert of them is accepted.
use Rattle.std.proofs.Common.{◌≡◌, ℕ, true, List, Option, None, Some, is_some, refl}
use Rattle.sqlite.specs.declared.types.Value.{Value}
use Rattle.sqlite.specs.declared.types.Value.TheVariants.{Blob, Text}
use Rattle.sqlite.specs.Values.{or_null}
use Rattle.sqlite.specs.Kind.{Kind}
use Rattle.sqlite.specs.Kind.TheVariants as kind
use Rattle.sqlite_schema.specs.Rules.{is_of}
use Rattle.sqlite_typing.specs.Types.{class_of}
use Rattle.sql_tables.specs.Cells.{long_cell, short_cell}
use Rattle.sql_tables.proofs.Places.{AreTyped}
use Rattle.store_tables.specs.Records.{Closing, EntryRow, InvocationRow, LastError, SleepRow, StateRow, closing_cell, delay_of, entry_cells, invocation_cells, sleep_cells, state_cells}
use Rattle.store_tables.specs.declared.row.Closing.TheVariants.{Ended, Failed}
use Rattle.store_tables.specs.Tables.{entry_columns, invocation_columns, sleep_columns, state_columns}

-- ---- a cell that is null or not is of its column's type

of_kind : {X : Type 0} (k : Kind) (cell : X → Value) → ((x : X) → is_of k (cell x) ≡ true) → (o : Option X) → is_of k (or_null cell o) ≡ true
of_kind k cell each None = refl
of_kind k cell each (Some x) = each x

pub shorts : (o : Option ℕ) → is_of kind.Integer (or_null short_cell o) ≡ true
shorts = of_kind kind.Integer short_cell (λ n. refl)

longs : (o : Option ℕ) → is_of kind.Integer (or_null long_cell o) ≡ true
longs = of_kind kind.Integer long_cell (λ n. refl)

texts : (o : Option (List ℕ)) → is_of kind.Text (or_null Text o) ≡ true
texts = of_kind kind.Text Text (λ t. refl)

blobs : (o : Option (List ℕ)) → is_of kind.Blob (or_null Blob o) ≡ true
blobs = of_kind kind.Blob Blob (λ b. refl)

closings : (o : Option Closing) → is_of kind.Integer (or_null closing_cell o) ≡ true
closings None = refl
closings (Some Ended) = refl
closings (Some Failed) = refl

error_codes : (o : Option LastError) → is_of kind.Integer (or_null (λ (e : LastError). short_cell e.code) o) ≡ true
error_codes = of_kind kind.Integer (λ (e : LastError). short_cell e.code) (λ e. refl)

error_behaviors : (o : Option LastError) → is_of kind.Integer (or_null (λ (e : LastError). short_cell e.behavior) o) ≡ true
error_behaviors = of_kind kind.Integer (λ (e : LastError). short_cell e.behavior) (λ e. refl)

error_messages : (o : Option LastError) → is_of kind.Text (or_null (λ (e : LastError). Text e.message) o) ≡ true
error_messages = of_kind kind.Text (λ (e : LastError). Text e.message) (λ e. refl)

pub typed_invocation : (i : InvocationRow) → AreTyped invocation_columns (invocation_cells i)
typed_invocation i = record {
  typed = rw (
    texts i.progress.open_object,
    blobs i.progress.suspension,
    shorts i.progress.handed,
    closings i.progress.closing,
    blobs i.progress.answer,
    error_codes i.progress.last_error,
    error_behaviors i.progress.last_error,
    longs (delay_of i.progress.last_error),
    error_messages i.progress.last_error,
    shorts i.progress.heard,
  ) refl;
  present = λ id. refl;
}

pub typed_entry : (e : EntryRow) → AreTyped entry_columns (entry_cells e)
typed_entry e = record { typed = rw (shorts e.completion, shorts e.second_completion, shorts e.answered, shorts e.arrival) refl; present = λ id. refl }

pub typed_state : (s : StateRow) → AreTyped state_columns (state_cells s)
typed_state s = record { typed = refl; present = λ id. refl }

pub typed_sleep : (s : SleepRow) → AreTyped sleep_columns (sleep_cells s)
typed_sleep s = record { typed = refl; present = λ id. refl }

-- ---- a parameter that is null or not has a class

class_or_null : {X : Type 0} (cell : X → Value) → ((x : X) → is_some (class_of (cell x)) ≡ true) → (o : Option X) → is_some (class_of (or_null cell o)) ≡ true
class_or_null cell each None = refl
class_or_null cell each (Some x) = each x

pub class_shorts : (o : Option ℕ) → is_some (class_of (or_null short_cell o)) ≡ true
class_shorts = class_or_null short_cell (λ n. refl)

pub class_longs : (o : Option ℕ) → is_some (class_of (or_null long_cell o)) ≡ true
class_longs = class_or_null long_cell (λ n. refl)

pub class_texts : (o : Option (List ℕ)) → is_some (class_of (or_null Text o)) ≡ true
class_texts = class_or_null Text (λ t. refl)

pub class_blobs : (o : Option (List ℕ)) → is_some (class_of (or_null Blob o)) ≡ true
class_blobs = class_or_null Blob (λ b. refl)

pub class_closings : (o : Option Closing) → is_some (class_of (or_null closing_cell o)) ≡ true
class_closings None = refl
class_closings (Some Ended) = refl
class_closings (Some Failed) = refl

pub class_codes : (o : Option LastError) → is_some (class_of (or_null (λ (e : LastError). short_cell e.code) o)) ≡ true
class_codes = class_or_null (λ (e : LastError). short_cell e.code) (λ e. refl)

pub class_behaviors : (o : Option LastError) → is_some (class_of (or_null (λ (e : LastError). short_cell e.behavior) o)) ≡ true
class_behaviors = class_or_null (λ (e : LastError). short_cell e.behavior) (λ e. refl)

pub class_messages : (o : Option LastError) → is_some (class_of (or_null (λ (e : LastError). Text e.message) o)) ≡ true
class_messages = class_or_null (λ (e : LastError). Text e.message) (λ e. refl)
