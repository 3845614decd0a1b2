-- A row of small cells can be stored, and so can its entry in each index.
use Rattle.std.proofs.Common.{◌≡◌, ◌+◌, ◌≤◌, ◌<◌, ◌^◌, ℕ, ℤ, pos, negsuc, inl, inr, List, [], ◌∷◌, Bool, Option, None, Some, length, codes, arith}
use Rattle.std.specs.Prelude.{sum_by}
use Rattle.std.specs.List.{AllByRecursion}
use Rattle.std.specs.Int.{w64, cast_signed}
use Rattle.std.specs.Float.{NotNan}
use Rattle.std.specs.Float.Ieee
use Rattle.std.proofs.lemmas.List.Elements.{All-from_recursion}
use Rattle.std.proofs.lemmas.Nat.Bits.{bit_at-zero}
use Rattle.protocol_types.specs.Version.{version_number}
use Rattle.sqlite.specs.declared.types.Value.{Value}
use Rattle.sqlite.specs.declared.types.Value.TheVariants.{Blob, Int, Text}
use Rattle.sqlite.specs.Values.{or_null}
use Rattle.sqlite_value.specs.Order.{Row, bytes, number}
use Rattle.sqlite_trees.specs.View.{IsStorable}
use Rattle.sqlite_sql.specs.Catalog.{entry_of}
use Rattle.sqlite_schema.specs.Rules.{index_reals, table_reals}
use Rattle.sqlite_schema.specs.declared.schema.Index.{Index}
use Rattle.sqlite_rules.specs.Edit.{IsOversized}
use Rattle.sqlite_rules.proofs.ListLemmas.{all_has}
use Rattle.sql_tables.specs.Cells.{flag_cell, long_cell, short_cell}
use Rattle.sql_tables.specs.Columns.{table_of}
use Rattle.store_tables.specs.Kinds.{kept_kind}
use Rattle.store_tables.specs.Tables.{entry_columns, entry_keys, invocation_columns, invocation_keys, sleep_columns, sleep_keys, state_columns, state_keys, store_schema}
use Rattle.store_tables.specs.Records.{closing_cell, delay_of, entry_cells, invocation_cells, sleep_cells, state_cells}
use Rattle.store_tables.specs.declared.row.Closing.{Closing}
use Rattle.store_tables.specs.declared.row.Closing.TheVariants.{Ended, Failed}
use Rattle.store_tables.specs.declared.row.LastError.{LastError}
use Rattle.store_tables.specs.declared.row.InvocationRow.{InvocationRow}
use Rattle.store_tables.specs.declared.row.EntryRow.{EntryRow}
use Rattle.store_tables.specs.declared.row.StateRow.{StateRow}
use Rattle.store_tables.specs.declared.row.SleepRow.{SleepRow}
use Rattle.store_sql_laws.specs.Size.{IsSmall}

-- ---- no cell is a float that is no number

abbrev IsNumber : Value → Type 0
IsNumber v = NotNan (number v)

int : (n : ℤ) → IsNumber (Int n)
unfolding Ieee.is_nan
int (pos n) = tt
int (negsuc n) = tt

text : (t : List ℕ) → IsNumber (Text t)
unfolding Ieee.is_nan
text t = tt

blob : (b : List ℕ) → IsNumber (Blob b)
unfolding Ieee.is_nan
blob b = tt

or_number : {X : Type 0} (cell : X → Value) → ((x : X) → IsNumber (cell x)) → (o : Option X) → IsNumber (or_null cell o)
unfolding Ieee.is_nan
or_number cell each None = tt
or_number cell each (Some x) = each x

short : (n : ℕ) → IsNumber (short_cell n)
short n = int (pos n)

long : (n : ℕ) → IsNumber (long_cell n)
long n = int (cast_signed w64 n)

flag : (b : Bool) → IsNumber (flag_cell b)
flag b = int _

shorts : (o : Option ℕ) → IsNumber (or_null short_cell o)
shorts = or_number short_cell short

longs : (o : Option ℕ) → IsNumber (or_null long_cell o)
longs = or_number long_cell long

texts : (o : Option (List ℕ)) → IsNumber (or_null Text o)
texts = or_number Text text

blobs : (o : Option (List ℕ)) → IsNumber (or_null Blob o)
blobs = or_number Blob blob

closings : (o : Option Closing) → IsNumber (or_null closing_cell o)
closings = or_number closing_cell (λ c. closing c)
  where
    closing : (c : Closing) → IsNumber (closing_cell c)
    closing Ended = int (pos 1)
    closing Failed = int (pos 2)

codes_of : (o : Option LastError) → IsNumber (or_null (λ (e : LastError). short_cell e.code) o)
codes_of = or_number (λ (e : LastError). short_cell e.code) (λ e. short e.code)

behaviors : (o : Option LastError) → IsNumber (or_null (λ (e : LastError). short_cell e.behavior) o)
behaviors = or_number (λ (e : LastError). short_cell e.behavior) (λ e. short e.behavior)

messages : (o : Option LastError) → IsNumber (or_null (λ (e : LastError). Text e.message) o)
messages = or_number (λ (e : LastError). Text e.message) (λ e. text e.message)

-- ---- what can be stored

storable : (entry : Row) → AllByRecursion IsNumber entry → 0 < length entry → length entry ≤ 2001 → sum_by (λ v. 18 + length (bytes v)) entry ≤ 10 ^ 9 → IsStorable 0 entry
storable entry numbers some few small = record {
  typed = λ c set. absurd (omega (arith, bit_at-zero c, set));
  columns = (some, few);
  numbers = All-from_recursion IsNumber entry numbers;
  short = small;
}

entry_stores : (id : ℤ) (e : EntryRow) → IsSmall (entry_cells e) → IsStorable 0 (Int id ∷ entry_cells e)
entry_stores id e small = storable (Int id ∷ entry_cells e) (int id, (text e.invocation, (short e.place, (short (kept_kind e.kind), (blob e.payload, (shorts e.completion, (shorts e.second_completion, (shorts e.answered, (shorts e.arrival, (long e.moment, tt)))))))))) (omega arith) (omega arith) (omega (arith, small))

pub entry_fits : (id : ℤ) (e : EntryRow) → IsSmall (entry_cells e) → IsOversized store_schema (table_of 0 (codes "entry") entry_columns entry_keys) (Int id ∷ entry_cells e) → ⊥
entry_fits id e small (inl long) = long (entry_stores id e small, omega arith)
entry_fits id e small (inr (index, has, of, big)) = big (all_has (λ (one : Index). one.table ≡ 0 → IsStorable (index_reals (table_reals (table_of 0 (codes "entry") entry_columns entry_keys)) one.columns) (entry_of one.columns (Int id ∷ entry_cells e))) store_schema.indexes index (λ same. absurd (omega (arith, same)), (λ same. absurd (omega (arith, same)), (λ same. absurd (omega (arith, same)), (λ same. absurd (omega (arith, same)), (λ same. storable (entry_of (1 ∷ 2 ∷ []) (Int id ∷ entry_cells e)) (text e.invocation, (short e.place, (int id, tt))) (omega arith) (omega arith) (omega (arith, small)), (λ same. storable (entry_of (1 ∷ 5 ∷ []) (Int id ∷ entry_cells e)) (text e.invocation, (shorts e.completion, (int id, tt))) (omega arith) (omega arith) (omega (arith, small)), (λ same. storable (entry_of (1 ∷ 6 ∷ []) (Int id ∷ entry_cells e)) (text e.invocation, (shorts e.second_completion, (int id, tt))) (omega arith) (omega arith) (omega (arith, small)), (λ same. storable (entry_of (1 ∷ 7 ∷ []) (Int id ∷ entry_cells e)) (text e.invocation, (shorts e.answered, (int id, tt))) (omega arith) (omega arith) (omega (arith, small)), (λ same. storable (entry_of (1 ∷ 8 ∷ []) (Int id ∷ entry_cells e)) (text e.invocation, (shorts e.arrival, (int id, tt))) (omega arith) (omega arith) (omega (arith, small)), (λ same. absurd (omega (arith, same)), (λ same. absurd (omega (arith, same)), tt))))))))))) has of)

state_stores : (id : ℤ) (s : StateRow) → IsSmall (state_cells s) → IsStorable 0 (Int id ∷ state_cells s)
state_stores id s small = storable (Int id ∷ state_cells s) (int id, (text s.object, (blob s.key, (blob s.value, tt)))) (omega arith) (omega arith) (omega (arith, small))

pub state_fits : (id : ℤ) (s : StateRow) → IsSmall (state_cells s) → IsOversized store_schema (table_of 5 (codes "state") state_columns state_keys) (Int id ∷ state_cells s) → ⊥
state_fits id s small (inl long) = long (state_stores id s small, omega arith)
state_fits id s small (inr (index, has, of, big)) = big (all_has (λ (one : Index). one.table ≡ 5 → IsStorable (index_reals (table_reals (table_of 5 (codes "state") state_columns state_keys)) one.columns) (entry_of one.columns (Int id ∷ state_cells s))) store_schema.indexes index (λ same. absurd (omega (arith, same)), (λ same. storable (entry_of (1 ∷ 2 ∷ []) (Int id ∷ state_cells s)) (text s.object, (blob s.key, (int id, tt))) (omega arith) (omega arith) (omega (arith, small)), (λ same. absurd (omega (arith, same)), (λ same. absurd (omega (arith, same)), (λ same. absurd (omega (arith, same)), (λ same. absurd (omega (arith, same)), (λ same. absurd (omega (arith, same)), (λ same. absurd (omega (arith, same)), (λ same. absurd (omega (arith, same)), (λ same. absurd (omega (arith, same)), (λ same. absurd (omega (arith, same)), tt))))))))))) has of)

sleep_stores : (id : ℤ) (s : SleepRow) → IsSmall (sleep_cells s) → IsStorable 0 (Int id ∷ sleep_cells s)
sleep_stores id s small = storable (Int id ∷ sleep_cells s) (int id, (long s.moment, (text s.invocation, (short s.completion, tt)))) (omega arith) (omega arith) (omega (arith, small))

pub sleep_fits : (id : ℤ) (s : SleepRow) → IsSmall (sleep_cells s) → IsOversized store_schema (table_of 4 (codes "sleep") sleep_columns sleep_keys) (Int id ∷ sleep_cells s) → ⊥
sleep_fits id s small (inl long) = long (sleep_stores id s small, omega arith)
sleep_fits id s small (inr (index, has, of, big)) = big (all_has (λ (one : Index). one.table ≡ 4 → IsStorable (index_reals (table_reals (table_of 4 (codes "sleep") sleep_columns sleep_keys)) one.columns) (entry_of one.columns (Int id ∷ sleep_cells s))) store_schema.indexes index (λ same. absurd (omega (arith, same)), (λ same. absurd (omega (arith, same)), (λ same. absurd (omega (arith, same)), (λ same. absurd (omega (arith, same)), (λ same. absurd (omega (arith, same)), (λ same. absurd (omega (arith, same)), (λ same. absurd (omega (arith, same)), (λ same. absurd (omega (arith, same)), (λ same. absurd (omega (arith, same)), (λ same. storable (entry_of (2 ∷ 3 ∷ []) (Int id ∷ sleep_cells s)) (text s.invocation, (short s.completion, (int id, tt))) (omega arith) (omega arith) (omega (arith, small)), (λ same. storable (entry_of (1 ∷ []) (Int id ∷ sleep_cells s)) (long s.moment, (int id, tt)) (omega arith) (omega arith) (omega (arith, small)), tt))))))))))) has of)

invocation_stores : (id : ℤ) (i : InvocationRow) → IsSmall (invocation_cells i) → IsStorable 0 (Int id ∷ invocation_cells i)
invocation_stores id i small = storable (Int id ∷ invocation_cells i) (int id, (text i.id, (text i.object, (short (version_number i.version), (long i.seed, (flag i.is_whole, (texts i.progress.open_object, (blobs i.progress.suspension, (shorts i.progress.handed, (closings i.progress.closing, (blobs i.progress.answer, (codes_of i.progress.last_error, (behaviors i.progress.last_error, (longs (delay_of i.progress.last_error), (messages i.progress.last_error, (short i.progress.attempts, (short i.progress.attempts_since_entry, (long i.progress.first_moment, (short i.progress.last_completion, (short i.progress.entries, (shorts i.progress.heard, (short i.progress.arrivals, (flag i.progress.is_awake, tt))))))))))))))))))))))) (omega arith) (omega arith) (omega (arith, small))

pub invocation_fits : (id : ℤ) (i : InvocationRow) → IsSmall (invocation_cells i) → IsOversized store_schema (table_of 1 (codes "invocation") invocation_columns invocation_keys) (Int id ∷ invocation_cells i) → ⊥
invocation_fits id i small (inl long) = long (invocation_stores id i small, omega arith)
invocation_fits id i small (inr (index, has, of, big)) = big (all_has (λ (one : Index). one.table ≡ 1 → IsStorable (index_reals (table_reals (table_of 1 (codes "invocation") invocation_columns invocation_keys)) one.columns) (entry_of one.columns (Int id ∷ invocation_cells i))) store_schema.indexes index (λ same. storable (entry_of (1 ∷ []) (Int id ∷ invocation_cells i)) (text i.id, (int id, tt)) (omega arith) (omega arith) (omega (arith, small)), (λ same. absurd (omega (arith, same)), (λ same. storable (entry_of (6 ∷ []) (Int id ∷ invocation_cells i)) (texts i.progress.open_object, (int id, tt)) (omega arith) (omega arith) (omega (arith, small)), (λ same. storable (entry_of (22 ∷ []) (Int id ∷ invocation_cells i)) (flag i.progress.is_awake, (int id, tt)) (omega arith) (omega arith) (omega (arith, small)), (λ same. absurd (omega (arith, same)), (λ same. absurd (omega (arith, same)), (λ same. absurd (omega (arith, same)), (λ same. absurd (omega (arith, same)), (λ same. absurd (omega (arith, same)), (λ same. absurd (omega (arith, same)), (λ same. absurd (omega (arith, same)), tt))))))))))) has of)
