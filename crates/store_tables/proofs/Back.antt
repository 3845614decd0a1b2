-- The record that has these cells.
use Rattle.std.proofs.Common.{◌≡◌, ◌<◌, ◌^◌, ◌==◌, if◌then◌else◌, ℕ, pos, Bool, true, false, List, Option, None, Some, refl, ap, codes, arith, ◌∙◌, unwrap_or}
use Rattle.std.specs.Prelude.{IfSome, nat_abs}
use Rattle.std.specs.Int.{w64, cast_unsigned}
use Rattle.std.specs.Ordering.{int_eq}
use Rattle.std.proofs.lemmas.Int.{of_z-to_z}
use Rattle.protocol_types.specs.declared.message_type.MessageType.{MessageType}
use Rattle.protocol_types.specs.declared.message_type.MessageType.TheVariants.{Start}
use Rattle.protocol_types.specs.MessageType.{type_number}
use Rattle.protocol_types.specs.declared.version.Version.{Version}
use Rattle.protocol_types.specs.Version.{oldest_version, version_at, version_number}
use Rattle.protocol_types.proofs.Versions.{versions_read_back}
use Rattle.sqlite.specs.declared.types.Value.{Value}
use Rattle.sqlite.specs.declared.types.Value.TheVariants.{Null, Int, Real, Text, Blob}
use Rattle.sqlite.specs.Values.{or_null}
use Rattle.sqlite_value.specs.Order.{Row, column, bytes}
use Rattle.sqlite_rules.specs.Edit.{id_in}
use Rattle.sql_tables.specs.Cells.{IsLong, flag_cell, long_cell, short_cell}
use Rattle.store_tables.specs.Kinds.{kept_kind, kind_kept}
use Rattle.store_tables.proofs.KeptKinds.{kind_back}
use Rattle.store_tables.specs.Records.{Closing, EntryRow, FitsEntry, FitsInvocation, FitsError, FitsMark, FitsSleep, FitsState, InvocationRow, LastError, Mark, SleepRow, StateRow, cells_of_mark, closing_cell, delay_of, entry_cells, invocation_cells, sleep_cells, state_cells, the_mark}
use Rattle.store_tables.specs.declared.row.Closing.TheVariants.{Ended, Failed}

pub short_in : Value → ℕ
short_in v = nat_abs (id_in v)

pub short_back : (n : ℕ) → short_in (short_cell n) ≡ n
unfolding short_in
short_back n = refl

long_in : Value → ℕ
long_in v = cast_unsigned w64 (id_in v)

long_back : (n : ℕ) → IsLong n → long_in (long_cell n) ≡ n
unfolding long_in
long_back n fits = of_z-to_z w64 n fits

-- what is there, if the cell is not null
there : {X : Type 0} → (Value → X) → Value → Option X
there read Null = None
there read (Int n) = Some (read (Int n))
there read (Real x) = Some (read (Real x))
there read (Text t) = Some (read (Text t))
there read (Blob b) = Some (read (Blob b))

shorts_back : (o : Option ℕ) → there short_in (or_null short_cell o) ≡ o
unfolding there short_in
shorts_back None = refl
shorts_back (Some n) = refl

texts_back : (o : Option (List ℕ)) → there bytes (or_null Text o) ≡ o
unfolding there
texts_back None = refl
texts_back (Some t) = refl

blobs_back : (o : Option (List ℕ)) → there bytes (or_null Blob o) ≡ o
unfolding there
blobs_back None = refl
blobs_back (Some b) = refl

longs_back : (o : Option ℕ) → IfSome o IsLong → there long_in (or_null long_cell o) ≡ o
unfolding there
longs_back None fits = refl
longs_back (Some n) fits = ap Some (long_back n fits)

-- ---- states

pub state_back : Row → StateRow
state_back row = record { object = bytes (column row 0); key = bytes (column row 1); value = bytes (column row 2) }

pub state_back_is : (s : StateRow) → FitsState s → state_back (state_cells s) ≡ s
unfolding state_back
state_back_is s fits = refl

-- ---- sleeps

pub sleep_back : Row → SleepRow
sleep_back row = record { moment = long_in (column row 0); invocation = bytes (column row 1); completion = short_in (column row 2) }

pub sleep_back_is : (s : SleepRow) → FitsSleep s → sleep_back (sleep_cells s) ≡ s
unfolding sleep_back
sleep_back_is s fits = rw (long_back s.moment fits.moment, short_back s.completion) refl

-- ---- entries

kind_in : Value → MessageType
kind_in v = unwrap_or (kind_kept (short_in v)) Start

kind_in_back : (kind : MessageType) → type_number kind < 2 ^ 16 → kind_in (short_cell (kept_kind kind)) ≡ kind
unfolding kind_in
kind_in_back kind small = ap (λ (o : Option MessageType). unwrap_or o Start) (ap kind_kept (short_back (kept_kind kind)) ∙ kind_back kind small)

pub entry_back : Row → EntryRow
entry_back row = record {
  invocation = bytes (column row 0);
  place = short_in (column row 1);
  kind = kind_in (column row 2);
  payload = bytes (column row 3);
  completion = there short_in (column row 4);
  second_completion = there short_in (column row 5);
  answered = there short_in (column row 6);
  arrival = there short_in (column row 7);
  moment = long_in (column row 8);
}

pub entry_back_is : (e : EntryRow) → FitsEntry e → entry_back (entry_cells e) ≡ e
unfolding entry_back
entry_back_is e fits = rw (short_back e.place, kind_in_back e.kind fits.kind, shorts_back e.completion, shorts_back e.second_completion, shorts_back e.answered, shorts_back e.arrival, long_back e.moment fits.moment) refl

-- ---- invocations

closing_in : ℕ → Closing
closing_in n = if n == 1 then Ended else Failed

closing_back : (o : Option Closing) → there (λ v. closing_in (short_in v)) (or_null closing_cell o) ≡ o
unfolding there short_in closing_in
closing_back None = refl
closing_back (Some Ended) = refl
closing_back (Some Failed) = refl

error_in : Value → Value → Value → Value → Option LastError
error_in code behavior delay message = there (λ v. record { code = short_in v; behavior = short_in behavior; delay = there long_in delay; message = bytes message }) code

error_back : (o : Option LastError) → IfSome o FitsError → error_in (or_null (λ (e : LastError). short_cell e.code) o) (or_null (λ (e : LastError). short_cell e.behavior) o) (or_null long_cell (delay_of o)) (or_null (λ (e : LastError). Text e.message) o) ≡ o
unfolding error_in there short_in
error_back None fits = refl
error_back (Some e) fits = ap (λ (d : Option ℕ). Some (record e { delay = d })) (longs_back e.delay fits.delay)

flag_in : Value → Bool
flag_in v = int_eq (id_in v) (pos 1)

flag_back : (b : Bool) → flag_in (flag_cell b) ≡ b
unfolding flag_in
flag_back true = refl
flag_back false = refl

version_in : Value → Version
version_in v = unwrap_or (version_at (short_in v)) oldest_version

version_back : (version : Version) → version_in (short_cell (version_number version)) ≡ version
unfolding version_in
version_back version = ap (λ (o : Option Version). unwrap_or o oldest_version) (ap version_at (short_back (version_number version)) ∙ versions_read_back version)

pub invocation_back : Row → InvocationRow
invocation_back row = record {
  id = bytes (column row 0);
  object = bytes (column row 1);
  version = version_in (column row 2);
  seed = long_in (column row 3);
  is_whole = flag_in (column row 4);
  progress = record {
    open_object = there bytes (column row 5);
    suspension = there bytes (column row 6);
    handed = there short_in (column row 7);
    closing = there (λ v. closing_in (short_in v)) (column row 8);
    answer = there bytes (column row 9);
    last_error = error_in (column row 10) (column row 11) (column row 12) (column row 13);
    attempts = short_in (column row 14);
    attempts_since_entry = short_in (column row 15);
    first_moment = long_in (column row 16);
    last_completion = short_in (column row 17);
    entries = short_in (column row 18);
    heard = there short_in (column row 19);
    arrivals = short_in (column row 20);
    is_awake = flag_in (column row 21);
  };
}

pub invocation_back_is : (i : InvocationRow) → FitsInvocation i → invocation_back (invocation_cells i) ≡ i
unfolding invocation_back
invocation_back_is i fits =
    rw (
      long_back i.seed fits.seed,
      flag_back i.is_whole,
      texts_back i.progress.open_object,
      blobs_back i.progress.suspension,
      shorts_back i.progress.handed,
      closing_back i.progress.closing,
      blobs_back i.progress.answer,
      error_back i.progress.last_error fits.progress.last_error,
      short_back i.progress.attempts,
      short_back i.progress.attempts_since_entry,
      long_back i.progress.first_moment fits.progress.first_moment,
      short_back i.progress.last_completion,
      short_back i.progress.entries,
      shorts_back i.progress.heard,
      short_back i.progress.arrivals,
      flag_back i.progress.is_awake,
    ) (ap (λ (v : Version). record i { version = v }) (version_back i.version))

-- ---- the mark

pub mark_back : Row → Mark
mark_back row = record { name = bytes (column row 0); version = short_in (column row 1) }

pub mark_back_is : (m : Mark) → FitsMark m → mark_back (cells_of_mark m) ≡ m
unfolding mark_back
mark_back_is m fits = ap (λ (v : ℕ). record m { version = v }) (short_back m.version)

pub mark_fits : FitsMark the_mark
unfolding lib.Utf8.encode
mark_fits = record { name = (codes "journal_store", (refl, refl)); version = omega arith }
