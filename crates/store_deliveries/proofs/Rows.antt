-- Rows of an outbox, by their keys.
use Rattle.std.proofs.Common.{arith, ◌≡◌, refl, sym, ap, ap₂, subst, ◌∙◌, ℕ, zero, suc, ◌+◌, ◌<◌, ◌≤◌, ◌^◌, cond, Bool, true, false, if◌then◌else◌, List, [], ◌∷◌, ◌++◌, length, map, take, drop, get_or, Option, Some, None, option_map, bytes_eq}
use Rattle.std.specs.List.{AllByRecursion, find}
use Rattle.std.specs.Ordering.{eq_by_cmp, is_eq}
use Rattle.std.proofs.lemmas.Bool.{eqb-true}
use Rattle.std.proofs.lemmas.List.{map-append, take_more}
use Rattle.journal_model.specs.Notification.{Bytes}
use Rattle.journal_model.specs.State.{bytes_cmp, value_of_key}
use Rattle.delivery_laws.specs.Outbox.{given_entries, given_key, has_number, hex_text, Outbox, outbox_object, outbox_state, OwedRow, row_entry, row_key, row_value}
use Rattle.delivery_laws.specs.Posted.{ascend_to}
use Rattle.delivery_laws.proofs.Rows.{is_between}
use Rattle.delivery_laws.proofs.States.{given_below, key_tied}
use Rattle.delivery_laws.proofs.Texts.{hex_length}
use Rattle.store_tables.specs.declared.row.StateRow.{StateRow}
use Rattle.store_model.specs.KeptRecords.{state_row}
use Rattle.store_deliveries.specs.declared.row.OwedMessage.{OwedMessage}
use Rattle.store_deliveries.specs.ReadRows.{AreNumbers, AreKeptAs, count_given}
use Rattle.store_deliveries.specs.StoredOutbox.{FitsRow, IsKeptAs, kept_row, kept_rows, row_of_key, row_of_number, row_told}
use Rattle.store_deliveries.proofs.Hex.{behind_of, front_of, hex_same}

-- ---- the greatest number that was given

abbrev given_value : ℕ → Option Bytes
given_value zero = None
given_value (suc n) = Some (row_key (suc n))

none_given : (rows : List OwedRow) → value_of_key (map row_entry rows) given_key ≡ None
none_given [] = refl
none_given (row ∷ rows) =
    ap (λ (b : Bool). cond b (Some (row_value row)) (value_of_key (map row_entry rows) given_key)) (ap is_eq (given_below row.number)) ∙ none_given rows

given_found : (given : ℕ) (rows : List OwedRow) → value_of_key (given_entries given ++ map row_entry rows) given_key ≡ given_value given
given_found zero rows = none_given rows
given_found (suc n) rows = refl

abbrev as_row : Bytes → Bytes → StateRow
as_row key value = state_row outbox_object (key, value)

spelled_so : (given : ℕ) (row : StateRow) → Some row ≡ option_map (as_row given_key) (given_value given) → row.value ≡ row_key given
spelled_so zero row e = cc
spelled_so (suc n) row e = let same : row ≡ as_row given_key (row_key (suc n)) = cc in ap (λ (it : StateRow). it.value) same

none_so : (given : ℕ) → None ≡ option_map (as_row given_key) (given_value given) → 0 ≡ given
none_so zero e = refl
none_so (suc n) e = cc

pub given_spelled : (outbox : Outbox) (row : StateRow) → Some row ≡ row_of_key outbox given_key → row.value ≡ row_key outbox.given
given_spelled outbox row e = spelled_so outbox.given row (e ∙ ap (option_map (as_row given_key)) (given_found outbox.given outbox.rows))

pub given_none : (outbox : Outbox) → None ≡ row_of_key outbox given_key → 0 ≡ outbox.given
given_none outbox e = none_so outbox.given (e ∙ ap (option_map (as_row given_key)) (given_found outbox.given outbox.rows))

-- ---- the row of a number

number_found : (last given number : ℕ) (rows : List OwedRow) → ascend_to last given rows ≡ true → given < 2 ^ 64 → number < 2 ^ 64
    → value_of_key (map row_entry rows) (row_key number) ≡ option_map row_value (find (has_number number) rows)
number_found last given number [] up l m = refl
number_found last given number (row ∷ rows) up l m =
    let is = is_between last given row rows up in
    ap (λ (b : Bool). cond b (Some (row_value row)) (value_of_key (map row_entry rows) (row_key number))) (key_tied number row.number m (omega (arith, is.within, l)))
    ∙ by_number (has_number number row) (number_found row.number given number rows is.rest l m)
  where
    by_number : (b : Bool) → value_of_key (map row_entry rows) (row_key number) ≡ option_map row_value (find (has_number number) rows)
        → cond b (Some (row_value row)) (value_of_key (map row_entry rows) (row_key number)) ≡ option_map row_value (if b then Some row else find (has_number number) rows)
    by_number true h = refl
    by_number false h = h

behind_given : (given number : ℕ) (rows : List OwedRow) → value_of_key (given_entries given ++ map row_entry rows) (row_key number) ≡ value_of_key (map row_entry rows) (row_key number)
behind_given zero number rows = refl
behind_given (suc n) number rows =
    ap (λ (b : Bool). cond b (Some (row_key (suc n))) (value_of_key (map row_entry rows) (row_key number))) (not_given (row_key number) (hex_length 16 number))
  where
    not_given : (text : List ℕ) → length text ≡ 16 → eq_by_cmp bytes_cmp text given_key ≡ false
    not_given [] e = absurd (omega (arith, e))
    not_given (x ∷ text) e = refl

-- what is found has the number
pub its_number : (number : ℕ) (rows : List OwedRow) (row : OwedRow) → find (has_number number) rows ≡ Some row → row.number ≡ number
its_number number [] row e = cc
its_number number (first ∷ rows) row e = by_test (has_number number first) refl e (its_number number rows row)
  where
    by_test : (b : Bool) → has_number number first ≡ b → (if b then Some first else find (has_number number) rows) ≡ Some row
        → (find (has_number number) rows ≡ Some row → row.number ≡ number) → row.number ≡ number
    by_test true f g later = let same : first ≡ row = cc in sym (ap (λ (it : OwedRow). it.number) same) ∙ eqb-true first.number number f
    by_test false f g later = later g

module _ (outbox : Outbox) (number : ℕ) (up : ascend_to 0 outbox.given outbox.rows ≡ true) (l : outbox.given < 2 ^ 64) (m : number < 2 ^ 64) where
  value_found : value_of_key (outbox_state outbox) (row_key number) ≡ option_map row_value (row_of_number outbox number)
  value_found = behind_given outbox.given number outbox.rows ∙ number_found 0 outbox.given number outbox.rows up l m

  -- what is found under the key is the row, and its number is this one
  pub row_is : (row : StateRow) → Some row ≡ row_of_key outbox (row_key number) → (owed : OwedRow) × (row_of_number outbox number ≡ Some owed) × IsKeptAs owed row
  row_is row e = by_row (row_of_number outbox number) refl (e ∙ ap (option_map (as_row (row_key number))) value_found)
    where
      by_row : (o : Option OwedRow) → row_of_number outbox number ≡ o → Some row ≡ option_map (as_row (row_key number)) (option_map row_value o)
          → (owed : OwedRow) × (row_of_number outbox number ≡ Some owed) × IsKeptAs owed row
      by_row None f g = cc
      by_row (Some owed) f g =
          let same : row ≡ as_row (row_key number) (row_value owed) = cc in
          (owed, f, record { key = ap (λ (it : StateRow). it.key) same ∙ ap row_key (sym (its_number number outbox.rows owed f)); value = ap (λ (it : StateRow). it.value) same })

  pub no_row : None ≡ row_of_key outbox (row_key number) → None ≡ row_of_number outbox number
  no_row e = by_row (row_of_number outbox number) (e ∙ ap (option_map (as_row (row_key number))) value_found)
    where
      by_row : (o : Option OwedRow) → None ≡ option_map (as_row (row_key number)) (option_map row_value o) → None ≡ o
      by_row None g = refl
      by_row (Some owed) g = cc

-- ---- what is read of a row

pub numbers_same : (row : StateRow) (number place : ℕ) (owed : OwedRow) → AreNumbers row number place → FitsRow owed → IsKeptAs owed row
    → (number ≡ owed.number) × (place ≡ owed.place) × (drop 8 row.value ≡ owed.sender)
numbers_same row number place owed are fits kept = (
  hex_same 16 number owed.number are.number_fits fits.number (sym are.key ∙ kept.key),
  hex_same 8 place owed.place are.place_fits fits.place (sym are.front ∙ ap (take 8) kept.value ∙ front_of 8 owed.place owed.sender),
  ap (drop 8) kept.value ∙ behind_of 8 owed.place owed.sender,
)

pub row_same : (number place : ℕ) (sender : List ℕ) (owed : OwedRow) → number ≡ owed.number → place ≡ owed.place → sender ≡ owed.sender
    → Some (record { number = number; sender = sender; place = place }) ≡ Some owed
row_same number place sender owed e f g = λ i. Some (record { number = e i; sender = g i; place = f i })

-- ---- all rows

pub count_within : (rows : List StateRow) → count_given rows ≤ length rows
count_within [] = omega arith
count_within (row ∷ rows) = by_test (bytes_eq row.key given_key)
  where
    by_test : (b : Bool) → (if b then 1 else 0) ≤ suc (length rows)
    by_test true = omega arith
    by_test false = omega arith

key_apart : (number : ℕ) → bytes_eq (row_key number) given_key ≡ false
key_apart number = by_text (row_key number) (hex_length 16 number)
  where
    by_text : (text : List ℕ) → length text ≡ 16 → bytes_eq text given_key ≡ false
    by_text [] e = absurd (omega (arith, e))
    by_text (x ∷ text) e = refl

map_twice : (rows : List OwedRow) → map (state_row outbox_object) (map row_entry rows) ≡ map kept_row rows
map_twice [] = refl
map_twice (row ∷ rows) = ap (λ (rest : List StateRow). kept_row row ∷ rest) (map_twice rows)

-- behind those of the greatest number that was given stand the rows
pub rows_behind : (outbox : Outbox) (rows : List StateRow) → rows ≡ kept_rows outbox → drop (count_given rows) rows ≡ map kept_row outbox.rows
rows_behind outbox rows e = ap (λ (it : List StateRow). drop (count_given it) it) e ∙ by_given outbox.given outbox.rows
  where
    by_given : (given : ℕ) (owed : List OwedRow)
        → drop (count_given (map (state_row outbox_object) (given_entries given ++ map row_entry owed))) (map (state_row outbox_object) (given_entries given ++ map row_entry owed))
        ≡ map kept_row owed
    by_given zero [] = refl
    by_given zero (row ∷ owed) =
        ap (λ (b : Bool). drop (if b then 1 else 0) (map (state_row outbox_object) (map row_entry (row ∷ owed)))) (key_apart row.number) ∙ map_twice (row ∷ owed)
    by_given (suc n) owed = map_twice owed

-- ---- one after another

pub kept_at : (owed : List OwedRow) (rows : List StateRow) (n : ℕ) (d : OwedRow) (e : StateRow) → AreKeptAs owed rows → n < length rows
    → FitsRow (get_or owed n d) × IsKeptAs (get_or owed n d) (get_or rows n e)
kept_at owed rows n d e are l =
    subst (λ (rs : List StateRow). n < length rs → FitsRow (get_or owed n d) × IsKeptAs (get_or owed n d) (get_or rs n e)) (sym are.are) (among owed n are.fit) l
  where
    among : (rs : List OwedRow) (k : ℕ) → AllByRecursion FitsRow rs → k < length (map kept_row rs)
        → FitsRow (get_or rs k d) × IsKeptAs (get_or rs k d) (get_or (map kept_row rs) k e)
    among [] k all m = absurd (omega (arith, m))
    among (row ∷ rs) zero all m = (all.0, record { key = refl; value = refl })
    among (row ∷ rs) (suc k) all m = among rs k all.1 (omega (arith, m))

pub same_length : (owed : List OwedRow) (rows : List StateRow) → AreKeptAs owed rows → length rows ≡ length owed
same_length owed rows are = ap length are.are ∙ length_map_of owed
  where
    length_map_of : (rs : List OwedRow) → length (map kept_row rs) ≡ length rs
    length_map_of [] = refl
    length_map_of (row ∷ rs) = ap suc (length_map_of rs)

-- ---- numbers

pub number_told : (text value : List ℕ) (n number : ℕ) → text ≡ value → value ≡ row_key number → number < 2 ^ 64 → (text ≡ hex_text (length text) n) × (n < 16 ^ length text) → n ≡ number
number_told text value n number e f l found =
    let len : length text ≡ 16 = ap length (e ∙ f) ∙ hex_length 16 number in
    hex_same 16 n number (subst (λ (k : ℕ). n < 16 ^ k) len found.1) l (sym (ap (λ (k : ℕ). hex_text k n) len) ∙ sym found.0 ∙ e ∙ f)

pub step_messages : (messages : List OwedMessage) (owed : List OwedRow) (i : ℕ) (m : OwedMessage) → map row_told messages ≡ take i owed → i < length owed → row_told m ≡ get_or owed i (row_told m)
    → map row_told (messages ++ m ∷ []) ≡ take (i + 1) owed
step_messages messages owed i m before l same =
    map-append row_told messages (m ∷ []) ∙ ap₂ (λ (xs : List OwedRow) (x : OwedRow). xs ++ x ∷ []) before same ∙ sym (take_more owed i (row_told m) l)

pub told_so : (outbox : Outbox) (number : ℕ) (owed : OwedRow) (m : OwedMessage) → row_of_number outbox number ≡ Some owed → row_told m ≡ owed → option_map row_told (Some m) ≡ row_of_number outbox number
told_so outbox number owed m found same = ap Some same ∙ sym found
