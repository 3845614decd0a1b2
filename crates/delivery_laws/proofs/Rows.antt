-- Rows of an outbox: their numbers ascend, each message has one, and what goes with a number is that of its message alone.
use Rattle.std.proofs.Common.{arith, true≢false, ◌≡◌, refl, sym, ap, ap₂, ◌∙◌, ℕ, suc, ◌<◌, ◌≤◌, ◌==◌, nat_lt, Bool, true, false, not, ◌&&◌, ◌||◌, if◌then◌else◌, List, [], ◌∷◌, ◌++◌, append-nil, append_assoc, filter, Some, bytes_eq}
use Rattle.std.specs.List.{find, list_any}
use Rattle.std.proofs.lemmas.Bool.{and_from, eq-eqb, eqb-true, lt-ltb, ltb-true, ne_eqb}
use Rattle.std.proofs.lemmas.Slice.Eq.{bytes_eq-Decides}
use Rattle.journal_model.specs.Notification.{Text}
use Rattle.journal_laws.proofs.Leaving.{and-true}
use Rattle.delivery_laws.specs.Outbox.{has_number, is_row_of, is_same, Outbox, OwedRow, with_rows}
use Rattle.delivery_laws.specs.Posted.{are_apart, ascend_to}

-- ---- messages

pub same_message : (sender : Text) (place : ℕ) (other : Text) (at : ℕ) → is_same sender place other at ≡ true → (sender ≡ other) × (place ≡ at)
same_message sender place other at e =
    let both = and-true (bytes_eq sender other) (place == at) e in
    ((bytes_eq-Decides sender other).0 both.0, eqb-true place at both.1)

pub itself : (sender : Text) (place : ℕ) → is_same sender place sender place ≡ true
itself sender place = and_from (bytes_eq sender sender) (place == place) ((bytes_eq-Decides sender sender).1 refl) (eq-eqb place place refl)

no_yes : (b : Bool) → (b ≡ true → ⊥) → b ≡ false
no_yes true f = absurd (f refl)
no_yes false f = refl

flipped : (sender : Text) (place : ℕ) (other : Text) (at : ℕ) → is_same sender place other at ≡ false → is_same other at sender place ≡ false
flipped sender place other at e = no_yes (is_same other at sender place) (λ f.
    let same = same_message other at sender place f in
    true≢false (sym (itself other at) ∙ ap₂ (λ (a : Text) (n : ℕ). is_same a n other at) same.0 same.1 ∙ e))

-- ---- messages apart

neither : (a b : Bool) → (a || b) ≡ false → (a ≡ false) × (b ≡ false)
neither true b e = cc
neither false b e = (refl, e)

pub no_not : (b : Bool) → not b ≡ true → b ≡ false
no_not false e = refl
no_not true e = cc

not_no : (b : Bool) → b ≡ false → not b ≡ true
not_no b e = ap not e

none_kept : (test keeps : OwedRow → Bool) (rows : List OwedRow) → list_any test rows ≡ false → list_any test (filter keeps rows) ≡ false
none_kept test keeps [] e = refl
none_kept test keeps (row ∷ rows) e = by_test (keeps row) (none_kept test keeps rows both.1)
  where
    both : (test row ≡ false) × (list_any test rows ≡ false)
    both = neither (test row) (list_any test rows) e

    by_test : (b : Bool) → list_any test (filter keeps rows) ≡ false → list_any test (if b then row ∷ filter keeps rows else filter keeps rows) ≡ false
    by_test true h = ap (λ (b : Bool). b || list_any test (filter keeps rows)) both.0 ∙ h
    by_test false h = h

pub apart_kept : (keeps : OwedRow → Bool) (rows : List OwedRow) → are_apart rows ≡ true → are_apart (filter keeps rows) ≡ true
apart_kept keeps [] e = refl
apart_kept keeps (row ∷ rows) e = by_test (keeps row) (apart_kept keeps rows both.1)
  where
    both : (not (list_any (is_row_of row.sender row.place) rows) ≡ true) × (are_apart rows ≡ true)
    both = and-true (not (list_any (is_row_of row.sender row.place) rows)) (are_apart rows) e

    by_test : (b : Bool) → are_apart (filter keeps rows) ≡ true → are_apart (if b then row ∷ filter keeps rows else filter keeps rows) ≡ true
    by_test true h =
        and_from (not (list_any (is_row_of row.sender row.place) (filter keeps rows))) (are_apart (filter keeps rows))
        (not_no (list_any (is_row_of row.sender row.place) (filter keeps rows)) (none_kept (is_row_of row.sender row.place) keeps rows (no_not (list_any (is_row_of row.sender row.place) rows) both.0))) h
    by_test false h = h

none_behind : (test : OwedRow → Bool) (rows : List OwedRow) (row : OwedRow) → list_any test rows ≡ false → test row ≡ false → list_any test (rows ++ row ∷ []) ≡ false
none_behind test [] row e f = ap (λ (b : Bool). b || false) f
none_behind test (first ∷ rows) row e f =
    let both = neither (test first) (list_any test rows) e in
    ap (λ (b : Bool). b || list_any test (rows ++ row ∷ [])) both.0 ∙ none_behind test rows row both.1 f

pub apart_behind : (rows : List OwedRow) (row : OwedRow) → are_apart rows ≡ true → list_any (is_row_of row.sender row.place) rows ≡ false → are_apart (rows ++ row ∷ []) ≡ true
apart_behind [] row e f = refl
apart_behind (first ∷ rows) row e f =
    let both = and-true (not (list_any (is_row_of first.sender first.place) rows)) (are_apart rows) e in
    let other = neither (is_row_of row.sender row.place first) (list_any (is_row_of row.sender row.place) rows) f in
    and_from (not (list_any (is_row_of first.sender first.place) (rows ++ row ∷ []))) (are_apart (rows ++ row ∷ []))
    (not_no (list_any (is_row_of first.sender first.place) (rows ++ row ∷ []))
    (none_behind (is_row_of first.sender first.place) rows row (no_not (list_any (is_row_of first.sender first.place) rows) both.0)
    (flipped first.sender first.place row.sender row.place other.0)))
    (apart_behind rows row both.1 other.1)

-- ---- numbers

between : (last given : ℕ) (row : OwedRow) (rows : List OwedRow) → last < row.number → row.number < suc given → ascend_to row.number given rows ≡ true
    → ascend_to last given (row ∷ rows) ≡ true
between last given row rows l m e =
    and_from (nat_lt last row.number && nat_lt row.number (suc given)) (ascend_to row.number given rows)
    (and_from (nat_lt last row.number) (nat_lt row.number (suc given)) (lt-ltb last row.number l) (lt-ltb row.number (suc given) m)) e

-- what is known of the first row
pub record IsBetween (last given : ℕ) (row : OwedRow) (rows : List OwedRow) : Type 0 where
  pub above : last < row.number
  pub within : row.number < suc given
  pub rest : ascend_to row.number given rows ≡ true

pub is_between : (last given : ℕ) (row : OwedRow) (rows : List OwedRow) → ascend_to last given (row ∷ rows) ≡ true → IsBetween last given row rows
is_between last given row rows e =
    let all = and-true (nat_lt last row.number && nat_lt row.number (suc given)) (ascend_to row.number given rows) e in
    let both = and-true (nat_lt last row.number) (nat_lt row.number (suc given)) all.0 in
    record { above = ltb-true last row.number both.0; within = ltb-true row.number (suc given) both.1; rest = all.1 }

-- one that is above all is put behind them
pub put_behind : (last given : ℕ) (rows : List OwedRow) (row : OwedRow) → last < row.number → given < row.number → ascend_to last given rows ≡ true
    → ascend_to last row.number (rows ++ row ∷ []) ≡ true
put_behind last given [] row l m h = between last row.number row [] l (omega arith) refl
put_behind last given (first ∷ rows) row l m h =
    let is = is_between last given first rows h in
    between last row.number first (rows ++ row ∷ []) is.above (omega (arith, is.within, m))
    (put_behind first.number given rows row (omega (arith, is.within, m)) m is.rest)

-- what is left ascends still
lower : (last less given : ℕ) (rows : List OwedRow) → less ≤ last → ascend_to last given rows ≡ true → ascend_to less given rows ≡ true
lower last less given [] l h = refl
lower last less given (row ∷ rows) l h =
    let is = is_between last given row rows h in between less given row rows (omega (arith, is.above, l)) is.within is.rest

pub ascend_kept : (keeps : OwedRow → Bool) (last given : ℕ) (rows : List OwedRow) → ascend_to last given rows ≡ true → ascend_to last given (filter keeps rows) ≡ true
ascend_kept keeps last given [] h = refl
ascend_kept keeps last given (row ∷ rows) h = by_test (keeps row) (ascend_kept keeps row.number given rows is.rest)
  where
    is : IsBetween last given row rows
    is = is_between last given row rows h

    by_test : (b : Bool) → ascend_to row.number given (filter keeps rows) ≡ true → ascend_to last given (if b then row ∷ filter keeps rows else filter keeps rows) ≡ true
    by_test true later = between last given row (filter keeps rows) is.above is.within later
    by_test false later = lower row.number last given (filter keeps rows) (omega (arith, is.above)) later

-- behind a number all are others
others_stay : (last number given : ℕ) (rows : List OwedRow) → number ≤ last → ascend_to last given rows ≡ true → filter (λ row. not (has_number number row)) rows ≡ rows
others_stay last number given [] l h = refl
others_stay last number given (row ∷ rows) l h =
    let is = is_between last given row rows h in
    let other : has_number number row ≡ false = ne_eqb row.number number (λ e. omega (arith, e, is.above, l)) in
    ap (λ (b : Bool). if not b then row ∷ filter (λ it. not (has_number number it)) rows else filter (λ it. not (has_number number it)) rows) other
    ∙ ap (λ (rest : List OwedRow). row ∷ rest) (others_stay row.number number given rows (omega (arith, is.above, l)) is.rest)

-- ---- the row of a number

some_same : (a b : OwedRow) → Some a ≡ Some b → a ≡ b
some_same a b e = cc

-- it is among the rows
pub found_row : (number : ℕ) (rows : List OwedRow) (row : OwedRow) → find (has_number number) rows ≡ Some row → list_any (is_row_of row.sender row.place) rows ≡ true
found_row number [] row e = cc
found_row number (first ∷ rows) row e = by_number (has_number number first) e (found_row number rows row)
  where
    by_number : (b : Bool) → (if b then Some first else find (has_number number) rows) ≡ Some row
        → (find (has_number number) rows ≡ Some row → list_any (is_row_of row.sender row.place) rows ≡ true)
        → (is_row_of row.sender row.place first || list_any (is_row_of row.sender row.place) rows) ≡ true
    by_number true f later =
        ap (λ (b : Bool). b || list_any (is_row_of row.sender row.place) rows)
        (ap (λ (it : OwedRow). is_row_of row.sender row.place it) (some_same first row f) ∙ itself row.sender row.place)
    by_number false f later = or_yes (is_row_of row.sender row.place first) (list_any (is_row_of row.sender row.place) rows) (later f)
      where
        or_yes : (a b : Bool) → b ≡ true → (a || b) ≡ true
        or_yes true b e = refl
        or_yes false b e = e

module _ (sender : Text) (place : ℕ) where
  -- a row that goes by its number is that of its message alone
  pub any_without : (number last given : ℕ) (rows : List OwedRow) (row : OwedRow) → ascend_to last given rows ≡ true → are_apart rows ≡ true
      → find (has_number number) rows ≡ Some row
      → list_any (is_row_of sender place) (filter (λ it. not (has_number number it)) rows) ≡ (not (is_row_of sender place row) && list_any (is_row_of sender place) rows)
  any_without number last given [] row up apart e = cc
  any_without number last given (first ∷ rows) row up apart e =
      by_number (has_number number first) refl e (any_without number first.number given rows row is.rest both.1)
    where
      is : IsBetween last given first rows
      is = is_between last given first rows up

      both : (not (list_any (is_row_of first.sender first.place) rows) ≡ true) × (are_apart rows ≡ true)
      both = and-true (not (list_any (is_row_of first.sender first.place) rows)) (are_apart rows) apart

      any : List OwedRow → Bool
      any some = list_any (is_row_of sender place) some

      -- it is the first
      here : (c : Bool) → is_row_of sender place first ≡ c → any rows ≡ (not c && (c || any rows))
      here false f = refl
      here true f =
          let same = same_message first.sender first.place sender place f in
          sym (ap₂ (λ (a : Text) (n : ℕ). list_any (is_row_of a n) rows) same.0 same.1)
          ∙ no_not (list_any (is_row_of first.sender first.place) rows) both.0

      -- it is behind
      behind : (c d : Bool) → is_row_of sender place first ≡ c → is_row_of sender place row ≡ d → find (has_number number) rows ≡ Some row
          → any (filter (λ it. not (has_number number it)) rows) ≡ (not d && any rows)
          → (c || any (filter (λ it. not (has_number number it)) rows)) ≡ (not d && (c || any rows))
      behind false d f g k h = h
      behind true false f g k h = refl
      behind true true f g k h =
          let one = same_message first.sender first.place sender place f in
          let other = same_message row.sender row.place sender place g in
          absurd (true≢false (sym (found_row number rows row k)
          ∙ ap₂ (λ (a : Text) (n : ℕ). list_any (is_row_of a n) rows) (other.0 ∙ sym one.0) (other.1 ∙ sym one.1)
          ∙ no_not (list_any (is_row_of first.sender first.place) rows) both.0))

      by_number : (b : Bool) → has_number number first ≡ b → (if b then Some first else find (has_number number) rows) ≡ Some row
          → (find (has_number number) rows ≡ Some row → any (filter (λ it. not (has_number number it)) rows) ≡ (not (is_row_of sender place row) && any rows))
          → any (if not b then first ∷ filter (λ it. not (has_number number it)) rows else filter (λ it. not (has_number number it)) rows)
          ≡ (not (is_row_of sender place row) && (is_row_of sender place first || any rows))
      by_number true f g later =
          ap any (others_stay first.number number given rows (omega (arith, eqb-true first.number number f)) is.rest)
          ∙ here (is_row_of sender place first) refl
          ∙ ap (λ (it : OwedRow). not (is_row_of sender place it) && (is_row_of sender place first || any rows)) (some_same first row g)
      by_number false f g later = behind (is_row_of sender place first) (is_row_of sender place row) refl refl g (later g)

pub rows_behind : (rows : List OwedRow) (outbox : Outbox) → (with_rows rows outbox).rows ≡ outbox.rows ++ rows
rows_behind [] outbox = sym (append-nil outbox.rows)
rows_behind (row ∷ rows) outbox =
    rows_behind rows (record { given = row.number; rows = outbox.rows ++ row ∷ [] }) ∙ append_assoc outbox.rows (row ∷ []) rows
