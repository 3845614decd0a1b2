-- The rows of arrivals are found by their ordinals.
use Rattle.std.proofs.Common.{ℕ, zero, suc, ◌+◌, ◌≤◌, ◌<◌, ◌==◌, nat_lt, arith, ◌≡◌, refl, sym, ap, subst, ◌∙◌, Bool, true, false, if◌then◌else◌, List, [], ◌∷◌, ◌++◌, length, filter, drop, Option, Some, None, option_to_list, bytes_eq}
use Rattle.std.specs.List.{slice_get}
use Rattle.std.proofs.lemmas.Bool.{ltb-true, ltb-false, eqb-true, eq-eqb}
use Rattle.journal_model.specs.declared.invocation.NewInvocation.{NewInvocation}
use Rattle.journal_model.specs.Notification.{Text, Arrival}
use Rattle.journal_model.specs.Event.{Event}
use Rattle.journal_model.specs.Journal.{Entry, Recorded, Arrived, invocation_begun, starting_state, arrivals_in, entries_of}
use Rattle.journal_model.specs.Cause.{IsAccepted}
use Rattle.journal_laws.proofs.ObjectState.{no_entries}
use Rattle.store_tables.specs.Records.{Records}
use Rattle.store_tables.specs.Questions.{AreCounted, is_above, is_arrival_after, is_arrival_at, is_number}
use Rattle.store_tables.specs.declared.row.EntryRow.{EntryRow}
use Rattle.store_model.specs.KeptRecords.{entry_row, rows_from, rows_of_journal, IsKept}
use Rattle.store_model.proofs.Following.{arrived_more}
use Rattle.store_model.specs.Lookups.{AllArrivalsFound, IsOnly, arrival_rows, rows_of_arrivals}
use Rattle.store_model.proofs.Only.{filter_both}

count_request : (before : List Entry) (entry : Entry) (count : ℕ) → arrivals_in (entry ∷ []) ≡ [] → length (arrivals_in before) ≡ count → length (arrivals_in (before ++ entry ∷ [])) ≡ count
count_request before entry count none e =
    let all = arrived_more before (entry ∷ []) in
    let nothing = ap length none in
    omega (arith, all, nothing, e)

count_arrival : (before : List Entry) (arrival : Arrival) (count : ℕ) → length (arrivals_in before) ≡ count → length (arrivals_in (before ++ Arrived arrival ∷ [])) ≡ suc count
count_arrival before arrival count e = let all = arrived_more before (Arrived arrival ∷ []) in omega (arith, all, e)

-- ---- those behind so many

all_behind : (id : Text) (before : List Entry) (place : ℕ) (entries : List Entry) (k count : ℕ) → length (arrivals_in before) ≡ count → k ≤ count
    → filter (λ (row : EntryRow). is_above k row.arrival) (rows_from id before place entries) ≡ rows_of_arrivals id before place entries
all_behind id before place [] k count e low = refl
all_behind id before place (Recorded request ∷ entries) k count e low =
    all_behind id (before ++ Recorded request ∷ []) (place + 1) entries k count (count_request before (Recorded request) count refl e) low
all_behind id before place (Arrived arrival ∷ entries) k count e low =
    by_test (nat_lt k (1 + length (arrivals_in before))) refl
    (all_behind id (before ++ Arrived arrival ∷ []) (place + 1) entries k (suc count) (count_arrival before arrival count e) (omega (arith, low)))
  where
    by_test : (b : Bool) → nat_lt k (1 + length (arrivals_in before)) ≡ b
        → filter (λ (row : EntryRow). is_above k row.arrival) (rows_from id (before ++ Arrived arrival ∷ []) (place + 1) entries) ≡ rows_of_arrivals id (before ++ Arrived arrival ∷ []) (place + 1) entries
        → (if b then entry_row id before place (Arrived arrival) ∷ filter (λ (row : EntryRow). is_above k row.arrival) (rows_from id (before ++ Arrived arrival ∷ []) (place + 1) entries)
        else filter (λ (row : EntryRow). is_above k row.arrival) (rows_from id (before ++ Arrived arrival ∷ []) (place + 1) entries))
        ≡ entry_row id before place (Arrived arrival) ∷ rows_of_arrivals id (before ++ Arrived arrival ∷ []) (place + 1) entries
    by_test true f later = ap (λ (rows : List EntryRow). entry_row id before place (Arrived arrival) ∷ rows) later
    by_test false f later = let above = ltb-false k (1 + length (arrivals_in before)) f in absurd (omega (arith, above, e, low))

rows_behind : (id : Text) (before : List Entry) (place : ℕ) (entries : List Entry) (k count j : ℕ) → length (arrivals_in before) ≡ count → k ≡ count + j
    → filter (λ (row : EntryRow). is_above k row.arrival) (rows_from id before place entries) ≡ drop j (rows_of_arrivals id before place entries)
rows_behind id before place entries k count zero e f = all_behind id before place entries k count e (omega (arith, f))
rows_behind id before place [] k count (suc j) e f = refl
rows_behind id before place (Recorded request ∷ entries) k count (suc j) e f =
    rows_behind id (before ++ Recorded request ∷ []) (place + 1) entries k count (suc j) (count_request before (Recorded request) count refl e) f
rows_behind id before place (Arrived arrival ∷ entries) k count (suc j) e f =
    by_test (nat_lt k (1 + length (arrivals_in before))) refl
    (rows_behind id (before ++ Arrived arrival ∷ []) (place + 1) entries k (suc count) j (count_arrival before arrival count e) (omega (arith, f)))
  where
    by_test : (b : Bool) → nat_lt k (1 + length (arrivals_in before)) ≡ b
        → filter (λ (row : EntryRow). is_above k row.arrival) (rows_from id (before ++ Arrived arrival ∷ []) (place + 1) entries) ≡ drop j (rows_of_arrivals id (before ++ Arrived arrival ∷ []) (place + 1) entries)
        → (if b then entry_row id before place (Arrived arrival) ∷ filter (λ (row : EntryRow). is_above k row.arrival) (rows_from id (before ++ Arrived arrival ∷ []) (place + 1) entries)
        else filter (λ (row : EntryRow). is_above k row.arrival) (rows_from id (before ++ Arrived arrival ∷ []) (place + 1) entries))
        ≡ drop j (rows_of_arrivals id (before ++ Arrived arrival ∷ []) (place + 1) entries)
    by_test true g later = let below = ltb-true k (1 + length (arrivals_in before)) g in absurd (omega (arith, below, e, f))
    by_test false g later = later

-- ---- the one with an ordinal

none_at : (id : Text) (before : List Entry) (place : ℕ) (entries : List Entry) (k count : ℕ) → length (arrivals_in before) ≡ count → k < count
    → filter (λ (row : EntryRow). is_number (k + 1) row.arrival) (rows_from id before place entries) ≡ []
none_at id before place [] k count e low = refl
none_at id before place (Recorded request ∷ entries) k count e low =
    none_at id (before ++ Recorded request ∷ []) (place + 1) entries k count (count_request before (Recorded request) count refl e) low
none_at id before place (Arrived arrival ∷ entries) k count e low =
    by_test ((1 + length (arrivals_in before)) == k + 1) refl
    (none_at id (before ++ Arrived arrival ∷ []) (place + 1) entries k (suc count) (count_arrival before arrival count e) (omega (arith, low)))
  where
    by_test : (b : Bool) → ((1 + length (arrivals_in before)) == k + 1) ≡ b
        → filter (λ (row : EntryRow). is_number (k + 1) row.arrival) (rows_from id (before ++ Arrived arrival ∷ []) (place + 1) entries) ≡ []
        → (if b then entry_row id before place (Arrived arrival) ∷ filter (λ (row : EntryRow). is_number (k + 1) row.arrival) (rows_from id (before ++ Arrived arrival ∷ []) (place + 1) entries)
        else filter (λ (row : EntryRow). is_number (k + 1) row.arrival) (rows_from id (before ++ Arrived arrival ∷ []) (place + 1) entries)) ≡ []
    by_test true g later = let same = eqb-true (1 + length (arrivals_in before)) (k + 1) g in absurd (omega (arith, same, e, low))
    by_test false g later = later

one_at : (id : Text) (before : List Entry) (place : ℕ) (entries : List Entry) (k count j : ℕ) → length (arrivals_in before) ≡ count → k ≡ count + j
    → filter (λ (row : EntryRow). is_number (k + 1) row.arrival) (rows_from id before place entries) ≡ option_to_list (slice_get (rows_of_arrivals id before place entries) j)
one_at id before place [] k count j e f = refl
one_at id before place (Recorded request ∷ entries) k count j e f =
    one_at id (before ++ Recorded request ∷ []) (place + 1) entries k count j (count_request before (Recorded request) count refl e) f
one_at id before place (Arrived arrival ∷ entries) k count zero e f =
    by_test ((1 + length (arrivals_in before)) == k + 1) refl
    (none_at id (before ++ Arrived arrival ∷ []) (place + 1) entries k (suc count) (count_arrival before arrival count e) (omega (arith, f)))
  where
    by_test : (b : Bool) → ((1 + length (arrivals_in before)) == k + 1) ≡ b
        → filter (λ (row : EntryRow). is_number (k + 1) row.arrival) (rows_from id (before ++ Arrived arrival ∷ []) (place + 1) entries) ≡ []
        → (if b then entry_row id before place (Arrived arrival) ∷ filter (λ (row : EntryRow). is_number (k + 1) row.arrival) (rows_from id (before ++ Arrived arrival ∷ []) (place + 1) entries)
        else filter (λ (row : EntryRow). is_number (k + 1) row.arrival) (rows_from id (before ++ Arrived arrival ∷ []) (place + 1) entries)) ≡ entry_row id before place (Arrived arrival) ∷ []
    by_test true g later = ap (λ (rows : List EntryRow). entry_row id before place (Arrived arrival) ∷ rows) later
    by_test false g later =
        let same : 1 + length (arrivals_in before) ≡ k + 1 = omega (arith, e, f) in
        absurd (let yes : true ≡ false = sym (eq-eqb (1 + length (arrivals_in before)) (k + 1) same) ∙ g in cc)
one_at id before place (Arrived arrival ∷ entries) k count (suc j) e f =
    by_test ((1 + length (arrivals_in before)) == k + 1) refl
    (one_at id (before ++ Arrived arrival ∷ []) (place + 1) entries k (suc count) j (count_arrival before arrival count e) (omega (arith, f)))
  where
    by_test : (b : Bool) → ((1 + length (arrivals_in before)) == k + 1) ≡ b
        → filter (λ (row : EntryRow). is_number (k + 1) row.arrival) (rows_from id (before ++ Arrived arrival ∷ []) (place + 1) entries)
        ≡ option_to_list (slice_get (rows_of_arrivals id (before ++ Arrived arrival ∷ []) (place + 1) entries) j)
        → (if b then entry_row id before place (Arrived arrival) ∷ filter (λ (row : EntryRow). is_number (k + 1) row.arrival) (rows_from id (before ++ Arrived arrival ∷ []) (place + 1) entries)
        else filter (λ (row : EntryRow). is_number (k + 1) row.arrival) (rows_from id (before ++ Arrived arrival ∷ []) (place + 1) entries))
        ≡ option_to_list (slice_get (rows_of_arrivals id (before ++ Arrived arrival ∷ []) (place + 1) entries) j)
    by_test true g later = let same = eqb-true (1 + length (arrivals_in before)) (k + 1) g in absurd (omega (arith, same, e, f))
    by_test false g later = later

-- ---- their ordinals count up

rows_counted : (id : Text) (before : List Entry) (place : ℕ) (entries : List Entry) (count : ℕ) → length (arrivals_in before) ≡ count → AreCounted (count + 1) (rows_of_arrivals id before place entries)
rows_counted id before place [] count e = tt
rows_counted id before place (Recorded request ∷ entries) count e =
    rows_counted id (before ++ Recorded request ∷ []) (place + 1) entries count (count_request before (Recorded request) count refl e)
rows_counted id before place (Arrived arrival ∷ entries) count e =
    let here : 1 + length (arrivals_in before) ≡ count + 1 = omega (arith, e) in
    let more : suc count ≡ count + 1 = omega arith in
    (ap Some here, rows_counted id (before ++ Arrived arrival ∷ []) (place + 1) entries (count + 1) (count_arrival before arrival count e ∙ more))

counted_behind : (n k : ℕ) (rows : List EntryRow) → AreCounted (n + 1) rows → AreCounted ((n + k) + 1) (drop k rows)
counted_behind n zero rows all =
    let same : n + 1 ≡ (n + 0) + 1 = omega arith in
    subst (λ (m : ℕ). AreCounted m rows) same all
counted_behind n (suc k) [] all = tt
counted_behind n (suc k) (row ∷ rows) all =
    let later : ((n + 1) + k) + 1 ≡ (n + suc k) + 1 = omega arith in
    subst (λ (m : ℕ). AreCounted m (drop k rows)) later (counted_behind (n + 1) k rows all.1)

-- ---- of a journal

drop_none : (n : ℕ) → ◌≡◌ {A = List EntryRow} (drop n []) []
drop_none zero = refl
drop_none (suc n) = refl

module _ (events : List Event) (r : Records) (id : Text) (accepted : IsAccepted events) (kept : IsKept events r) where
  no_arrivals : invocation_begun events id ≡ None → arrival_rows events id ≡ []
  no_arrivals e = ap (rows_of_arrivals id [] 1) (no_entries (starting_state events id) events accepted id e)

  behind : (k : ℕ) → filter (is_arrival_after id k) r.entries ≡ drop k (arrival_rows events id)
  behind k =
      filter_both (λ (row : EntryRow). bytes_eq row.invocation id) (λ (row : EntryRow). is_above k row.arrival) r.entries
      ∙ ap (filter (λ (row : EntryRow). is_above k row.arrival)) (kept.journals id) ∙ by_begun (invocation_begun events id) refl
    where
      by_begun : (o : Option NewInvocation) → invocation_begun events id ≡ o
          → filter (λ (row : EntryRow). is_above k row.arrival) (rows_of_journal o id (entries_of events id)) ≡ drop k (arrival_rows events id)
      by_begun None e = sym (ap (drop k) (no_arrivals e) ∙ drop_none k)
      by_begun (Some new) e = rows_behind id [] 1 (entries_of events id) k 0 k refl (omega arith)

  one : (k : ℕ) → IsOnly (is_arrival_at id (k + 1)) r.entries (slice_get (arrival_rows events id) k)
  one k =
      filter_both (λ (row : EntryRow). bytes_eq row.invocation id) (λ (row : EntryRow). is_number (k + 1) row.arrival) r.entries
      ∙ ap (filter (λ (row : EntryRow). is_number (k + 1) row.arrival)) (kept.journals id) ∙ by_begun (invocation_begun events id) refl
    where
      by_begun : (o : Option NewInvocation) → invocation_begun events id ≡ o
          → filter (λ (row : EntryRow). is_number (k + 1) row.arrival) (rows_of_journal o id (entries_of events id)) ≡ option_to_list (slice_get (arrival_rows events id) k)
      by_begun None e = sym (ap (λ (rows : List EntryRow). option_to_list (slice_get rows k)) (no_arrivals e))
      by_begun (Some new) e = one_at id [] 1 (entries_of events id) k 0 k refl (omega arith)

  counted : (k : ℕ) → AreCounted (k + 1) (drop k (arrival_rows events id))
  counted k =
      let all : (0 + k) + 1 ≡ k + 1 = omega arith in
      subst (λ (m : ℕ). AreCounted m (drop k (arrival_rows events id))) all (counted_behind 0 k (arrival_rows events id) (rows_counted id [] 1 (entries_of events id) 0 refl))

pub arrivals_found : AllArrivalsFound
arrivals_found events r id accepted kept = record { one = one events r id accepted kept; behind = behind events r id accepted kept; counted = counted events r id accepted kept }
