-- What is asked of the records.
use Rattle.std.specs.Prelude.{◌≡◌, ℕ, ◌+◌, ◌≤◌, ◌==◌, ◌&&◌, nat_lt, Bool, true, false, List, [], ◌∷◌, filter, length, map, bytes_eq, Option, None, Some, IsTrue, ⊤}
use Rattle.std.specs.List.{find}
use Rattle.std.specs.List.Sorted.{IsPermutation}
use Rattle.std.specs.Ordering.{is_lt, nat_cmp}
use Rattle.std.specs.Cmp.Lexicographic.{slice_cmp}
use Rattle.sqlite_trees.specs.Tree.{Trees}
use Rattle.store_tables.specs.Records.{Records, Holds, IdRow, InvocationRow, EntryRow, id_row}
pub use Rattle.store_tables.specs.Records.{is_at_key, is_of_object}

-- the first record that passes, whatever records the tables have
abbrev pub IsFound : {X : Type 0} → (Records → List X) → (X → Bool) → Trees → Option X → Type 0
IsFound records test db found = (r : Records) → Holds db r → found ≡ find test (records r)

-- the tables have no records of which one passes at most
abbrev pub IsAmbiguous : {X : Type 0} → (Records → List X) → (X → Bool) → Trees → Type 0
IsAmbiguous records test db = (r : Records) → Holds db r → length (filter test (records r)) ≤ 1 → ⊥

-- the records that pass, in the order of their keys
abbrev pub is_before : List ℕ → List ℕ → Bool
is_before a b = is_lt (slice_cmp nat_cmp a b)

abbrev pub DoAscend : {X : Type 0} → (X → List ℕ) → List X → Type 0
DoAscend key [] = ⊤
DoAscend key (x ∷ []) = ⊤
DoAscend key (x ∷ y ∷ xs) = IsTrue (is_before (key x) (key y)) × DoAscend key (y ∷ xs)

abbrev pub AreFound : {X : Type 0} → (Records → List X) → (X → Bool) → (X → List ℕ) → Trees → List X → Type 0
AreFound records test key db found = DoAscend key found × ((r : Records) → Holds db r → IsPermutation (filter test (records r)) found)

abbrev pub is_text : List ℕ → Option (List ℕ) → Bool
is_text text None = false
is_text text (Some other) = bytes_eq other text

abbrev pub is_number : ℕ → Option ℕ → Bool
is_number n None = false
is_number n (Some m) = m == n

-- ---- invocations

abbrev pub has_id : List ℕ → InvocationRow → Bool
has_id id i = bytes_eq i.id id

-- the object's open invocation
abbrev pub is_open_of : List ℕ → InvocationRow → Bool
is_open_of object i = is_text object i.progress.open_object

-- an id is above another, or above none
abbrev pub is_named_after : Option (List ℕ) → InvocationRow → Bool
is_named_after None i = true
is_named_after (Some id) i = is_before id i.id

-- what may go on
abbrev pub is_awake : InvocationRow → Bool
is_awake i = i.progress.is_awake

-- the ids alone of what may go on
abbrev pub awake_ids : Records → List IdRow
awake_ids r = map id_row (filter is_awake r.invocations)

-- these, in order, whatever records the tables have
abbrev pub AreAwake : Trees → List IdRow → Type 0
AreAwake db found = DoAscend (λ i. i.id) found × ((r : Records) → Holds db r → IsPermutation (awake_ids r) found)

-- ---- entries

abbrev pub is_at_place : List ℕ → ℕ → EntryRow → Bool
is_at_place invocation place e = bytes_eq e.invocation invocation && (e.place == place)

-- the request that asks for a completion, first or second
abbrev pub asks_for : List ℕ → ℕ → EntryRow → Bool
asks_for invocation n e = bytes_eq e.invocation invocation && is_number n e.completion

abbrev pub asks_second_for : List ℕ → ℕ → EntryRow → Bool
asks_second_for invocation n e = bytes_eq e.invocation invocation && is_number n e.second_completion

-- the arrival that answers a completion
abbrev pub answers : List ℕ → ℕ → EntryRow → Bool
answers invocation n e = bytes_eq e.invocation invocation && is_number n e.answered

-- the arrival with an ordinal
abbrev pub is_arrival_at : List ℕ → ℕ → EntryRow → Bool
is_arrival_at invocation n e = bytes_eq e.invocation invocation && is_number n e.arrival

-- an arrival behind so many
abbrev pub is_above : ℕ → Option ℕ → Bool
is_above n None = false
is_above n (Some m) = nat_lt n m

abbrev pub is_arrival_after : List ℕ → ℕ → EntryRow → Bool
is_arrival_after invocation n e = bytes_eq e.invocation invocation && is_above n e.arrival

-- the entries of an invocation, in the order in which they were added
abbrev pub journal_of : List ℕ → Records → List EntryRow
journal_of invocation r = filter (λ e. bytes_eq e.invocation invocation) r.entries

-- the places count up
abbrev pub AreInPlace : ℕ → List EntryRow → Type 0
AreInPlace n [] = ⊤
AreInPlace n (e ∷ es) = (e.place ≡ n) × AreInPlace (n + 1) es

-- a journal whose places count up, whatever records the tables have
abbrev pub IsJournal : List ℕ → Trees → List EntryRow → Type 0
IsJournal invocation db found = (r : Records) → Holds db r → AreInPlace 0 (journal_of invocation r) → found ≡ journal_of invocation r

-- the tables have no records of which that journal counts up
abbrev pub IsNoJournal : List ℕ → Trees → Type 0
IsNoJournal invocation db = (r : Records) → Holds db r → AreInPlace 0 (journal_of invocation r) → ⊥

-- the ordinals count up, from one on
abbrev pub AreCounted : ℕ → List EntryRow → Type 0
AreCounted n [] = ⊤
AreCounted n (e ∷ es) = (e.arrival ≡ Some n) × AreCounted (n + 1) es

-- the arrivals behind the first n, in the order in which they were added, if their ordinals count up, whatever records the tables have
abbrev pub AreArrivals : List ℕ → ℕ → Trees → List EntryRow → Type 0
AreArrivals invocation n db found = (r : Records) → Holds db r → AreCounted (n + 1) (filter (is_arrival_after invocation n) r.entries) → found ≡ filter (is_arrival_after invocation n) r.entries

-- the tables have no records of which they count up
abbrev pub AreNoArrivals : List ℕ → ℕ → Trees → Type 0
AreNoArrivals invocation n db = (r : Records) → Holds db r → AreCounted (n + 1) (filter (is_arrival_after invocation n) r.entries) → ⊥
