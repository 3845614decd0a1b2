-- What is told of the rows of a journal is what the events tell.
use Rattle.std.proofs.Common.{ℕ, ◌+◌, ◌<◌, ◌==◌, arith, ◌≡◌, refl, sym, ap, ap₂, ◌∙◌, true≢false, Bool, true, false, not, ◌&&◌, ◌||◌, if◌then◌else◌, List, [], ◌∷◌, ◌++◌, Option, Some, None, is_some, Ordering, Less, Equal, Greater, is_eq}
use Rattle.std.specs.List.{list_any}
use Rattle.std.specs.BTreeMap.{is_at}
use Rattle.std.specs.BTreeSet.{insert_key}
use Rattle.std.specs.Cmp.{ranks}
use Rattle.std.specs.Ordering.{MatchOrdering, match_ordering, nat_cmp}
use Rattle.std.proofs.lemmas.Bool.{eq-eqb, eqb-true}
use Rattle.journal_model.specs.Notification.{Text}
use Rattle.journal_model.specs.declared.notification.NotificationId.{NotificationId}
use Rattle.journal_model.specs.declared.notification.NotificationId.TheVariants.{CompletionId, SignalId, SignalName}
use Rattle.journal_model.specs.declared.invocation.NewInvocation.{NewInvocation}
use Rattle.journal_model.specs.Request.{Request}
use Rattle.journal_model.specs.Spelling.{request_type}
use Rattle.journal_model.specs.Event.{Event}
use Rattle.journal_model.specs.Journal.{Entry, Recorded, Arrived, arrivals_in, closes, completes, entries_of, frames_of, invocation_begun, is_awaited, is_open, version_of}
use Rattle.store_tables.specs.declared.row.EntryRow.{EntryRow}
use Rattle.store_model.specs.KeptRecords.{entry_row, journal_rows, rows_from, rows_of_journal}
use Rattle.store_reads.specs.declared.requests.OpenRequest.{OpenRequest}
use Rattle.store_reads.specs.OpenRequests.{asks_others, asks_others_by, entry_told, if_open, is_answered, journal_if_open, open_requests, request_read, row_told, rows_told, told_from, with_number}

-- ---- the completions that have come, as a set

same_number : (n m : ℕ) → is_eq (nat_cmp n m) ≡ (m == n)
same_number n m = by_rank (nat_cmp n m) (ranks n m)
  where
    unequal : (b : Bool) → (m == n) ≡ b → (m ≡ n → ⊥) → false ≡ b
    unequal true e other = absurd (other (eqb-true m n e))
    unequal false e other = refl

    by_rank : (o : Ordering) → MatchOrdering o (n < m) (n ≡ m) (m < n) → is_eq o ≡ (m == n)
    by_rank Less h = unequal (m == n) refl (λ same. omega (arith, h, same))
    by_rank Equal h = sym (eq-eqb m n (sym h))
    by_rank Greater h = unequal (m == n) refl (λ same. omega (arith, h, same))

or_twice : (a b : Bool) → (a || (a || b)) ≡ (a || b)
or_twice true b = refl
or_twice false b = refl

or_between : (a b c : Bool) → (a || (b || c)) ≡ (b || (a || c))
or_between true true c = refl
or_between true false c = refl
or_between false b c = refl

-- a number that was added is in the set, and so are those that were
added : (n m : ℕ) (keys : List ℕ) → list_any (is_at (nat_cmp n)) (insert_key nat_cmp keys m) ≡ ((m == n) || list_any (is_at (nat_cmp n)) keys)
added n m [] = ap (λ (b : Bool). b || false) (same_number n m)
added n m (key ∷ keys) = by_rank (nat_cmp m key) (ranks m key) (added n m keys)
  where
    by_rank : (o : Ordering) → MatchOrdering o (m < key) (m ≡ key) (key < m) → list_any (is_at (nat_cmp n)) (insert_key nat_cmp keys m) ≡ ((m == n) || list_any (is_at (nat_cmp n)) keys)
        → list_any (is_at (nat_cmp n)) (match_ordering o (m ∷ key ∷ keys) (key ∷ keys) (key ∷ insert_key nat_cmp keys m)) ≡ ((m == n) || list_any (is_at (nat_cmp n)) (key ∷ keys))
    by_rank Less h later = ap (λ (b : Bool). b || list_any (is_at (nat_cmp n)) (key ∷ keys)) (same_number n m)
    by_rank Equal h later =
        let same : is_eq (nat_cmp n key) ≡ (m == n) = ap (λ (k : ℕ). is_eq (nat_cmp n k)) (sym h) ∙ same_number n m in
        ap (λ (b : Bool). b || list_any (is_at (nat_cmp n)) keys) same ∙ sym (or_twice (m == n) (list_any (is_at (nat_cmp n)) keys))
        ∙ ap (λ (b : Bool). (m == n) || (b || list_any (is_at (nat_cmp n)) keys)) (sym same)
    by_rank Greater h later = ap (λ (b : Bool). is_eq (nat_cmp n key) || b) later ∙ or_between (is_eq (nat_cmp n key)) (m == n) (list_any (is_at (nat_cmp n)) keys)

-- what has come is in the set or among the rows that are left
abbrev pub IsCounted : List EntryRow → List ℕ → List EntryRow → Type 0
IsCounted rows keys left = (n : ℕ) → is_answered rows n ≡ (list_any (is_at (nat_cmp n)) keys || is_answered left n)

pub none_counted : (rows : List EntryRow) (keys : List ℕ) → keys ≡ [] → IsCounted rows keys rows
none_counted rows keys none n = sym (ap (λ (l : List ℕ). list_any (is_at (nat_cmp n)) l || is_answered rows n) none)

pub all_counted : (rows : List EntryRow) (keys : List ℕ) (left : List EntryRow) → left ≡ [] → IsCounted rows keys left → (n : ℕ) → list_any (is_at (nat_cmp n)) keys ≡ is_answered rows n
all_counted rows keys left none so n =
    sym (so n ∙ ap (λ (l : List EntryRow). list_any (is_at (nat_cmp n)) keys || is_answered l n) none ∙ or_none (list_any (is_at (nat_cmp n)) keys))
  where
    or_none : (b : Bool) → (b || false) ≡ b
    or_none true = refl
    or_none false = refl

pub one_counted : (rows : List EntryRow) (keys more : List ℕ) (row : EntryRow) (left : List EntryRow) → more ≡ with_number row.answered keys → IsCounted rows keys (row ∷ left) → IsCounted rows more left
one_counted rows keys more row left grown so n =
    so n ∙ moved row.answered ∙ ap (λ (numbers : List ℕ). list_any (is_at (nat_cmp n)) numbers || is_answered left n) (sym grown)
  where
    grouped : (a b c : Bool) → (a || (b || c)) ≡ ((b || a) || c)
    grouped true true c = refl
    grouped true false c = refl
    grouped false true c = refl
    grouped false false c = refl

    moved : (answered : Option ℕ) → (list_any (is_at (nat_cmp n)) keys || is_answered (record row { answered = answered } ∷ left) n) ≡ (list_any (is_at (nat_cmp n)) (with_number answered keys) || is_answered left n)
    moved None = refl
    moved (Some m) = grouped (list_any (is_at (nat_cmp n)) keys) (m == n) (is_answered left n) ∙ ap (λ (b : Bool). b || is_answered left n) (sym (added n m keys))

-- ---- the rows of entries

kinds : (request : Request) → asks_others_by (request_type request) ≡ asks_others request
kinds (Request.Output value name) = refl
kinds (Request.GetLazyState key n name) = refl
kinds (Request.GetEagerState key value name) = refl
kinds (Request.GetLazyStateKeys n name) = refl
kinds (Request.GetEagerStateKeys keys name) = refl
kinds (Request.SetState key value name) = refl
kinds (Request.ClearState key name) = refl
kinds (Request.ClearAllState name) = refl
kinds (Request.GetPromise key n name) = refl
kinds (Request.PeekPromise key n name) = refl
kinds (Request.CompletePromise key value n name) = refl
kinds (Request.Sleep time n name) = refl
kinds (Request.CallService call m n name) = refl
kinds (Request.OneWayCall call time n name) = refl
kinds (Request.SendSignal target signal value name) = refl
kinds (Request.Run n name) = refl
kinds (Request.AttachInvocation target n name) = refl
kinds (Request.GetInvocationOutput target n name) = refl
kinds (Request.CompleteAwakeable id value name) = refl

-- an arrival asks for nothing
abbrev no_requests : List OpenRequest
no_requests = []

nothing : (b : Bool) → (if b then no_requests else no_requests) ≡ no_requests
nothing true = refl
nothing false = refl

module _ (has_come : ℕ → Bool) (id : Text) where
  entry_read : (before : List Entry) (place : ℕ) (entry : Entry) → row_told has_come (entry_row id before place entry) ≡ entry_told has_come place entry
  entry_read before place (Recorded request) =
      ap (λ (b : Bool). if b then if_open (request_read has_come (entry_row id before place (Recorded request))) else []) (kinds request)
  entry_read before place (Arrived arrival) = nothing (asks_others_by (entry_row id before place (Arrived arrival)).kind)

  rows_read : (before : List Entry) (place : ℕ) (entries : List Entry) → rows_told has_come (rows_from id before place entries) ≡ told_from has_come place entries
  rows_read before place [] = refl
  rows_read before place (entry ∷ entries) =
      ap₂ (λ (a b : List OpenRequest). a ++ b) (entry_read before place entry) (rows_read (before ++ entry ∷ []) (place + 1) entries)

answered_by_rows : (n : ℕ) (id : Text) (before : List Entry) (place : ℕ) (entries : List Entry) → is_answered (rows_from id before place entries) n ≡ list_any (completes n) (arrivals_in entries)
answered_by_rows n id before place [] = refl
answered_by_rows n id before place (Recorded request ∷ entries) = answered_by_rows n id (before ++ Recorded request ∷ []) (place + 1) entries
answered_by_rows n id before place (Arrived arrival ∷ entries) = by_id arrival.id (answered_by_rows n id (before ++ Arrived arrival ∷ []) (place + 1) entries)
  where
    rest : List EntryRow
    rest = rows_from id (before ++ Arrived arrival ∷ []) (place + 1) entries

    by_id : (name : NotificationId) → is_answered rest n ≡ list_any (completes n) (arrivals_in entries)
        → is_answered (entry_row id before place (Arrived (record arrival { id = name })) ∷ rest) n ≡ list_any (completes n) (record arrival { id = name } ∷ arrivals_in entries)
    by_id (CompletionId m) later = ap (λ (b : Bool). (m == n) || b) later
    by_id (SignalId m) later = later
    by_id (SignalName name) later = later

not_twice : (b : Bool) → not (not b) ≡ b
not_twice true = refl
not_twice false = refl

-- what is told of the journal's rows
pub requests_are : (events : List Event) (id : Text) (rows : List EntryRow) → Some rows ≡ journal_if_open events id → rows_told (is_answered rows) rows ≡ open_requests events id
requests_are events id rows found = by_test (is_open events id) refl found
  where
    entries : List Entry
    entries = entries_of events id

    come : (new : NewInvocation) → invocation_begun events id ≡ Some new → (n : ℕ) → is_answered (journal_rows events id) n ≡ not (is_awaited entries n)
    come new begun n =
        ap (λ (o : Option NewInvocation). is_answered (rows_of_journal o id entries) n) begun ∙ answered_by_rows n id [] 1 entries
        ∙ sym (not_twice (list_any (completes n) (arrivals_in entries)))

    of_begun : is_open events id ≡ true → (o : Option NewInvocation) → invocation_begun events id ≡ o → rows_told (is_answered (journal_rows events id)) (journal_rows events id) ≡ told_from (λ n. not (is_awaited entries n)) 1 entries
    of_begun opened None e = absurd (true≢false (sym opened ∙ ap (λ (o : Option NewInvocation). is_some o && not (list_any (closes (version_of events id)) (frames_of events id))) e))
    of_begun opened (Some new) e =
        ap (λ (has_come : ℕ → Bool). rows_told has_come (journal_rows events id)) (λ i n. come new e n i)
        ∙ ap (λ (o : Option NewInvocation). rows_told (λ n. not (is_awaited entries n)) (rows_of_journal o id entries)) e
        ∙ rows_read (λ n. not (is_awaited entries n)) id [] 1 entries

    by_test : (b : Bool) → is_open events id ≡ b → Some rows ≡ (if b then Some (journal_rows events id) else None)
        → rows_told (is_answered rows) rows ≡ (if b then told_from (λ n. not (is_awaited entries n)) 1 entries else no_requests)
    by_test true opened found =
        let are : rows ≡ journal_rows events id = cc in
        ap (λ (all : List EntryRow). rows_told (is_answered all) all) are ∙ of_begun opened (invocation_begun events id) refl
    by_test false closed found = absurd cc

-- nothing is told of a closed one
pub none_asked : (events : List Event) (id : Text) (found : Option (List EntryRow)) → found ≡ None → found ≡ journal_if_open events id → no_requests ≡ open_requests events id
none_asked events id found none are = by_test (is_open events id) (sym none ∙ are)
  where
    by_test : (b : Bool) → None ≡ (if b then Some (journal_rows events id) else None)
        → no_requests ≡ (if b then told_from (λ n. not (is_awaited (entries_of events id) n)) 1 (entries_of events id) else no_requests)
    by_test true e = absurd cc
    by_test false e = refl

-- which rows were read
pub rows_found : (events : List Event) (id : Text) (rows : List EntryRow) (answer : Bool) → answer ≡ is_open events id → answer ≡ true → rows ≡ journal_rows events id → Some rows ≡ journal_if_open events id
rows_found events id rows answer told opened are = ap Some are ∙ sym (ap (λ (b : Bool). if b then Some (journal_rows events id) else None) (sym told ∙ opened))

pub none_found : (events : List Event) (id : Text) (answer : Bool) → answer ≡ is_open events id → answer ≡ false → None ≡ journal_if_open events id
none_found events id answer told closed = sym (ap (λ (b : Bool). if b then Some (journal_rows events id) else None) (sym told ∙ closed))

-- the set stands for what the rows answer
pub told_by : (f g : ℕ → Bool) (rows : List EntryRow) → ((n : ℕ) → f n ≡ g n) → rows_told f rows ≡ rows_told g rows
told_by f g rows same = ap (λ (has_come : ℕ → Bool). rows_told has_come rows) (λ i n. same n i)
