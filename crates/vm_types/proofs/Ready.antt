-- The least read whose answer can be taken, as the library's map tells it, and what an answer leaves.
use Rattle.std.proofs.Common.{◌≡◌, refl, sym, ap, ap₂, ◌∙◌, ℕ, zero, suc, ◌+◌, ◌<◌, ◌≤◌, ◌↔◌, Bool, true, false, not, ◌||◌, if◌then◌else◌, List, [], ◌∷◌, length, slice_get, Option, Some, None, is_some, unwrap_or, Less, Equal, Greater, true≢false, arith}
use Rattle.std.specs.List.{list_any}
use Rattle.std.specs.Map.{lookup}
use Rattle.std.specs.Set.{remove_key}
use Rattle.std.specs.BTreeMap.{insert_entry, is_at}
use Rattle.std.specs.BTreeSet.{insert_key}
use Rattle.std.specs.Cmp.{ranks}
use Rattle.std.specs.Ordering.{MatchOrdering, nat_cmp, is_gt}
use Rattle.std.specs.declared.cmp.Ordering.{Ordering}
use Rattle.journal_model.specs.declared.value.Value.{Value}
use Rattle.vm_types.specs.Reads.{EphemeralReads, asked, known, first_answered_read, after_answer}

by_rank : (o : Ordering) (n m : ℕ) → MatchOrdering o (n < m) (n ≡ m) (m < n) → is_gt o ≡ false → n ≤ m
by_rank Less n m h e = omega (arith, h)
by_rank Equal n m h e = omega (arith, h)
by_rank Greater n m h e = absurd (true≢false e)

pub at_most : (n m : ℕ) → is_gt (nat_cmp n m) ≡ false → n ≤ m
at_most n m = by_rank (nat_cmp n m) n m (ranks n m)

pub first_is : (reads : List (ℕ × Value)) (n : ℕ) (value : Value) → slice_get reads 0 ≡ Some (n, value) → first_answered_read reads ≡ Some (record { number = n })
first_is [] n value e = absurd cc
first_is (read ∷ reads) n value e = ap (λ (r : ℕ × Value). first_answered_read (r ∷ reads)) (ap (λ (found : Option (ℕ × Value)). unwrap_or found read) e)

pub none_first : (reads : List (ℕ × Value)) → (0 < length reads → false ≡ true) → first_answered_read reads ≡ None
none_first [] none = refl
none_first (read ∷ reads) none = absurd (true≢false (sym (none (omega arith))))

pub some_left : (b : Bool) (n : ℕ) → ((b ≡ true) ↔ (n ≡ 0)) → ((not b ≡ true) ↔ (0 < n))
some_left true n h = ((λ e. absurd (true≢false (sym e))), (λ l. let none : n ≡ 0 = h.0 refl in absurd (omega (arith, none, l))))
some_left false zero h = absurd (true≢false (sym (h.1 refl)))
some_left false (suc n) h = ((λ e. omega arith), (λ l. refl))

-- ---- what an answer makes of the reads

abbrev pub reads_of : ℕ → List ℕ → List (ℕ × Value) → EphemeralReads
reads_of next in_flight ready = record { next = next; in_flight = in_flight; ready = ready }

pub asked_one : (last number : ℕ) (in_flight more : List ℕ) (ready : List (ℕ × Value)) → number ≡ last + 1 → more ≡ insert_key nat_cmp in_flight number
    → reads_of (number + 1) more ready ≡ asked (reads_of (last + 1) in_flight ready)
asked_one last number in_flight more ready is made =
    ap₂ (λ (n : ℕ) (keys : List ℕ). reads_of n keys ready) (ap (λ (n : ℕ). n + 1) is) (made ∙ ap (insert_key nat_cmp in_flight) is)

pub known_one : (last number : ℕ) (in_flight : List ℕ) (ready more : List (ℕ × Value)) (value : Value) → number ≡ last + 1 → more ≡ insert_entry nat_cmp ready number value
    → reads_of (number + 1) in_flight more ≡ known value (reads_of (last + 1) in_flight ready)
known_one last number in_flight ready more value is made =
    ap₂ (λ (n : ℕ) (reads : List (ℕ × Value)). reads_of n in_flight reads) (ap (λ (n : ℕ). n + 1) is) (made ∙ ap (λ (n : ℕ). insert_entry nat_cmp ready n value) is)

abbrev awaits : List ℕ → List (ℕ × Value) → ℕ → Bool
awaits in_flight ready number = list_any (is_at (nat_cmp number)) in_flight || is_some (lookup (is_at (nat_cmp number)) ready)

pub answer_ignored : (next : ℕ) (in_flight : List ℕ) (ready : List (ℕ × Value)) (number : ℕ) (value : Value) (known : Bool)
    → known ≡ awaits in_flight ready number → known ≡ false → reads_of next in_flight ready ≡ after_answer number value (reads_of next in_flight ready)
answer_ignored next in_flight ready number value known is none =
    by_test (awaits in_flight ready number) (sym is ∙ none)
  where
    by_test : (b : Bool) → b ≡ false → reads_of next in_flight ready
        ≡ (if b then reads_of next (remove_key (is_at (nat_cmp number)) in_flight) (insert_entry nat_cmp ready number value) else reads_of next in_flight ready)
    by_test true e = absurd (true≢false e)
    by_test false e = refl

pub answer_kept : (next : ℕ) (in_flight left : List ℕ) (ready more : List (ℕ × Value)) (number : ℕ) (value : Value) (known : Bool)
    → known ≡ awaits in_flight ready number → known ≡ true → left ≡ remove_key (is_at (nat_cmp number)) in_flight → more ≡ insert_entry nat_cmp ready number value
    → reads_of next left more ≡ after_answer number value (reads_of next in_flight ready)
answer_kept next in_flight left ready more number value known is waits gone kept =
    ap₂ (reads_of next) gone kept ∙ by_test (awaits in_flight ready number) (sym is ∙ waits)
  where
    by_test : (b : Bool) → b ≡ true → reads_of next (remove_key (is_at (nat_cmp number)) in_flight) (insert_entry nat_cmp ready number value)
        ≡ (if b then reads_of next (remove_key (is_at (nat_cmp number)) in_flight) (insert_entry nat_cmp ready number value) else reads_of next in_flight ready)
    by_test true e = refl
    by_test false e = absurd (true≢false (sym e))

-- where there was no memory for an answer, none was there before, so it was waited for
pub was_asked : (in_flight : List ℕ) (ready : List (ℕ × Value)) (number : ℕ) (known : Bool)
    → known ≡ awaits in_flight ready number → known ≡ true → lookup (is_at (nat_cmp number)) ready ≡ None → list_any (is_at (nat_cmp number)) in_flight ≡ true
was_asked in_flight ready number known is waits none =
    by_test (list_any (is_at (nat_cmp number)) in_flight)
    (sym (ap (λ (found : Option Value). list_any (is_at (nat_cmp number)) in_flight || is_some found) none) ∙ sym is ∙ waits)
  where
    by_test : (b : Bool) → (b || false) ≡ true → b ≡ true
    by_test true e = refl
    by_test false e = e
