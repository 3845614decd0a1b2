-- Orders of records that were read.
use Rattle.std.proofs.Common.{◌≡◌, inl, inr, ◌+◌, ◌-◌, ◌<◌, ◌≤◌, ℕ, pos, zero, suc, cond, Ordering, Less, Equal, Greater, nat_lt, false, List, [], ◌∷◌, ◌++◌, length, slice_get, slice_index_or, Option, Some, IsTrue, refl, sym, ap, ap₂, subst, ◌∙◌, arith}
use Rattle.std.specs.List.Sorted.{IsPermutation}
use Rattle.std.proofs.lemmas.List.Sorted.{IsPermutation-sym}
use Rattle.std.proofs.lemmas.Bool.{cases_Bool, lt-ltb, ltb-true, ltb-false}
use Rattle.std.specs.List.{AllByRecursion}
use Rattle.std.specs.Prelude.{int_lt}
use Rattle.std.specs.Cmp.Lexicographic.{slice_cmp}
use Rattle.std.proofs.lemmas.Cmp.{nat_list_cmp_total}
use Rattle.std.specs.Int.{w64, cast_signed}
use Rattle.std.specs.Ordering.{int_cmp, is_eq, is_lt, nat_cmp, ordering_then}
use Rattle.sqlite_trees.specs.Tree.{IsAscending}
use Rattle.sqlite_keyed.specs.Lists.{sort_by}
use Rattle.sqlite_keyed.proofs.ListLemmas.{all_weaker, ascending_weaker}
use Rattle.sqlite_value.proofs.OrderLemmas.{value_cmp-Int, value_cmp-Blob, value_cmp-Text}
use Rattle.std.proofs.lemmas.Option.{slice_get_read}
use Rattle.sqlite_rules.specs.Lists.{Has}
use Rattle.sql_tables.proofs.Ordered.{rising_apart, rising_sorted}
use Rattle.sql_tables.proofs.RowReads.{permuted}
use Rattle.store_tables.specs.Asks.{AreTold, by_cells}
use Rattle.store_tables.specs.Orders.{AreApart, id_cmp, moment_cmp, sleep_cmp}
use Rattle.sql_tables.specs.Cells.{short_cell}
use Rattle.sql_tables.specs.Statements.{IsFirst}
use Rattle.sqlite.specs.Values.{or_null}
use Rattle.sqlite_value.specs.Order.{value_cmp}
use Rattle.store_tables.specs.Records.{EntryRow, IdRow, InvocationRow, SleepRow, StateRow, entry_cells, id_cells, invocation_cells, sleep_cells, state_cells}
use Rattle.store_tables.specs.Questions.{AreCounted, AreInPlace, DoAscend, is_before}

-- ---- places

pub in_place_push : (n : ℕ) (es : List EntryRow) (e : EntryRow) → AreInPlace n es → e.place ≡ n + length es → AreInPlace n (es ++ e ∷ [])
in_place_push n [] e h at = (omega arith, tt)
in_place_push n (x ∷ es) e h at = (h.0, in_place_push (n + 1) es e h.1 (omega arith))

no_earlier : (n : ℕ) (es : List EntryRow) (e : EntryRow) → AreInPlace n es → Has es e → n ≤ e.place
no_earlier n [] e h has = absurd has
no_earlier n (x ∷ es) e h (inl same) = let p : e.place ≡ n = ap (λ (y : EntryRow). y.place) same ∙ h.0 in omega arith
no_earlier n (x ∷ es) e h (inr has) = let later = no_earlier (n + 1) es e h.1 has in omega arith

same_members : (n : ℕ) (xs ys : List EntryRow) → AreInPlace n xs → AreInPlace n ys → ((e : EntryRow) → Has xs e → Has ys e) → ((e : EntryRow) → Has ys e → Has xs e) → xs ≡ ys
same_members n [] [] p q f g = refl
same_members n [] (y ∷ ys) p q f g = absurd (g y (inl refl))
same_members n (x ∷ xs) [] p q f g = absurd (f x (inl refl))
same_members n (x ∷ xs) (y ∷ ys) p q f g =
    let head : x ≡ y = elim (f x (inl refl)) [ inl e ↦ e | inr later ↦ absurd (let late = no_earlier (n + 1) ys x q.1 later in omega (arith, p.0)) ] in
    let tail = same_members (n + 1) xs ys p.1 q.1
    (λ e h. elim (f e (inr h)) [ inl s ↦ absurd (let late = no_earlier (n + 1) xs e p.1 h in let at : e.place ≡ n = ap (λ (z : EntryRow). z.place) s ∙ q.0 in omega arith) | inr k ↦ k ])
    (λ e h. elim (g e (inr h)) [ inl s ↦ absurd (let late = no_earlier (n + 1) ys e q.1 h in let at : e.place ≡ n = ap (λ (z : EntryRow). z.place) s ∙ p.0 in omega arith) | inr k ↦ k ]) in
    ap (λ (z : EntryRow). z ∷ xs) head ∙ ap (λ l. y ∷ l) tail

-- of the orders of entries whose places count up there is one
pub one_order : (xs ys : List EntryRow) → IsPermutation xs ys → AreInPlace 0 xs → AreInPlace 0 ys → ys ≡ xs
one_order xs ys same h k = same_members 0 ys xs k h (permuted xs ys same) (permuted ys xs (IsPermutation-sym xs ys same))

places_from : (n : ℕ) (es : List EntryRow) → AreInPlace n es → AllByRecursion (λ (e : EntryRow). n ≤ e.place) es
places_from n [] h = tt
places_from n (e ∷ es) h = (omega (arith, h.0), all_weaker (λ (x : EntryRow). n + 1 ≤ x.place) (λ (x : EntryRow). n ≤ x.place) (λ (x : EntryRow) later. omega (arith, later)) es (places_from (n + 1) es h.1))

int_before : (a b : ℕ) → a < b → int_cmp (pos a) (pos b) ≡ Less
int_before a b less = ap (λ t. cond t Less (cond (int_lt (pos b) (pos a)) Greater Equal)) (lt-ltb a b less)

first_decides : {o : Ordering} → o ≡ Less → ordering_then o Equal ≡ Less
first_decides less = ap (λ o. ordering_then o Equal) less

abbrev pub IsPlacedBefore : EntryRow → EntryRow → Type 0
IsPlacedBefore a b = by_cells entry_cells (1 ∷ []) a b ≡ Less

pub in_place_rises : (n : ℕ) (es : List EntryRow) → AreInPlace n es → IsAscending IsPlacedBefore es
in_place_rises n [] h = tt
in_place_rises n (e ∷ es) h = (
  all_weaker (λ (x : EntryRow). n + 1 ≤ x.place) (IsPlacedBefore e) (λ (x : EntryRow) later. first_decides (value_cmp-Int (pos e.place) (pos x.place) ∙ int_before e.place x.place (omega (arith, h.0, later)))) es (places_from (n + 1) es h.1),
  in_place_rises (n + 1) es h.1,
)

pub places_told : (es : List EntryRow) → AreInPlace 0 es → AreTold entry_cells (1 ∷ []) es
places_told es h = rising_apart (by_cells entry_cells (1 ∷ [])) es (in_place_rises 0 es h)

pub places_sorted : (es : List EntryRow) → AreInPlace 0 es → sort_by (by_cells entry_cells (1 ∷ [])) es ≡ es
places_sorted es h = rising_sorted (by_cells entry_cells (1 ∷ [])) es (in_place_rises 0 es h)

-- ---- ordinals

behind_all : (n : ℕ) (es : List EntryRow) → AreCounted n es → AllByRecursion (λ (e : EntryRow). (m : ℕ) × (e.arrival ≡ Some m) × (n ≤ m)) es
behind_all n [] h = tt
behind_all n (e ∷ es) h = (
  (n, h.0, omega arith),
  all_weaker (λ (x : EntryRow). (m : ℕ) × (x.arrival ≡ Some m) × (n + 1 ≤ m)) (λ (x : EntryRow). (m : ℕ) × (x.arrival ≡ Some m) × (n ≤ m)) (λ (x : EntryRow) later. (later.0, later.1, omega (arith, later.2))) es (behind_all (n + 1) es h.1),
)

abbrev pub IsCountedBefore : EntryRow → EntryRow → Type 0
IsCountedBefore a b = by_cells entry_cells (7 ∷ []) a b ≡ Less

counted_rises : (n : ℕ) (es : List EntryRow) → AreCounted n es → IsAscending IsCountedBefore es
counted_rises n [] h = tt
counted_rises n (e ∷ es) h = (
  all_weaker (λ (x : EntryRow). (m : ℕ) × (x.arrival ≡ Some m) × (n + 1 ≤ m)) (IsCountedBefore e)
      (λ (x : EntryRow) later. first_decides (ap₂ (λ (a b : Option ℕ). value_cmp (or_null short_cell a) (or_null short_cell b)) h.0 later.1 ∙ value_cmp-Int (pos n) (pos later.0) ∙ int_before n later.0 (omega (arith, later.2)))) es (behind_all (n + 1) es h.1),
  counted_rises (n + 1) es h.1,
)

pub ordinals_told : (n : ℕ) (es : List EntryRow) → AreCounted n es → AreTold entry_cells (7 ∷ []) es
ordinals_told n es h = rising_apart (by_cells entry_cells (7 ∷ [])) es (counted_rises n es h)

pub ordinals_sorted : (n : ℕ) (es : List EntryRow) → AreCounted n es → sort_by (by_cells entry_cells (7 ∷ [])) es ≡ es
ordinals_sorted n es h = rising_sorted (by_cells entry_cells (7 ∷ [])) es (counted_rises n es h)

-- ---- places, one by one

pub in_place_at : (n : ℕ) (es : List EntryRow) (k : ℕ) (x : EntryRow) → AreInPlace n es → k < length es → x ≡ slice_index_or es k x → x.place ≡ n + k
in_place_at n [] k x h small is = absurd (omega (arith, small))
in_place_at n (e ∷ es) zero x h small is = let here : x.place ≡ e.place = ap (λ (y : EntryRow). y.place) is in omega (arith, here, h.0)
in_place_at n (e ∷ es) (suc k) x h small is = let later = in_place_at (n + 1) es k x h.1 (omega (arith, small)) is in omega (arith, later)

-- ---- keys

-- each of the first n is before the next
abbrev pub DoAscendTo : {X : Type 0} → (X → List ℕ) → List X → ℕ → Type 0
DoAscendTo {X} key xs n = (k : ℕ) (a b : X) → k + 1 < n → slice_get xs k ≡ Some a → slice_get xs (k + 1) ≡ Some b → IsTrue (is_before (key a) (key b))

module _ {X : Type 0} (key : X → List ℕ) where
  some_same : {a b : X} → Some a ≡ Some b → a ≡ b
  some_same e = cc

  pub ascends_on : (xs : List X) (at : ℕ) (x y : X) → 1 ≤ at → at < length xs → x ≡ slice_index_or xs (at - 1) x → y ≡ slice_index_or xs at y → IsTrue (is_before (key x) (key y))
      → DoAscendTo key xs at → DoAscendTo key xs (at + 1)
  ascends_on xs at x y past within first second before so k a b small ea eb = elim (cases_Bool (nat_lt (k + 1) at)) [
    | inl earlier ↦ so k a b (ltb-true (k + 1) at earlier) ea eb
    | inr last ↦
        let here : at ≡ k + 1 = omega (arith, ltb-false (k + 1) at last) in
        let before_it : at - 1 ≡ k = omega (arith, here) in
        let one : x ≡ a = some_same (sym (subst (λ i. slice_get xs i ≡ Some x) before_it (slice_get_read xs (length xs) (at - 1) x refl (omega arith) first)) ∙ ea) in
        let two : y ≡ b = some_same (sym (subst (λ i. slice_get xs i ≡ Some y) here (slice_get_read xs (length xs) at y refl within second)) ∙ eb) in
        subst (λ z. IsTrue (is_before (key z) (key b))) one (subst (λ z. IsTrue (is_before (key x) (key z))) two before)
  ]

  later : (k : ℕ) → suc (k + 1) ≡ suc k + 1
  later k = omega arith

  pub all_ascend : (xs : List X) (n : ℕ) → length xs ≤ n → DoAscendTo key xs n → DoAscend key xs
  all_ascend [] n long so = tt
  all_ascend (x ∷ []) n long so = tt
  all_ascend (x ∷ y ∷ xs) n long so = (so 0 x y (omega arith) refl refl, all_ascend (y ∷ xs) (n - 1) (omega (arith, long)) (λ k a b small ea eb. so (suc k) a b (omega (arith, small, long)) ea (subst (λ i. slice_get (x ∷ y ∷ xs) i ≡ Some b) (later k) eb)))

  -- two neighbours of ascending keys
  pub ascends_at : (xs : List X) (at : ℕ) (x y : X) → DoAscend key xs → 1 ≤ at → at < length xs → x ≡ slice_index_or xs (at - 1) x → y ≡ slice_index_or xs at y → IsTrue (is_before (key x) (key y))
  ascends_at xs zero x y up past within first second = absurd (omega (arith, past))
  ascends_at [] (suc at) x y up past within first second = absurd (omega (arith, within))
  ascends_at (a ∷ []) (suc at) x y up past within first second = absurd (omega (arith, within))
  ascends_at (a ∷ b ∷ xs) (suc zero) x y up past within first second = subst (λ z. IsTrue (is_before (key z) (key y))) (sym first) (subst (λ z. IsTrue (is_before (key a) (key z))) (sym second) up.0)
  ascends_at (a ∷ b ∷ xs) (suc (suc at)) x y up past within first second =
      let before : suc (suc at) - 1 ≡ suc (suc at - 1) = omega arith in
      ascends_at (b ∷ xs) (suc at) x y up.1 (omega arith) (omega (arith, within)) (subst (λ i. x ≡ slice_index_or (a ∷ b ∷ xs) i x) before first) second

  is_less : (o : Ordering) → IsTrue (is_lt o) → o ≡ Less
  is_less Less h = refl
  is_less Equal h = absurd cc
  is_less Greater h = absurd cc

  abbrev pub IsKeyedBefore : X → X → Type 0
  IsKeyedBefore a b = slice_cmp nat_cmp (key a) (key b) ≡ Less

  -- each key is before all later ones
  pub ascending_rises : (xs : List X) → DoAscend key xs → IsAscending IsKeyedBefore xs
  ascending_rises [] up = tt
  ascending_rises (x ∷ []) up = (tt, tt)
  ascending_rises (x ∷ y ∷ xs) up =
      let rest = ascending_rises (y ∷ xs) up.1 in
      let first : IsKeyedBefore x y = is_less (slice_cmp nat_cmp (key x) (key y)) up.0 in
      ((first, all_weaker (IsKeyedBefore y) (IsKeyedBefore x) (λ z less. nat_list_cmp_total.trans (key x) (key y) (key z) first less) xs rest.0), rest)

abbrev pub IsStateBefore : StateRow → StateRow → Type 0
IsStateBefore a b = by_cells state_cells (1 ∷ []) a b ≡ Less

states_rise : (xs : List StateRow) → DoAscend (λ (s : StateRow). s.key) xs → IsAscending IsStateBefore xs
states_rise xs up =
    ascending_weaker (IsKeyedBefore (λ (s : StateRow). s.key)) IsStateBefore (λ a b less. first_decides (value_cmp-Blob a.key b.key ∙ less)) xs (ascending_rises (λ (s : StateRow). s.key) xs up)

pub states_told : (xs : List StateRow) → DoAscend (λ (s : StateRow). s.key) xs → AreTold state_cells (1 ∷ []) xs
states_told xs up = rising_apart (by_cells state_cells (1 ∷ [])) xs (states_rise xs up)

pub states_sorted : (xs : List StateRow) → DoAscend (λ (s : StateRow). s.key) xs → sort_by (by_cells state_cells (1 ∷ [])) xs ≡ xs
states_sorted xs up = rising_sorted (by_cells state_cells (1 ∷ [])) xs (states_rise xs up)

-- ---- invocations

no_more : (o : Ordering) → ordering_then o Equal ≡ o
no_more Less = refl
no_more Equal = refl
no_more Greater = refl

abbrev pub IsNamedBefore : IdRow → IdRow → Type 0
IsNamedBefore a b = by_cells id_cells (0 ∷ []) a b ≡ Less

ids_rise : (xs : List IdRow) → DoAscend (λ (i : IdRow). i.id) xs → IsAscending IsNamedBefore xs
ids_rise xs up =
    ascending_weaker (IsKeyedBefore (λ (i : IdRow). i.id)) IsNamedBefore (λ a b less. first_decides (value_cmp-Text a.id b.id ∙ less)) xs (ascending_rises (λ (i : IdRow). i.id) xs up)

pub ids_told : (xs : List IdRow) → DoAscend (λ (i : IdRow). i.id) xs → AreTold id_cells (0 ∷ []) xs
ids_told xs up = rising_apart (by_cells id_cells (0 ∷ [])) xs (ids_rise xs up)

pub ids_sorted : (xs : List IdRow) → DoAscend (λ (i : IdRow). i.id) xs → sort_by (by_cells id_cells (0 ∷ [])) xs ≡ xs
ids_sorted xs up = rising_sorted (by_cells id_cells (0 ∷ [])) xs (ids_rise xs up)

id_order : (a b : InvocationRow) → by_cells invocation_cells (0 ∷ []) a b ≡ id_cmp a b
id_order a b = no_more _ ∙ value_cmp-Text a.id b.id

pub first_by_id : (xs : List InvocationRow) (found : Option InvocationRow) → IsFirst (by_cells invocation_cells (0 ∷ [])) xs found → IsFirst id_cmp xs found
first_by_id xs found first = subst (λ (cmp : InvocationRow → InvocationRow → Ordering). IsFirst cmp xs found) (λ i a b. id_order a b i) first

-- ---- sleeps

-- the order of their cells is theirs
sleep_order : (a b : SleepRow) → by_cells sleep_cells (1 ∷ 0 ∷ 2 ∷ []) a b ≡ sleep_cmp a b
sleep_order a b =
    ap₂ ordering_then (value_cmp-Text a.invocation b.invocation)
    (ap₂ ordering_then (value_cmp-Int (cast_signed w64 a.moment) (cast_signed w64 b.moment))
    (no_more _ ∙ value_cmp-Int (pos a.completion) (pos b.completion)))

pub sleeps_told : (xs : List SleepRow) → AreApart xs → AreTold sleep_cells (1 ∷ 0 ∷ 2 ∷ []) xs
sleeps_told xs apart =
    ascending_weaker (λ a b. is_eq (sleep_cmp a b) ≡ false) (λ a b. is_eq (by_cells sleep_cells (1 ∷ 0 ∷ 2 ∷ []) a b) ≡ false) (λ a b other. ap is_eq (sleep_order a b) ∙ other) xs apart

pub sleeps_sorted : (xs : List SleepRow) → sort_by (by_cells sleep_cells (1 ∷ 0 ∷ 2 ∷ [])) xs ≡ sort_by sleep_cmp xs
sleeps_sorted xs = ap (λ (cmp : SleepRow → SleepRow → Ordering). sort_by cmp xs) (λ i a b. sleep_order a b i)

moment_order : (a b : SleepRow) → by_cells sleep_cells (0 ∷ []) a b ≡ moment_cmp a b
moment_order a b = no_more _ ∙ value_cmp-Int (cast_signed w64 a.moment) (cast_signed w64 b.moment)

pub first_by_moment : (xs : List SleepRow) (found : Option SleepRow) → IsFirst (by_cells sleep_cells (0 ∷ [])) xs found → IsFirst moment_cmp xs found
first_by_moment xs found first = subst (λ (cmp : SleepRow → SleepRow → Ordering). IsFirst cmp xs found) (λ i a b. moment_order a b i) first
