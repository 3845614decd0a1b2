-- What alone passes a test.
use Rattle.std.proofs.Common.{ℕ, zero, suc, ◌+◌, ◌<◌, ◌≤◌, arith, ◌==◌, ◌≡◌, refl, sym, ap, subst, ◌∙◌, inl, inr, Bool, ◌&&◌, List, [], ◌∷◌, length, map, filter, slice_get, Option, Some, None, option_map, option_to_list, IsPermutation, All}
use Rattle.std.specs.List.{find}
use Rattle.std.proofs.lemmas.Bool.{cases_Bool, eq-eqb, ne_eqb}
use Rattle.std.proofs.lemmas.List.Sorted.{length_permutation, All-permutation}
use Rattle.store_tables.specs.declared.row.EntryRow.{EntryRow}
use Rattle.store_tables.specs.Questions.{AreInPlace}
use Rattle.store_model.specs.Lookups.{IsOnly}

-- ---- one that alone passes is the one that is found

find_first : {A : Type 0} (test : A → Bool) (xs : List A) → find test xs ≡ slice_get (filter test xs) 0
find_first test [] = refl
find_first test (x ∷ xs) = elim (cases_Bool (test x)) [ inl e ↦ rw e refl | inr e ↦ rw e (find_first test xs) ]

first_of_one : {A : Type 0} (o : Option A) → slice_get (option_to_list o) 0 ≡ o
first_of_one None = refl
first_of_one (Some x) = refl

length_of_one : {A : Type 0} (o : Option A) → length (option_to_list o) ≤ 1
length_of_one None = omega arith
length_of_one (Some x) = omega arith

pub only_found : {A : Type 0} (test : A → Bool) (xs : List A) (o : Option A) → IsOnly test xs o → find test xs ≡ o
only_found test xs o only = find_first test xs ∙ ap (λ ys. slice_get ys 0) only ∙ first_of_one o

pub only_one : {A : Type 0} (test : A → Bool) (xs : List A) (o : Option A) → IsOnly test xs o → length (filter test xs) ≤ 1
only_one {A} test xs o only = subst (λ (ys : List A). length ys ≤ 1) (sym only) (length_of_one o)

-- ---- two tests in turn

pub filter_both : {A : Type 0} (p q : A → Bool) (xs : List A) → filter (λ x. p x && q x) xs ≡ filter q (filter p xs)
filter_both p q [] = refl
filter_both p q (x ∷ xs) = elim (cases_Bool (p x)) [
  | inl a ↦ elim (cases_Bool (q x)) [ inl b ↦ rw (a, b) (ap (λ rest. x ∷ rest) (filter_both p q xs)) | inr b ↦ rw (a, b) (filter_both p q xs) ]
  | inr a ↦ rw a (filter_both p q xs)
]

pub map_one : {A B : Type 0} (f : A → B) (o : Option A) → map f (option_to_list o) ≡ option_to_list (option_map f o)
map_one f None = refl
map_one f (Some x) = refl

-- ---- rows whose places count up

none_before : (a p : ℕ) (rows : List EntryRow) → AreInPlace a rows → p < a → filter (λ e. e.place == p) rows ≡ []
none_before a p [] h less = refl
none_before a p (row ∷ rows) h less = rw (ne_eqb row.place p (λ e. absurd (apart (sym h.0 ∙ e)))) (none_before (a + 1) p rows h.1 (omega arith))
  where
    apart : a ≡ p → ⊥
    apart e = omega arith

pub only_at_place : (a p : ℕ) (rows : List EntryRow) → AreInPlace a rows → IsOnly (λ e. e.place == a + p) rows (slice_get rows p)
only_at_place a p [] h = refl
only_at_place a zero (row ∷ rows) h =
    rw (eq-eqb row.place (a + 0) (h.0 ∙ omega arith)) (ap (λ rest. row ∷ rest) (none_before (a + 1) (a + 0) rows h.1 (omega arith)))
only_at_place a (suc p) (row ∷ rows) h =
    let one_more : (a + 1) + p ≡ a + suc p = omega arith in
    rw (ne_eqb row.place (a + suc p) (λ e. apart (sym h.0 ∙ e)))
    (subst (λ (n : ℕ). filter (λ (e : EntryRow). e.place == n) rows ≡ option_to_list (slice_get rows p)) one_more (only_at_place (a + 1) p rows h.1))
  where
    apart : a ≡ a + suc p → ⊥
    apart e = omega arith

-- ---- a permutation of one, or of none

no_others : {A : Type 0} (xs : List A) → length xs ≡ 0 → xs ≡ []
no_others [] e = refl
no_others (x ∷ xs) e = absurd (omega arith)

pub permuted_one : {A : Type 0} (o : Option A) (xs : List A) → IsPermutation (option_to_list o) xs → xs ≡ option_to_list o
permuted_one None xs same = no_others xs (length_permutation [] xs same)
permuted_one {A} (Some x) xs same = by_list xs (length_permutation (x ∷ []) xs same) (All-permutation (λ y. y ≡ x) (x ∷ []) xs same at_one)
  where
    at_one : All (λ y. y ≡ x) (x ∷ [])
    at_one zero d h = refl
    at_one (suc k) d h = absurd (omega arith)

    by_list : (xs : List A) → length xs ≡ 1 → All (λ y. y ≡ x) xs → xs ≡ x ∷ []
    by_list [] e all = absurd (omega arith)
    by_list (y ∷ []) e all = ap (λ z. z ∷ []) (all 0 y (omega arith))
    by_list (y ∷ z ∷ ys) e all = absurd (omega arith)
