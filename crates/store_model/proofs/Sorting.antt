-- What sorting makes of a list of which no two are alike, and the one order that it has.
use Rattle.std.proofs.Common.{ℕ, zero, suc, ◌+◌, arith, ◌≡◌, refl, sym, ap, subst, ◌∙◌, true≢false, true, false, cond, List, [], ◌∷◌, Ordering, Less, Equal, Greater, is_lt, is_eq, is_gt, IsPermutation, IsSorted, slice_index_or}
use Rattle.std.specs.List.{AllByRecursion}
use Rattle.std.specs.Cmp.{IsTotalOrder}
use Rattle.std.specs.Ordering.{ordering_reverse}
use Rattle.sqlite_trees.specs.Tree.{IsAscending}
use Rattle.sqlite_keyed.specs.Lists.{insert_sorted, sort_by}
use Rattle.sqlite_keyed.proofs.ListLemmas.{all_weaker}
use Rattle.sqlite_keyed.proofs.SortLemmas.{sorted_unique}

module _ {X : Type 0} (cmp : X → X → Ordering) (total : IsTotalOrder cmp) where
  abbrev pub Rises : List X → Type 0
  Rises = IsAscending (λ a b. cmp a b ≡ Less)

  abbrev pub AreApart : List X → Type 0
  AreApart = IsAscending (λ a b. is_eq (cmp a b) ≡ false)

  all_put : (P : X → Type 0) (x : X) (xs : List X) → P x → AllByRecursion P xs → AllByRecursion P (insert_sorted cmp x xs)
  all_put P x [] h all = (h, tt)
  all_put P x (y ∷ ys) h all =
      elim (is_gt (cmp x y)) as (λ b. AllByRecursion P (cond b (y ∷ insert_sorted cmp x ys) (x ∷ y ∷ ys))) [ true ↦ (all.0, all_put P x ys h all.1) | false ↦ (h, all) ]

  all_sorted : (P : X → Type 0) (xs : List X) → AllByRecursion P xs → AllByRecursion P (sort_by cmp xs)
  all_sorted P [] all = tt
  all_sorted P (x ∷ xs) all = all_put P x (sort_by cmp xs) all.0 (all_sorted P xs all.1)

  put_rises : (x : X) (xs : List X) → AllByRecursion (λ y. is_eq (cmp x y) ≡ false) xs → Rises xs → Rises (insert_sorted cmp x xs)
  put_rises x [] apart up = (tt, tt)
  put_rises x (y ∷ ys) apart up = by_order (cmp x y) refl (put_rises x ys apart.1 up.1)
    where
      by_order : (o : Ordering) → cmp x y ≡ o → Rises (insert_sorted cmp x ys) → Rises (cond (is_gt o) (y ∷ insert_sorted cmp x ys) (x ∷ y ∷ ys))
      by_order Less e more = ((e, all_weaker (λ z. cmp y z ≡ Less) (λ z. cmp x z ≡ Less) (λ z. total.trans x y z e) ys up.0), up)
      by_order Equal e more = absurd (true≢false (ap is_eq (sym e) ∙ apart.0))
      by_order Greater e more = (all_put (λ z. cmp y z ≡ Less) x ys (total.antisymm y x ∙ ap ordering_reverse e) up.0, more)

  pub sorted_rises : (xs : List X) → AreApart xs → Rises (sort_by cmp xs)
  sorted_rises [] apart = tt
  sorted_rises (x ∷ xs) apart = put_rises x (sort_by cmp xs) (all_sorted (λ y. is_eq (cmp x y) ≡ false) xs apart.0) (sorted_rises xs apart.1)

  one_later : (k : ℕ) → suc (k + 1) ≡ suc k + 1
  one_later k = omega arith

  rising_is_sorted : (xs : List X) → Rises xs → IsSorted cmp xs
  rising_is_sorted [] up k d low high = absurd (omega (arith, high))
  rising_is_sorted (x ∷ []) up k d low high = absurd (omega (arith, high))
  rising_is_sorted (x ∷ y ∷ xs) up zero d low high = ap is_lt (total.antisymm y x ∙ ap ordering_reverse up.0.0)
  rising_is_sorted (x ∷ y ∷ xs) up (suc k) d low high =
      subst (λ (n : ℕ). is_lt (cmp (slice_index_or (x ∷ y ∷ xs) n d) (slice_index_or (y ∷ xs) k d)) ≡ false) (one_later k)
      (rising_is_sorted (y ∷ xs) up.1 k d (omega arith) (omega (arith, high)))

  -- two orders of a list that both rise are one
  pub rising_unique : (xs ys : List X) → Rises xs → Rises ys → IsPermutation xs ys → ys ≡ xs
  rising_unique xs ys up rises same = sorted_unique cmp total xs ys up same (rising_is_sorted ys rises)
