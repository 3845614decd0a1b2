-- The first element that passes a test: at its place, after it was replaced, and after one more.
use Rattle.std.proofs.Common.{◌≡◌, ℕ, zero, suc, ◌+◌, ◌<◌, ◌≤◌, Bool, true, false, ltb, List, [], ◌∷◌, ◌++◌, length, Option, Some, None, get_or, refl, sym, ap, ◌∙◌, arith, ◌⊎◌, inl, inr}
use Rattle.std.specs.List.{find, position, position_or_len}
use Rattle.std.specs.Prelude.{slice_set, if◌then◌else◌}
use Rattle.std.proofs.lemmas.Bool.{le-ltb, ltb-false}
use Rattle.std.proofs.lemmas.List.Quantifiers.{position-Some}
use Rattle.schedule_model.specs.First.{with_first, IsFirstAt}

same_some : {A : Type 0} (x y : A) → Some x ≡ Some y → x ≡ y
same_some x y e = cc

pub true_or_false : (b : Bool) → (b ≡ true) ⊎ (b ≡ false)
true_or_false true = inl refl
true_or_false false = inr refl

same_item : {A : Type 0} (xs : List A) (k : ℕ) (d e : A) → k < length xs → get_or xs k d ≡ get_or xs k e
same_item [] k d e lt = absurd (omega arith)
same_item (x ∷ xs) zero d e lt = refl
same_item (x ∷ xs) (suc k) d e lt = same_item xs k d e (omega arith)

module _ {A : Type 0} (test : A → Bool) where
  first_of_position : (xs : List A) (k : ℕ) (d : A) → position test xs ≡ Some k → IsFirstAt test xs k (get_or xs k d)
  first_of_position xs k d e =
      let s = position-Some test xs k d e in
      record {
        within = s.0;
        at = λ other. same_item xs k other d s.0;
        passes = s.1;
        none_before = λ j other lt. (position-Some test xs k other e).2 j lt;
      }

  -- the place that a search answers is that of the first
  pub first_found : (xs : List A) (k : ℕ) → position test xs ≡ Some k → (x : A) × IsFirstAt test xs k x
  first_found [] k e = absurd cc
  first_found (x ∷ xs) k e = (get_or (x ∷ xs) k x, first_of_position (x ∷ xs) k x e)

  none_found : (xs : List A) → ltb (position_or_len test xs) (length xs) ≡ false → find test xs ≡ None
  none_found [] e = refl
  none_found (x ∷ xs) e = go (test x) refl (none_found xs)
    where
      go : (b : Bool) → test x ≡ b → (ltb (position_or_len test xs) (length xs) ≡ false → find test xs ≡ None) → find test (x ∷ xs) ≡ None
      go true q below = let f : length (x ∷ xs) ≤ position_or_len test (x ∷ xs) = ltb-false _ _ e in absurd (let g : length (x ∷ xs) ≤ 0 = rw q at f in omega arith)
      go false q below =
          let f : length (x ∷ xs) ≤ position_or_len test (x ∷ xs) = ltb-false _ _ e in
          let g : length (x ∷ xs) ≤ 1 + position_or_len test xs = rw q at f in
          rw q (below (le-ltb _ _ (omega arith)))

  -- a search without an answer found none
  pub first_missing : (xs : List A) → position test xs ≡ None → find test xs ≡ None
  first_missing xs e = go (ltb (position_or_len test xs) (length xs)) refl
    where
      go : (b : Bool) → ltb (position_or_len test xs) (length xs) ≡ b → find test xs ≡ None
      go true q = absurd (let f : Some (position_or_len test xs) ≡ None = rw q at e in cc)
      go false q = none_found xs q

  pub first_at : (xs : List A) (k : ℕ) (x : A) → IsFirstAt test xs k x → find test xs ≡ Some x
  first_at [] k x f = absurd (omega (arith, f.within))
  first_at (y ∷ ys) zero x f = let e : y ≡ x = f.at y in let p : test y ≡ true = ap test e ∙ f.passes in rw (p, e) refl
  first_at (y ∷ ys) (suc k) x f =
      let p : test y ≡ false = f.none_before zero y (omega arith) in
      rw p (first_at ys k x (record {
        within = omega (arith, f.within);
        at = λ d. f.at d;
        passes = f.passes;
        none_before = λ j d lt. f.none_before (suc j) d (omega arith);
      }))

  pub with_first_at : (xs : List A) (k : ℕ) (x y : A) → IsFirstAt test xs k x → slice_set xs k y ≡ with_first test xs y
  with_first_at [] k x y f = absurd (omega (arith, f.within))
  with_first_at (z ∷ zs) zero x y f = let p : test z ≡ true = ap test (f.at z) ∙ f.passes in rw p refl
  with_first_at (z ∷ zs) (suc k) x y f =
      let p : test z ≡ false = f.none_before zero z (omega arith) in
      rw p (ap (λ (s : List A). z ∷ s) (with_first_at zs k x y (record {
        within = omega (arith, f.within);
        at = λ d. f.at d;
        passes = f.passes;
        none_before = λ j d lt. f.none_before (suc j) d (omega arith);
      })))

  -- the element itself in its place changes nothing
  pub with_same : (xs : List A) (x : A) → find test xs ≡ Some x → with_first test xs x ≡ xs
  with_same [] x e = refl
  with_same (z ∷ zs) x e =
      elim (true_or_false (test z)) [
        | inl q ↦ let same : z ≡ x = same_some z x (rw q at e) in rw q (ap (λ (y : A). y ∷ zs) (sym same))
        | inr q ↦ rw q (ap (λ (s : List A). z ∷ s) (with_same zs x (rw q at e)))
      ]

  -- one that is replaced twice
  pub with_twice : (xs : List A) (x y : A) → test x ≡ true → with_first test (with_first test xs x) y ≡ with_first test xs y
  with_twice [] x y p = refl
  with_twice (z ∷ zs) x y p =
      elim (true_or_false (test z)) [
        | inl q ↦ rw (q, p) refl
        | inr q ↦ rw q (rw q (ap (λ (s : List A). z ∷ s) (with_twice zs x y p)))
      ]

  pub first_with : (xs : List A) (x y : A) → find test xs ≡ Some x → test y ≡ true → find test (with_first test xs y) ≡ Some y
  first_with [] x y e p = absurd cc
  first_with (z ∷ zs) x y e p =
      elim (true_or_false (test z)) [
        | inl q ↦ rw (q, p) refl
        | inr q ↦ rw q (rw q (first_with zs x y (rw q at e) p))
      ]

  -- a test that no element passes with this one sees no difference
  pub first_of_other : (other : A → Bool) → ((z : A) → test z ≡ true → other z ≡ false) → (xs : List A) (y : A) → other y ≡ false → find other (with_first test xs y) ≡ find other xs
  first_of_other other apart [] y e = refl
  first_of_other other apart (z ∷ zs) y e =
      elim (true_or_false (test z)) [
        | inl q ↦ let o : other z ≡ false = apart z q in rw q (rw (e, o) refl)
        | inr q ↦ rw q (ap (λ (o : Option A). if other z then Some z else o) (first_of_other other apart zs y e))
      ]

  pub first_push_none : (xs : List A) (y : A) → find test xs ≡ None → find test (xs ++ y ∷ []) ≡ (if test y then Some y else None)
  first_push_none [] y e = refl
  first_push_none (z ∷ zs) y e =
      elim (true_or_false (test z)) [
        | inl q ↦ absurd (let f : Some z ≡ None = rw q at e in cc)
        | inr q ↦ rw q (first_push_none zs y (rw q at e))
      ]

  pub first_push_other : (xs : List A) (y : A) → test y ≡ false → find test (xs ++ y ∷ []) ≡ find test xs
  first_push_other [] y e = rw e refl
  first_push_other (z ∷ zs) y e = ap (λ (o : Option A). if test z then Some z else o) (first_push_other zs y e)

  pub first_push_some : (xs : List A) (x y : A) → find test xs ≡ Some x → find test (xs ++ y ∷ []) ≡ Some x
  first_push_some [] x y e = absurd cc
  first_push_some (z ∷ zs) x y e =
      elim (true_or_false (test z)) [
        | inl q ↦ rw q (rw q at e)
        | inr q ↦ rw q (first_push_some zs x y (rw q at e))
      ]
