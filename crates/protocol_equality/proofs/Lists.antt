-- Two lists, compared from a place on.
use Rattle.std.proofs.Common.{◌≡◌, ℕ, ◌+◌, suc, ◌≤◌, ◌<◌, Bool, true, ◌&&◌, List, ◌∷◌, length, drop, get_or, sym, ◌∙◌, arith}
use Rattle.std.proofs.Math.Seq.{drop-cons}
use Rattle.std.proofs.lemmas.List.{drop_all}
use Rattle.std.specs.Cmp.Lexicographic.{pointwise}

left_of : {X : Type 0} (xs : List X) (i : ℕ) (x : X) → i < length xs → x ≡ get_or xs i x → drop i xs ≡ x ∷ drop (i + 1) xs
left_of {X} xs i x h e =
    let s : suc i ≡ i + 1 = omega arith in
    drop-cons xs i x h ∙ (λ j. sym e j ∷ drop (s j) xs)

-- the parts from a place on begin with x and y
pub begun : {X : Type 0} (E : X → X → Bool) (xs ys : List X) (i : ℕ) (x y : X) → i < length xs → i < length ys → x ≡ get_or xs i x → y ≡ get_or ys i y
    → pointwise E (drop i xs) (drop i ys) ≡ (E x y && pointwise E (drop (i + 1) xs) (drop (i + 1) ys))
begun E xs ys i x y h g e d = λ j. pointwise E (left_of xs i x h e j) (left_of ys i y g d j)

-- nothing is left
pub ended : {X : Type 0} (E : X → X → Bool) (xs ys : List X) (i : ℕ) → length xs ≤ i → length ys ≤ i → true ≡ pointwise E (drop i xs) (drop i ys)
ended E xs ys i h g = λ j. pointwise E (sym (drop_all i xs h) j) (sym (drop_all i ys g) j)
