-- What is left of a frame of which bytes are handed out.
use Rattle.std.proofs.Common.{ℕ, zero, suc, ◌==◌, min, nat_le, arith, ◌≡◌, refl, sym, ap, ◌∙◌, Bool, true, false, List, [], ◌∷◌, length, take, drop}
use Rattle.std.proofs.lemmas.Bool.{leb-true, leb-false, eqb-true}
use Rattle.std.proofs.Math.ListN.{drop_of_length-le}
use Rattle.store_live.specs.Input.{InputKept, after_bytes, input_handed_out, with_rest}

drop_within : (most : ℕ) (bytes : List ℕ) → drop (min (length bytes) most) bytes ≡ drop most bytes
drop_within most bytes = by_test (nat_le most (length bytes)) refl
  where
    by_test : (b : Bool) → nat_le most (length bytes) ≡ b → drop (min (length bytes) most) bytes ≡ drop most bytes
    by_test true e =
        let h = leb-true most (length bytes) e in
        let same : min (length bytes) most ≡ most = omega arith in
        ap (λ (n : ℕ). drop n bytes) same
    by_test false e =
        let h = leb-false most (length bytes) e in
        drop_of_length-le bytes (omega arith) ∙ sym (drop_of_length-le bytes (omega arith))

-- some are handed out
some_out : (most : ℕ) (bytes rest : List ℕ) (m : InputKept) → (min (length bytes) most ≡ 0 → ⊥) → after_bytes (take most bytes) rest m ≡ with_rest rest m
some_out most [] rest m some = absurd (some (omega arith))
some_out zero (x ∷ bytes) rest m some = absurd (some (omega arith))
some_out (suc most) (x ∷ bytes) rest m some = refl

pub after_split : (most : ℕ) (m : InputKept) (rest : List ℕ) (long count : ℕ) → long ≡ length m.rest → count ≡ min long most → (count ≡ 0 → ⊥) → rest ≡ drop count m.rest
    → with_rest rest m ≡ input_handed_out most m
after_split most m rest long count e f some is =
    let same : count ≡ min (length m.rest) most = f ∙ ap (λ (n : ℕ). min n most) e in
    sym (some_out most m.rest rest m (λ none. some (same ∙ none)))
    ∙ ap (λ (left : List ℕ). after_bytes (take most m.rest) left m) (is ∙ ap (λ (n : ℕ). drop n m.rest) same ∙ drop_within most m.rest)

pub is_out : (rest : List ℕ) (m : InputKept) → (length rest == 0) ≡ true → record m { rest = rest; handed = m.behind; heard = m.counted } ≡ with_rest rest m
is_out [] m e = refl
is_out (x ∷ rest) m e = absurd (omega (arith, eqb-true (length (x ∷ rest)) 0 e))

pub is_left : (rest : List ℕ) (m : InputKept) → (length rest == 0) ≡ false → record m { rest = rest } ≡ with_rest rest m
is_left [] m e = cc
is_left (x ∷ rest) m e = refl
