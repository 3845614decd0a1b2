-- The first bytes of several pieces.
use Rattle.std.proofs.Common.{◌≡◌, ◌≤◌, ◌-◌, ◌+◌, min, ℕ, List, [], ◌++◌, length, take, drop, inl, inr, append-nil, ap, sym, ◌∙◌, arith}
use Rattle.std.proofs.Math.Seq.{drop-append-add}
use Rattle.std.proofs.lemmas.Bool.{cases_lt}
use Rattle.std.proofs.lemmas.List.{length-take, drop_all}

-- no more leave than there are
least_drop : (count : ℕ) (xs : List ℕ) → drop (min count (length xs)) xs ≡ drop count xs
least_drop count xs = elim (cases_lt count (length xs)) [
  | inl below ↦ let least : min count (length xs) ≡ count = omega arith in ap (λ (n : ℕ). drop n xs) least
  | inr above ↦ let least : min count (length xs) ≡ length xs = omega arith in
      ap (λ (n : ℕ). drop n xs) least ∙ drop_all (length xs) xs (omega arith) ∙ sym (drop_all count xs above)
]

-- what is left behind the first of them
pub left_behind : (max : ℕ) (xs : List ℕ) → drop (length (take max xs)) xs ≡ drop max xs
left_behind max xs = ap (λ (n : ℕ). drop n xs) (length-take max xs) ∙ least_drop max xs

-- the front piece leaves whole, and then the first bytes of the one behind it, which is the front piece from then on
pub past_the_front : (front behind : List ℕ) (count gone : ℕ) → length front ≤ count → gone ≡ min (count - length front) (length behind)
    → drop gone behind ++ [] ≡ drop count (front ++ behind)
past_the_front front behind count gone beyond is =
    let whole : length front + (count - length front) ≡ count = omega arith in
    append-nil (drop gone behind) ∙ ap (λ (n : ℕ). drop n behind) is ∙ least_drop (count - length front) behind
    ∙ sym (drop-append-add front behind (count - length front)) ∙ ap (λ (n : ℕ). drop n (front ++ behind)) whole
