-- Hex texts, digit by digit.
use Rattle.std.proofs.Common.{arith, ◌≡◌, refl, sym, ap, ap₂, subst, ◌∙◌, ℕ, zero, suc, ◌+◌, ◌*◌, ◌/◌, ◌%◌, ◌^◌, ◌<◌, ◌≤◌, ◌⊎◌, inl, inr, nat_lt, Bool, true, false, if◌then◌else◌, List, [], ◌∷◌, ◌++◌, length, get_or, take, drop, pow-suc, add-one, length-append}
use Rattle.std.proofs.lemmas.List.{get_or_append_left, take-append-drop, take_more}
use Rattle.std.proofs.Math.Seq.{drop-append_seam, get_or-append_seam, take-append_seam}
use Rattle.std.proofs.Math.Nat.{pow-le-pow_right}
use Rattle.std.proofs.lemmas.Bool.{cases_lt, ltb-false, ltb-true}
use Rattle.delivery_laws.specs.Outbox.{digit, hex_text}
use Rattle.delivery_laws.proofs.Texts.{hex_length}

-- one digit more
pub hex_more : (k n d : ℕ) → d < 16 → hex_text (k + 1) (n * 16 + d) ≡ hex_text k n ++ digit d ∷ []
hex_more k n d l =
    let whole : (n * 16 + d) / 16 ≡ n = omega (arith, l) in
    let rest : (n * 16 + d) % 16 ≡ d = omega (arith, l) in
    rw add-one (rw (whole, rest) refl)

-- a number of so many digits is below their power
pub power_more : (k n d : ℕ) → d < 16 → n < 16 ^ k → n * 16 + d < 16 ^ (k + 1)
power_more k n d l m = let p : ℕ = 16 ^ k in rw (add-one, pow-suc) (omega (arith, l, m))

-- and one more digit fits where there were fifteen at most
pub power_fits : (k n : ℕ) → k < 16 → n < 16 ^ k → n < 2 ^ 60
power_fits k n l m =
    let some : 0 < 16 = omega arith in
    let less : k ≤ 15 = omega (arith, l) in
    let most : 16 ^ k ≤ 16 ^ 15 = pow-le-pow_right some less in
    omega (arith, m, most)

-- each byte is that of a digit
abbrev pub SpellsDigit : ℕ → Type 0
SpellsDigit byte = (m : ℕ) × (m < 16) × (digit m ≡ byte)

pub hex_digit_at : (k n i : ℕ) → i < k → SpellsDigit (get_or (hex_text k n) i 0)
hex_digit_at zero n i l = absurd (omega (arith, l))
hex_digit_at (suc k) n i l = by_place (cases_lt i k) (λ less. hex_digit_at k (n / 16) i less)
  where
    by_place : (i < k) ⊎ (k ≤ i) → (i < k → SpellsDigit (get_or (hex_text k (n / 16)) i 0)) → SpellsDigit (get_or (hex_text (suc k) n) i 0)
    by_place (inl less) earlier =
        let e = earlier less in
        (e.0, e.1, e.2 ∙ sym (get_or_append_left (hex_text k (n / 16)) (digit (n % 16) ∷ []) 0 i (omega (arith, hex_length k (n / 16), less))))
    by_place (inr more) earlier =
        let last : i ≡ length (hex_text k (n / 16)) = omega (arith, hex_length k (n / 16), more, l) in (
          n % 16,
          omega arith,
          sym (ap (λ (j : ℕ). get_or (hex_text (suc k) n) j 0) last ∙ get_or-append_seam (hex_text k (n / 16)) (digit (n % 16)) [] 0),
        )

-- a loop's step: one digit more is read
pub step_same : (text : List ℕ) (i n d added : ℕ) → i < length text → take i text ≡ hex_text i n → d < 16 → digit d ≡ get_or text i 0 → added ≡ d
    → take (i + 1) text ≡ hex_text (i + 1) (n * 16 + added)
step_same text i n d added l before m same e =
    take_more text i 0 l ∙ ap₂ (λ (xs : List ℕ) (x : ℕ). xs ++ x ∷ []) before (sym same) ∙ sym (hex_more i n d m)
    ∙ ap (λ (x : ℕ). hex_text (i + 1) (n * 16 + x)) (sym e)

-- ---- what is spelled is one number's

digits_apart : (a b : ℕ) → a < 16 → b < 16 → digit a ≡ digit b → a ≡ b
digits_apart a b l m e = by_tests (nat_lt a 10) refl (nat_lt b 10) refl e
  where
    by_tests : (c : Bool) → nat_lt a 10 ≡ c → (d : Bool) → nat_lt b 10 ≡ d → (if c then 48 + a else 87 + a) ≡ (if d then 48 + b else 87 + b) → a ≡ b
    by_tests true f true g h = omega (arith, h)
    by_tests true f false g h = let less = ltb-true a 10 f in let more = ltb-false b 10 g in omega (arith, h, less, more)
    by_tests false f true g h = let less = ltb-true b 10 g in let more = ltb-false a 10 f in omega (arith, h, less, more)
    by_tests false f false g h = omega (arith, h)

ends_same : (xs ys : List ℕ) (x y : ℕ) → xs ++ x ∷ [] ≡ ys ++ y ∷ [] → (xs ≡ ys) × (x ≡ y)
ends_same [] [] x y e = (refl, cc)
ends_same [] (b ∷ ys) x y e = absurd (omega (arith, ap length e, length-append ys (y ∷ [])))
ends_same (a ∷ xs) [] x y e = absurd (omega (arith, ap length e, length-append xs (x ∷ [])))
ends_same (a ∷ xs) (b ∷ ys) x y e =
    let heads : a ≡ b = cc in
    let tails : xs ++ x ∷ [] ≡ ys ++ y ∷ [] = cc in
    let rest = ends_same xs ys x y tails in
    (ap₂ (λ (n : ℕ) (ns : List ℕ). n ∷ ns) heads rest.0, rest.1)

pub hex_same : (k a b : ℕ) → a < 16 ^ k → b < 16 ^ k → hex_text k a ≡ hex_text k b → a ≡ b
hex_same zero a b l m e = omega (arith, l, m)
hex_same (suc k) a b l m e =
    let p : ℕ = 16 ^ k in
    let more : a < p * 16 = subst (λ (n : ℕ). a < n) (pow-suc 16 k) l in
    let other : b < p * 16 = subst (λ (n : ℕ). b < n) (pow-suc 16 k) m in
    let both = ends_same (hex_text k (a / 16)) (hex_text k (b / 16)) (digit (a % 16)) (digit (b % 16)) e in
    let front : a / 16 ≡ b / 16 = hex_same k (a / 16) (b / 16) (omega (arith, more)) (omega (arith, other)) both.0 in
    let last : a % 16 ≡ b % 16 = digits_apart (a % 16) (b % 16) (omega arith) (omega arith) both.1 in
    omega (arith, front, last)

-- ---- a text behind one

pub front_of : (k n : ℕ) (text : List ℕ) → take k (hex_text k n ++ text) ≡ hex_text k n
front_of k n text =
    ap (λ (j : ℕ). take j (hex_text k n ++ text)) (sym (hex_length k n)) ∙ take-append_seam (hex_text k n) text

pub behind_of : (k n : ℕ) (text : List ℕ) → drop k (hex_text k n ++ text) ≡ text
behind_of k n text =
    ap (λ (j : ℕ). drop j (hex_text k n ++ text)) (sym (hex_length k n)) ∙ drop-append_seam (hex_text k n) text

pub put_together : (value : List ℕ) (place : ℕ) (sender : List ℕ) → take 8 value ≡ hex_text 8 place → sender ≡ drop 8 value → value ≡ hex_text 8 place ++ sender
put_together value place sender e f = sym (take-append-drop 8 value) ∙ ap₂ (λ (xs ys : List ℕ). xs ++ ys) e (sym f)
