-- Numbers as hex texts, which ascend as the numbers do.
use Rattle.std.proofs.Common.{arith, ◌≡◌, refl, sym, ap, ◌∙◌, ℕ, zero, suc, ◌+◌, ◌*◌, ◌/◌, ◌%◌, ◌^◌, ◌<◌, ◌==◌, subst, nat_lt, Bool, true, false, if◌then◌else◌, List, [], ◌∷◌, ◌++◌, length, pow-suc, Ordering, Less, Equal, Greater}
use Rattle.std.specs.Ordering.{nat_cmp, ordering_then, ordering_reverse}
use Rattle.std.specs.Cmp.Lexicographic.{nat_list_cmp_total}
use Rattle.std.proofs.lemmas.Bool.{eq-eqb, le-ltb, lt-ltb, ltb-false, ltb-true}
use Rattle.journal_model.specs.State.{bytes_cmp}
use Rattle.delivery_laws.specs.Outbox.{digit, hex_text, row_key}

-- ---- order

more_than : (x y : ℕ) → x < y → nat_cmp x y ≡ Less
more_than x y l = ap (λ (b : Bool). if b then Less else (if x == y then Equal else Greater)) (lt-ltb x y l)

digits_ascend : (x y : ℕ) → x < y → digit x < digit y
digits_ascend x y l = by_tests (nat_lt x 10) refl (nat_lt y 10) refl
  where
    by_tests : (a : Bool) → nat_lt x 10 ≡ a → (b : Bool) → nat_lt y 10 ≡ b → (if a then 48 + x else 87 + x) < (if b then 48 + y else 87 + y)
    by_tests true e true f = omega (arith, l)
    by_tests true e false f = omega (arith, l, ltb-true x 10 e)
    by_tests false e true f = let h = ltb-true y 10 f in let not_less = ltb-false x 10 e in omega (arith, l, h, not_less)
    by_tests false e false f = omega (arith, l)

grouped : (a b c : Ordering) → ordering_then a (ordering_then b c) ≡ ordering_then (ordering_then a b) c
grouped Less b c = refl
grouped Equal b c = refl
grouped Greater b c = refl

-- the last bytes decide where those before them are alike
last_decides : (xs ys : List ℕ) (x y : ℕ) → length xs ≡ length ys
    → bytes_cmp (xs ++ x ∷ []) (ys ++ y ∷ []) ≡ ordering_then (bytes_cmp xs ys) (ordering_then (nat_cmp x y) Equal)
last_decides [] [] x y e = refl
last_decides [] (b ∷ ys) x y e = absurd (omega (arith, e))
last_decides (a ∷ xs) [] x y e = absurd (omega (arith, e))
last_decides (a ∷ xs) (b ∷ ys) x y e =
    ap (ordering_then (nat_cmp a b)) (last_decides xs ys x y (omega (arith, e)))
    ∙ grouped (nat_cmp a b) (bytes_cmp xs ys) (ordering_then (nat_cmp x y) Equal)

one_longer : (xs : List ℕ) (x : ℕ) → length (xs ++ x ∷ []) ≡ suc (length xs)
one_longer [] x = refl
one_longer (y ∷ xs) x = ap suc (one_longer xs x)

pub hex_length : (k n : ℕ) → length (hex_text k n) ≡ k
hex_length zero n = refl
hex_length (suc k) n = one_longer (hex_text k (n / 16)) (digit (n % 16)) ∙ ap suc (hex_length k (n / 16))

pub same_cmp : (xs : List ℕ) → bytes_cmp xs xs ≡ Equal
same_cmp [] = refl
same_cmp (x ∷ xs) = ap (λ (o : Ordering). ordering_then o (bytes_cmp xs xs)) (tied x) ∙ same_cmp xs
  where
    tied : (n : ℕ) → nat_cmp n n ≡ Equal
    tied n =
        ap (λ (b : Bool). if b then Less else (if n == n then Equal else Greater)) (le-ltb n n (omega arith))
        ∙ ap (λ (b : Bool). if b then Equal else Greater) (eq-eqb n n refl)

pub hex_ascends : (k a b : ℕ) → a < b → b < 16 ^ k → bytes_cmp (hex_text k a) (hex_text k b) ≡ Less
hex_ascends zero a b l m = absurd (omega (arith, l, m))
hex_ascends (suc k) a b l m =
    last_decides (hex_text k (a / 16)) (hex_text k (b / 16)) (digit (a % 16)) (digit (b % 16)) (hex_length k (a / 16) ∙ sym (hex_length k (b / 16)))
    ∙ by_front (nat_lt (a / 16) (b / 16)) refl (λ less. hex_ascends k (a / 16) (b / 16) less below)
  where
    below : b / 16 < 16 ^ k
    below = let p : ℕ = 16 ^ k in let whole : b < p * 16 = subst (λ (n : ℕ). b < n) (pow-suc 16 k) m in omega (arith, whole)

    by_front : (c : Bool) → nat_lt (a / 16) (b / 16) ≡ c → (a / 16 < b / 16 → bytes_cmp (hex_text k (a / 16)) (hex_text k (b / 16)) ≡ Less)
        → ordering_then (bytes_cmp (hex_text k (a / 16)) (hex_text k (b / 16))) (ordering_then (nat_cmp (digit (a % 16)) (digit (b % 16))) Equal) ≡ Less
    by_front true e later =
        ap (λ (o : Ordering). ordering_then o (ordering_then (nat_cmp (digit (a % 16)) (digit (b % 16))) Equal))
        (later (ltb-true (a / 16) (b / 16) e))
    by_front false e later =
        let same : a / 16 ≡ b / 16 = omega (arith, l, ltb-false (a / 16) (b / 16) e) in
        ap (λ (o : Ordering). ordering_then o (ordering_then (nat_cmp (digit (a % 16)) (digit (b % 16))) Equal))
        (ap (λ (n : ℕ). bytes_cmp (hex_text k n) (hex_text k (b / 16))) same ∙ same_cmp (hex_text k (b / 16)))
        ∙ ap (λ (o : Ordering). ordering_then o Equal) (more_than (digit (a % 16)) (digit (b % 16)) (digits_ascend (a % 16) (b % 16) (omega (arith, l, same))))

-- a later row's key is above an earlier one's
pub keys_ascend : (a b : ℕ) → a < b → b < 2 ^ 64 → bytes_cmp (row_key b) (row_key a) ≡ Greater
keys_ascend a b l m =
    nat_list_cmp_total.antisymm (row_key b) (row_key a)
    ∙ ap ordering_reverse (hex_ascends 16 a b l (omega (arith, m)))

-- and above that of what was given
pub key_is_above : (n : ℕ) → bytes_cmp (row_key n) [] ≡ Greater
key_is_above n = by_text (row_key n) (hex_length 16 n)
  where
    by_text : (text : List ℕ) → length text ≡ 16 → bytes_cmp text [] ≡ Greater
    by_text [] e = absurd (omega (arith, e))
    by_text (x ∷ text) e = refl
