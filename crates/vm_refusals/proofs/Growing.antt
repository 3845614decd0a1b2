-- Intervals, retry by retry: from where on they are all the same, or at least the most.
use Rattle.std.proofs.Common.{◌≡◌, refl, sym, ap, ◌∙◌, subst, ℕ, zero, suc, ◌+◌, ◌-◌, ◌*◌, ◌/◌, ◌^◌, ◌≤◌, ◌<◌, min, nat_lt, nat_le, arith, Bool, true, false, ◌&&◌, if◌then◌else◌, Option, Some, None, ◌⊎◌, inl, inr}
use Rattle.std.proofs.lemmas.Bool.{leb-true, leb-false, le-ltb}
use Rattle.std.proofs.Math.Nat.{mul_comm, mul-le-mul_left, mul-le-mul_right, le-div_iff_mul-le, div-le_of_le-mul, min-eq_left, min_comm}
use Rattle.std.proofs.lemmas.Nat.{mul-le}
use Rattle.std.specs.Duration.{max_nanos}
use Rattle.vm_refusals.specs.RetryDecisions.{longer_by, interval_after, at_most}

-- an interval, multiplied by 32 bits, fits into 128
pub product-fits : (interval n : ℕ) → interval ≤ max_nanos → n < 2 ^ 32 → interval * n < 2 ^ 128
product-fits interval n small below =
    let most : interval * n ≤ max_nanos * (2 ^ 32) = mul-le interval n max_nanos (2 ^ 32) small (omega (arith, below)) in
    omega (arith, most)

grows : (n d y : ℕ) → 0 < d → d ≤ n → y ≤ y * n / d
grows n d y pos le = (le-div_iff_mul-le pos).1 (mul-le-mul_left y le)

shrinks : (n d y : ℕ) → n ≤ d → y * n / d ≤ y
shrinks n d y le =
    let few : n * y ≤ d * y = mul-le-mul_right y le in
    let same : y * n ≡ n * y = mul_comm y n in
    div-le_of_le-mul d (omega (arith, few, same))

-- at least the most, or longer than the longest
abbrev IsPast : (most : ℕ) → Option ℕ → Type 0
IsPast most None = Unit {0}
IsPast most (Some interval) = most ≤ interval

past-most : (most : ℕ) (found : Option ℕ) → IsPast most found → at_most most found ≡ most
past-most most None h = refl
past-most most (Some interval) h = min-eq_left h

module _ (initial n d : ℕ) where
  next-is : (i : ℕ) → interval_after initial n d (i + 1) ≡ longer_by n d (interval_after initial n d i)
  next-is i = let e : i + 1 ≡ suc i = omega arith in ap (interval_after initial n d) e

  pub goes-on : (i x y : ℕ) → interval_after initial n d i ≡ Some x → y ≡ x * n / d → y ≤ max_nanos → interval_after initial n d (i + 1) ≡ Some y
  goes-on i x y is made small =
      next-is i ∙ ap (longer_by n d) is ∙ ap (λ (z : ℕ). if nat_lt max_nanos z then None else Some z) (sym made) ∙ ap (λ (b : Bool). if b then None else Some y) (le-ltb max_nanos y small)

  stays-so : (i x : ℕ) → interval_after initial n d i ≡ Some x → x * n / d ≡ x → x ≤ max_nanos → (more : ℕ) → interval_after initial n d (i + more) ≡ Some x
  stays-so i x is same small zero = let e : i + 0 ≡ i = omega arith in ap (interval_after initial n d) e ∙ is
  stays-so i x is same small (suc more) =
      let e : i + suc more ≡ (i + more) + 1 = omega arith in
      ap (interval_after initial n d) e ∙ goes-on (i + more) x x (stays-so i x is same small more) (sym same) small

  -- an interval that is the same one retry later is the same ever after
  pub stays : (i x y many : ℕ) → interval_after initial n d i ≡ Some x → y ≡ x * n / d → y ≡ x → x ≤ max_nanos → i ≤ many → interval_after initial n d many ≡ Some x
  stays i x y many is made same small le =
      let e : i + (many - i) ≡ many = omega (arith, le) in
      subst (λ (k : ℕ). interval_after initial n d k ≡ Some x) e (stays-so i x is (sym made ∙ same) small (many - i))

  none-so : (i : ℕ) → interval_after initial n d i ≡ None → (more : ℕ) → interval_after initial n d (i + more) ≡ None
  none-so i none zero = let e : i + 0 ≡ i = omega arith in ap (interval_after initial n d) e ∙ none
  none-so i none (suc more) =
      let e : i + suc more ≡ (i + more) + 1 = omega arith in
      ap (interval_after initial n d) e ∙ next-is (i + more) ∙ ap (longer_by n d) (none-so i none more)

  -- once an interval was longer than the longest duration, all later were
  pub none-stays : (i many : ℕ) → interval_after initial n d i ≡ None → i ≤ many → interval_after initial n d many ≡ None
  none-stays i many none le =
      let e : i + (many - i) ≡ many = omega (arith, le) in
      subst (λ (k : ℕ). interval_after initial n d k ≡ None) e (none-so i none (many - i))

  past-next : (most : ℕ) → 0 < d → d ≤ n → (found : Option ℕ) → IsPast most found → IsPast most (longer_by n d found)
  past-next most pos le None h = tt
  past-next most pos le (Some y) h = by_test (nat_lt max_nanos (y * n / d))
    where
      by_test : (b : Bool) → IsPast most (if b then None else Some (y * n / d))
      by_test true = tt
      by_test false = let more : y ≤ y * n / d = grows n d y pos le in omega (arith, h, more)

  past-so : (most i : ℕ) → 0 < d → d ≤ n → IsPast most (interval_after initial n d i) → (more : ℕ) → IsPast most (interval_after initial n d (i + more))
  past-so most i pos le h zero = let e : i ≡ i + 0 = omega arith in subst (λ (k : ℕ). IsPast most (interval_after initial n d k)) e h
  past-so most i pos le h (suc more) =
      let e : suc (i + more) ≡ i + suc more = omega arith in
      subst (λ (k : ℕ). IsPast most (interval_after initial n d k)) e (past-next most pos le (interval_after initial n d (i + more)) (past-so most i pos le h more))

  both : (a b : Bool) → (a && b) ≡ true → (a ≡ true) × (b ≡ true)
  both true true e = (refl, refl)
  both true false e = cc
  both false b e = cc

  -- where the next interval is at least the most, and none that comes is shorter, all that come are cut to the most
  pub past : (most i x y many : ℕ) → 0 < d → interval_after initial n d i ≡ Some x → y ≡ x * n / d → (nat_le most y && nat_le d n) ≡ true → i < many → at_most most (interval_after initial n d many) ≡ most
  past most i x y many pos is made test less =
      let (long, le) = both (nat_le most y) (nat_le d n) test in
      let far : IsPast most (if nat_lt max_nanos (x * n / d) then None else Some (x * n / d)) = by_test (nat_lt max_nanos (x * n / d)) (leb-true most y long) in
      let next : IsPast most (interval_after initial n d (i + 1)) = subst (λ (found : Option ℕ). IsPast most found) (sym (next-is i ∙ ap (longer_by n d) is)) far in
      let e : (i + 1) + (many - (i + 1)) ≡ many = omega (arith, less) in
      past-most most (interval_after initial n d many) (subst (λ (k : ℕ). IsPast most (interval_after initial n d k)) e (past-so most (i + 1) pos (leb-true d n le) next (many - (i + 1))))
    where
      by_test : (b : Bool) → most ≤ y → IsPast most (if b then None else Some (x * n / d))
      by_test true h = tt
      by_test false h = omega (arith, h, made)

  either : (a b : Bool) → (a && b) ≡ false → (a ≡ false) ⊎ (b ≡ false)
  either true b e = inr e
  either false b e = inl refl

  -- else it is no longer than the longest duration
  pub next-small : (most x y : ℕ) → x ≤ max_nanos → most ≤ max_nanos → y ≡ x * n / d → (nat_le most y && nat_le d n) ≡ false → y ≤ max_nanos
  next-small most x y small fits made test = elim (either (nat_le most y) (nat_le d n) test) [
    | inl e ↦ let less : y < most = leb-false most y e in omega (arith, less, fits)
    | inr e ↦
        let few : n < d = leb-false d n e in
        let less : x * n / d ≤ x = shrinks n d x (omega (arith, few)) in
        omega (arith, less, small, made)
  ]

-- the lesser of an interval and the most
pub cut : (most interval least : ℕ) → least ≡ min interval most → least ≡ at_most most (Some interval)
cut most interval least is = is ∙ min_comm interval most
