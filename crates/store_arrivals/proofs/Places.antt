-- The place of one more entry.
use Rattle.std.proofs.Common.{arith, ℕ, ◌-◌, ◌^◌, ◌<◌, ◌≤◌, nat_lt, ◌≡◌, inl, inr, true, false}
use Rattle.std.proofs.lemmas.Bool.{cases_Bool, lt-ltb, ltb-true}

pub used_up : (entries : ℕ) → 4294967295 ≤ entries → nat_lt (2 ^ 32 - 2) entries ≡ true
used_up entries h = lt-ltb (2 ^ 32 - 2) entries (omega (arith, h))

pub not_used_up : (entries : ℕ) → entries < 4294967295 → nat_lt (2 ^ 32 - 2) entries ≡ false
not_used_up entries h = elim (cases_Bool (nat_lt (2 ^ 32 - 2) entries)) [
  | inl e ↦ absurd (beyond (ltb-true (2 ^ 32 - 2) entries e))
  | inr e ↦ e
]
  where
    beyond : 2 ^ 32 - 2 < entries → ⊥
    beyond more = omega (arith, h, more)
