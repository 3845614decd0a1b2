-- Tests that tell whether two values are the same after something in them was erased.
use Rattle.std.specs.Prelude.{◌≡◌, Bool, true, ◌&&◌, Option, Some, None, nat_eq, refl}
use Rattle.std.proofs.Common.{ap}
use Rattle.std.proofs.lemmas.Bool.{and_parts, and_from, eqb-true, eq-eqb}
use Rattle.std.specs.Option.{option_eq, option_map}

-- the test is true exactly where both are the same after the erasure
pub record DecidesErased {A B : Type 0} (test : A → A → Bool) (erased : A → B) : Type 0 where
  pub alike : (x y : A) → test x y ≡ true → erased x ≡ erased y
  pub found : (x y : A) → erased x ≡ erased y → test x y ≡ true

-- a test for where something is ignored and one for where it is not, each with its erasure
abbrev pub ToldBy : {A : Type 0} → (Bool → A → A → Bool) → (Bool → A → A) → Type 0
ToldBy test erased = (ignoring : Bool) → DecidesErased (test ignoring) (erased ignoring)

-- the test is true exactly where both are the same
abbrev pub Decides : {A : Type 0} → (A → A → Bool) → Type 0
Decides {A} test = (x y : A) → (test x y ≡ true → x ≡ y) × (x ≡ y → test x y ≡ true)

-- nothing is erased
abbrev pub whole : {A : Type 0} → A → A
whole x = x

pub in_full : {A : Type 0} {test : A → A → Bool} → Decides test → DecidesErased test (whole {A = A})
in_full d = record { alike = λ x y. (d x y).0; found = λ x y. (d x y).1 }

pub deciding : {A : Type 0} {test : A → A → Bool} → DecidesErased test (whole {A = A}) → Decides test
deciding t x y = (t.alike x y, t.found x y)

pub numbers_decide : Decides nat_eq
numbers_decide x y = (eqb-true x y, eq-eqb x y)

-- ---- what may be absent, and what comes more than once

pub options_tell : {A B : Type 0} {test : A → A → Bool} {erased : A → B} → DecidesErased test erased → DecidesErased (option_eq test) (option_map erased)
options_tell {A} {B} {test} {erased} t = record { alike = alike; found = found }
  where
    alike : (x y : Option A) → option_eq test x y ≡ true → option_map erased x ≡ option_map erased y
    alike None None h = refl
    alike None (Some y) h = cc
    alike (Some x) None h = cc
    alike (Some x) (Some y) h = ap Some (t.alike x y h)

    found : (x y : Option A) → option_map erased x ≡ option_map erased y → option_eq test x y ≡ true
    found None None h = refl
    found None (Some y) h = cc
    found (Some x) None h = cc
    found (Some x) (Some y) h = t.found x y (cc)

pub options_decide : {A : Type 0} {test : A → A → Bool} → Decides test → Decides (option_eq test)
options_decide d None None = (λ h. refl, λ h. refl)
options_decide d None (Some y) = (λ h. cc, λ h. cc)
options_decide d (Some x) None = (λ h. cc, λ h. cc)
options_decide d (Some x) (Some y) = (λ h. ap Some ((d x y).0 h), λ h. (d x y).1 (cc))

-- ---- tests of parts

-- two tests side by side
pub both_tell : {A B C D : Type 0} {one : A → A → Bool} {two : B → B → Bool} {f : A → C} {g : B → D} → DecidesErased one f → DecidesErased two g
    → DecidesErased (λ (p : A × B) (q : A × B). one p.0 q.0 && two p.1 q.1) (λ (p : A × B). let r : C × D = (f p.0, g p.1) in r)
both_tell {one = one} {two = two} first second = record {
  alike = λ p q h. let parts = and_parts (one p.0 q.0) (two p.1 q.1) h in
      λ i. (first.alike p.0 q.0 parts.0 i, second.alike p.1 q.1 parts.1 i);
  found = λ p q h. and_from (one p.0 q.0) (two p.1 q.1) (first.found p.0 q.0 (ap (λ r. r.0) h)) (second.found p.1 q.1 (ap (λ r. r.1) h));
}

-- a test of the parts of a value that the erasure keeps
pub parts_tell : {A B C D : Type 0} (part : A → B) (erased : A → D) {test : B → B → Bool} {f : B → C}
    → ((x y : A) → f (part x) ≡ f (part y) → erased x ≡ erased y) → ((x y : A) → erased x ≡ erased y → f (part x) ≡ f (part y))
    → DecidesErased test f → DecidesErased (λ (x : A) (y : A). test (part x) (part y)) erased
parts_tell part erased back there tells = record {
  alike = λ x y h. back x y (tells.alike (part x) (part y) h);
  found = λ x y h. tells.found (part x) (part y) (there x y h);
}
