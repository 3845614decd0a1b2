-- What the answer of a test says.
use Rattle.std.proofs.Common.{◌≡◌, Bool, true, ◌↔◌, sym, ◌∙◌}
use Rattle.protocol_equality.specs.EqualityTests.{DecidesErased}

pub told : {A B : Type 0} {test : A → A → Bool} {erased : A → B} → DecidesErased test erased → (x y : A) (answer : Bool) → answer ≡ test x y → (answer ≡ true) ↔ (erased x ≡ erased y)
told t x y answer e = (λ h. t.alike x y (sym e ∙ h), λ h. e ∙ t.found x y h)
