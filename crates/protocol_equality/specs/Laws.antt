-- When two commands are header-equal.
use Rattle.std.specs.Prelude.{◌≡◌, Bool, true, false}
use Rattle.std.proofs.Common.{ap, sym, ◌∙◌}

-- what is compared of them is the same
abbrev pub AreHeaderEqual : {M : Type 0} → (Bool → M → M) → Bool → M → M → Type 0
AreHeaderEqual erased ignoring x y = erased ignoring x ≡ erased ignoring y

-- what is the same with payloads is so without
abbrev pub Coarser : {M : Type 0} → (Bool → M → M) → Type 0
Coarser {M} erased = (x y : M) → AreHeaderEqual erased false x y → AreHeaderEqual erased true x y

-- it is so where payloads are erased of what is left with them too
pub coarser_by : {M : Type 0} (erased : Bool → M → M) → ((x : M) → erased true (erased false x) ≡ erased true x) → Coarser erased
coarser_by erased again x y h = sym (again x) ∙ ap (erased true) h ∙ again y
