-- Keys that are text.
use Rattle.std.proofs.Common.{◌≡◌, refl, ℕ, Bool, true, false, ◌&&◌, inl, inr, List}
use Rattle.std.proofs.lemmas.Bool.{cases_Bool}
use Rattle.std.proofs.lemmas.Str.{IsUtf8-from_is_utf8}
use Rattle.std.specs.Prelude.{IsUtf8}
use Rattle.std.specs.Str.{is_utf8}

pub no_text : (bytes : List ℕ) → (IsUtf8 bytes → ⊥) → is_utf8 bytes ≡ false
no_text bytes not = elim (cases_Bool (is_utf8 bytes)) [ inl t ↦ absurd (not (IsUtf8-from_is_utf8 bytes t)) | inr f ↦ f ]

pub and_true : (b : Bool) → b ≡ (b && true)
and_true true = refl
and_true false = refl
