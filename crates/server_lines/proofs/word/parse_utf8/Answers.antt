use Rattle.std.proofs.Common.{◌≡◌, ℕ, List, Some, None, inl, inr, refl, sym, ap}
use Rattle.std.specs.Prelude.{IsUtf8}
use Rattle.std.specs.Str.{is_utf8}
use Rattle.std.proofs.lemmas.Bool.{cases_Bool, false≢true}
use Rattle.std.proofs.lemmas.Str.{is_utf8-from_IsUtf8, IsUtf8-from_is_utf8}
use Rattle.server_lines.specs.WordReader.{text_in}
use Rattle.server_lines.proofs.word.parse_utf8.Goals as goal

a_text : (bytes text : List ℕ) → IsUtf8 bytes → text ≡ bytes → text_in bytes ≡ Some text
unfolding text_in
a_text bytes text utf8 same = rw (is_utf8-from_IsUtf8 bytes utf8) (ap Some (sym same))

no_text : (bytes : List ℕ) → (IsUtf8 bytes → ⊥) → text_in bytes ≡ None
unfolding text_in
no_text bytes never =
    elim (cases_Bool (is_utf8 bytes)) [
      | inl found ↦ absurd (never (IsUtf8-from_is_utf8 bytes found))
      | inr other ↦ rw other refl
    ]

pub returns-in-Ok : goal.returns-in-Ok
returns-in-Ok c = a_text c.args.bytes c.in-Ok.text (c.in-Ok.ensures.variant.0 refl) c.in-Ok.ensures.ok

pub returns : goal.returns
returns c = no_text c.args.bytes (λ utf8. false≢true (c.in-Err.ensures.variant.1 utf8))
