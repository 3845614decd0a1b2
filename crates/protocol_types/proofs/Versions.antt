-- Versions, there and back.
use Rattle.std.proofs.Common.{◌≡◌, ◌≢◌, ◌==◌, ◌≤◌, refl, ap, sym, subst, ◌∙◌, inl, inr, ℕ, Bool, true, false, cond, List, [], ◌∷◌, Some, nat_lt, arith, None, if◌then◌else◌}
use Rattle.std.specs.Prelude.{◌||◌, find}
use Rattle.std.proofs.lemmas.Bool.{cases_Bool, eqb-true, eqb-false, ltb-false}
use Rattle.protocol_types.specs.declared.version.Version.{Version}
use Rattle.protocol_types.specs.Version.{versions, version_number, version_at, version_with, has_content_type, is_unsupported, version_spoken}
use Rattle.protocol_types.specs.declared.version.Version.TheVariants.{V1, V2, V3, V4, V5, V6, V7, V8, V9}
use Rattle.protocol_types.specs.Laws.{ContentTypesReadBack, VersionsReadBack, SpokenVersionsHaveNumbers}

pub content_types_read_back : ContentTypesReadBack
unfolding version_with has_content_type
content_types_read_back V1 = refl
content_types_read_back V2 = refl
content_types_read_back V3 = refl
content_types_read_back V4 = refl
content_types_read_back V5 = refl
content_types_read_back V6 = refl
content_types_read_back V7 = refl
content_types_read_back V8 = refl
content_types_read_back V9 = refl

pub versions_read_back : VersionsReadBack
versions_read_back V1 = refl
versions_read_back V2 = refl
versions_read_back V3 = refl
versions_read_back V4 = refl
versions_read_back V5 = refl
versions_read_back V6 = refl
versions_read_back V7 = refl
versions_read_back V8 = refl
versions_read_back V9 = refl

-- ---- the version of a number has that number

found : (p : Version → Bool) (among : List Version) (version : Version) → find p among ≡ Some version → p version ≡ true
found p [] version e = absurd cc
found p (first ∷ others) version e = by_test (p first) refl e (found p others version)
  where
    by_test : (b : Bool) → p first ≡ b → cond b (Some first) (find p others) ≡ Some version → (find p others ≡ Some version → p version ≡ true) → p version ≡ true
    by_test true is e more = let same : first ≡ version = cc in subst (λ (v : Version). p v ≡ true) same is
    by_test false is e more = more e

pub number_at : (number : ℕ) (version : Version) → version_at number ≡ Some version → version_number version ≡ number
number_at number version e = sym (eqb-true number (version_number version) (found (λ v. number == version_number v) versions version e))

-- ---- each number that is spoken is one of a version

abbrev IsNumbered : ℕ → Type 0
IsNumbered number = (version : Version) × (version_at number ≡ Some version) × (version_number version ≡ number)

of_version : (number : ℕ) (version : Version) → number ≡ version_number version → IsNumbered number
of_version number version e = (version, ap version_at e ∙ versions_read_back version, sym e)

pub spoken_versions_have_numbers : SpokenVersionsHaveNumbers
spoken_versions_have_numbers number spoken =
    let low : nat_lt number 5 ≡ false = left_of (nat_lt number 5) (nat_lt 9 number) spoken in
    let high : nat_lt 9 number ≡ false = right_of (nat_lt number 5) (nat_lt 9 number) spoken in
    elim (cases_Bool (number == 5)) [
      | inl e ↦ of_version number V5 (eqb-true number 5 e)
      | inr not_5 ↦ elim (cases_Bool (number == 6)) [
        | inl e ↦ of_version number V6 (eqb-true number 6 e)
        | inr not_6 ↦ elim (cases_Bool (number == 7)) [
          | inl e ↦ of_version number V7 (eqb-true number 7 e)
          | inr not_7 ↦ elim (cases_Bool (number == 8)) [
            | inl e ↦ of_version number V8 (eqb-true number 8 e)
            | inr not_8 ↦ of_version number V9 (last number (ltb-false number 5 low) (ltb-false 9 number high) (eqb-false number 5 not_5) (eqb-false number 6 not_6) (eqb-false number 7 not_7) (eqb-false number 8 not_8))
          ]
        ]
      ]
    ]
  where
    left_of : (a b : Bool) → (a || b) ≡ false → a ≡ false
    left_of true b e = e
    left_of false b e = refl

    right_of : (a b : Bool) → (a || b) ≡ false → b ≡ false
    right_of true b e = absurd cc
    right_of false b e = e

    last : (n : ℕ) → 5 ≤ n → n ≤ 9 → n ≢ 5 → n ≢ 6 → n ≢ 7 → n ≢ 8 → n ≡ 9
    last n low high a b c d = omega (arith, low, high, a, b, c, d)

pub spoken_some : (number : ℕ) (version : Version) → version_spoken number ≡ Some version → (is_unsupported number ≡ false) × (version_number version ≡ number)
spoken_some number version e = by_test (is_unsupported number) refl e
  where
    by_test : (b : Bool) → is_unsupported number ≡ b → (if b then None else version_at number) ≡ Some version → (is_unsupported number ≡ false) × (version_number version ≡ number)
    by_test true is e = absurd cc
    by_test false is e = (is, number_at number version e)

pub spoken_none : (number : ℕ) → version_spoken number ≡ None → is_unsupported number ≡ true
spoken_none number e = by_test (is_unsupported number) refl e
  where
    by_test : (b : Bool) → is_unsupported number ≡ b → (if b then None else version_at number) ≡ None → is_unsupported number ≡ true
    by_test true is e = is
    by_test false is e =
        let it = spoken_versions_have_numbers number is in
        let clash : Some it.0 ≡ None = sym it.1 ∙ e in
        absurd cc
