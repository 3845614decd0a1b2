-- The line of a field, which is written where the field differs.
use Rattle.std.specs.Prelude.{◌≡◌, ◌↔◌, ℕ, Bool, true, false, ◌&&◌, List, [], ◌∷◌, ◌++◌, Option, nat_eq, decimal, codes, if◌then◌else◌, refl}
use Rattle.std.specs.Option.{option_eq}
use Rattle.std.proofs.Common.{sym, ◌∙◌}
use Rattle.std.proofs.lemmas.Bool.{and_parts, and_from}
use Rattle.protocol_types.specs.Texts.{quoted, escaped, optional_text}
use Rattle.protocol_equality.specs.Parts.{same_text}
use Rattle.protocol_equality.specs.EqualityTests.{DecidesErased}

-- a line begins with a line feed; where the field is the same there is none
unfoldable pub compared_line : Bool → List ℕ → List ℕ → List ℕ → List ℕ
compared_line same field actual expected = if same then [] else codes "\n   " ++ field ++ codes ": " ++ actual ++ codes " != " ++ expected

-- what is written of some fields, and whether they are the same: nothing is written exactly where they are
pub record Compared : Type 0 where
  pub text : List ℕ
  pub same : Bool
  pub shown : text ≡ [] → same ≡ true
  pub none : same ≡ true → text ≡ []

pub line_shown : (same : Bool) (field actual expected : List ℕ) → compared_line same field actual expected ≡ [] → same ≡ true
unfolding compared_line
line_shown true field actual expected h = refl
line_shown false field actual expected h = cc

pub line_none : (same : Bool) (field actual expected : List ℕ) → same ≡ true → compared_line same field actual expected ≡ []
unfolding compared_line
line_none true field actual expected h = refl
line_none false field actual expected h = cc

pub parts_empty : (a b : List ℕ) → a ++ b ≡ [] → (a ≡ []) × (b ≡ [])
parts_empty [] b h = (refl, h)
parts_empty (x ∷ a) b h = cc

-- one field: its test and its texts
abbrev pub field_line : {A : Type 0} → (A → A → Bool) → (A → List ℕ) → List ℕ → A → A → Compared
field_line test text field x y = record {
  text = compared_line (test x y) field (text x) (text y);
  same = test x y;
  shown = line_shown (test x y) field (text x) (text y);
  none = line_none (test x y) field (text x) (text y);
}

-- and another behind them
infixl 10 ◌before◌
abbrev pub ◌before◌ : Compared → Compared → Compared
one before two = record {
  text = one.text ++ two.text;
  same = one.same && two.same;
  shown = λ h. let parts = parts_empty one.text two.text h in and_from one.same two.same (one.shown parts.0) (two.shown parts.1);
  none = λ h. let parts = and_parts one.same two.same h in λ i. one.none parts.0 i ++ two.none parts.1 i;
}

-- ---- the fields that many commands have

abbrev pub text_line : List ℕ → List ℕ → List ℕ → Compared
text_line = field_line same_text quoted

abbrev pub bytes_line : List ℕ → List ℕ → List ℕ → Compared
bytes_line = field_line same_text escaped

abbrev pub optional_line : {A : Type 0} → (A → A → Bool) → (A → List ℕ) → List ℕ → Option A → Option A → Compared
optional_line test text = field_line (option_eq test) (optional_text text)

abbrev pub id_line : ℕ → ℕ → Compared
id_line = field_line nat_eq decimal (codes "result_completion_id")

abbrev pub name_line : List ℕ → List ℕ → Compared
name_line = text_line (codes "name")

-- nothing is written exactly where the test is true, which is where what is left of both is the same
pub silent_told : {M : Type 0} {test : M → M → Bool} {erased : M → M} → DecidesErased test erased → (lines : M → M → Compared)
    → ((x y : M) → (lines x y).same ≡ test x y) → (x y : M) → ((lines x y).text ≡ []) ↔ (erased x ≡ erased y)
silent_told tells lines same x y = (λ h. tells.alike x y (sym (same x y) ∙ (lines x y).shown h), λ h. (lines x y).none (same x y ∙ tells.found x y h))
