-- A choice of two fields, of which a message has one or none.
use Rattle.std.specs.Prelude.{◌⊎◌, ℕ, ◌-◌, List, [], ◌∷◌, option_map, option_and_then, Option, Some, None}
use Rattle.std.proofs.Common.{inl, inr}
use Rattle.protocol_wire.specs.Wire.{Field}
use Rattle.protocol_wire.specs.Selection.{optional_record, optional_text, run, first_present}
use Rattle.protocol_wire.specs.Parts.{Part, optional_bytes, payload_of}
use Rattle.protocol_records.specs.declared.failure.Failure.{Failure}
use Rattle.protocol_records.specs.declared.value.Value.{Value}
use Rattle.protocol_records.specs.declared.void.Void.{Void}
use Rattle.protocol_records.specs.Failure.{failure_of, failure_parts, FailureFits}
use Rattle.protocol_records.specs.Value.{value_of, value_parts, ValueFits}
use Rattle.protocol_records.specs.Void.{void_of, void_parts, VoidFits}

-- ---- a field that may stand

-- its number, how it is read and spelled, and what fits in it
pub record Alternative (A : Type 0) : Type 1 where
  pub number : ℕ
  pub read : ℕ → List Field → Option A
  pub spelled : A → List ℕ
  pub fits : ℕ → A → Type 0

abbrev pub record_at : {A : Type 0} → (ℕ → List Field → A) → (A → List Part) → (ℕ → A → Type 0) → ℕ → Alternative A
record_at of parts fits number = record { number = number; read = λ levels fs. optional_record (of levels) number fs; spelled = λ a. payload_of (parts a); fits = fits }

abbrev pub value_alternative : ℕ → Alternative Value
value_alternative = record_at value_of value_parts ValueFits

abbrev pub failure_at : ℕ → Alternative Failure
failure_at = record_at failure_of failure_parts FailureFits

abbrev pub void_at : ℕ → Alternative Void
void_at = record_at void_of void_parts VoidFits

-- bytes, of which nothing is asked
abbrev pub bytes_at : ℕ → Alternative (List ℕ)
bytes_at number = record { number = number; read = λ levels fs. optional_text number fs; spelled = λ bytes. bytes; fits = λ levels bytes. Unit {0} }

-- ---- of two the one that stands

-- the numbers of both, how each becomes the choice, and which of them a choice is
pub record EitherField (A B C : Type 0) : Type 1 where
  pub numbers : List ℕ
  pub first : Alternative A
  pub second : Alternative B
  pub of_first : A → C
  pub of_second : B → C
  pub opened : C → A ⊎ B

abbrev pub is_left : {A B : Type 0} → A ⊎ B → Option A
is_left (inl a) = Some a
is_left (inr b) = None

abbrev pub is_right : {A B : Type 0} → A ⊎ B → Option B
is_right (inl a) = None
is_right (inr b) = Some b

module _ {A B C : Type 0} (choice : EitherField A B C) where
  -- of the fields of both alone
  abbrev pub chosen_in : ℕ → List Field → Option C
  chosen_in levels fs = first_present (option_map choice.of_first (choice.first.read (levels - 1) fs)) (option_map choice.of_second (choice.second.read (levels - 1) fs))

  -- the last run of one of them stands
  abbrev pub chosen : ℕ → List Field → Option C
  chosen levels fs = chosen_in levels (run choice.numbers fs)

  abbrev pub first_held : Option C → Option A
  first_held o = option_and_then (λ c. is_left (choice.opened c)) o

  abbrev pub second_held : Option C → Option B
  second_held o = option_and_then (λ c. is_right (choice.opened c)) o

  abbrev pub first_spelled : Option C → Option (List ℕ)
  first_spelled o = option_map choice.first.spelled (first_held o)

  abbrev pub second_spelled : Option C → Option (List ℕ)
  second_spelled o = option_map choice.second.spelled (second_held o)

  abbrev pub choice_parts : Option C → List Part
  choice_parts o = optional_bytes choice.first.number (first_spelled o) ∷ optional_bytes choice.second.number (second_spelled o) ∷ []

  abbrev pub OpenedFits : ℕ → A ⊎ B → Type 0
  OpenedFits levels (inl a) = choice.first.fits levels a
  OpenedFits levels (inr b) = choice.second.fits levels b

  -- what stands fits
  abbrev pub ChoiceFits : ℕ → Option C → Type 0
  ChoiceFits levels None = Unit {0}
  ChoiceFits levels (Some c) = OpenedFits levels (choice.opened c)
