-- What stands of a choice has no fault.
use Rattle.std.specs.Prelude.{◌⊎◌, ◌≡◌, ◌<◌, ◌^◌, ℕ, List, length, Option, Some, None, IfSome}
use Rattle.std.specs.List.{AllByRecursion}
use Rattle.std.proofs.Common.{inl, inr}
use Rattle.protocol_wire.specs.Wire.{Field}
use Rattle.protocol_wire.specs.Check.{payload_fault}
use Rattle.protocol_wire.specs.DecodingAnswers.{IsRead}
use Rattle.protocol_wire.specs.Parts.{bytes_if}
use Rattle.protocol_wire.proofs.Holds.{optional_sound, LengthFits}
use Rattle.protocol_table.specs.declared.table.RecordType.{RecordType}
use Rattle.protocol_records.specs.Choice.{EitherField, ChoiceFits, OpenedFits, first_held, first_spelled, is_left, is_right, second_held, second_spelled}

module _ {A B C : Type 0} (choice : EitherField A B C) (levels : ℕ) where
  left_fits : (side : A ⊎ B) → OpenedFits choice levels side → IfSome (is_left side) (choice.first.fits levels)
  left_fits (inl a) h = h
  left_fits (inr b) h = tt

  right_fits : (side : A ⊎ B) → OpenedFits choice levels side → IfSome (is_right side) (choice.second.fits levels)
  right_fits (inl a) h = tt
  right_fits (inr b) h = h

  first_fits : (o : Option C) → ChoiceFits choice levels o → IfSome (first_held choice o) (choice.first.fits levels)
  first_fits None h = tt
  first_fits (Some c) h = left_fits (choice.opened c) h

  second_fits : (o : Option C) → ChoiceFits choice levels o → IfSome (second_held choice o) (choice.second.fits levels)
  second_fits None h = tt
  second_fits (Some c) h = right_fits (choice.opened c) h

  pub first_sound : (t : RecordType) (of : ℕ → List Field → A) → ((a : A) → choice.first.fits levels a → length (choice.first.spelled a) < 2 ^ 64 → IsRead levels t of (choice.first.spelled a) a)
      → (o : Option C) → ChoiceFits choice levels o → AllByRecursion LengthFits (bytes_if (first_spelled choice o)) → IfSome (first_spelled choice o) (λ b. payload_fault levels t b ≡ None)
  first_sound t of reads o h k = optional_sound levels t of choice.first.spelled (choice.first.fits levels) reads (first_held choice o) (first_fits o h) k

  pub second_sound : (t : RecordType) (of : ℕ → List Field → B) → ((b : B) → choice.second.fits levels b → length (choice.second.spelled b) < 2 ^ 64 → IsRead levels t of (choice.second.spelled b) b)
      → (o : Option C) → ChoiceFits choice levels o → AllByRecursion LengthFits (bytes_if (second_spelled choice o)) → IfSome (second_spelled choice o) (λ b. payload_fault levels t b ≡ None)
  second_sound t of reads o h k = optional_sound levels t of choice.second.spelled (choice.second.fits levels) reads (second_held choice o) (second_fits o h) k
