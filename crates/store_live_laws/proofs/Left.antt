-- What is left of an input, and what is handed out of it.
use Rattle.std.proofs.Common.{ℕ, zero, suc, ◌≤◌, arith, ◌≡◌, refl, sym, ap, subst, ◌∙◌, inr, false, List, [], ◌∷◌, ◌++◌, length, take, drop}
use Rattle.journal_model.specs.Notification.{Bytes, Text}
use Rattle.journal_model.specs.Event.{Event}
use Rattle.journal_model.specs.Attempt.{input_bytes, input_left, input_pieces}
use Rattle.journal_model.specs.Cause.{is_empty}
use Rattle.due_laws.specs.InputParts.{HandsPart, ReadsRows}
use Rattle.due_laws.proofs.InputParts.{rows_tell}
use Rattle.store_live_laws.proofs.Reading.{input_agrees}
use Rattle.store_live_laws.specs.LiveAttempts.{AllLeftIsTold, PartIsTold}

pub left_told : AllLeftIsTold
left_told events id attempt accepted kept = record {
  remains = λ x rest e.
      ap is_empty (kept.input.reads.left ∙ ap (λ (bytes : Bytes). bytes ++ input_bytes (drop attempt.input.read (input_pieces events id))) e);
  ends = λ none e. input_agrees.ends events id attempt.input accepted none e kept.input;
}

take_none : (most : ℕ) → ◌≡◌ {A = List ℕ} (take most []) []
take_none zero = refl
take_none (suc most) = refl

pub part_told : PartIsTold
part_told events id most attempt kept nothing = by_rest attempt.input.rest refl nothing
  where
    by_rest : (rest : Bytes) → attempt.input.rest ≡ rest → (rest ≡ [] → input_left events id ≡ []) → HandsPart (input_left events id) most (take most rest)
    by_rest [] e none =
        subst (λ (bytes : Bytes). HandsPart (input_left events id) most bytes) (sym (take_none most))
        (record { rest = input_left events id; beginning = refl; few = omega arith; none = λ empty. inr (none refl) })
    by_rest (x ∷ rest) e none =
        rows_tell.part events id attempt.input.read most x rest (subst (λ (bytes : Bytes). ReadsRows events id attempt.input.read bytes) e kept.input.reads)
