-- An outcome's word is read just where it is the spelling of what is read.
use Rattle.std.proofs.Common.{◌≡◌, ℕ, true, inl, inr, List, ◌∷◌, ◌++◌, Some, None, refl, ap, subst, ◌∙◌}
use Rattle.std.specs.Prelude.{codes, bytes_eq}
use Rattle.std.proofs.lemmas.Option.{none-some, same_Some}
use Rattle.std.proofs.lemmas.List.Elements.{All-from_recursion, recursion_from_All}
use Rattle.script_lines.specs.declared.outcome.LineOutcome.{LineOutcome}
use Rattle.script_lines.specs.declared.outcome.LineOutcome.TheVariants.{Success, Failure, Retry}
use Rattle.script_lines.specs.Word.{IsWordByte, IsCoded, coded_word, outcome_word, IsOutcome}
use Rattle.script_lines.specs.LineReader.{then_read, printable_of, at_colon, coded_of, outcome_in, outcome_of}
use Rattle.script_lines.proofs.WordLaws.{IsReading, printable_takes, printable_again, read_step, chosen}
use Rattle.script_lines.proofs.ValueLaws.{colon_takes, colon_again, coded_takes, coded_again, kind_is}

-- an outcome is read so, and the word was its own
abbrev Takes : List ℕ → LineOutcome → Type 0
Takes word outcome = IsOutcome outcome × (word ≡ outcome_word outcome)

coded_take : (make : ℕ → List ℕ → LineOutcome) (word kind text name : List ℕ) (outcome : LineOutcome) → ((code : ℕ) (message : List ℕ) → IsCoded code message → word ≡ name ++ 58 ∷ coded_word code message → Takes word (make code message))
    → word ≡ kind ++ 58 ∷ text → bytes_eq kind name ≡ true → then_read (coded_of text) (λ (coded : ℕ × List ℕ). Some (make coded.0 coded.1)) ≡ Some outcome → Takes word outcome
coded_take make word kind text name outcome so split named e =
    let t = read_step e in
    let coded = coded_takes text t.0 t.1 in
    subst (λ (w : LineOutcome). Takes word w) (same_Some (make t.0.0 t.0.1) outcome t.2)
    (so t.0.0 t.0.1 coded.0 (kind_is word kind text name split named ∙ ap (λ (b : List ℕ). name ++ 58 ∷ b) coded.1))

success_takes : (word kind text : List ℕ) (outcome : LineOutcome) → word ≡ kind ++ 58 ∷ text → bytes_eq kind (codes "ok") ≡ true
    → then_read (printable_of text) (λ (bytes : List ℕ). Some (Success bytes)) ≡ Some outcome → Takes word outcome
success_takes word kind text outcome split named e =
    let t = read_step e in
    let bytes = printable_takes text t.0 t.1 in
    subst (λ (w : LineOutcome). Takes word w) (same_Some (Success t.0) outcome t.2)
    (All-from_recursion IsWordByte t.0 bytes.0, kind_is word kind text (codes "ok") split named ∙ ap (λ (b : List ℕ). codes "ok:" ++ b) bytes.1)

kind_takes : (word kind text : List ℕ) (outcome : LineOutcome) → word ≡ kind ++ 58 ∷ text → outcome_in kind text ≡ Some outcome → Takes word outcome
unfolding outcome_in
kind_takes word kind text outcome split e =
    elim (chosen (bytes_eq kind (codes "ok")) (then_read (printable_of text) (λ (bytes : List ℕ). Some (Success bytes))) _ (Some outcome) e) [
      | inl ok ↦ success_takes word kind text outcome split ok.0 ok.1
      | inr other ↦
          elim (chosen (bytes_eq kind (codes "fail")) (then_read (coded_of text) (λ (coded : ℕ × List ℕ). Some (Failure coded.0 coded.1))) _ (Some outcome) other.1) [
            | inl fail ↦ coded_take Failure word kind text (codes "fail") outcome (λ code message fits is. (fits, is)) split fail.0 fail.1
            | inr more ↦
                elim (chosen (bytes_eq kind (codes "retry")) (then_read (coded_of text) (λ (coded : ℕ × List ℕ). Some (Retry coded.0 coded.1))) None (Some outcome) more.1) [
                  | inl retry ↦ coded_take Retry word kind text (codes "retry") outcome (λ code message fits is. (fits, is)) split retry.0 retry.1
                  | inr none ↦ absurd (none-some outcome none.1)
                ]
          ]
    ]

outcome_takes : (word : List ℕ) (outcome : LineOutcome) → outcome_of word ≡ Some outcome → Takes word outcome
unfolding outcome_of
outcome_takes word outcome e = let p = read_step e in kind_takes word p.0.0 p.0.1 outcome (colon_takes word p.0 p.1) p.2

outcome_again : (outcome : LineOutcome) → IsOutcome outcome → outcome_of (outcome_word outcome) ≡ Some outcome
unfolding outcome_of outcome_in then_read
outcome_again (Success bytes) h =
    let parts : at_colon (codes "ok:" ++ bytes) ≡ Some (codes "ok", bytes) = colon_again (codes "ok") bytes (refl, (refl, tt)) in
    rw (parts, printable_again bytes (recursion_from_All IsWordByte bytes h)) refl
outcome_again (Failure code message) h =
    let text = coded_word code message in
    let parts : at_colon (codes "fail:" ++ text) ≡ Some (codes "fail", text) = colon_again (codes "fail") text (refl, (refl, (refl, (refl, tt)))) in
    rw (parts, coded_again code message h) refl
outcome_again (Retry code message) h =
    let text = coded_word code message in
    let parts : at_colon (codes "retry:" ++ text) ≡ Some (codes "retry", text) = colon_again (codes "retry") text (refl, (refl, (refl, (refl, (refl, tt))))) in
    rw (parts, coded_again code message h) refl

pub outcome_reading : IsReading outcome_of outcome_word IsOutcome
outcome_reading = record { takes = outcome_takes; again = outcome_again }
