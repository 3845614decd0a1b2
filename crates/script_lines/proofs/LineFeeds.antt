-- Where the first line of a script ends, and what is left behind it.
use Rattle.std.proofs.Common.{◌≡◌, ℕ, ◌+◌, ◌-◌, Bool, true, false, cond, eqb, ltb, ◌≤◌, List, [], ◌∷◌, length, take, drop, Some, None, refl, sym, subst, arith}
use Rattle.std.specs.List.{slice_split, position, position_or_len}
use Rattle.std.proofs.Math.Seq.{take-length}
use Rattle.std.proofs.lemmas.Bool.{ltb-true, ltb-false}
use Rattle.std.proofs.lemmas.List.{length-drop}
use Rattle.std.proofs.lemmas.List.Splits.{slice_split_none, slice_split_first, length-slice_split}
use Rattle.std.proofs.lemmas.List.Sums.{fails_before_first, count_by-le-length}
use Rattle.std.proofs.lemmas.Option.{none-some, same_Some}

found_at : {A : Type 0} (b : Bool) (x y : A) → Some y ≡ cond b (Some x) None → (b ≡ true) × (x ≡ y)
found_at true x y e = (refl, same_Some x y (sym e))
found_at false x y e = absurd (none-some y (sym e))

found_nowhere : {A : Type 0} (b : Bool) (x : A) → None ≡ cond b (Some x) None → b ≡ false
found_nowhere true x e = absurd (none-some x e)
found_nowhere false x e = refl

-- where no byte is a line feed, the script is one line
pub one_line : (script : List ℕ) → None ≡ position (λ byte. eqb byte 10) script → slice_split (λ byte. eqb byte 10) script ≡ script ∷ []
one_line script e =
    let place = position_or_len (λ byte. eqb byte 10) script in
    let past = ltb-false place (length script) (found_nowhere (ltb place (length script)) place e) in
    slice_split_none (λ byte. eqb byte 10) script (λ k d inside. fails_before_first (λ byte. eqb byte 10) script k d (omega (arith, past, inside)))

rest_is : (n : ℕ) (bytes : List ℕ) → take (length bytes - n) (drop n bytes) ≡ drop n bytes
rest_is n bytes = rw (← length-drop n bytes) (take-length (drop n bytes))

-- else its first line stands before the first
pub more_lines : (script : List ℕ) (place : ℕ) → Some place ≡ position (λ byte. eqb byte 10) script
    → slice_split (λ byte. eqb byte 10) script ≡ take place script ∷ slice_split (λ byte. eqb byte 10) (take (length script - (place + 1)) (drop (place + 1) script))
more_lines script place e =
    let found = found_at (ltb (position_or_len (λ byte. eqb byte 10) script) (length script)) (position_or_len (λ byte. eqb byte 10) script) place e in
    let inside = ltb-true (position_or_len (λ byte. eqb byte 10) script) (length script) found.0 in
    let P : ℕ → Type 0 = λ n. slice_split (λ byte. eqb byte 10) script ≡ take n script ∷ slice_split (λ byte. eqb byte 10) (drop (n + 1) script) in
    rw (rest_is (place + 1) script) (subst P found.1 (slice_split_first (λ byte. eqb byte 10) script 0 inside))

-- a script has no more lines than bytes, and one
pub lines_are_few : (script : List ℕ) → length (slice_split (λ byte. eqb byte 10) script) ≤ length script + 1
lines_are_few script = omega (arith, length-slice_split (λ byte. eqb byte 10) script, count_by-le-length (λ byte. eqb byte 10) script)
