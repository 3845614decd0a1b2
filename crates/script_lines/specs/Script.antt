-- The lines of a whole script.
use Rattle.std.specs.Prelude.{ℕ, ◌+◌, Bool, true, ◌==◌, List, [], ◌∷◌, if◌then◌else◌, Option}
use Rattle.std.specs.Borrow.{Bor}
use Rattle.std.specs.List.{slice_split}
use Rattle.std.specs.Option.{option_map_or}

-- a line that says nothing: an empty one, and a remark, which begins with '#'
abbrev pub is_skipped : List ℕ → Bool
is_skipped [] = true
is_skipped (byte ∷ bytes) = byte == 35

-- the lines that say something, each with its number; the first of all lines has the number n
abbrev pub numbered_from : ℕ → List (List ℕ) → List (ℕ × List ℕ)
numbered_from n [] = []
numbered_from n (line ∷ lines) = if is_skipped line then numbered_from (n + 1) lines else (n, line) ∷ numbered_from (n + 1) lines

-- the lines of a script: a line feed ends each, and may be left out at the last; what stands behind a last
-- line feed is empty, and so is skipped
abbrev pub numbered_lines : List ℕ → List (ℕ × List ℕ)
numbered_lines script = numbered_from 1 (slice_split (λ byte. byte == 10) script)

-- all lines of what is left of a script, if something is
abbrev pub lines_of_rest : Option (Bor (List ℕ)) → List (List ℕ)
lines_of_rest rest = option_map_or (λ script. slice_split (λ byte. byte == 10) script.now) rest []
