-- The headers of a request.
use Rattle.std.specs.Prelude.{ℕ, Bool, List, find, Option, option_map}
use Rattle.std.specs.Str.{str_eq_ignore_ascii_case}

unfoldable pub is_same_name : List ℕ → List ℕ → Bool
is_same_name name other = str_eq_ignore_ascii_case name other

-- the text of the first pair with this name, ignoring the case of ASCII letters
abbrev pub header_text : List ℕ → List (List ℕ × List ℕ) → Option (List ℕ)
header_text name pairs = option_map (λ pair. pair.1) (find (λ pair. is_same_name pair.0 name) pairs)
