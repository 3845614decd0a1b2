-- What is printed of a command whose fields differ from the recorded ones.
use Rattle.std.specs.Prelude.{ℕ, ℤ, List, ◌++◌, codes}
use Rattle.std.specs.Fmt.{signed_decimal}

-- the place in the journal, in front of the lines of the fields
unfoldable pub place_text : ℤ → List ℕ
place_text index = codes "\n - The mismatch happened at index '" ++ signed_decimal index ++ codes "'\n - The recorded command and the one of this execution differ in:"
