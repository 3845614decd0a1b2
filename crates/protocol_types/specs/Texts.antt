-- How numbers, texts, bytes, and what may be absent or come more than once are printed.
use Rattle.std.specs.Prelude.{ℕ, ◌/◌, ◌%◌, Bool, false, ◌&&◌, not, ◌==◌, if◌then◌else◌, nat_lt, List, [], ◌∷◌, ◌++◌, Option, Some, None, codes}
use Rattle.std.specs.List.{flat_map}
use Rattle.std.specs.Fmt.{digit_glyph}

-- a text in quotes
abbrev pub quoted : List ℕ → List ℕ
quoted text = codes "'" ++ text ++ codes "'"

-- printable ASCII, but no backslash
abbrev pub is_plain_byte : ℕ → Bool
is_plain_byte byte = nat_lt 31 byte && nat_lt byte 127 && not (byte == 92)

-- a byte as two hexadecimal digits in lower case
abbrev pub hex_byte : ℕ → List ℕ
hex_byte byte = digit_glyph false (byte / 16) ∷ digit_glyph false (byte % 16) ∷ []

-- a byte by its number in two digits
abbrev pub numbered_byte : ℕ → List ℕ
numbered_byte byte = codes "\\x" ++ hex_byte byte

-- a byte as it is where it is plain, and else by its number
abbrev pub escaped_byte : ℕ → List ℕ
escaped_byte byte = if is_plain_byte byte then byte ∷ [] else numbered_byte byte

-- bytes in quotes
abbrev pub escaped : List ℕ → List ℕ
escaped bytes = codes "'" ++ flat_map escaped_byte bytes ++ codes "'"

abbrev pub optional_text : {T : Type 0} → (T → List ℕ) → Option T → List ℕ
optional_text text None = codes "none"
optional_text text (Some value) = text value

-- an item that is not the first one
abbrev pub later_text : {T : Type 0} → (T → List ℕ) → T → List ℕ
later_text text item = codes ", " ++ text item

abbrev pub list_text : {T : Type 0} → (T → List ℕ) → List T → List ℕ
list_text text [] = codes "[]"
list_text text (item ∷ items) = codes "[" ++ text item ++ flat_map (later_text text) items ++ codes "]"
