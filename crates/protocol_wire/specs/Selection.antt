-- What a record's fields are: each is selected from the whole list.
use Rattle.std.specs.Prelude.{ℕ, ◌%◌, ◌^◌, List, [], ◌∷◌, ◌++◌, map, Option, Some, None, Bool, true, false, not, ◌==◌, if◌then◌else◌, option_map, unwrap_or}
use Rattle.std.specs.List.{list_any}
use Rattle.protocol_wire.specs.Wire.{Wire, varint, bytes, fixed, Field}
use Rattle.protocol_wire.specs.Fields.{fields, varints}

-- The values of the fields with this number, in order.
abbrev pub values : ℕ → List Field → List Wire
values number [] = []
values number (f ∷ fs) = if f.number == number then f.value ∷ values number fs else values number fs

-- The last number, or the one before where there is none.
abbrev pub last_number_or : Option ℕ → List Wire → Option ℕ
last_number_or before [] = before
last_number_or before (varint n ∷ ws) = last_number_or (Some n) ws
last_number_or before (bytes b ∷ ws) = last_number_or before ws
last_number_or before (fixed ∷ ws) = last_number_or before ws

abbrev pub last_bytes_or : Option (List ℕ) → List Wire → Option (List ℕ)
last_bytes_or before [] = before
last_bytes_or before (varint n ∷ ws) = last_bytes_or before ws
last_bytes_or before (bytes b ∷ ws) = last_bytes_or (Some b) ws
last_bytes_or before (fixed ∷ ws) = last_bytes_or before ws

unfoldable pub last_number : ℕ → List Field → Option ℕ
last_number number fs = last_number_or None (values number fs)

unfoldable pub last_bytes : ℕ → List Field → Option (List ℕ)
last_bytes number fs = last_bytes_or None (values number fs)

-- ---- plain fields: zero, false or empty where there is none

abbrev pub u64 : ℕ → List Field → ℕ
u64 number fs = unwrap_or (last_number number fs) 0

-- the low 32 bits
abbrev pub u32 : ℕ → List Field → ℕ
u32 number fs = u64 number fs % 2 ^ 32

abbrev pub bool : ℕ → List Field → Bool
bool number fs = not (u64 number fs == 0)

abbrev pub text : ℕ → List Field → List ℕ
text number fs = unwrap_or (last_bytes number fs) []

-- ---- optional fields

abbrev pub optional_u64 : ℕ → List Field → Option ℕ
optional_u64 number fs = last_number number fs

abbrev pub optional_u32 : ℕ → List Field → Option ℕ
optional_u32 number fs = option_map (λ n. n % 2 ^ 32) (last_number number fs)

abbrev pub optional_text : ℕ → List Field → Option (List ℕ)
optional_text number fs = last_bytes number fs

-- ---- repeated fields

abbrev pub each_bytes : List Wire → List (List ℕ)
each_bytes [] = []
each_bytes (varint n ∷ ws) = each_bytes ws
each_bytes (bytes b ∷ ws) = b ∷ each_bytes ws
each_bytes (fixed ∷ ws) = each_bytes ws

-- The bytes of each field with this number.
unfoldable pub texts : ℕ → List Field → List (List ℕ)
texts number fs = each_bytes (values number fs)

-- The low 32 bits.
abbrev pub low : ℕ → ℕ
low n = n % 2 ^ 32

abbrev pub each_number : List Wire → List ℕ
each_number [] = []
each_number (varint n ∷ ws) = n ∷ each_number ws
each_number (bytes b ∷ ws) = varints b ++ each_number ws
each_number (fixed ∷ ws) = each_number ws

-- Repeated numbers, packed or not, the low 32 bits of each.
unfoldable pub numbers : ℕ → List Field → List ℕ
numbers number fs = map low (each_number (values number fs))

-- ---- records in records

-- All payloads with this number, one after the other, if there is one: payloads of one record merge.
abbrev pub concat : List (List ℕ) → List ℕ
concat [] = []
concat (p ∷ ps) = p ++ concat ps

abbrev pub joined_bytes : List (List ℕ) → Option (List ℕ)
joined_bytes [] = None
joined_bytes (p ∷ ps) = Some (concat (p ∷ ps))

abbrev pub optional_record : {R : Type 0} → (List Field → R) → ℕ → List Field → Option R
optional_record of number fs = option_map (λ payload. of (fields payload)) (joined_bytes (texts number fs))

abbrev pub records : {R : Type 0} → (List Field → R) → ℕ → List Field → List R
records of number fs = map (λ payload. of (fields payload)) (texts number fs)

-- ---- one of several fields

-- whether a field number is one of these
abbrev pub is_among : List ℕ → ℕ → Bool
is_among variants n = list_any (λ number. number == n) variants

-- the fields of these numbers
abbrev pub among : List ℕ → List Field → List Field
among variants [] = []
among variants (f ∷ fs) = if is_among variants f.number then f ∷ among variants fs else among variants fs

abbrev pub all_numbered : ℕ → List Field → Bool
all_numbered number [] = true
all_numbered number (f ∷ fs) = if f.number == number then all_numbered number fs else false

-- the longest end whose fields have one number
abbrev pub last_run : List Field → List Field
last_run [] = []
last_run (f ∷ fs) = if all_numbered f.number fs then f ∷ fs else last_run fs

-- What stands of a oneof with these variants: the last run of one of them.
unfoldable pub run : List ℕ → List Field → List Field
run variants fs = last_run (among variants fs)

-- Which of them it is, if there is one.
abbrev pub variant_of : List Field → Option ℕ
variant_of [] = None
variant_of (f ∷ fs) = Some f.number

-- The first that is there.
abbrev pub first_present : {A : Type 0} → Option A → Option A → Option A
first_present None other = other
first_present (Some x) other = Some x

-- Whether what was found is a run of this number.
abbrev pub is_run : Option (ℕ × List ℕ) → ℕ → Bool
is_run None number = false
is_run (Some x) number = x.0 == number
