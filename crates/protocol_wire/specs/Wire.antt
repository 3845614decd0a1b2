-- A payload as a list of fields, each with its number.
use Rattle.std.specs.Prelude.{ℕ, zero, suc, ◌+◌, ◌-◌, ◌*◌, ◌/◌, ◌%◌, ◌^◌, List, [], ◌∷◌, length, take, drop, Option, Some, None, nat_lt, nat_le, ◌==◌, if◌then◌else◌}

-- What a field holds: a varint (wire type 0), bytes (2), or eight or four bytes that no record here reads (1, 5).
pub data Wire : Type 0 where
  varint : ℕ → Wire
  bytes : List ℕ → Wire
  fixed : Wire

pub record Field : Type 0 where
  pub number : ℕ
  pub value : Wire

infixl 10 ◌>>=◌
abbrev pub ◌>>=◌ : {A B : Type 0} → Option A → (A → Option B) → Option B
(Some x) >>= f = f x
None >>= f = None

-- A varint of at most this many bytes, and the bytes after it. A byte from 128 on has the low seven bits, and
-- the bytes after it stand for the others. It fits 64 bits: so of ten bytes the last is at most 1.
unfoldable pub varint_within : ℕ → List ℕ → Option (ℕ × List ℕ)
varint_within zero bs = None
varint_within (suc k) [] = None
varint_within (suc k) (b ∷ bs) = if nat_lt b 128 then Some (b, bs) else varint_within k bs >>= λ high. if nat_lt high.0 (2 ^ 57) then Some (b - 128 + 128 * high.0, high.1) else None

unfoldable pub varint_at : List ℕ → Option (ℕ × List ℕ)
varint_at bs = varint_within 10 bs

-- This many bytes, and those after them.
abbrev pub bytes_at : ℕ → List ℕ → Option (List ℕ × List ℕ)
bytes_at n bs = if nat_le n (length bs) then Some (take n bs, drop n bs) else None

-- What stands behind a tag of this wire type.
unfoldable pub wire_value : ℕ → List ℕ → Option (Wire × List ℕ)
wire_value kind bs =
    if kind == 0 then (varint_at bs >>= λ n. Some (varint n.0, n.1)) else
    if kind == 2 then (varint_at bs >>= λ n. bytes_at n.0 n.1 >>= λ x. Some (bytes x.0, x.1)) else
    if kind == 1 then (bytes_at 8 bs >>= λ x. Some (fixed, x.1)) else
    if kind == 5 then (bytes_at 4 bs >>= λ x. Some (fixed, x.1)) else None

-- A field: its tag, 8 times its number and the wire type, which fits 32 bits and whose number isn't 0; and the value.
unfoldable pub field_at : List ℕ → Option (Field × List ℕ)
field_at bs = varint_at bs >>= λ t. if nat_lt t.0 8 then None else if nat_lt t.0 (2 ^ 32) then (wire_value (t.0 % 8) t.1 >>= λ v. Some (record { number = t.0 / 8; value = v.0 }, v.1)) else None
