-- A header is read back from the number that it is written as.
use Rattle.std.proofs.Common.{◌≡◌, ℕ, ◌+◌, ◌*◌, ◌/◌, ◌%◌, ◌^◌, ◌<◌, ◌≤◌, Bool, true, false, Option, Some, None, Ok, refl, sym, ap, arith, is_some, nat_eq}
use Rattle.std.specs.Prelude.{if◌then◌else◌}
use Rattle.protocol_types.specs.declared.message_type.MessageType.{MessageType}
use Rattle.protocol_stream.specs.declared.header.MessageHeader.{MessageHeader}
use Rattle.protocol_types.specs.MessageType.{type_number, allows_ack, IsWireType}
use Rattle.protocol_stream.specs.Header.{message_type, message_length, requested_ack, header_of, ack_bit, word_of, header_in}

-- a type with a flag has it, and another has none
abbrev HasFlag : MessageType → Option Bool → Type 0
HasFlag ty flag = is_some flag ≡ allows_ack ty

-- the header that these make, when its flag is read as this bit
read_as : (ty : MessageType) (flag : Option Bool) (len word : ℕ) → IsWireType ty → word / 2 ^ 48 ≡ type_number ty → header_of ty (nat_eq (word / 2 ^ 47 % 2) 1) (word % 2 ^ 32) ≡ record { ty = ty; length = len; requested_ack = flag }
    → header_in word ≡ Ok (record { ty = ty; length = len; requested_ack = flag })
read_as ty flag len word t top e = rw (top, t.read) (ap (λ (h : MessageHeader). Ok h) e)

made : (ty : MessageType) (flag : Option Bool) (bit : Bool) (len low : ℕ) → (if allows_ack ty then Some bit else None) ≡ flag → low ≡ len → header_of ty bit low ≡ record { ty = ty; length = len; requested_ack = flag }
made ty flag bit len low e l = λ i. record { ty = ty; length = l i; requested_ack = e i }

-- a header whose flag fits its type and whose length fits, read back
pub header_in-parts : (ty : MessageType) (flag : Option Bool) (len : ℕ) → IsWireType ty → HasFlag ty flag → len < 2 ^ 32
    → header_in (word_of (record { ty = ty; length = len; requested_ack = flag })) ≡ Ok (record { ty = ty; length = len; requested_ack = flag })
header_in-parts ty None len t h fits =
    let word : ℕ = type_number ty * 2 ^ 48 + 0 + len in
    let top : word / 2 ^ 48 ≡ type_number ty = omega arith in
    let low : word % 2 ^ 32 ≡ len = omega arith in
    let allowed : allows_ack ty ≡ false = sym h in
    read_as ty None len word t top (made ty None (nat_eq (word / 2 ^ 47 % 2) 1) len (word % 2 ^ 32) (rw allowed refl) low)
header_in-parts ty (Some false) len t h fits =
    let word : ℕ = type_number ty * 2 ^ 48 + 0 + len in
    let top : word / 2 ^ 48 ≡ type_number ty = omega arith in
    let low : word % 2 ^ 32 ≡ len = omega arith in
    let bit : word / 2 ^ 47 % 2 ≡ 0 = omega arith in
    let allowed : allows_ack ty ≡ true = sym h in
    read_as ty (Some false) len word t top (made ty (Some false) (nat_eq (word / 2 ^ 47 % 2) 1) len (word % 2 ^ 32) (rw (allowed, bit) refl) low)
header_in-parts ty (Some true) len t h fits =
    let word : ℕ = type_number ty * 2 ^ 48 + 2 ^ 47 + len in
    let top : word / 2 ^ 48 ≡ type_number ty = omega arith in
    let low : word % 2 ^ 32 ≡ len = omega arith in
    let bit : word / 2 ^ 47 % 2 ≡ 1 = omega arith in
    let allowed : allows_ack ty ≡ true = sym h in
    read_as ty (Some true) len word t top (made ty (Some true) (nat_eq (word / 2 ^ 47 % 2) 1) len (word % 2 ^ 32) (rw (allowed, bit) refl) low)

pub header_in-word_of : (header : MessageHeader) → IsWireType (message_type header) → is_some (requested_ack header) ≡ allows_ack (message_type header) → message_length header < 2 ^ 32 → header_in (word_of header) ≡ Ok header
header_in-word_of header t h fits = header_in-parts (message_type header) (requested_ack header) (message_length header) t h fits

ack_bit_below : (flag : Option Bool) → ack_bit flag ≤ 2 ^ 47
ack_bit_below None = omega arith
ack_bit_below (Some false) = omega arith
ack_bit_below (Some true) = omega arith

pub word_of_below : (header : MessageHeader) → IsWireType (message_type header) → message_length header < 2 ^ 32 → word_of header < 2 ^ 64
word_of_below header t fits = omega (arith, t.number, ack_bit_below (requested_ack header))
