-- Parts of a payload, and frames, are spelled as the definitions of durable execution spell them.
use Rattle.std.proofs.Common.{◌≡◌, ℕ, zero, suc, ◌+◌, ◌*◌, ◌/◌, ◌%◌, ◌^◌, ◌<◌, Bool, true, false, cond, ltb, List, [], ◌∷◌, ◌++◌, length, map, Option, Some, None, refl, ap, ◌∙◌, arith, nat_eq, append-nil}
use Rattle.std.specs.Prelude.{if◌then◌else◌}
use Rattle.std.specs.List.{flat_map}
use Rattle.std.specs.Int.{w64, to_be_bytes}
use Rattle.protocol_wire.specs.Wire.{Wire, varint, bytes}
use Rattle.protocol_wire.specs.Spelling.{varint_spelling_within, varint_spelling, tagged}
use Rattle.protocol_wire.specs.Parts as parts
use Rattle.protocol_wire.specs.Parts.{Part, part_spelling, payload_of}
use Rattle.journal_model.specs.Spelling as model
use Rattle.protocol_types.specs.declared.message_type.MessageType.{MessageType}
use Rattle.protocol_types.specs.MessageType.{type_number, allows_ack}
use Rattle.protocol_stream.specs.Header.{ack_bit}
use Rattle.protocol_stream.specs.Frame.{spelled, message_of}

-- ---- fields

varint_groups-is : (k n : ℕ) → varint_spelling_within k n ≡ model.varint_groups k n
unfolding varint_spelling_within
varint_groups-is zero n = refl
varint_groups-is (suc k) n = ap (λ (more : List ℕ). cond (ltb n 128) (n ∷ []) ((n % 128 + 128) ∷ more)) (varint_groups-is k (n / 128))

pub varint-is : (n : ℕ) → varint_spelling n ≡ model.varint n
unfolding varint_spelling
varint-is n = varint_groups-is 10 n

times_eight : (field : ℕ) → 8 * field ≡ field * 8
times_eight field = omega arith

pub number_field-is : (field n : ℕ) → tagged field (varint n) ≡ model.number_field field n
unfolding tagged
number_field-is field n = ap (λ (s : List ℕ). s ++ varint_spelling n) (ap varint_spelling (times_eight field) ∙ varint-is (field * 8)) ∙ ap (λ (s : List ℕ). model.varint (field * 8) ++ s) (varint-is n)

pub bytes_field-is : (field : ℕ) (bs : List ℕ) → tagged field (bytes bs) ≡ model.bytes_field field bs
unfolding tagged
bytes_field-is field bs =
    ap (λ (s : List ℕ). s ++ (varint_spelling (length bs) ++ bs)) (ap (λ (n : ℕ). varint_spelling (n + 2)) (times_eight field) ∙ varint-is (field * 8 + 2))
    ∙ ap (λ (s : List ℕ). model.varint (field * 8 + 2) ++ (s ++ bs)) (varint-is (length bs))

-- ---- parts

one_field : (field : ℕ) (wire : Wire) (s : List ℕ) → tagged field wire ≡ s → part_spelling (field, wire ∷ []) ≡ s
one_field field wire s e = append-nil (tagged field wire) ∙ e

pub plain_number-is : (field n : ℕ) → part_spelling (parts.plain_number field n) ≡ model.plain_number field n
plain_number-is field n = go (nat_eq n 0)
  where
    go : (b : Bool) → flat_map (tagged field) (if b then [] else varint n ∷ []) ≡ (if b then [] else model.number_field field n)
    go true = refl
    go false = one_field field (varint n) (model.number_field field n) (number_field-is field n)

pub plain_bytes-is : (field : ℕ) (bs : List ℕ) → part_spelling (parts.plain_bytes field bs) ≡ model.plain_bytes field bs
plain_bytes-is field [] = refl
plain_bytes-is field (b ∷ bs) = one_field field (bytes (b ∷ bs)) (model.bytes_field field (b ∷ bs)) (bytes_field-is field (b ∷ bs))

pub optional_bytes-is : (field : ℕ) (o : Option (List ℕ)) → part_spelling (parts.optional_bytes field o) ≡ model.optional_bytes field o
optional_bytes-is field None = refl
optional_bytes-is field (Some bs) = one_field field (bytes bs) (model.bytes_field field bs) (bytes_field-is field bs)

pub repeated_bytes-is : (field : ℕ) (items : List (List ℕ)) → part_spelling (parts.repeated_bytes field items) ≡ model.repeated_bytes field items
repeated_bytes-is field [] = refl
repeated_bytes-is field (bs ∷ more) =
    ap (λ (s : List ℕ). s ++ flat_map (tagged field) (map bytes more)) (bytes_field-is field bs) ∙ ap (λ (s : List ℕ). model.bytes_field field bs ++ s) (repeated_bytes-is field more)

varints-is : (ns : List ℕ) → flat_map varint_spelling ns ≡ model.varints ns
varints-is [] = refl
varints-is (n ∷ ns) = ap (λ (s : List ℕ). s ++ flat_map varint_spelling ns) (varint-is n) ∙ ap (λ (s : List ℕ). model.varint n ++ s) (varints-is ns)

-- a spelled number has a byte, so that no list of numbers but the empty one is left out
some_number : (field n : ℕ) (ns : List ℕ) → flat_map (tagged field) (parts.nonempty (varint_spelling n ++ flat_map varint_spelling ns)) ≡ tagged field (bytes (varint_spelling n ++ flat_map varint_spelling ns))
unfolding varint_spelling varint_spelling_within
some_number field n ns = go (ltb n 128)
  where
    go : (b : Bool) → flat_map (tagged field) (parts.nonempty (cond b (n ∷ []) ((n % 128 + 128) ∷ varint_spelling_within 9 (n / 128)) ++ flat_map varint_spelling ns)) ≡ tagged field (bytes (cond b (n ∷ []) ((n % 128 + 128) ∷ varint_spelling_within 9 (n / 128)) ++ flat_map varint_spelling ns))
    go true = append-nil _
    go false = append-nil _

pub packed-is : (field : ℕ) (ns : List ℕ) → part_spelling (parts.packed field ns) ≡ model.packed_numbers field ns
packed-is field [] = refl
packed-is field (n ∷ ns) = some_number field n ns ∙ bytes_field-is field (flat_map varint_spelling (n ∷ ns)) ∙ ap (model.bytes_field field) (varints-is (n ∷ ns))

-- ---- payloads, a part at a time

-- these parts are spelled so
pub record AreSpelled (all : List Part) (s : List ℕ) : Type 0 where
  pub payload : payload_of all ≡ s

pub spelled-cons : (part : Part) (more : List Part) (a b : List ℕ) → part_spelling part ≡ a → AreSpelled more b → AreSpelled (part ∷ more) (a ++ b)
spelled-cons part more a b p q = record { payload = ap (λ (s : List ℕ). s ++ payload_of more) p ∙ ap (λ (s : List ℕ). a ++ s) q.payload }

-- the last part that has a spelling
pub spelled-last : (part : Part) (more : List Part) (a : List ℕ) → payload_of more ≡ [] → part_spelling part ≡ a → AreSpelled (part ∷ more) a
spelled-last part more a none p = record { payload = ap (λ (s : List ℕ). part_spelling part ++ s) none ∙ append-nil (part_spelling part) ∙ p }

pub payload_is : (all : List Part) (s : List ℕ) → AreSpelled all s → payload_of all ≡ s
payload_is all s h = h.payload

-- ---- frames

flag_clear : (b : Bool) → ack_bit (if b then Some false else None) ≡ 0
flag_clear true = refl
flag_clear false = refl

header_spelling : (number len : ℕ) → number < 2 ^ 16 → len < 2 ^ 32 → to_be_bytes w64 (number * 2 ^ 48 + 0 + len) ≡ model.header_bytes number len
header_spelling number len p q =
    let word : ℕ = number * 2 ^ 48 + 0 + len in
    let b7 : word / 2 ^ 56 % 256 ≡ number / 256 = omega arith in
    let b6 : word / 2 ^ 48 % 256 ≡ number % 256 = omega arith in
    let b5 : word / 2 ^ 40 % 256 ≡ 0 = omega arith in
    let b4 : word / 2 ^ 32 % 256 ≡ 0 = omega arith in
    let b3 : word / 2 ^ 24 % 256 ≡ len / 2 ^ 24 % 256 = omega arith in
    let b2 : word / 2 ^ 16 % 256 ≡ len / 2 ^ 16 % 256 = omega arith in
    let b1 : word / 2 ^ 8 % 256 ≡ len / 2 ^ 8 % 256 = omega arith in
    let b0 : word % 256 ≡ len % 256 = omega arith in
    λ i. b7 i ∷ b6 i ∷ b5 i ∷ b4 i ∷ b3 i ∷ b2 i ∷ b1 i ∷ b0 i ∷ []

-- a header has the lowest thirty-two bits of a length
low_length : (number len : ℕ) → model.header_bytes number (len % 2 ^ 32) ≡ model.header_bytes number len
low_length number len =
    let b3 : len % 2 ^ 32 / 2 ^ 24 % 256 ≡ len / 2 ^ 24 % 256 = omega arith in
    let b2 : len % 2 ^ 32 / 2 ^ 16 % 256 ≡ len / 2 ^ 16 % 256 = omega arith in
    let b1 : len % 2 ^ 32 / 2 ^ 8 % 256 ≡ len / 2 ^ 8 % 256 = omega arith in
    let b0 : len % 2 ^ 32 % 256 ≡ len % 256 = omega arith in
    λ i. (number / 256) ∷ (number % 256) ∷ 0 ∷ 0 ∷ b3 i ∷ b2 i ∷ b1 i ∷ b0 i ∷ []

pub header_is : (number len : ℕ) → number < 2 ^ 16 → to_be_bytes w64 (number * 2 ^ 48 + len % 2 ^ 32) ≡ model.header_bytes number len
header_is number len p =
    let same : number * 2 ^ 48 + len % 2 ^ 32 ≡ number * 2 ^ 48 + 0 + len % 2 ^ 32 = omega arith in
    ap (to_be_bytes w64) same ∙ header_spelling number (len % 2 ^ 32) p (omega arith) ∙ low_length number len

-- A message that requests no acknowledgement is spelled as a frame of its type's number.
pub spelled-frame_bytes : (ty : MessageType) (payload : List ℕ) → type_number ty < 2 ^ 16 → length payload < 2 ^ 32 → spelled (message_of ty payload) ≡ model.frame_bytes ty payload
unfolding spelled
spelled-frame_bytes ty payload p q =
    ap (λ (flag : ℕ). to_be_bytes w64 (type_number ty * 2 ^ 48 + flag + length payload) ++ payload) (flag_clear (allows_ack ty))
    ∙ ap (λ (s : List ℕ). s ++ payload) (header_spelling (type_number ty) (length payload) p q)
