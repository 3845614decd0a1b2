-- The bytes of leaves that are counted one after the other.
use Rattle.std.proofs.Common.{◌≡◌, ℕ, zero, suc, ◌+◌, ◌-◌, ◌/◌, ◌%◌, ◌≤◌, Bool, true, false, List, [], ◌∷◌, ◌++◌, length, map, Some, refl, sym, ap, ◌∙◌, arith}
use Rattle.std.specs.Prelude.{nat_lt, if◌then◌else◌}
use Rattle.std.specs.List.{flat_map}
use Rattle.std.proofs.lemmas.List.{append-nil, length-append, map-append}
use Rattle.std.proofs.lemmas.List.Concat.{flat_map-append}
use Rattle.protocol_wire.specs.Wire.{Wire, bytes}
use Rattle.protocol_wire.specs.Spelling.{varint_spelling_within, varint_spelling, tagged}
use Rattle.protocol_wire.specs.Parts.{part_spelling, optional_number, repeated_bytes}
use Rattle.protocol_wire.specs.Lengths.{counted_bytes}
use Rattle.protocol_wire.proofs.Lengths.{counted_more}
use Rattle.protocol_records.specs.declared.future.Future.{Future}
use Rattle.protocol_messages.specs.Leaves.{own_first}

one_more : (b : Bool) (k n x : ℕ) (rest : List ℕ) → length rest ≤ k → length (if b then n ∷ [] else x ∷ rest) ≤ suc k
one_more true k n x rest le = omega arith
one_more false k n x rest le = omega (arith, le)

within : (k n : ℕ) → length (varint_spelling_within k n) ≤ k
unfolding varint_spelling_within
within zero n = omega arith
within (suc k) n = one_more (nat_lt n 128) k n (n % 128 + 128) (varint_spelling_within k (n / 128)) (within k (n / 128))

spelled_within : (n : ℕ) → length (varint_spelling n) ≤ 10
unfolding varint_spelling
spelled_within n = within 10 n

tag_length : length (varint_spelling 8) ≡ 1
unfolding varint_spelling varint_spelling_within
tag_length = refl

-- A field whose tag is one byte.
field_length : (n : ℕ) → length (part_spelling (optional_number 1 (Some n))) ≡ 1 + length (varint_spelling n)
unfolding tagged
field_length n =
    ap length (append-nil (varint_spelling 8 ++ varint_spelling n)) ∙ length-append (varint_spelling 8) (varint_spelling n) ∙ ap (λ (k : ℕ). k + length (varint_spelling n)) tag_length

pub without_tag : (n field : ℕ) → field ≡ counted_bytes 0 (part_spelling (optional_number 1 (Some n))) → field - 1 ≡ length (varint_spelling n)
without_tag n field e = omega (arith, e, field_length n, spelled_within n)

-- The bytes of a node's own leaves, and then those of the leaves of the nodes in it.
pub counted_node : {Leaf : Type 0} (spell : List Leaf → List ℕ) → ((xs ys : List Leaf) → spell (xs ++ ys) ≡ spell xs ++ spell ys) → (leaves : Future → List Leaf) (before mid after : ℕ) (own all : List Leaf) (fs nested : List Future)
    → mid ≡ counted_bytes before (spell own) → after ≡ counted_bytes mid (spell (flat_map (λ found. found) (map leaves fs))) → fs ≡ nested → all ≡ own_first own (map leaves nested) → after ≡ counted_bytes before (spell all)
counted_node {Leaf} spell apart leaves before mid after own all fs nested m a same e =
    let behind = flat_map (λ found. found) (map leaves nested) in
    a ∙ ap (λ (xs : List Future). counted_bytes mid (spell (flat_map (λ found. found) (map leaves xs)))) same
    ∙ ap (λ (n : ℕ). counted_bytes n (spell behind)) m ∙ counted_more before (spell own) (spell behind) ∙ ap (counted_bytes before) (sym (apart own behind) ∙ ap spell (sym e))

pub numbers_apart : (xs ys : List ℕ) → flat_map varint_spelling (xs ++ ys) ≡ flat_map varint_spelling xs ++ flat_map varint_spelling ys
numbers_apart xs ys = flat_map-append varint_spelling xs ys

pub names_apart : (number : ℕ) (xs ys : List (List ℕ)) → part_spelling (repeated_bytes number (xs ++ ys)) ≡ part_spelling (repeated_bytes number xs) ++ part_spelling (repeated_bytes number ys)
names_apart number xs ys = ap (λ (ws : List Wire). flat_map (tagged number) ws) (map-append bytes xs ys) ∙ flat_map-append (tagged number) (map bytes xs) (map bytes ys)
