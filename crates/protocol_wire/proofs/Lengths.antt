-- The length of parts that are counted one after the other.
use Rattle.std.proofs.Common.{◌≡◌, ℕ, ◌+◌, ◌-◌, ◌*◌, ◌^◌, ◌≤◌, ◌≢◌, min, Bool, true, false, ltb, List, [], ◌∷◌, ◌++◌, length, refl, sym, ap, subst, ◌∙◌, arith}
use Rattle.std.proofs.lemmas.List.{append-nil, length-append}
use Rattle.std.proofs.lemmas.List.Concat.{flat_map-cons}
use Rattle.std.proofs.lemmas.Bool.{ltb-true, ltb-false, le-ltb}
use Rattle.protocol_wire.specs.Wire.{bytes}
use Rattle.protocol_wire.specs.Spelling.{varint_spelling, tagged}
use Rattle.protocol_wire.specs.Parts.{Part, nonempty, part_spelling, payload_of}
use Rattle.protocol_wire.specs.Lengths.{counted_bytes, fitting}

-- Bytes counted behind bytes that were counted.
pub counted_more : (before : ℕ) (a b : List ℕ) → counted_bytes (counted_bytes before a) b ≡ counted_bytes before (a ++ b)
counted_more before a b = omega (arith, length-append a b)

counted_none : (before : ℕ) → before ≤ 2 ^ 64 - 1 → counted_bytes before [] ≡ before
counted_none before le = omega (arith, le)

counted_bound : (before : ℕ) (a : List ℕ) → counted_bytes before a ≤ 2 ^ 64 - 1
counted_bound before a = omega arith

-- The tag, the length and the bytes, where the count of the bytes is one as far as 64 bits go.
pub bytes_counted : (before number count : ℕ) (bs : List ℕ) → count ≡ min (length bs) (2 ^ 64 - 1)
    → min (min (min (before + length (varint_spelling (8 * number + 2))) (2 ^ 64 - 1) + length (varint_spelling count)) (2 ^ 64 - 1) + count) (2 ^ 64 - 1) ≡ counted_bytes before (tagged number (bytes bs))
unfolding tagged
bytes_counted before number count bs h = go (ltb (length bs) (2 ^ 64 - 1)) refl
  where
    tag : List ℕ
    tag = varint_spelling (8 * number + 2)

    Counts : ℕ → Type 0
    Counts n = min (min (min (before + length tag) (2 ^ 64 - 1) + length (varint_spelling n)) (2 ^ 64 - 1) + n) (2 ^ 64 - 1) ≡ min (before + length (tag ++ (varint_spelling (length bs) ++ bs))) (2 ^ 64 - 1)

    go : (b : Bool) → ltb (length bs) (2 ^ 64 - 1) ≡ b → Counts count
    go true e =
        let lt = ltb-true (length bs) (2 ^ 64 - 1) e in
        let same : length bs ≡ count = omega (arith, lt, h) in
        subst Counts same (omega (arith, length-append tag (varint_spelling (length bs) ++ bs), length-append (varint_spelling (length bs)) bs))
    go false e =
        let le = ltb-false (length bs) (2 ^ 64 - 1) e in
        omega (arith, le, h, length-append tag (varint_spelling (length bs) ++ bs), length-append (varint_spelling (length bs)) bs)

-- Bytes that are left out where there are none.
pub none_counted : (before number count : ℕ) (bs : List ℕ) → before ≤ 2 ^ 64 - 1 → count ≡ counted_bytes 0 bs → count ≡ 0 → before ≡ counted_bytes before (part_spelling (number, nonempty bs))
none_counted before number count [] le h z = sym (counted_none before le)
none_counted before number count (b ∷ bs) le h z = absurd (omega (arith, h, z))

pub some_counted : (before number count result : ℕ) (bs : List ℕ) → ((cs : List ℕ) → count ≡ min (length cs) (2 ^ 64 - 1) → result ≡ counted_bytes before (tagged number (bytes cs))) → count ≡ counted_bytes 0 bs → count ≢ 0 → result ≡ counted_bytes before (part_spelling (number, nonempty bs))
some_counted before number count result [] told h some = absurd (some h)
some_counted before number count result (b ∷ bs) told h some =
    told (b ∷ bs) (omega (arith, h)) ∙ ap (counted_bytes before) (sym (append-nil (tagged number (bytes (b ∷ bs)))) ∙ sym (flat_map-cons (tagged number) (bytes (b ∷ bs)) []))

abbrev pub Counting : ℕ → List Part → ℕ → Type 0
Counting before [] final = final ≡ before
Counting before (p ∷ ps) final = (now : ℕ) × (now ≡ counted_bytes before (part_spelling p)) × Counting now ps final

counting : (ps : List Part) (before final : ℕ) → before ≤ 2 ^ 64 - 1 → Counting before ps final → final ≡ counted_bytes before (payload_of ps)
counting [] before final le h = h ∙ sym (counted_none before le)
counting (p ∷ ps) before final le h =
    let bound : h.0 ≤ 2 ^ 64 - 1 = subst (λ (n : ℕ). n ≤ 2 ^ 64 - 1) (sym h.1) (counted_bound before (part_spelling p)) in
    counting ps h.0 final bound h.2 ∙ ap (λ (n : ℕ). counted_bytes n (payload_of ps)) h.1 ∙ counted_more before (part_spelling p) (payload_of ps)

-- The length of a payload whose parts were counted from nothing.
pub measured : (ps : List Part) (final : ℕ) → Counting 0 ps final → final ≡ counted_bytes 0 (payload_of ps)
measured ps final h = counting ps 0 final (omega arith) h

-- Where there are no parts, the count has to be one that 64 bits hold.
abbrev pub Small : List Part → ℕ → Type 0
Small [] before = before ≤ 2 ^ 64 - 1
Small (p ∷ ps) before = Unit {0}

small : (ps : List Part) (before : ℕ) → before ≤ 2 ^ 64 - 1 → Small ps before
small [] before le = le
small (p ∷ ps) before le = tt

-- Several parts that were counted together, and those behind them.
pub counting_block : (ps qs : List Part) (before now final : ℕ) → Small ps before → now ≡ counted_bytes before (payload_of ps) → Counting now qs final → Counting before (ps ++ qs) final
counting_block [] qs before now final le e rest = subst (λ (n : ℕ). Counting n qs final) (e ∙ counted_none before le) rest
counting_block (p ∷ ps) qs before now final le e rest =
    let next = counted_bytes before (part_spelling p) in
    (next, refl, counting_block ps qs next now final (small ps next (counted_bound before (part_spelling p))) (e ∙ sym (counted_more before (part_spelling p) (payload_of ps))) rest)

-- Whether a count fits 32 bits is told also by one that goes no further than 64 bits.
pub fitting_counted : (n : ℕ) → fitting (min (0 + n) (2 ^ 64 - 1)) ≡ fitting n
fitting_counted n = go (ltb n (2 ^ 32)) refl
  where
    go : (b : Bool) → ltb n (2 ^ 32) ≡ b → fitting (min (0 + n) (2 ^ 64 - 1)) ≡ fitting n
    go true e =
        let lt = ltb-true n (2 ^ 32) e in
        let same : min (0 + n) (2 ^ 64 - 1) ≡ n = omega (arith, lt) in
        ap fitting same
    go false e =
        let le = ltb-false n (2 ^ 32) e in
        let large : ltb (min (0 + n) (2 ^ 64 - 1)) (2 ^ 32) ≡ false = le-ltb (min (0 + n) (2 ^ 64 - 1)) (2 ^ 32) (omega (arith, le)) in
        rw (large, e) refl
