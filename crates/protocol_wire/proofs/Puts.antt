-- One more value behind those written.
use Rattle.std.proofs.Common.{◌≡◌, ℕ, zero, suc, ◌-◌, ◌+◌, ◌/◌, ◌%◌, ◌≤◌, ◌≢◌, List, [], ◌∷◌, ◌++◌, refl, sym, ap, subst, ◌∙◌, append_assoc, arith}
use Rattle.std.proofs.lemmas.Bool.{le-ltb}
use Rattle.std.proofs.lemmas.List.{append-nil}
use Rattle.protocol_wire.specs.Spelling.{varint_spelling_within}
use Rattle.protocol_wire.specs.Parts.{Part, part_spelling, payload_of}

pub varint_spelling_within_more : (k n : ℕ) → k ≢ 0 → 128 ≤ n → varint_spelling_within k n ≡ (n % 128 + 128) ∷ varint_spelling_within (k - 1) (n / 128)
unfolding varint_spelling_within
varint_spelling_within_more zero n h le = absurd (h refl)
varint_spelling_within_more (suc k) n h le =
    let big = le-ltb n 128 le in
    let one : suc k - 1 ≡ k = omega arith in
    rw (big, one) refl

-- ---- parts written one after the other

abbrev pub Chain : List ℕ → List Part → List ℕ → Type 0
Chain old [] final = final ≡ old
Chain old (p ∷ ps) final = (now : List ℕ) × (now ≡ old ++ part_spelling p) × Chain now ps final

pub chained : (ps : List Part) (old final : List ℕ) → Chain old ps final → final ≡ old ++ payload_of ps
chained [] old final h = h ∙ sym (append-nil old)
chained (p ∷ ps) old final h =
    chained ps h.0 final h.2 ∙ ap (λ (x : List ℕ). x ++ payload_of ps) h.1 ∙ append_assoc old (part_spelling p) (payload_of ps)

-- Several parts that were written together, and those behind them.
pub chain_block : (ps qs : List Part) (old now final : List ℕ) → now ≡ old ++ payload_of ps → Chain now qs final → Chain old (ps ++ qs) final
chain_block [] qs old now final e rest = subst (λ (x : List ℕ). Chain x qs final) (e ∙ append-nil old) rest
chain_block (p ∷ ps) qs old now final e rest =
    (old ++ part_spelling p, refl, chain_block ps qs (old ++ part_spelling p) now final (e ∙ sym (append_assoc old (part_spelling p) (payload_of ps))) rest)
