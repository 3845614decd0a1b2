-- The library's symbols are those that are defined.
use Rattle.std.proofs.Common.{◌≡◌, ℕ, suc, ◌+◌, ◌*◌, ◌/◌, ◌%◌, ◌<◌, Bool, true, List, [], ◌∷◌, slice_index, eqb, refl, sym, ◌∙◌, arith}
use Rattle.std.proofs.lemmas.Bool.{eqb-true}
use Rattle.std.proofs.lemmas.List.{append-nil}
use Rattle.base64.specs.Engines.{url_safe_no_pad}
use Rattle.base64.specs.Tables.{all_below}
use Rattle.base64.proofs.Tables.{all_below_at}
use Rattle.base64.specs.GeneralPurpose.{IsBytes, encode_of}
use Rattle.base64.specs.Rfc4648.{encode_symbols}
use Rattle.journal_model.specs.Awakeable.{base64url, base64url_symbol}

abbrev has_symbol : ℕ → Bool
has_symbol n = eqb (slice_index url_safe_no_pad.encode_table n) (base64url_symbol n)

all_have : all_below has_symbol 64 ≡ true
all_have = refl

symbol_at : (n : ℕ) → n < 64 → slice_index url_safe_no_pad.encode_table n ≡ base64url_symbol n
symbol_at n below = eqb-true (slice_index url_safe_no_pad.encode_table n) (base64url_symbol n) (all_below_at has_symbol 64 n all_have below)

-- of bytes, three at a time
pub same_symbols : (bytes : List ℕ) → IsBytes bytes → encode_symbols url_safe_no_pad.encode_table bytes ≡ base64url bytes
unfolding encode_symbols
same_symbols [] small = refl
same_symbols (a ∷ []) small =
    let la : a < 256 = small 0 in
    rw (symbol_at (a / 4) (omega arith), symbol_at (a % 4 * 16) (omega arith)) refl
same_symbols (a ∷ b ∷ []) small =
    let la : a < 256 = small 0 in
    let lb : b < 256 = small 1 in
    rw (symbol_at (a / 4) (omega arith), symbol_at (a % 4 * 16 + b / 16) (omega arith), symbol_at (b % 16 * 4) (omega arith)) refl
same_symbols (a ∷ b ∷ c ∷ rest) small =
    let la : a < 256 = small 0 in
    let lb : b < 256 = small 1 in
    let lc : c < 256 = small 2 in
    rw (
      symbol_at (a / 4) (omega arith),
      symbol_at (a % 4 * 16 + b / 16) (omega arith),
      symbol_at (b % 16 * 4 + c / 64) (omega arith),
      symbol_at (c % 64) (omega arith),
      same_symbols rest (λ i. small (suc (suc (suc i)))),
    ) refl

pub same_encoding : (bytes : List ℕ) → IsBytes bytes → base64url bytes ≡ encode_of url_safe_no_pad bytes
same_encoding bytes small = sym (append-nil (encode_symbols url_safe_no_pad.encode_table bytes) ∙ same_symbols bytes small)
