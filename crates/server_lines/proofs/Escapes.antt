-- Bytes are read back from their escapes, and from their digits.
use Rattle.std.proofs.Common.{◌≡◌, ℕ, zero, suc, ◌/◌, ◌%◌, ◌<◌, ◌≤◌, Bool, true, false, eqb, ltb, inl, inr, List, [], ◌∷◌, length, Some, Ok, refl, sym, ap, subst, ◌∙◌, arith, ◌≢◌, All, slice_index}
use Rattle.std.specs.Prelude.{◌&&◌, codes, bytes_eq}
use Rattle.std.specs.List.{AllByRecursion, flat_map}
use Rattle.std.specs.Fmt.{digit_glyph}
use Rattle.std.proofs.lemmas.Bool.{ltb-true, ltb-false, lt-ltb, and_parts, eqb-true, eqb-false, cases_Bool, false≢true, leb-true, ne_eqb}
use Rattle.std.proofs.lemmas.Slice.Eq.{bytes_eq-Decides}
use Rattle.std.proofs.lemmas.List.Elements.{recursion_from_All}
use Rattle.hex.specs.Hex.{lower_digits, encode_with, encode_lower, decode_of, IsBytes}
use Rattle.hex.proofs.HexLemmas.{decode_of-encode_lower}
use Rattle.percent_encoding.specs.AsciiSet.{contains, should_percent_encode}
use Rattle.percent_encoding.specs.Percent.{percent_decode}
use Rattle.percent_encoding.proofs.AsciiSetLemmas.{ascii_from_kept, outside_from_kept}
use Rattle.percent_encoding.proofs.PercentLemmas.{IsEscapeByte, All-percent_encode, round_trip}
use Rattle.protocol_types.specs.Texts.{hex_byte}
use Rattle.script_lines.specs.LineReader.{then_read, is_word_byte, printable_of}
use Rattle.script_lines.proofs.WordLaws.{printable_again}
use Rattle.script_lines.specs.Word.{IsWordByte}
use Rattle.script_lines.specs.Text.{hex_text}
use Rattle.server_lines.specs.Word.{IsByte, escaped, escaped_set, text_word}
use Rattle.server_lines.specs.WordReader.{unescaped, word_bytes_of, digits_of}

-- ---- tests of small numbers

abbrev all_below : (ℕ → Bool) → ℕ → Bool
all_below test zero = true
all_below test (suc n) = test n && all_below test n

below : (test : ℕ → Bool) (n b : ℕ) → all_below test n ≡ true → b < n → test b ≡ true
below test zero b e h = absurd (omega arith)
below test (suc n) b e h =
    let parts = and_parts (test n) (all_below test n) e in
    elim (cases_Bool (eqb b n)) [
      | inl same ↦ ap test (eqb-true b n same) ∙ parts.0
      | inr other ↦ let apart : b ≢ n = eqb-false b n other in below test n b parts.1 (omega arith)
    ]

-- ---- escapes

kept_low : (b : ℕ) → contains escaped_set b ≡ false → 33 ≤ b
kept_low b out =
    elim (cases_Bool (ltb b 33)) [
      | inl small ↦ absurd (false≢true (sym out ∙ below (contains escaped_set) 33 b refl (ltb-true b 33 small)))
      | inr large ↦ ltb-false b 33 large
    ]

kept_high : (b : ℕ) → b < 128 → contains escaped_set b ≡ false → b ≤ 126
kept_high b small out =
    elim (cases_Bool (eqb b 127)) [
      | inl same ↦ let last : contains escaped_set 127 ≡ true = refl in absurd (false≢true (sym out ∙ ap (contains escaped_set) (eqb-true b 127 same) ∙ last))
      | inr other ↦ let apart : b ≢ 127 = eqb-false b 127 other in omega arith
    ]

kept_is_word : (b : ℕ) → should_percent_encode escaped_set b ≡ false → IsWordByte b
kept_is_word b kept =
    let out = outside_from_kept escaped_set b kept in
    (kept_low b out, kept_high b (ascii_from_kept escaped_set b kept) out)

escape_is_word : (b : ℕ) → IsEscapeByte b → IsWordByte b
escape_is_word b h = elim h [
  | inl percent ↦ (omega arith, omega arith)
  | inr digit ↦ elim digit [
    | inl number ↦ let low = number.0 in let high = number.1 in (omega arith, omega arith)
    | inr letter ↦ let low = letter.0 in let high = letter.1 in (omega arith, omega arith)
  ]
]

pub escaped-AreWordBytes : (bytes : List ℕ) → All IsWordByte (escaped bytes)
escaped-AreWordBytes bytes = All-percent_encode IsWordByte escaped_set bytes kept_is_word escape_is_word

decodes : (bytes : List ℕ) → All IsByte bytes → percent_decode (escaped bytes) ≡ bytes
decodes bytes small = round_trip escaped_set bytes refl small

pub unescaped_again : (bytes : List ℕ) → All IsByte bytes → unescaped (escaped bytes) ≡ Some bytes
unfolding unescaped then_read
unescaped_again bytes small =
    let printable : printable_of (escaped bytes) ≡ Some (escaped bytes) = printable_again (escaped bytes) (recursion_from_All IsWordByte (escaped bytes) (escaped-AreWordBytes bytes)) in
    rw printable (ap Some (decodes bytes small))

-- ---- the word of bytes

not_true : (b : Bool) → (b ≡ true → ⊥) → b ≡ false
not_true true never = absurd (never refl)
not_true false never = refl

dash_decodes : percent_decode (codes "-") ≡ codes "-"
unfolding percent_decode
dash_decodes = refl

none_decodes : percent_decode [] ≡ []
unfolding percent_decode
none_decodes = refl

some_from : (word : List ℕ) → word ≢ [] → 0 < length word
some_from [] h = absurd (h refl)
some_from (byte ∷ bytes) h = omega arith

-- escapes are no dash, but for a dash's
no_dash : (bytes : List ℕ) → All IsByte bytes → bytes_eq bytes (codes "-") ≡ false → bytes_eq (escaped bytes) (codes "-") ≡ false
no_dash bytes small other =
    not_true _ (λ e. false≢true (sym other ∙ (bytes_eq-Decides bytes (codes "-")).1
    (sym (decodes bytes small) ∙ ap percent_decode ((bytes_eq-Decides (escaped bytes) (codes "-")).0 e) ∙ dash_decodes)))

not_empty : (byte : ℕ) (bytes : List ℕ) → All IsByte (byte ∷ bytes) → escaped (byte ∷ bytes) ≢ []
not_empty byte bytes small e = let same : byte ∷ bytes ≡ [] = sym (decodes (byte ∷ bytes) small) ∙ ap percent_decode e ∙ none_decodes in absurd cc

escaped_dash : word_bytes_of (codes "%2D") ≡ Some (codes "-")
unfolding word_bytes_of unescaped then_read printable_of percent_decode
escaped_dash = refl

pub bytes_again : (bytes : List ℕ) → All IsByte bytes → word_bytes_of (text_word bytes) ≡ Some bytes
unfolding word_bytes_of
bytes_again [] small = refl
bytes_again (byte ∷ bytes) small =
    elim (cases_Bool (bytes_eq (byte ∷ bytes) (codes "-"))) [
      | inl dash ↦ rw dash (escaped_dash ∙ ap Some (sym ((bytes_eq-Decides (byte ∷ bytes) (codes "-")).0 dash)))
      | inr other ↦
          let some : ltb 0 (length (escaped (byte ∷ bytes))) ≡ true = lt-ltb 0 _ (some_from _ (not_empty byte bytes small)) in
          rw (other, no_dash (byte ∷ bytes) small other, some) (unescaped_again (byte ∷ bytes) small)
    ]

-- ---- digits

-- the digit of a number below 16 is the one in the table
glyphs : (n : ℕ) → n < 16 → digit_glyph false n ≡ slice_index lower_digits n
glyphs n small = eqb-true _ _ (below (λ k. eqb (digit_glyph false k) (slice_index lower_digits k)) 16 n refl small)

digits_are : (bytes : List ℕ) → AllByRecursion IsByte bytes → flat_map hex_byte bytes ≡ encode_lower bytes
unfolding encode_with
digits_are [] h = refl
digits_are (byte ∷ bytes) h =
    let small = h.0 in
    let high = glyphs (byte / 16) (omega arith) in
    let low = glyphs (byte % 16) (omega arith) in
    let rest = digits_are bytes h.1 in
    λ i. high i ∷ low i ∷ rest i

are_bytes : (bytes : List ℕ) → AllByRecursion IsByte bytes → IsBytes bytes
are_bytes [] h i = omega arith
are_bytes (byte ∷ bytes) h zero = h.0
are_bytes (byte ∷ bytes) h (suc i) = are_bytes bytes h.1 i

no_dash_alone : (a b : ℕ) (rest : List ℕ) → a ∷ b ∷ rest ≡ codes "-" → ⊥
no_dash_alone a b rest e = absurd cc

pub digits_again : (bytes : List ℕ) → All IsByte bytes → digits_of (hex_text bytes) ≡ Some bytes
unfolding digits_of
digits_again [] small = refl
digits_again (byte ∷ bytes) small =
    let each = recursion_from_All IsByte (byte ∷ bytes) small in
    let word : List ℕ = hex_text (byte ∷ bytes) in
    let other : bytes_eq word (codes "-") ≡ false = not_true _ (λ e. no_dash_alone _ _ _ ((bytes_eq-Decides word (codes "-")).0 e)) in
    let long : ltb 0 (length word) ≡ true = lt-ltb _ _ (omega arith) in
    let read : decode_of word ≡ Ok (byte ∷ bytes) = ap decode_of (digits_are (byte ∷ bytes) each) ∙ decode_of-encode_lower (byte ∷ bytes) (are_bytes (byte ∷ bytes) each) in
    rw (other, long, read) refl

digit_is_word : (n : ℕ) → n < 16 → IsWordByte (digit_glyph false n)
digit_is_word n small = let parts = and_parts _ _ (below (λ k. is_word_byte (digit_glyph false k)) 16 n refl small) in (leb-true _ _ parts.0, leb-true _ _ parts.1)

pub digits-AreWordBytes : (bytes : List ℕ) → AllByRecursion IsByte bytes → AllByRecursion IsWordByte (flat_map hex_byte bytes)
digits-AreWordBytes [] h = tt
digits-AreWordBytes (byte ∷ bytes) h =
    let small = h.0 in
    (digit_is_word (byte / 16) (omega arith), (digit_is_word (byte % 16) (omega arith), digits-AreWordBytes bytes h.1))

-- ---- no escaped text begins with a '#'

no_sign : (b : ℕ) → should_percent_encode escaped_set b ≡ false → eqb b 35 ≡ false
no_sign b kept =
    not_true _ (λ e. let sign : contains escaped_set 35 ≡ true = refl in false≢true (sym (outside_from_kept escaped_set b kept) ∙ ap (contains escaped_set) (eqb-true b 35 e) ∙ sign))

escape-no_sign : (b : ℕ) → IsEscapeByte b → eqb b 35 ≡ false
escape-no_sign b h = elim h [
  | inl percent ↦ ne_eqb b 35 (λ e. omega arith)
  | inr digit ↦ elim digit [
    | inl number ↦ let low = number.0 in ne_eqb b 35 (λ e. omega arith)
    | inr letter ↦ let low = letter.0 in ne_eqb b 35 (λ e. omega arith)
  ]
]

first-no_sign : (bytes : List ℕ) (byte : ℕ) (rest : List ℕ) → byte ∷ rest ≡ escaped bytes → eqb byte 35 ≡ false
first-no_sign bytes byte rest e =
    let all = All-percent_encode (λ b. eqb b 35 ≡ false) escaped_set bytes no_sign escape-no_sign in
    (recursion_from_All (λ b. eqb b 35 ≡ false) (byte ∷ rest) (subst (λ (bs : List ℕ). All (λ b. eqb b 35 ≡ false) bs) (sym e) all)).0

head_is : (byte other : ℕ) (rest others : List ℕ) → byte ∷ rest ≡ other ∷ others → byte ≡ other
head_is byte other rest others e = cc

pub text_word-no_sign : (text : List ℕ) (byte : ℕ) (rest : List ℕ) → byte ∷ rest ≡ text_word text → eqb byte 35 ≡ false
text_word-no_sign [] byte rest e = rw (head_is byte 45 rest [] e) refl
text_word-no_sign (first ∷ others) byte rest e =
    elim (cases_Bool (bytes_eq (first ∷ others) (codes "-"))) [
      | inl dash ↦ rw (head_is byte 37 rest (codes "2D") (rw dash at e)) refl
      | inr other ↦ first-no_sign (first ∷ others) byte rest (rw other at e)
    ]
