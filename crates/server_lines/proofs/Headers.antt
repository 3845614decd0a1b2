-- Headers are read one by one.
use Rattle.std.proofs.Common.{◌≡◌, ◌≢◌, ℕ, ◌-◌, ◌<◌, ◌≤◌, List, [], ◌∷◌, ◌++◌, length, map, take, drop, get_or, Bor, Option, Some, None, Err, refl, sym, ap, ◌∙◌, append_assoc, append-nil, arith}
use Rattle.std.proofs.Math.Seq.{take-length}
use Rattle.journal_model.specs.declared.call.Header.{Header}
use Rattle.script_lines.specs.LineReader.{Gives, then_read}
use Rattle.script_lines.specs.declared.word.LineError.{LineError}
use Rattle.script_lines.specs.declared.word.LineError.TheVariants.{NotUnderstood, Memory}
use Rattle.server_lines.specs.RequestReader.{header_read, headers_of}

-- headers that were read, and behind them those of the words that are left
unfoldable pub behind : List Header → Option (List Header) → Option (List Header)
behind front None = None
behind front (Some headers) = Some (front ++ headers)

pub behind_none : (headers : Option (List Header)) → behind [] headers ≡ headers
unfolding behind
behind_none None = refl
behind_none (Some headers) = refl

one_more : (front : List Header) (header : Header) (headers : Option (List Header)) → behind front (then_read headers (λ others. Some (header ∷ others))) ≡ behind (front ++ header ∷ []) headers
unfolding behind then_read
one_more front header None = refl
one_more front header (Some headers) = ap Some (sym (append_assoc front (header ∷ []) headers))

-- a header more was read
pub header_more : (front : List Header) (key value : List ℕ) (words : List (List ℕ)) (header : Header) → header_read key value ≡ Some header
    → behind front (headers_of (key ∷ value ∷ words)) ≡ behind (front ++ header ∷ []) (headers_of words)
unfolding headers_of then_read
header_more front key value words header e = rw e (one_more front header (headers_of words))

-- two words are no header
pub no_header : (front : List Header) (key value : List ℕ) (words : List (List ℕ)) → header_read key value ≡ None → behind front (headers_of (key ∷ value ∷ words)) ≡ None
unfolding headers_of then_read behind
no_header front key value words e = rw e refl

-- all were read
pub no_more : (front : List Header) → behind front (headers_of []) ≡ Some front
unfolding headers_of behind
no_more front = ap Some (append-nil front)

-- a name without a value is left
pub half_left : (front : List Header) (key : List ℕ) → behind front (headers_of (key ∷ [])) ≡ None
unfolding headers_of behind
half_left front key = refl

-- ---- words in a slice

abbrev pub words_in : List (Bor (List ℕ)) → List (List ℕ)
words_in slice = map (λ word. word.now) slice

-- two words, and the others
two_words : (left : List (Bor (List ℕ))) (d : Bor (List ℕ)) → 2 ≤ length left → words_in left ≡ (get_or left 0 d).now ∷ (get_or left 1 d).now ∷ words_in (take (length left - 2) (drop 2 left))
two_words [] d h = absurd (omega arith)
two_words (a ∷ []) d h = absurd (omega arith)
two_words (a ∷ b ∷ rest) d h = let e : length (a ∷ b ∷ rest) - 2 ≡ length rest = omega arith in rw (e, take-length rest) refl

pub read_on : (all left : List (Bor (List ℕ))) (front back : List Header) (d : Bor (List ℕ)) (header : Header) → 2 ≤ length left → behind front (headers_of (words_in left)) ≡ headers_of (words_in all)
    → header_read (get_or left 0 d).now (get_or left 1 d).now ≡ Some header → back ≡ front ++ header ∷ [] → behind back (headers_of (words_in (take (length left - 2) (drop 2 left)))) ≡ headers_of (words_in all)
read_on all left front back d header h so read is =
    let more = header_more front (get_or left 0 d).now (get_or left 1 d).now (words_in (take (length left - 2) (drop 2 left))) header read in
    ap (λ (hs : List Header). behind hs (headers_of (words_in (take (length left - 2) (drop 2 left))))) is ∙ sym more ∙ ap (λ (ws : List (List ℕ)). behind front (headers_of ws)) (sym (two_words left d h)) ∙ so

pub not_read : (all left : List (Bor (List ℕ))) (front : List Header) (d : Bor (List ℕ)) (error : LineError) → 2 ≤ length left → behind front (headers_of (words_in left)) ≡ headers_of (words_in all)
    → Gives {A = Header} (Err error) (header_read (get_or left 0 d).now (get_or left 1 d).now) → Gives {A = List Header} (Err error) (headers_of (words_in all))
not_read all left front d NotUnderstood h so none =
    sym so ∙ ap (λ (ws : List (List ℕ)). behind front (headers_of ws)) (two_words left d h) ∙ no_header front (get_or left 0 d).now (get_or left 1 d).now (words_in (take (length left - 2) (drop 2 left))) none
not_read all left front d Memory h so none = tt

pub all_read : (all left : List (Bor (List ℕ))) (front : List Header) → length left ≡ 0 → behind front (headers_of (words_in left)) ≡ headers_of (words_in all) → headers_of (words_in all) ≡ Some front
all_read all [] front e so = sym so ∙ no_more front
all_read all (word ∷ words) front e so = absurd (omega arith)

pub one_left : (all left : List (Bor (List ℕ))) (front : List Header) → length left < 2 → length left ≢ 0 → behind front (headers_of (words_in left)) ≡ headers_of (words_in all) → headers_of (words_in all) ≡ None
one_left all [] front less some so = absurd (some refl)
one_left all (word ∷ []) front less some so = sym so ∙ half_left front word.now
one_left all (word ∷ other ∷ words) front less some so = absurd (omega arith)
