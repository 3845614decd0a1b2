-- Pairs are read one by one.
use Rattle.std.proofs.Common.{◌≡◌, ◌≢◌, ℕ, ◌-◌, ◌<◌, ◌≤◌, List, [], ◌∷◌, ◌++◌, length, map, take, drop, get_or, Bor, Option, Some, None, Err, refl, sym, ap, ◌∙◌, append_assoc, append-nil, arith}
use Rattle.std.proofs.Math.Seq.{take-length}
use Rattle.script_lines.specs.LineReader.{Gives, then_read}
use Rattle.script_lines.specs.declared.word.LineError.{LineError}
use Rattle.script_lines.specs.declared.word.LineError.TheVariants.{NotUnderstood, Memory}
use Rattle.call_lines.specs.WordReader.{pair_read, pairs_of}

abbrev Pair : Type 0
Pair = List ℕ × List ℕ

-- pairs that were read, and behind them those of the words that are left
unfoldable pub behind : List Pair → Option (List Pair) → Option (List Pair)
behind front None = None
behind front (Some pairs) = Some (front ++ pairs)

pub behind_none : (pairs : Option (List Pair)) → behind [] pairs ≡ pairs
unfolding behind
behind_none None = refl
behind_none (Some pairs) = refl

one_more : (front : List Pair) (pair : Pair) (pairs : Option (List Pair)) → behind front (then_read pairs (λ others. Some (pair ∷ others))) ≡ behind (front ++ pair ∷ []) pairs
unfolding behind then_read
one_more front pair None = refl
one_more front pair (Some pairs) = ap Some (sym (append_assoc front (pair ∷ []) pairs))

-- a pair more was read
pub pair_more : (front : List Pair) (key value : List ℕ) (words : List (List ℕ)) (pair : Pair) → pair_read key value ≡ Some pair
    → behind front (pairs_of (key ∷ value ∷ words)) ≡ behind (front ++ pair ∷ []) (pairs_of words)
unfolding pairs_of then_read
pair_more front key value words pair e = rw e (one_more front pair (pairs_of words))

-- two words are no pair
pub no_pair : (front : List Pair) (key value : List ℕ) (words : List (List ℕ)) → pair_read key value ≡ None → behind front (pairs_of (key ∷ value ∷ words)) ≡ None
unfolding pairs_of then_read behind
no_pair front key value words e = rw e refl

-- all were read
pub no_more : (front : List Pair) → behind front (pairs_of []) ≡ Some front
unfolding pairs_of behind
no_more front = ap Some (append-nil front)

-- a name without a value is left
pub half_left : (front : List Pair) (key : List ℕ) → behind front (pairs_of (key ∷ [])) ≡ None
unfolding pairs_of behind
half_left front key = refl

-- ---- words in a slice

abbrev pub words_in : List (Bor (List ℕ)) → List (List ℕ)
words_in slice = map (λ word. word.now) slice

-- two words, and the others
two_words : (left : List (Bor (List ℕ))) (d : Bor (List ℕ)) → 2 ≤ length left → words_in left ≡ (get_or left 0 d).now ∷ (get_or left 1 d).now ∷ words_in (take (length left - 2) (drop 2 left))
two_words [] d h = absurd (omega arith)
two_words (a ∷ []) d h = absurd (omega arith)
two_words (a ∷ b ∷ rest) d h = let e : length (a ∷ b ∷ rest) - 2 ≡ length rest = omega arith in rw (e, take-length rest) refl

pub read_on : (all left : List (Bor (List ℕ))) (front back : List Pair) (d : Bor (List ℕ)) (pair : Pair) → 2 ≤ length left → behind front (pairs_of (words_in left)) ≡ pairs_of (words_in all)
    → pair_read (get_or left 0 d).now (get_or left 1 d).now ≡ Some pair → back ≡ front ++ pair ∷ [] → behind back (pairs_of (words_in (take (length left - 2) (drop 2 left)))) ≡ pairs_of (words_in all)
read_on all left front back d pair h so read is =
    let more = pair_more front (get_or left 0 d).now (get_or left 1 d).now (words_in (take (length left - 2) (drop 2 left))) pair read in
    ap (λ (hs : List Pair). behind hs (pairs_of (words_in (take (length left - 2) (drop 2 left))))) is ∙ sym more ∙ ap (λ (ws : List (List ℕ)). behind front (pairs_of ws)) (sym (two_words left d h)) ∙ so

pub not_read : (all left : List (Bor (List ℕ))) (front : List Pair) (d : Bor (List ℕ)) (error : LineError) → 2 ≤ length left → behind front (pairs_of (words_in left)) ≡ pairs_of (words_in all)
    → Gives {A = Pair} (Err error) (pair_read (get_or left 0 d).now (get_or left 1 d).now) → Gives {A = List Pair} (Err error) (pairs_of (words_in all))
not_read all left front d NotUnderstood h so none =
    sym so ∙ ap (λ (ws : List (List ℕ)). behind front (pairs_of ws)) (two_words left d h) ∙ no_pair front (get_or left 0 d).now (get_or left 1 d).now (words_in (take (length left - 2) (drop 2 left))) none
not_read all left front d Memory h so none = tt

pub all_read : (all left : List (Bor (List ℕ))) (front : List Pair) → length left ≡ 0 → behind front (pairs_of (words_in left)) ≡ pairs_of (words_in all) → pairs_of (words_in all) ≡ Some front
all_read all [] front e so = sym so ∙ no_more front
all_read all (word ∷ words) front e so = absurd (omega arith)

pub one_left : (all left : List (Bor (List ℕ))) (front : List Pair) → length left < 2 → length left ≢ 0 → behind front (pairs_of (words_in left)) ≡ pairs_of (words_in all) → pairs_of (words_in all) ≡ None
one_left all [] front less some so = absurd (some refl)
one_left all (word ∷ []) front less some so = sym so ∙ half_left front word.now
one_left all (word ∷ other ∷ words) front less some so = absurd (omega arith)
