-- The text of an awakeable is read as what it is spelled of.
use Rattle.std.proofs.Common.{arith, ◌≡◌, refl, sym, ap, ap₂, ◌∙◌, ℕ, zero, suc, ◌^◌, ◌<◌, ◌≤◌, nat_le, Bool, true, false, ◌&&◌, if◌then◌else◌, List, [], ◌∷◌, ◌++◌, length, take, drop, length-append, Option, Some, None, IsUtf8, bytes_eq}
use Rattle.std.specs.Str.{is_utf8}
use Rattle.std.proofs.lemmas.Bool.{and_from, le-leb, leb-true}
use Rattle.std.proofs.lemmas.Str.{IsUtf8-from_is_utf8, is_utf8-from_IsUtf8}
use Rattle.std.proofs.Math.Seq.{drop-append_seam, take-append_seam}
use Rattle.base64.specs.Engines.{url_safe_no_pad}
use Rattle.base64.specs.GeneralPurpose.{decode_of, IsBytes}
use Rattle.base64.proofs.EngineFacts.{decode_of-encode_of}
use Rattle.store_deliveries.proofs.Symbols.{same_encoding}
use Rattle.journal_model.specs.Notification.{Bytes, Text}
use Rattle.journal_model.specs.Awakeable.{four_bytes}
use Rattle.store_deliveries.specs.Awakeables.{awakeable_prefix, awakeable_read, AwakeablesAreRead, if_decoded, named_in, signal_at, signal_in}

small_number : (n : ℕ) → IsBytes (four_bytes n)
small_number n zero = omega arith
small_number n (suc zero) = omega arith
small_number n (suc (suc zero)) = omega arith
small_number n (suc (suc (suc zero))) = omega arith
small_number n (suc (suc (suc (suc i)))) = omega arith

both_small : (xs ys : List ℕ) → IsBytes xs → IsBytes ys → IsBytes (xs ++ ys)
both_small [] ys one other i = other i
both_small (x ∷ xs) ys one other zero = one 0
both_small (x ∷ xs) ys one other (suc i) = both_small xs ys (λ k. one (suc k)) other i

number_back : (n : ℕ) → n < 2 ^ 32 → signal_in (four_bytes n) ≡ n
number_back n l = omega (arith, l)

where_behind : (xs ys : List ℕ) → length ys ≡ 4 → signal_at (xs ++ ys) ≡ length xs
where_behind xs ys e = omega (arith, e, length-append xs ys)

named_back : (invocation : Text) (signal : ℕ) → IsUtf8 invocation → signal < 2 ^ 32 → named_in (invocation ++ four_bytes signal) ≡ Some (invocation, signal)
named_back invocation signal text l =
    ap (λ (b : Bool). if b then Some (take (signal_at named) named, signal_in (drop (signal_at named) named)) else None) tested
    ∙ ap₂ (λ (xs ys : List ℕ). Some (xs, signal_in ys)) front behind ∙ ap (λ (n : ℕ). Some (invocation, n)) (number_back signal l)
  where
    named : Bytes
    named = invocation ++ four_bytes signal

    at : signal_at named ≡ length invocation
    at = where_behind invocation (four_bytes signal) refl

    front : take (signal_at named) named ≡ invocation
    front = ap (λ (n : ℕ). take n named) at ∙ take-append_seam invocation (four_bytes signal)

    behind : drop (signal_at named) named ≡ four_bytes signal
    behind = ap (λ (n : ℕ). drop n named) at ∙ drop-append_seam invocation (four_bytes signal)

    long : 4 ≤ length named
    long = let four : length (four_bytes signal) ≡ 4 = refl in omega (arith, length-append invocation (four_bytes signal), four)

    tested : (nat_le 4 (length named) && is_utf8 (take (signal_at named) named)) ≡ true
    tested = and_from (nat_le 4 (length named)) (is_utf8 (take (signal_at named) named)) (le-leb 4 (length named) long) (ap is_utf8 front ∙ is_utf8-from_IsUtf8 invocation text)

pub each_read : AwakeablesAreRead
each_read invocation signal text small l =
    let named = invocation ++ four_bytes signal in
    let bytes = both_small invocation (four_bytes signal) small (small_number signal) in
    ap if_decoded (ap (decode_of url_safe_no_pad) (same_encoding named bytes) ∙ decode_of-encode_of url_safe_no_pad named refl bytes) ∙ named_back invocation signal text l

-- ---- as the code reads it

pub none_short : (named : Bytes) → length named < 4 → None ≡ named_in named
none_short named l =
    ap (λ (b : Bool). if b && is_utf8 (take (signal_at named) named) then Some (take (signal_at named) named, signal_in (drop (signal_at named) named)) else None) (sym (by_test (nat_le 4 (length named)) refl))
  where
    by_test : (b : Bool) → nat_le 4 (length named) ≡ b → b ≡ false
    by_test true e = let more = leb-true 4 (length named) e in absurd (omega (arith, more, l))
    by_test false e = refl

module _ (named : Bytes) (at : ℕ) (long : 4 ≤ length named) (is : at ≡ signal_at named) (front : Bytes) (first : front ≡ take at named) where
  long_so : nat_le 4 (length named) ≡ true
  long_so = le-leb 4 (length named) long

  front_so : take (signal_at named) named ≡ front
  front_so = ap (λ (n : ℕ). take n named) (sym is) ∙ sym first

  abbrev chosen : Bool → Option (Text × ℕ)
  chosen b = if b then Some (take (signal_at named) named, signal_in (drop (signal_at named) named)) else None

  pub some_named : (invocation : Text) (signal : ℕ) → invocation ≡ front → IsUtf8 front → signal ≡ signal_in (drop at named) → Some (invocation, signal) ≡ named_in named
  some_named invocation signal e text f =
      sym (ap chosen (and_from (nat_le 4 (length named)) (is_utf8 (take (signal_at named) named)) long_so (ap is_utf8 front_so ∙ is_utf8-from_IsUtf8 front text))
      ∙ ap₂ (λ (xs : Text) (n : ℕ). Some (xs, n)) (front_so ∙ sym e) (ap (λ (n : ℕ). signal_in (drop n named)) (sym is) ∙ sym f))

  pub none_named : (IsUtf8 front → ⊥) → None ≡ named_in named
  none_named other = sym (ap chosen (by_test (is_utf8 (take (signal_at named) named)) refl))
    where
      by_test : (b : Bool) → is_utf8 (take (signal_at named) named) ≡ b → (nat_le 4 (length named) && is_utf8 (take (signal_at named) named)) ≡ false
      by_test true e = absurd (other (IsUtf8-from_is_utf8 front (ap is_utf8 (sym front_so) ∙ e)))
      by_test false e = ap (λ (b : Bool). b && is_utf8 (take (signal_at named) named)) long_so ∙ e

-- ---- behind the prefix

pub text_read : (text symbols : Text) → bytes_eq (take 6 text) awakeable_prefix ≡ true → symbols ≡ drop 6 text → if_decoded (decode_of url_safe_no_pad symbols) ≡ awakeable_read text
text_read text symbols e f =
    ap (λ (s : Text). if_decoded (decode_of url_safe_no_pad s)) f ∙ sym (ap (λ (b : Bool). if b then if_decoded (decode_of url_safe_no_pad (drop 6 text)) else None) e)

pub no_prefix : (text : Text) → bytes_eq (take 6 text) awakeable_prefix ≡ false → None ≡ awakeable_read text
no_prefix text e = sym (ap (λ (b : Bool). if b then if_decoded (decode_of url_safe_no_pad (drop 6 text)) else None) e)
