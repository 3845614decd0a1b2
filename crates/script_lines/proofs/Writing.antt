-- What a writer holds behind one write more.
use Rattle.std.proofs.Common.{◌≡◌, ℕ, ◌+◌, ◌-◌, ◌≤◌, List, length, take, drop, Option, Some, None, Result, Ok, Err, sym, ap, subst, ◌∙◌, arith, length-drop}
use lib.Seq.{take-add}
use Rattle.std.proofs.Math.Seq.{take-length}
use Rattle.std.specs.Io.{WritesAtMost}
use Rattle.std.specs.Io.KnownBytes.{Appends, Keeps, WriteAppends}
use Rattle.std.proofs.KnownBytes.{Appends-trans}

pub appends_kept : (a b c : Option (List ℕ)) (bs : List ℕ) → Appends a b bs → Keeps b c → Appends a c bs
appends_kept None b c bs p q = tt
appends_kept (Some x) None c bs p q = absurd p
appends_kept (Some x) (Some y) None bs p q = absurd q
appends_kept (Some x) (Some y) (Some z) bs p q = q ∙ p

-- what a writer has taken of a text
pub record HasTaken (had has : Option (List ℕ)) (text : List ℕ) (count : ℕ) : Type 0 where
  pub within : count ≤ length text
  pub taken : Appends had has (take count text)

-- what is still to be written
pub left_is : (old : ℕ) (text : List ℕ) → take (length text - old) (drop old text) ≡ drop old text
left_is old text = ap (λ (n : ℕ). take n (drop old text)) (sym (length-drop old text)) ∙ take-length (drop old text)

-- a write took some more, or nothing
pub took_more : {E : Type 0} (had between has : Option (List ℕ)) (text : List ℕ) (old count new : ℕ) (r : Result ℕ E) → HasTaken had between text old
    → WritesAtMost r (take (length text - old) (drop old text)) → WriteAppends between has r (take (length text - old) (drop old text)) → r ≡ Ok count → new ≡ old + count
    → HasTaken had has text new
took_more {E} had between has text old count new r h bound bytes is e =
    let left : List ℕ = take (length text - old) (drop old text) in
    let most : count ≤ length left = subst (λ (x : Result ℕ E). WritesAtMost x left) is bound in
    let fits : count ≤ length (drop old text) = subst (λ (bs : List ℕ). count ≤ length bs) (left_is old text) most in
    let more : Appends between has (take count left) = subst (λ (x : Result ℕ E). WriteAppends between has x left) is bytes in
    let same : take count left ≡ take count (drop old text) = ap (take count) (left_is old text) in
    let within : old ≤ length text = h.within in
    record {
      within = omega (arith, length-drop old text, within, fits, e);
      taken = subst (λ (bs : List ℕ). Appends had has bs) (sym (ap (λ (n : ℕ). take n text) e ∙ take-add old count text))
          (Appends-trans had between has (take old text) (take count (drop old text)) h.taken (subst (λ (bs : List ℕ). Appends between has bs) same more));
    }

pub took_none : {E : Type 0} (had between has : Option (List ℕ)) (text : List ℕ) (old : ℕ) (why : E) (r : Result ℕ E) (buf : List ℕ) → HasTaken had between text old
    → WriteAppends between has r buf → r ≡ Err why → HasTaken had has text old
took_none {E} had between has text old why r buf h bytes is =
    record {
      within = h.within;
      taken = appends_kept had between has (take old text) h.taken (subst (λ (x : Result ℕ E). WriteAppends between has x buf) is bytes);
    }
