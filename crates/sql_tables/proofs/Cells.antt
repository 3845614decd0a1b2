-- What tests and casts make of cells.
use Rattle.std.proofs.Common.{◌≡◌, ◌==◌, ◌&&◌, nat_lt, arith, cond, Less, Equal, Greater, ℕ, ℤ, pos, Bool, true, false, List, Option, None, Some, refl, sym, ap, ◌∙◌, bytes_eq}
use Rattle.std.specs.Prelude.{nat_abs}
use Rattle.std.specs.Ordering.{int_cmp, int_eq, is_eq, is_ge, is_gt, is_le}
use Rattle.std.proofs.lemmas.Bool.{eq-eqb, eqb-true, le-ltb, ltb-true}
use Rattle.std.proofs.lemmas.Bool.Decides.{Decides-int_eq}
use Rattle.sqlite_keyed.proofs.KeyedLemmas.{same_int}
use Rattle.std.proofs.lemmas.Map.Text.{is_eq-slice_cmp}
use Rattle.sqlite.specs.declared.types.Value.{Value}
use Rattle.sqlite.specs.declared.types.Value.TheVariants.{Null, Int, Text, Blob}
use Rattle.sqlite.specs.Values.{or_null}
use Rattle.sqlite.specs.Cast.{cast}
use Rattle.sqlite.specs.Kind.{Kind}
use Rattle.sqlite_sql.specs.Ops.{binary, is_true, from_truth}
use Rattle.sqlite_sql.specs.declared.ops.BinaryOp.TheVariants.{Compare}
use Rattle.sqlite_sql.specs.declared.ops.CompareOp.TheVariants.{Eq, Ge, Gt, Le}
use Rattle.sqlite_value.specs.declared.keys.Collation.TheVariants.{Binary}
use Rattle.sqlite_value.specs.Order.{value_cmp}
use Rattle.sqlite_value.proofs.OrderLemmas.{value_cmp-Text, value_cmp-Blob, value_cmp-Int}
use Rattle.sql_tables.specs.Cells.{flag_cell, short_cell}

abbrev pub are_same : Value → Value → Bool
are_same a b = is_true (binary (Compare Eq Binary) a b)

truth_of : (b : Bool) → is_true (from_truth (Some b)) ≡ b
truth_of true = refl
truth_of false = refl

pub both_true : (b : Bool) → (b && true) ≡ b
both_true true = refl
both_true false = refl

-- an equality holds of a column's text where it has these bytes
pub same_text : (a b : List ℕ) → are_same (Text a) (Text b) ≡ bytes_eq a b
unfolding binary
same_text a b = truth_of (is_eq (value_cmp (Text a) (Text b))) ∙ ap is_eq (value_cmp-Text a b) ∙ is_eq-slice_cmp a b

pub same_blob : (a b : List ℕ) → are_same (Blob a) (Blob b) ≡ bytes_eq a b
unfolding binary
same_blob a b = truth_of (is_eq (value_cmp (Blob a) (Blob b))) ∙ ap is_eq (value_cmp-Blob a b) ∙ is_eq-slice_cmp a b

same_tests : (x y : Bool) → (x ≡ true → y ≡ true) → (y ≡ true → x ≡ true) → x ≡ y
same_tests true y f g = sym (f refl)
same_tests false true f g = g refl
same_tests false false f g = refl

same_numbers : (a b : ℕ) → int_eq (pos a) (pos b) ≡ (a == b)
same_numbers a b = same_tests (int_eq (pos a) (pos b)) (a == b)
    (λ e. eq-eqb a b (ap nat_abs (same_int (pos a) (pos b) e)))
    (λ e. (Decides-int_eq (pos a) (pos b)).1 (ap pos (eqb-true a b e)))

pub same_short : (a b : ℕ) → are_same (short_cell a) (short_cell b) ≡ (a == b)
unfolding binary
same_short a b = truth_of (is_eq (value_cmp (short_cell a) (short_cell b))) ∙ ap is_eq (value_cmp-Int (pos a) (pos b)) ∙ same_numbers a b

abbrev pub is_at_most : Value → Value → Bool
is_at_most a b = is_true (binary (Compare Le Binary) a b)

-- a number is at most another in the order of numbers with a sign
pub at_most_int : (m n : ℤ) → is_at_most (Int m) (Int n) ≡ is_le (int_cmp m n)
unfolding binary
at_most_int m n = truth_of (is_le (value_cmp (Int m) (Int n))) ∙ ap is_le (value_cmp-Int m n)

abbrev pub is_at_least : Value → Value → Bool
is_at_least a b = is_true (binary (Compare Ge Binary) a b)

pub at_least_int : (m n : ℤ) → is_at_least (Int m) (Int n) ≡ is_ge (int_cmp m n)
unfolding binary
at_least_int m n = truth_of (is_ge (value_cmp (Int m) (Int n))) ∙ ap is_ge (value_cmp-Int m n)

abbrev pub is_above : Value → Value → Bool
is_above a b = is_true (binary (Compare Gt Binary) a b)

greater_is : (x y : Bool) → (x ≡ true → y ≡ false) → is_gt (cond x Less (cond y Greater Equal)) ≡ y
greater_is true y f = sym (f refl)
greater_is false true f = refl
greater_is false false f = refl

pub above_short : (a b : ℕ) → is_above (short_cell a) (short_cell b) ≡ nat_lt b a
unfolding binary
above_short a b =
    truth_of (is_gt (value_cmp (short_cell a) (short_cell b))) ∙ ap is_gt (value_cmp-Int (pos a) (pos b))
    ∙ greater_is (nat_lt a b) (nat_lt b a) (λ e. le-ltb b a (let less = ltb-true a b e in omega (arith, less)))

-- null is above nothing
pub above_null : (n : ℤ) → is_above Null (Int n) ≡ false
unfolding binary
above_null n = refl

-- a flag is the same as one that is set where it is set
pub same_flag : (b : Bool) → are_same (flag_cell b) (flag_cell true) ≡ b
unfolding binary
same_flag true = truth_of (is_eq (value_cmp (Int (pos 1)) (Int (pos 1)))) ∙ ap is_eq (value_cmp-Int (pos 1) (pos 1))
same_flag false = truth_of (is_eq (value_cmp (Int (pos 0)) (Int (pos 1)))) ∙ ap is_eq (value_cmp-Int (pos 0) (pos 1))

-- nothing is the same as null
pub same_null-Int : (n : ℤ) → are_same Null (Int n) ≡ false
unfolding binary
same_null-Int n = refl

pub same_null-Text : (t : List ℕ) → are_same Null (Text t) ≡ false
unfolding binary
same_null-Text t = refl

-- a cast that keeps null and each value's cell keeps what is there or not
pub cast_or_null : {X : Type 0} (kind : Kind) (cell : X → Value) → cast kind Null ≡ Null → ((x : X) → cast kind (cell x) ≡ cell x) → (o : Option X) → cast kind (or_null cell o) ≡ or_null cell o
cast_or_null kind cell null some None = null
cast_or_null kind cell null some (Some x) = some x
