-- Tests of columns by parameters, and columns that are shown: neither looks at the rowid.
use Rattle.std.proofs.Common.{◌≡◌, ◌&&◌, ℕ, zero, suc, Bool, true, List, [], ◌∷◌, drop, refl, ap, ◌∙◌}
use Rattle.sqlite.specs.declared.types.Value.TheVariants.{Null}
use Rattle.sqlite_value.specs.Order.{Row, column}
use Rattle.sqlite.specs.Term.{Term, col, eval_all, holds}
use Rattle.sql_tables.specs.Statements.{column_above, column_at_least, column_at_most, column_equals}
use Rattle.sql_tables.proofs.Answers.{passes}
use Rattle.sql_tables.proofs.Cells.{both_true}
use Rattle.sql_tables.proofs.RowReads.{listed}

-- a column equals a parameter, or is at most that, at least that or above it, both counted from 0
pub data Test : Type 0 where
  equal : (column parameter : ℕ) → Test
  until : (column parameter : ℕ) → Test
  from : (column parameter : ℕ) → Test
  behind : (column parameter : ℕ) → Test

abbrev pub test_of : Test → Term
test_of (equal at parameter) = column_equals (suc at) parameter
test_of (until at parameter) = column_at_most (suc at) parameter
test_of (from at parameter) = column_at_least (suc at) parameter
test_of (behind at parameter) = column_above (suc at) parameter

abbrev pub tests_of : List Test → List Term
tests_of [] = []
tests_of (test ∷ tests) = test_of test ∷ tests_of tests

abbrev pub columns_from : ℕ → ℕ → List Term
columns_from at zero = []
columns_from at (suc n) = col 1 at ∷ columns_from (suc at) n

-- whether the cells of a row pass
abbrev pub match_cells : Row → List Test → Row → Bool
match_cells params tests cells = passes params (tests_of tests) (Null ∷ cells)

one_matches : (params r : Row) (test : Test) → holds (params ∷ r ∷ []) (test_of test) ≡ holds (params ∷ (Null ∷ drop 1 r) ∷ []) (test_of test)
one_matches params [] (equal at parameter) = refl
one_matches params (x ∷ r) (equal at parameter) = refl
one_matches params [] (until at parameter) = refl
one_matches params (x ∷ r) (until at parameter) = refl
one_matches params [] (from at parameter) = refl
one_matches params (x ∷ r) (from at parameter) = refl
one_matches params [] (behind at parameter) = refl
one_matches params (x ∷ r) (behind at parameter) = refl

pub cells_match : (params : Row) (tests : List Test) (r : Row) → passes params (tests_of tests) r ≡ match_cells params tests (drop 1 r)
cells_match params [] r = refl
cells_match params (test ∷ tests) r =
    ap (λ b. b && passes params (tests_of tests) r) (one_matches params r test) ∙ ap (λ b. holds (params ∷ (Null ∷ drop 1 r) ∷ []) (test_of test) && b) (cells_match params tests r)

pub column_there : (r : Row) (at : ℕ) → column r (suc at) ≡ column (drop 1 r) at
column_there [] at = refl
column_there (x ∷ r) at = refl

pub columns_shown : (params r : Row) (at n : ℕ) → eval_all (columns_from (suc at) n) (params ∷ r ∷ []) ≡ listed (drop 1 r) at n
columns_shown params r at zero = refl
columns_shown params r at (suc n) = ap (λ v. v ∷ eval_all (columns_from (suc (suc at)) n) (params ∷ r ∷ [])) (column_there r at) ∙ ap (λ l. column (drop 1 r) at ∷ l) (columns_shown params r (suc at) n)

pub one_test : (a c : Bool) → a ≡ c → (a && true) ≡ c
one_test a c e = both_true a ∙ e

pub two_tests : (a b c d : Bool) → a ≡ c → b ≡ d → (a && (b && true)) ≡ (c && d)
two_tests a b c d e f = ap (λ x. x && (b && true)) e ∙ ap (λ x. c && (x && true)) f ∙ ap (λ x. c && x) (both_true d)
