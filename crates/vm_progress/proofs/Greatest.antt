-- The greatest handle of what is awaited.
use Rattle.std.proofs.Common.{◌≡◌, ◌≤◌, ◌<◌, ◌∙◌, ◌⊎◌, inl, inr, refl, sym, ap, ap₂, arith, ℕ, max, nat_le, ◌==◌, eqb-true, eq-eqb, Bool, true, false, ◌&&◌, ◌||◌, List, [], ◌∷◌, ◌++◌, Option, Some, None, is_some}
use Rattle.std.proofs.lemmas.Bool.{leb-true, leb-false}
use Rattle.journal_model.specs.AwaitTree.{AwaitTree}
use Rattle.journal_model.specs.Future.{trees_from}
use Rattle.body_laws.specs.Bodies.{has_handle, some_has_handle}
use Rattle.vm_runs.specs.Runs.{Table, run_at}
use Rattle.vm_progress.specs.UncompletedAwaits.{IsGreatest, is_unfinished, greater}

abbrev pub some_unfinished : Table → List (AwaitTree ℕ) → ℕ → Bool
some_unfinished table trees n = is_some (run_at table n) && some_has_handle n (trees_from trees)

both_true : (a b : Bool) → (a && b) ≡ true → (a ≡ true) × (b ≡ true)
both_true true true e = (refl, refl)
both_true true false e = cc
both_true false b e = cc

right_false : (a b : Bool) → b ≡ false → (a && b) ≡ false
right_false true b e = e
right_false false b e = refl

-- ---- a leaf

pub leaf_greatest : (table : Table) (leaf : ℕ) → is_some (run_at table leaf) ≡ true → IsGreatest (λ n. is_some (run_at table n) && (leaf == n)) (Some leaf)
leaf_greatest table leaf there = (
  ap₂ (λ (a b : Bool). a && b) there (eq-eqb leaf leaf refl),
  λ n e. let same : leaf ≡ n = eqb-true leaf n (both_true (is_some (run_at table n)) (leaf == n) e).1 in omega (arith, same),
)

pub leaf_none : (table : Table) (leaf : ℕ) → is_some (run_at table leaf) ≡ false → IsGreatest (λ n. is_some (run_at table n) && (leaf == n)) None
leaf_none table leaf absent = λ n. by_test n (leaf == n) refl
  where
    by_test : (n : ℕ) (b : Bool) → (leaf == n) ≡ b → (is_some (run_at table n) && b) ≡ false
    by_test n true e = ap (λ (b : Bool). b && true) (sym (ap (λ (k : ℕ). is_some (run_at table k)) (eqb-true leaf n e)) ∙ absent)
    by_test n false e = right_false (is_some (run_at table n)) false refl

-- ---- one child more

some_last : (n : ℕ) (trees : List (AwaitTree ℕ)) (tree : AwaitTree ℕ) → some_has_handle n (trees_from (trees ++ tree ∷ [])) ≡ (some_has_handle n (trees_from trees) || has_handle n tree)
some_last n [] tree = or_none (has_handle n tree)
  where
    or_none : (b : Bool) → (b || false) ≡ b
    or_none true = refl
    or_none false = refl
some_last n (t ∷ trees) tree = ap (λ (b : Bool). has_handle n t || b) (some_last n trees tree) ∙ assoc (has_handle n t) (some_has_handle n (trees_from trees)) (has_handle n tree)
  where
    assoc : (a b c : Bool) → (a || (b || c)) ≡ ((a || b) || c)
    assoc true b c = refl
    assoc false b c = refl

-- a number passes one of two tests, or none
neither : (h a b : Bool) → (h && a) ≡ false → (h && b) ≡ false → (h && (a || b)) ≡ false
neither true true b e f = e
neither true false b e f = f
neither false a b e f = refl

first : (h a b : Bool) → (h && a) ≡ true → (h && (a || b)) ≡ true
first true true b e = refl
first true false b e = cc
first false a b e = cc

second : (h a b : Bool) → (h && b) ≡ true → (h && (a || b)) ≡ true
second true true b e = refl
second true false b e = e
second false a b e = cc

which : (h a b : Bool) → (h && (a || b)) ≡ true → ((h && a) ≡ true) ⊎ ((h && b) ≡ true)
which true true b e = inl refl
which true false b e = inr e
which false a b e = cc

module _ (has one other : ℕ → Bool) where
  abbrev either : ℕ → Bool
  either n = has n && (one n || other n)

  greater_of : (m p : ℕ) → (has m && one m) ≡ true → (has p && other p) ≡ true → either (max m p) ≡ true
  greater_of m p h k = by_test (nat_le m p) refl
    where
      by_test : (b : Bool) → nat_le m p ≡ b → either (max m p) ≡ true
      by_test true e = let le = leb-true m p e in let is : max m p ≡ p = omega (arith, le) in ap either is ∙ second (has p) (one p) (other p) k
      by_test false e = let less : p < m = leb-false m p e in let is : max m p ≡ m = omega (arith, less) in ap either is ∙ first (has m) (one m) (other m) h

  greater_greatest : (a b : Option ℕ) → IsGreatest (λ n. has n && one n) a → IsGreatest (λ n. has n && other n) b → IsGreatest either (greater a b)
  greater_greatest None None h k = λ n. neither (has n) (one n) (other n) (h n) (k n)
  greater_greatest None (Some m) h k = (
    second (has m) (one m) (other m) k.0,
    λ n e. elim (which (has n) (one n) (other n) e) [ inl f ↦ (let g = h n in cc) | inr f ↦ k.1 n f ],
  )
  greater_greatest (Some m) None h k = (
    first (has m) (one m) (other m) h.0,
    λ n e. elim (which (has n) (one n) (other n) e) [ inl f ↦ h.1 n f | inr f ↦ (let g = k n in cc) ],
  )
  greater_greatest (Some m) (Some p) h k = (
    greater_of m p h.0 k.0,
    λ n e. elim (which (has n) (one n) (other n) e) [ inl f ↦ (let l = h.1 n f in omega (arith, l)) | inr f ↦ (let l = k.1 n f in omega (arith, l)) ],
  )

same_greatest : (test other : ℕ → Bool) → ((n : ℕ) → test n ≡ other n) → (found : Option ℕ) → IsGreatest test found → IsGreatest other found
same_greatest test other same None h = λ n. sym (same n) ∙ h n
same_greatest test other same (Some last) h = (sym (same last) ∙ h.0, λ n e. h.1 n (same n ∙ e))

pub more_greatest : (table : Table) (trees : List (AwaitTree ℕ)) (tree : AwaitTree ℕ) (a b : Option ℕ) → IsGreatest (some_unfinished table trees) a → IsGreatest (is_unfinished table tree) b
    → IsGreatest (some_unfinished table (trees ++ tree ∷ [])) (greater a b)
more_greatest table trees tree a b h k =
    same_greatest (either (λ n. is_some (run_at table n)) (λ n. some_has_handle n (trees_from trees)) (λ n. has_handle n tree)) (some_unfinished table (trees ++ tree ∷ []))
    (λ n. ap (λ (b : Bool). is_some (run_at table n) && b) (sym (some_last n trees tree))) (greater a b)
    (greater_greatest (λ n. is_some (run_at table n)) (λ n. some_has_handle n (trees_from trees)) (λ n. has_handle n tree) a b h k)

pub no_child : (table : Table) → IsGreatest (some_unfinished table []) None
no_child table = λ n. right_false (is_some (run_at table n)) false refl
