-- The least handle of what is awaited.
use Rattle.std.proofs.Common.{◌≡◌, refl, sym, ap, ap₂, ◌∙◌, ℕ, ◌<◌, ◌≤◌, ◌==◌, nat_le, min, arith, Bool, true, false, ◌&&◌, ◌||◌, cond, if◌then◌else◌, List, [], ◌∷◌, ◌++◌, Option, Some, None, is_some, option_map, ◌⊎◌, inl, inr, eqb-true, eq-eqb}
use Rattle.std.proofs.lemmas.Bool.{leb-true, leb-false}
use Rattle.std.proofs.Math.Nat.{min-eq_left, min_comm}
use Rattle.std.specs.Ordering.{nat_cmp}
use Rattle.std.specs.BTreeMap.{is_at}
use Rattle.std.specs.List.{list_any, find}
use Rattle.journal_model.specs.AwaitTree.{AwaitTree}
use Rattle.journal_model.specs.Future.{trees_from}
use Rattle.body_laws.specs.Bodies.{Body, has_handle, some_has_handle}
use Rattle.vm_runs.specs.declared.run.Run.{Run}
use Rattle.vm_runs.specs.Runs.{Table, run_at, is_so, is_some_so, has_run, body_of, bodies_in, IsLeast, lesser, is_awaited}
use Rattle.vm_runs.proofs.Ordered.{at-same, at-own}
use Rattle.vm_runs.proofs.Tables.{Ascends, absent}

both-true : (a b : Bool) → (a && b) ≡ true → (a ≡ true) × (b ≡ true)
both-true true true e = (refl, refl)
both-true true false e = cc
both-true false b e = cc

both : (a b : Bool) → a ≡ true → b ≡ true → (a && b) ≡ true
both a b e f = ap₂ (λ (x y : Bool). x && y) e f

left-false : (a b : Bool) → a ≡ false → (a && b) ≡ false
left-false a b e = ap (λ (x : Bool). x && b) e

right-false : (a b : Bool) → b ≡ false → (a && b) ≡ false
right-false true b e = e
right-false false b e = refl

in-order : (n m : ℕ) → (n ≤ m) ⊎ (m ≤ n)
in-order n m = by_test (nat_le n m) refl
  where
    by_test : (b : Bool) → nat_le n m ≡ b → (n ≤ m) ⊎ (m ≤ n)
    by_test true e = inl (leb-true n m e)
    by_test false e = let more : m < n = leb-false n m e in inr (omega (arith, more))

-- ---- what the least is

pub least-unique : (test : ℕ → Bool) (a b : Option ℕ) → IsLeast test a → IsLeast test b → a ≡ b
least-unique test None None h k = refl
least-unique test None (Some m) h k = let e = h m in let f = k.0 in cc
least-unique test (Some n) None h k = let e = k n in let f = h.0 in cc
least-unique test (Some n) (Some m) h k = let a = h.1 m k.0 in let b = k.1 n h.0 in let e : n ≡ m = omega (arith, a, b) in ap (λ (x : ℕ). Some x) e

pub least-same : (test other : ℕ → Bool) → ((n : ℕ) → test n ≡ other n) → (found : Option ℕ) → IsLeast test found → IsLeast other found
least-same test other same None h = λ n. sym (same n) ∙ h n
least-same test other same (Some least) h = (sym (same least) ∙ h.0, λ n e. h.1 n (same n ∙ e))

-- ---- a tree's leaves

pub leaf-least : (has : ℕ → Bool) (leaf : ℕ) → has leaf ≡ true → IsLeast (λ n. has n && (leaf == n)) (Some leaf)
leaf-least has leaf h = (
  both (has leaf) (leaf == leaf) h (eq-eqb leaf leaf refl),
  λ n e. let same : leaf ≡ n = eqb-true leaf n (both-true (has n) (leaf == n) e).1 in omega (arith, same),
)

pub leaf-none : (has : ℕ → Bool) (leaf : ℕ) → has leaf ≡ false → IsLeast (λ n. has n && (leaf == n)) None
leaf-none has leaf h = λ n. by_test n (leaf == n) refl
  where
    by_test : (n : ℕ) (b : Bool) → (leaf == n) ≡ b → (has n && b) ≡ false
    by_test n true e = left-false (has n) true (sym (ap has (eqb-true leaf n e)) ∙ h)
    by_test n false e = right-false (has n) false refl

some-last : (n : ℕ) (trees : List (AwaitTree ℕ)) (tree : AwaitTree ℕ) → some_has_handle n (trees_from (trees ++ tree ∷ [])) ≡ (some_has_handle n (trees_from trees) || has_handle n tree)
some-last n [] tree = or-none (has_handle n tree)
  where
    or-none : (b : Bool) → (b || false) ≡ b
    or-none true = refl
    or-none false = refl
some-last n (t ∷ trees) tree = ap (λ (b : Bool). has_handle n t || b) (some-last n trees tree) ∙ assoc (has_handle n t) (some_has_handle n (trees_from trees)) (has_handle n tree)
  where
    assoc : (a b c : Bool) → (a || (b || c)) ≡ ((a || b) || c)
    assoc true b c = refl
    assoc false b c = refl

module _ (has one other : ℕ → Bool) where
  neither : (n : ℕ) → (has n && one n) ≡ false → (has n && other n) ≡ false → (has n && (one n || other n)) ≡ false
  neither n = by_tests (has n) (one n) (other n)
    where
      by_tests : (h a b : Bool) → (h && a) ≡ false → (h && b) ≡ false → (h && (a || b)) ≡ false
      by_tests true true b e f = e
      by_tests true false b e f = f
      by_tests false a b e f = refl

  first : (n : ℕ) → (has n && one n) ≡ true → (has n && (one n || other n)) ≡ true
  first n = by_tests (has n) (one n) (other n)
    where
      by_tests : (h a b : Bool) → (h && a) ≡ true → (h && (a || b)) ≡ true
      by_tests true true b e = refl
      by_tests true false b e = cc
      by_tests false a b e = cc

  second : (n : ℕ) → (has n && other n) ≡ true → (has n && (one n || other n)) ≡ true
  second n = by_tests (has n) (one n) (other n)
    where
      by_tests : (h a b : Bool) → (h && b) ≡ true → (h && (a || b)) ≡ true
      by_tests true true b e = refl
      by_tests true false b e = e
      by_tests false a b e = cc

  which : (n : ℕ) → (has n && (one n || other n)) ≡ true → ((has n && one n) ≡ true) ⊎ ((has n && other n) ≡ true)
  which n = by_tests (has n) (one n) (other n)
    where
      by_tests : (h a b : Bool) → (h && (a || b)) ≡ true → ((h && a) ≡ true) ⊎ ((h && b) ≡ true)
      by_tests true true b e = inl refl
      by_tests true false b e = inr e
      by_tests false a b e = cc

  pub lesser-least : (a b : Option ℕ) → IsLeast (λ n. has n && one n) a → IsLeast (λ n. has n && other n) b → IsLeast (λ n. has n && (one n || other n)) (lesser a b)
  lesser-least None None h k = λ n. neither n (h n) (k n)
  lesser-least None (Some m) h k = (
    second m k.0,
    λ n e. elim (which n e) [ inl f ↦ (let g = h n in cc) | inr f ↦ k.1 n f ],
  )
  lesser-least (Some m) None h k = (
    first m h.0,
    λ n e. elim (which n e) [ inl f ↦ h.1 n f | inr f ↦ (let g = k n in cc) ],
  )
  lesser-least (Some m) (Some p) h k = (
    by_order (in-order m p),
    λ n e. elim (which n e) [ inl f ↦ (let l = h.1 n f in omega (arith, l)) | inr f ↦ (let l = k.1 n f in omega (arith, l)) ],
  )
    where
      whole : ℕ → Bool
      whole n = has n && (one n || other n)

      by_order : (m ≤ p) ⊎ (p ≤ m) → whole (min m p) ≡ true
      by_order (inl le) = ap whole (min-eq_left le) ∙ first m h.0
      by_order (inr le) = ap whole (min_comm m p ∙ min-eq_left le) ∙ second p k.0

-- one more child
pub more-least : (has : ℕ → Bool) (trees : List (AwaitTree ℕ)) (tree : AwaitTree ℕ) (a b : Option ℕ)
    → IsLeast (λ n. has n && some_has_handle n (trees_from trees)) a → IsLeast (λ n. has n && has_handle n tree) b
    → IsLeast (λ n. has n && some_has_handle n (trees_from (trees ++ tree ∷ []))) (lesser a b)
more-least has trees tree a b h k =
    least-same (λ n. has n && (some_has_handle n (trees_from trees) || has_handle n tree)) (λ n. has n && some_has_handle n (trees_from (trees ++ tree ∷ [])))
    (λ n. ap (λ (t : Bool). has n && t) (sym (some-last n trees tree))) (lesser a b)
    (lesser-least has (λ n. some_has_handle n (trees_from trees)) (λ n. has_handle n tree) a b h k)

pub no-child : (has : ℕ → Bool) → IsLeast (λ n. has n && some_has_handle n (trees_from [])) None
no-child has = λ n. right-false (has n) false refl

-- ---- the first of the bodies in a table

abbrev handle_of : Option Body → Option ℕ
handle_of found = option_map (λ body. body.handle) found

module _ (executing : Bool) (tree : AwaitTree ℕ) where
  abbrev awaits : Body → Bool
  awaits body = has_handle body.handle tree

  pub find-least : (table : Table) → Ascends table → IsLeast (is_awaited executing table tree) (handle_of (find awaits (bodies_in executing table)))
  find-least [] sorted = λ n. refl
  find-least (entry ∷ entries) sorted = by_tests (is_so executing entry.1) refl (has_handle entry.0 tree) refl (find-least entries sorted.1)
    where
      rest : List Body
      rest = bodies_in executing entries

      -- where the first is not awaited, the test is that of the others
      passed : (is_so executing entry.1 && has_handle entry.0 tree) ≡ false → (n : ℕ) → is_awaited executing entries tree n ≡ is_awaited executing (entry ∷ entries) tree n
      passed none n = by_test (is_at (nat_cmp n) entry.0) refl
        where
          by_test : (b : Bool) → is_at (nat_cmp n) entry.0 ≡ b → is_awaited executing entries tree n ≡ (is_some_so executing (cond b (Some entry.1) (run_at entries n)) && has_handle n tree)
          by_test true e =
              let same : n ≡ entry.0 = at-same n entry.0 e in
              let gone : run_at entries n ≡ None = absent entry.0 n entries sorted.0 (omega (arith, same)) in
              ap (λ (found : Option Run). is_some_so executing found && has_handle n tree) gone ∙ sym (ap (λ (k : ℕ). is_so executing entry.1 && has_handle k tree) same ∙ none)
          by_test false e = refl

      own : is_so executing entry.1 ≡ true → has_handle entry.0 tree ≡ true → is_awaited executing (entry ∷ entries) tree entry.0 ≡ true
      own so awaited = ap (λ (b : Bool). is_some_so executing (cond b (Some entry.1) (run_at entries entry.0)) && has_handle entry.0 tree) (at-own entry.0) ∙ both (is_so executing entry.1) (has_handle entry.0 tree) so awaited

      first-least : (n : ℕ) → is_awaited executing (entry ∷ entries) tree n ≡ true → entry.0 ≤ n
      first-least n = by_test (is_at (nat_cmp n) entry.0) refl
        where
          by_found : (found : Option Run) → run_at entries n ≡ found → (is_some_so executing found && has_handle n tree) ≡ true → entry.0 ≤ n
          by_found None g f = cc
          by_found (Some run) g f = by_order (in-order n entry.0)
            where
              by_order : (n ≤ entry.0) ⊎ (entry.0 ≤ n) → entry.0 ≤ n
              by_order (inl le) = let gone : run_at entries n ≡ None = absent entry.0 n entries sorted.0 le in cc
              by_order (inr le) = le

          by_test : (b : Bool) → is_at (nat_cmp n) entry.0 ≡ b → (is_some_so executing (cond b (Some entry.1) (run_at entries n)) && has_handle n tree) ≡ true → entry.0 ≤ n
          by_test true e f = let same : n ≡ entry.0 = at-same n entry.0 e in omega (arith, same)
          by_test false e f = by_found (run_at entries n) refl f

      by_tests : (s : Bool) → is_so executing entry.1 ≡ s → (t : Bool) → has_handle entry.0 tree ≡ t → IsLeast (is_awaited executing entries tree) (handle_of (find awaits rest))
          → IsLeast (is_awaited executing (entry ∷ entries) tree) (handle_of (find awaits (if s then body_of entry.0 entry.1 ∷ rest else rest)))
      by_tests true so true awaited later = rw awaited (own so awaited, first-least)
      by_tests true so false other later = rw other (least-same (is_awaited executing entries tree) (is_awaited executing (entry ∷ entries) tree) (passed (right-false (is_so executing entry.1) (has_handle entry.0 tree) other)) (handle_of (find awaits rest)) later)
      by_tests false so t awaited later = least-same (is_awaited executing entries tree) (is_awaited executing (entry ∷ entries) tree) (passed (left-false (is_so executing entry.1) (has_handle entry.0 tree) so)) (handle_of (find awaits rest)) later

  pub least-is-first : (table : Table) (found : Option ℕ) → Ascends table → IsLeast (is_awaited executing table tree) found → found ≡ handle_of (find awaits (bodies_in executing table))
  least-is-first table found sorted least = least-unique (is_awaited executing table tree) found (handle_of (find awaits (bodies_in executing table))) least (find-least table sorted)

  any-found : (bodies : List Body) → is_some (handle_of (find awaits bodies)) ≡ list_any awaits bodies
  any-found [] = refl
  any-found (body ∷ bodies) = by_test (awaits body) (any-found bodies)
    where
      by_test : (b : Bool) → is_some (handle_of (find awaits bodies)) ≡ list_any awaits bodies
          → is_some (handle_of (if b then Some body else find awaits bodies)) ≡ (b || list_any awaits bodies)
      by_test true later = refl
      by_test false later = later

  pub least-any : (table : Table) (found : Option ℕ) → Ascends table → IsLeast (is_awaited executing table tree) found → is_some found ≡ list_any awaits (bodies_in executing table)
  least-any table found sorted least = ap (λ (f : Option ℕ). is_some f) (least-is-first table found sorted least) ∙ any-found (bodies_in executing table)

-- the run of the least handle
pub least-run : (executing : Bool) (tree : AwaitTree ℕ) (table : Table) (handle : ℕ) → IsLeast (is_awaited executing table tree) (Some handle) → has_run executing table handle ≡ true
least-run executing tree table handle least = (both-true (has_run executing table handle) (has_handle handle tree) least.0).0
