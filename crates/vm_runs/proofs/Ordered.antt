-- Keys in their order.
use Rattle.std.proofs.Common.{◌≡◌, refl, sym, ap, ◌∙◌, subst, ℕ, ◌<◌, ◌==◌, arith, Bool, true, false, if◌then◌else◌, List, [], ◌∷◌, Option, Some, None, Less, Equal, Greater, eqb-true, eq-eqb}
use Rattle.std.specs.Ordering.{MatchOrdering, match_ordering, nat_cmp, is_eq}
use Rattle.std.specs.Cmp.{ranks, nat_cmp_is}
use Rattle.std.specs.declared.cmp.Ordering.{Ordering}
use Rattle.std.specs.Map.{lookup}
use Rattle.std.specs.BTreeMap.{insert_entry, is_at}

pub at-same : (a b : ℕ) → is_at (nat_cmp a) b ≡ true → a ≡ b
at-same a b = by_rank (nat_cmp a b) (ranks a b)
  where
    by_rank : (o : Ordering) → MatchOrdering o (a < b) (a ≡ b) (b < a) → is_eq o ≡ true → a ≡ b
    by_rank Less h e = cc
    by_rank Equal h e = h
    by_rank Greater h e = cc

pub at-own : (a : ℕ) → is_at (nat_cmp a) a ≡ true
at-own a = by_rank (nat_cmp a a) (ranks a a)
  where
    by_rank : (o : Ordering) → MatchOrdering o (a < a) (a ≡ a) (a < a) → is_eq o ≡ true
    by_rank Less h = absurd (omega (arith, h))
    by_rank Equal h = refl
    by_rank Greater h = absurd (omega (arith, h))

pub at-not : (a b : ℕ) → is_at (nat_cmp a) b ≡ false → a ≡ b → ⊥
at-not a b e same = let own : is_at (nat_cmp a) b ≡ true = subst (λ (n : ℕ). is_at (nat_cmp a) n ≡ true) same (at-own a) in cc

pub less : (a b : ℕ) → nat_cmp a b ≡ Less → a < b
less a b e = subst (λ (o : Ordering). MatchOrdering o (a < b) (a ≡ b) (b < a)) e (ranks a b)

pub greater : (a b : ℕ) → b < a → nat_cmp a b ≡ Greater
greater a b h = sym (nat_cmp_is a b Greater h)

pub at-eq : (a b : ℕ) → is_at (nat_cmp a) b ≡ (a == b)
at-eq a b = by_tests (is_at (nat_cmp a) b) (a == b) refl refl
  where
    by_tests : (s t : Bool) → is_at (nat_cmp a) b ≡ s → (a == b) ≡ t → s ≡ t
    by_tests true true e f = refl
    by_tests true false e f = let own : (a == b) ≡ true = eq-eqb a b (at-same a b e) in cc
    by_tests false true e f = absurd (at-not a b e (eqb-true a b f))
    by_tests false false e f = refl

-- what is put in is found by its key, and all else as before
pub put-found : {X : Type 0} (key : ℕ) (value : X) (k : ℕ) (entries : List (ℕ × X))
    → lookup (is_at (nat_cmp k)) (insert_entry nat_cmp entries key value) ≡ (if k == key then Some value else lookup (is_at (nat_cmp k)) entries)
put-found key value k [] = ap (λ (b : Bool). if b then Some value else None) (at-eq k key)
put-found {X} key value k (entry ∷ entries) = by_rank (nat_cmp key entry.0) (ranks key entry.0) (put-found key value k entries)
  where
    test : ℕ → Bool
    test = is_at (nat_cmp k)

    found : Option X
    found = lookup test entries

    by_at : (b : Bool) → test entry.0 ≡ b → entry.0 < key → (if b then Some entry.1 else (if k == key then Some value else found)) ≡ (if k == key then Some value else (if b then Some entry.1 else found))
    by_at true e more =
        let same : k ≡ entry.0 = at-same k entry.0 e in
        let apart : (k == key) ≡ false = sym (at-eq k key) ∙ other (is_at (nat_cmp k) key) refl (omega (arith, same, more)) in
        rw apart refl
      where
        other : (t : Bool) → is_at (nat_cmp k) key ≡ t → k < key → is_at (nat_cmp k) key ≡ false
        other true f less = let wrong : k ≡ key = at-same k key f in absurd (omega (arith, wrong, less))
        other false f less = f
    by_at false e more = refl

    by_rank : (o : Ordering) → MatchOrdering o (key < entry.0) (key ≡ entry.0) (entry.0 < key) → lookup test (insert_entry nat_cmp entries key value) ≡ (if k == key then Some value else found)
        → lookup test (match_ordering o ((key, value) ∷ entry ∷ entries) ((entry.0, value) ∷ entries) (entry ∷ insert_entry nat_cmp entries key value)) ≡ (if k == key then Some value else lookup test (entry ∷ entries))
    by_rank Less h later = ap (λ (b : Bool). if b then Some value else lookup test (entry ∷ entries)) (at-eq k key)
    by_rank Equal h later =
        let same : test entry.0 ≡ (k == key) = ap test (sym h) ∙ at-eq k key in
        rw same (by_key (k == key))
      where
        by_key : (b : Bool) → (if b then Some value else found) ≡ (if b then Some value else (if b then Some entry.1 else found))
        by_key true = refl
        by_key false = refl
    by_rank Greater h later = ap (λ (o : Option X). if test entry.0 then Some entry.1 else o) later ∙ by_at (test entry.0) refl h
