-- A tally with one child more, and what it says of the node.
use Rattle.std.proofs.Common.{◌≡◌, ◌==◌, ℕ, ◌+◌, ◌-◌, Bool, true, false, not, ◌||◌, ◌&&◌, List, [], ◌∷◌, ◌++◌, take, Some, refl, sym, ap, ap₂, ◌∙◌, arith}
use Rattle.std.specs.Prelude.{nat_le, nat_lt, if◌then◌else◌}
use Rattle.std.proofs.lemmas.Bool.{eqb-true, eqb-false}
use Rattle.std.proofs.lemmas.Bool.Decides.{nat_tests}
use Rattle.std.specs.List.{list_any, list_all, slice_get}
use Rattle.std.proofs.lemmas.List.Folds.{list_any-append, list_all-append}
use Rattle.std.proofs.lemmas.List.{take_more}
use Rattle.std.proofs.lemmas.Option.{slice_get_within, get_or_from_slice_get}
use Rattle.journal_model.specs.AwaitTree as Trees
use Rattle.protocol_trees.specs.Shape.{state_meant, shape_combinator}
use Rattle.protocol_trees.specs.Tally.{first_ended_state, less, required_of, added, state_in, has_ended_in, Tallies}
use Rattle.protocol_trees.specs.declared.tree.AwaitState.{AwaitState}
use Rattle.protocol_trees.specs.declared.tree.AwaitState.TheVariants as states
use Rattle.protocol_trees.specs.declared.tree.AwaitTreeShape.{AwaitTreeShape}
use Rattle.protocol_trees.specs.declared.tree.AwaitTreeShape.TheVariants as shapes
use Rattle.protocol_trees.specs.declared.tally.Tally.{Tally}
use Rattle.protocol_trees.specs.declared.tally.Looked.{Looked}

pub one_more : {X : Type 0} (xs : List X) (i : ℕ) (x : X) → slice_get xs i ≡ Some x → take (i + 1) xs ≡ take i xs ++ x ∷ []
one_more xs i x e = take_more xs i x (slice_get_within xs i x e) ∙ ap (λ y. take i xs ++ y ∷ []) (get_or_from_slice_get xs i x x e)

pub or_nothing : (b : Bool) → b ≡ (b || false)
or_nothing true = refl
or_nothing false = refl

and_nothing : (b : Bool) → b ≡ (b && true)
and_nothing true = refl
and_nothing false = refl

any_more : {X : Type 0} (test : X → Bool) (xs : List X) (x : X) (b : Bool) → b ≡ list_any test xs → (b || test x) ≡ list_any test (xs ++ x ∷ [])
any_more test xs x b e = ap (λ c. c || test x) e ∙ ap (λ c. list_any test xs || c) (or_nothing (test x)) ∙ sym (list_any-append test xs (x ∷ []))

all_more : {X : Type 0} (test : X → Bool) (xs : List X) (x : X) (b : Bool) → b ≡ list_all test xs → (b && test x) ≡ list_all test (xs ++ x ∷ [])
all_more test xs x b e = ap (λ c. c && test x) e ∙ ap (λ c. list_all test xs && c) (and_nothing (test x)) ∙ sym (list_all-append test xs (x ∷ []))

next_alone : (next : AwaitState) → state_meant next ≡ Trees.first_completed (state_meant next ∷ [])
next_alone states.Pending = refl
next_alone states.Succeeded = refl
next_alone states.Failed = refl

first_more : (found : List Trees.AwaitState) (first next : AwaitState) → state_meant first ≡ Trees.first_completed found → state_meant (first_ended_state first next) ≡ Trees.first_completed (found ++ state_meant next ∷ [])
first_more [] states.Pending next e = next_alone next
first_more [] states.Succeeded next e = absurd cc
first_more [] states.Failed next e = absurd cc
first_more (Trees.Pending ∷ found) first next e = first_more found first next e
first_more (Trees.Succeeded ∷ found) states.Pending next e = absurd cc
first_more (Trees.Succeeded ∷ found) states.Succeeded next e = refl
first_more (Trees.Succeeded ∷ found) states.Failed next e = absurd cc
first_more (Trees.Failed ∷ found) states.Pending next e = absurd cc
first_more (Trees.Failed ∷ found) states.Succeeded next e = absurd cc
first_more (Trees.Failed ∷ found) states.Failed next e = refl

swapped : (a b c d : Bool) → ((a || b) || (c || d)) ≡ ((a || c) || (b || d))
swapped true b c d = refl
swapped false true true d = refl
swapped false true false d = refl
swapped false false c d = refl

many_last : (test : Trees.AwaitState → Bool) (xs : List Trees.AwaitState) (x : Trees.AwaitState) → Trees.many test (xs ++ x ∷ []) ≡ (if test x then Trees.many test xs + 1 else Trees.many test xs)
many_last test [] x = refl
many_last test (y ∷ xs) x = by_tests (test y) (test x) (many_last test xs x)
  where
    by_tests : (a b : Bool) → Trees.many test (xs ++ x ∷ []) ≡ (if b then Trees.many test xs + 1 else Trees.many test xs)
        → (if a then Trees.many test (xs ++ x ∷ []) + 1 else Trees.many test (xs ++ x ∷ []))
        ≡ (if b then (if a then Trees.many test xs + 1 else Trees.many test xs) + 1 else (if a then Trees.many test xs + 1 else Trees.many test xs))
    by_tests true true e = ap (λ (m : ℕ). m + 1) e
    by_tests true false e = ap (λ (m : ℕ). m + 1) e
    by_tests false true e = e
    by_tests false false e = e

-- one that passes the test is missing no more
less_one : (k m : ℕ) (b : Bool) → less (k - m) b ≡ k - (if b then m + 1 else m)
less_one k m true = omega arith
less_one k m false = refl

many_more : (test : Trees.AwaitState → Bool) (xs : List Trees.AwaitState) (x : Trees.AwaitState) (k n : ℕ) → n ≡ k - Trees.many test xs → less n (test x) ≡ k - Trees.many test (xs ++ x ∷ [])
many_more test xs x k n e =
    ap (λ (m : ℕ). less m (test x)) e ∙ less_one k (Trees.many test xs) (test x) ∙ ap (λ (m : ℕ). k - m) (sym (many_last test xs x))

pub tallied : (shape : AwaitTreeShape) (tally : Tally) (found : List Trees.AwaitState) (below : Bool) (one : Looked) → Tallies shape tally found below → Tallies shape (added shape tally one) (found ++ state_meant one.state ∷ []) (below || one.has_ended)
tallied shape tally found below one h = record {
  first = first_more found tally.first_completed one.state h.first;
  one_succeeded = any_more Trees.is_succeeded found (state_meant one.state) tally.is_one_succeeded h.one_succeeded;
  one_failed = any_more Trees.is_failed found (state_meant one.state) tally.is_one_failed h.one_failed;
  all_completed = all_more Trees.is_completed found (state_meant one.state) tally.are_all_completed h.all_completed;
  all_succeeded = all_more Trees.is_succeeded found (state_meant one.state) tally.are_all_succeeded h.all_succeeded;
  all_failed = all_more Trees.is_failed found (state_meant one.state) tally.are_all_failed h.all_failed;
  missing = many_more Trees.is_succeeded found (state_meant one.state) (required_of shape) tally.missing h.missing;
  lacking = many_more (λ state. not (Trees.is_failed state)) found (state_meant one.state) (required_of shape) tally.lacking h.lacking;
  ended =
      ap (λ b. b || (Trees.ends_at_once (shape_combinator shape) (state_meant one.state) || one.has_ended)) h.ended
      ∙ swapped (list_any (Trees.ends_at_once (shape_combinator shape)) found) below (Trees.ends_at_once (shape_combinator shape) (state_meant one.state)) one.has_ended
      ∙ ap (λ b. b || (below || one.has_ended)) (any_more (Trees.ends_at_once (shape_combinator shape)) found (state_meant one.state) _ refl);
}

-- ---- the state of a node

one_test : (b : Bool) → state_meant (if b then states.Succeeded else states.Pending) ≡ (if b then Trees.Succeeded else Trees.Pending)
one_test true = refl
one_test false = refl

succeeded_or_failed : (a b : Bool) → state_meant (if a then states.Succeeded else (if b then states.Failed else states.Pending)) ≡ (if a then Trees.Succeeded else (if b then Trees.Failed else Trees.Pending))
succeeded_or_failed true b = refl
succeeded_or_failed false true = refl
succeeded_or_failed false false = refl

failed_or_succeeded : (a b : Bool) → state_meant (if a then states.Failed else (if b then states.Succeeded else states.Pending)) ≡ (if a then Trees.Failed else (if b then Trees.Succeeded else Trees.Pending))
failed_or_succeeded true b = refl
failed_or_succeeded false true = refl
failed_or_succeeded false false = refl

pub state_of_node : (shape : AwaitTreeShape) (tally : Tally) (found : List Trees.AwaitState) (below : Bool) → Tallies shape tally found below → state_meant (state_in shape tally) ≡ Trees.combined_state (shape_combinator shape) found
state_of_node shapes.Single tally found below h = h.first
state_of_node shapes.FirstCompleted tally found below h = h.first
state_of_node shapes.Unknown tally found below h = h.first
state_of_node shapes.AllCompleted tally found below h =
    one_test tally.are_all_completed ∙ ap (λ b. if b then Trees.Succeeded else Trees.Pending) h.all_completed
state_of_node shapes.FirstSucceededOrAllFailed tally found below h =
    succeeded_or_failed tally.is_one_succeeded tally.are_all_failed
    ∙ ap (λ a. if a then Trees.Succeeded else (if tally.are_all_failed then Trees.Failed else Trees.Pending)) h.one_succeeded
    ∙ ap (λ b. if list_any Trees.is_succeeded found then Trees.Succeeded else (if b then Trees.Failed else Trees.Pending)) h.all_failed
state_of_node shapes.AllSucceededOrFirstFailed tally found below h =
    failed_or_succeeded tally.is_one_failed tally.are_all_succeeded
    ∙ ap (λ a. if a then Trees.Failed else (if tally.are_all_succeeded then Trees.Succeeded else Trees.Pending)) h.one_failed
    ∙ ap (λ b. if list_any Trees.is_failed found then Trees.Failed else (if b then Trees.Succeeded else Trees.Pending)) h.all_succeeded
state_of_node (shapes.AtLeast required) tally found below h =
    by_tests (tally.missing == 0) refl (tally.lacking == 0) refl
  where
    by_tests : (a : Bool) → (tally.missing == 0) ≡ a → (b : Bool) → (tally.lacking == 0) ≡ b
        → state_meant (if a then states.Succeeded else (if b then states.Pending else states.Failed)) ≡ Trees.at_least_state required found
    by_tests true e b f =
        let enough : nat_le required (Trees.many Trees.is_succeeded found) ≡ true = let none = eqb-true tally.missing 0 e in let is = h.missing in grind (arith, nat_tests) in
        rw enough refl
    by_tests false e true f =
        let few : nat_le required (Trees.many Trees.is_succeeded found) ≡ false = let some = eqb-false tally.missing 0 e in let is = h.missing in grind (arith, nat_tests) in
        let hope : nat_lt (Trees.many (λ state. not (Trees.is_failed state)) found) required ≡ false = let none = eqb-true tally.lacking 0 f in let is = h.lacking in grind (arith, nat_tests) in
        rw (few, hope) refl
    by_tests false e false f =
        let few : nat_le required (Trees.many Trees.is_succeeded found) ≡ false = let some = eqb-false tally.missing 0 e in let is = h.missing in grind (arith, nat_tests) in
        let lost : nat_lt (Trees.many (λ state. not (Trees.is_failed state)) found) required ≡ true = let some = eqb-false tally.lacking 0 f in let is = h.lacking in grind (arith, nat_tests) in
        rw (few, lost) refl

never_ends : (required : ℕ) (found : List Trees.AwaitState) → list_any (Trees.ends_at_once (Trees.AtLeast required)) found ≡ false
never_ends required [] = refl
never_ends required (x ∷ found) = never_ends required found

-- a node that asks for a number has ended as soon as it is not pending
pub at_least_ended : (required : ℕ) (tally : Tally) (found : List Trees.AwaitState) (below : Bool) → Tallies (shapes.AtLeast required) tally found below
    → has_ended_in (shapes.AtLeast required) tally ≡ (Trees.has_ended (Trees.AtLeast required) found || below)
at_least_ended required tally found below h =
    ap₂ (λ (a b : Bool). a || b) (ap Trees.is_completed (state_of_node (shapes.AtLeast required) tally found below h))
    (h.ended ∙ ap (λ (a : Bool). a || below) (never_ends required found))
