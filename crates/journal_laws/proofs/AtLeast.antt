-- Nodes that ask for a number of successes: by counts, when leaves come or are left out, and pruned.
use Rattle.std.proofs.Common.{◌≡◌, refl, sym, ap, ap₂, ◌∙◌, ℕ, ◌+◌, ◌-◌, ◌≤◌, ◌⊎◌, inl, inr, arith, Bool, true, false, not, if◌then◌else◌, List, [], ◌∷◌}
use Rattle.std.specs.Prelude.{nat_le, nat_lt}
use Rattle.std.proofs.lemmas.Bool.Decides.{nat_tests}
use Rattle.journal_model.specs.PrunedTrees.{asked_of}
use Rattle.journal_model.specs.AwaitTree.{AwaitState, Pending, Succeeded, Failed, is_completed, is_succeeded, is_failed, many, at_least, at_least_state}

-- what children have come to before, and later, and what those have come to later that were pending before
pub data Goes : List AwaitState → List AwaitState → List AwaitState → Type 0 where
  none : Goes [] [] []
  stays : {before after left : List AwaitState} (state : AwaitState) → is_completed state ≡ true → Goes before after left → Goes (state ∷ before) (state ∷ after) left
  comes : {before after left : List AwaitState} (state : AwaitState) → Goes before after left → Goes (Pending ∷ before) (state ∷ after) (state ∷ left)

goes-succeeded : {before after left : List AwaitState} → Goes before after left → many is_succeeded after ≡ many is_succeeded before + many is_succeeded left
goes-succeeded none = refl
goes-succeeded (stays Pending done goes) = cc
goes-succeeded (stays Succeeded done goes) = omega (arith, goes-succeeded goes)
goes-succeeded (stays Failed done goes) = goes-succeeded goes
goes-succeeded (comes Pending goes) = goes-succeeded goes
goes-succeeded (comes Succeeded goes) = omega (arith, goes-succeeded goes)
goes-succeeded (comes Failed goes) = goes-succeeded goes

goes-hopeful : {before after left : List AwaitState} → Goes before after left → many (λ state. not (is_failed state)) after ≡ many is_succeeded before + many (λ state. not (is_failed state)) left
goes-hopeful none = refl
goes-hopeful (stays Pending done goes) = cc
goes-hopeful (stays Succeeded done goes) = omega (arith, goes-hopeful goes)
goes-hopeful (stays Failed done goes) = goes-hopeful goes
goes-hopeful (comes Pending goes) = omega (arith, goes-hopeful goes)
goes-hopeful (comes Succeeded goes) = omega (arith, goes-hopeful goes)
goes-hopeful (comes Failed goes) = goes-hopeful goes

less-le : (k s w : ℕ) → s ≤ k → nat_le (k - s) w ≡ nat_le k (s + w)
less-le k s w le = grind (arith, nat_tests)

less-lt : (k s w : ℕ) → s ≤ k → nat_lt w (k - s) ≡ nat_lt (s + w) k
less-lt k s w le = grind (arith, nat_tests)

below : (k s h : ℕ) → at_least k s h ≡ Pending → s ≤ k
below k s h waits = by_test (nat_le k s) refl waits
  where
    by_test : (b : Bool) → nat_le k s ≡ b → (if b then Succeeded else (if nat_lt h k then Failed else Pending)) ≡ Pending → s ≤ k
    by_test true e f = cc
    by_test false e f = grind (arith, nat_tests)

-- one that is pending, with a number lowered by each child that was left out for its success, comes to what the whole one does
pub pruned-at_least : (required : ℕ) {before after left : List AwaitState} → Goes before after left → at_least_state required before ≡ Pending
    → at_least_state (required - many is_succeeded before) left ≡ at_least_state required after
pruned-at_least required {before} {after} {left} goes waits =
    let le : many is_succeeded before ≤ required = below required (many is_succeeded before) (many (λ (state : AwaitState). not (is_failed state)) before) waits in
    ap₂ (λ (a b : Bool). if a then Succeeded else (if b then Failed else Pending))
    (less-le required (many is_succeeded before) (many is_succeeded left) le ∙ ap (nat_le required) (sym (goes-succeeded goes)))
    (less-lt required (many is_succeeded before) (many (λ (state : AwaitState). not (is_failed state)) left) le ∙ ap (λ (n : ℕ). nat_lt n required) (sym (goes-hopeful goes)))

-- and lowered twice it is lowered by all that have succeeded
pub lowered-twice : (required : ℕ) {before after left : List AwaitState} → Goes before after left
    → (required - many is_succeeded before) - many is_succeeded left ≡ required - many is_succeeded after
lowered-twice required goes = omega (arith, goes-succeeded goes)

-- each success is hopeful
pub successes-hope : (states : List AwaitState) → many is_succeeded states ≤ many (λ state. not (is_failed state)) states
successes-hope [] = omega (arith)
successes-hope (Pending ∷ states) = omega (arith, successes-hope states)
successes-hope (Succeeded ∷ states) = omega (arith, successes-hope states)
successes-hope (Failed ∷ states) = successes-hope states

-- what is asked for once some children are left out: at most what was, and less by no more than are left out
pub asked-most : (k count left : ℕ) → asked_of k count left ≤ k
asked-most k count left = grind (arith)

pub asked-least : (k count left : ℕ) → k - (count - left) ≤ asked_of k count left
asked-least k count left = grind (arith)

pub asked-same : (k count : ℕ) → asked_of k count count ≡ k
asked-same k count = grind (arith)

-- with more successes, less hope, and a number that is lowered by no more than the hope, a node keeps its state, unless that was pending
pub asked-stays : (k asked out s h t g : ℕ) → asked ≤ k → k - out ≤ asked → s ≤ t → g + out ≤ h → t ≤ g → (at_least k s h ≡ Pending) ⊎ (at_least asked t g ≡ at_least k s h)
asked-stays k asked out s h t g most least more less hope = by_tests (nat_le k s) refl (nat_lt h k) refl
  where
    by_tests : (a : Bool) → nat_le k s ≡ a → (b : Bool) → nat_lt h k ≡ b
        → ((if a then Succeeded else (if b then Failed else Pending)) ≡ Pending) ⊎ (at_least asked t g ≡ (if a then Succeeded else (if b then Failed else Pending)))
    by_tests true e b f =
        let there : nat_le asked t ≡ true = grind (arith, nat_tests) in
        inr (ap (λ (x : Bool). if x then Succeeded else (if nat_lt g asked then Failed else Pending)) there)
    by_tests false e true f =
        let few : nat_le asked t ≡ false = grind (arith, nat_tests) in
        let lost : nat_lt g asked ≡ true = grind (arith, nat_tests) in
        inr (ap₂ (λ (x y : Bool). if x then Succeeded else (if y then Failed else Pending)) few lost)
    by_tests false e false f = inl refl
