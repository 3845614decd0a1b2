-- A pass over nodes finds the leaves of an id one by one, and tells them.
use Rattle.std.proofs.Common.{◌≡◌, refl, sym, ap, ◌∙◌, subst, ℕ, zero, suc, ◌+◌, ◌<◌, ◌≤◌, arith, Bool, true, false, if◌then◌else◌, List, [], ◌∷◌, ◌++◌, append-nil, length, map, take, drop, Some, inl, inr, get_or, slice_get, slice_set}
use Rattle.std.proofs.lemmas.List.{take_all, take-append-drop}
use Rattle.journal_model.specs.AwaitTree.{AwaitState, is_completed}
use Rattle.vm_flat_trees.specs.declared.node.Kind.{Kind}
use Rattle.vm_flat_trees.specs.declared.node.Kind.TheVariants as kinds
use Rattle.vm_flat_trees.specs.declared.node.FlatNode.{FlatNode}
use Rattle.vm_flat_trees.specs.LeafDelivery.{Sleeps}
use Rattle.vm_flat_trees.specs.NotificationDelivery.{CanHearOf, Delivers, IsLeafAt, TellsOne}
use Rattle.vm_flat_trees.specs.Places.{places_before, places_where}
use Rattle.vm_flat_trees.specs.ChildCounts.{bare, come_to}
use Rattle.vm_flat_trees.proofs.Finding.{where-append, where-next, take-length}
use Rattle.vm_flat_trees.proofs.Sending.{Sending, none-sent, sleeps-on, leaf-on, fits-on, sends-on, wakes-then, all-sent}
use Rattle.vm_awaits.specs.Ids.{passes}

abbrev kind_in : FlatNode → Kind
kind_in node = node.kind

-- what is told stays of its kind
kinds-bare : (nodes : List FlatNode) → map kind_in (map bare nodes) ≡ map kind_in nodes
kinds-bare [] = refl
kinds-bare (node ∷ nodes) = ap (λ (ks : List Kind). node.kind ∷ ks) (kinds-bare nodes)

kinds-set : (nodes : List FlatNode) (place : ℕ) (node : FlatNode) (state : AwaitState) → slice_get nodes place ≡ Some node → map kind_in (slice_set nodes place (come_to state node)) ≡ map kind_in nodes
kinds-set [] place node state there = refl
kinds-set (one ∷ nodes) zero node state there = let is : one ≡ node = cc in ap (λ (n : FlatNode). n.kind ∷ map kind_in nodes) (sym is)
kinds-set (one ∷ nodes) (suc place) node state there = ap (λ (ks : List Kind). one.kind ∷ ks) (kinds-set nodes place node state there)

kinds-told : (state : AwaitState) (nodes : List FlatNode) (place : ℕ) (after : List FlatNode) (wakes : Bool) (more : ℕ) → TellsOne state nodes place after wakes more → map kind_in after ≡ map kind_in nodes
kinds-told state nodes place after wakes more (inl over) = ap (map kind_in) over.same
kinds-told state nodes place after wakes more (inr comes) =
    sym (kinds-bare after) ∙ ap (map kind_in) (comes.climbs.bare_is comes.node comes.there) ∙ kinds-bare (slice_set nodes place (come_to state comes.node))
    ∙ kinds-set nodes place comes.node state comes.there

kind-there : (nodes : List FlatNode) (place : ℕ) (other : FlatNode) → get_or (map kind_in nodes) place other.kind ≡ (get_or nodes place other).kind
kind-there [] zero other = refl
kind-there [] (suc place) other = refl
kind-there (node ∷ nodes) zero other = refl
kind-there (node ∷ nodes) (suc place) other = kind-there nodes place other

before-none : (test : ℕ → Bool) (place : ℕ) (kind : Kind) → places_before test place kind [] ≡ (if passes test kind then place ∷ [] else [])
before-none test place (kinds.Leaf handle) = refl
before-none test place kinds.Unknown = refl
before-none test place kinds.FirstCompleted = refl
before-none test place kinds.AllCompleted = refl
before-none test place kinds.FirstSucceededOrAllFailed = refl
before-none test place kinds.AllSucceededOrFirstFailed = refl
before-none test place (kinds.AtLeast required) = refl

get-middle : (xs rest : List ℕ) (y : ℕ) → slice_get ((xs ++ y ∷ []) ++ rest) (length xs) ≡ Some y
get-middle [] rest y = refl
get-middle (x ∷ xs) rest y = get-middle xs rest y

few-before : (test : ℕ → Bool) (place : ℕ) (kind : Kind) (places : List ℕ) → length (places_before test place kind places) ≤ length places + 1
few-before test place (kinds.Leaf handle) places = by_test (test handle)
  where
    by_test : (b : Bool) → length (if b then place ∷ places else places) ≤ length places + 1
    by_test true = omega arith
    by_test false = omega arith
few-before test place kinds.Unknown places = omega arith
few-before test place kinds.FirstCompleted places = omega arith
few-before test place kinds.AllCompleted places = omega arith
few-before test place kinds.FirstSucceededOrAllFailed places = omega arith
few-before test place kinds.AllSucceededOrFirstFailed places = omega arith
few-before test place (kinds.AtLeast required) places = omega arith

few-places : (test : ℕ → Bool) (place : ℕ) (nodes : List FlatNode) → length (places_where test place nodes) ≤ length nodes
few-places test place [] = omega arith
few-places test place (node ∷ nodes) = omega (arith, few-before test place node.kind (places_where test (place + 1) nodes), few-places test (place + 1) nodes)

module _ (test : ℕ → Bool) (before : List FlatNode) (state : AwaitState) (done : is_completed state ≡ true) where
  abbrev pub places : List ℕ
  places = places_where test 0 before

  -- how many were found before this place
  abbrev pub many : ℕ → ℕ
  many place = length (places_where test 0 (take place before))

  pub record Passing (place : ℕ) (nodes : List FlatNode) (visits : ℕ) : Type 0 where
    pub sending : Sending before places state done (many place) nodes visits
    pub kinds : map kind_in nodes ≡ map kind_in before

  module _ (of : CanHearOf before (places_where test 0 before)) where
    pub begins-pass : Passing 0 before 0
    begins-pass = record { sending = none-sent before places state done of; kinds = refl }

    -- the node whose turn it is
    was : (place : ℕ) (nodes : List FlatNode) (visits : ℕ) (other : FlatNode) → Passing place nodes visits → (get_or before place other).kind ≡ (get_or nodes place other).kind
    was place nodes visits other passing =
        sym (kind-there before place other) ∙ ap (λ (ks : List Kind). get_or ks place other.kind) (sym passing.kinds) ∙ kind-there nodes place other

    found-next : (place : ℕ) (nodes : List FlatNode) (visits : ℕ) (other : FlatNode) (passed : Bool) → Passing place nodes visits → place < length before → passes test (get_or nodes place other).kind ≡ passed
        → places_where test 0 (take (place + 1) before) ≡ places_where test 0 (take place before) ++ (if passed then place ∷ [] else [])
    found-next place nodes visits other passed passing within is =
        where-next test before place (get_or before place other) other within refl
        ∙ ap (λ (ps : List ℕ). places_where test 0 (take place before) ++ ps)
        (before-none test place (get_or before place other).kind
        ∙ ap (λ (b : Bool). if b then place ∷ [] else []) (ap (passes test) (was place nodes visits other passing) ∙ is))

    pub here : (place : ℕ) (nodes : List FlatNode) (visits : ℕ) (other : FlatNode) → Passing place nodes visits → place < length before → passes test (get_or nodes place other).kind ≡ true
        → slice_get places (many place) ≡ Some place
    here place nodes visits other passing within is =
        ap (λ (ps : List ℕ). slice_get ps (many place))
        (ap (places_where test 0) (sym (take-append-drop (place + 1) before))
        ∙ where-append test 0 (take (place + 1) before) (drop (place + 1) before) (length (take (place + 1) before)) (omega arith)
        ∙ ap (λ (ps : List ℕ). ps ++ places_where test (length (take (place + 1) before)) (drop (place + 1) before)) (found-next place nodes visits other true passing within is))
        ∙ get-middle (places_where test 0 (take place before)) (places_where test (length (take (place + 1) before)) (drop (place + 1) before)) place

    one-more : (place : ℕ) (nodes : List FlatNode) (visits : ℕ) (other : FlatNode) → Passing place nodes visits → place < length before → passes test (get_or nodes place other).kind ≡ true
        → many (place + 1) ≡ many place + 1
    one-more place nodes visits other passing within is =
        ap length (found-next place nodes visits other true passing within is) ∙ last (places_where test 0 (take place before))
      where
        last : (xs : List ℕ) → length (xs ++ place ∷ []) ≡ length xs + 1
        last [] = refl
        last (x ∷ xs) = omega (arith, last xs)

    few-found : (place : ℕ) → place < length before → many place ≤ place
    few-found place within = omega (arith, few-places test 0 (take place before), take-length before place (omega (arith, within)))

    -- it isn't a leaf of the id
    pub goes-by : (place next : ℕ) (nodes : List FlatNode) (visits : ℕ) (other : FlatNode) → Passing place nodes visits → place < length before → passes test (get_or nodes place other).kind ≡ false
        → next ≡ place + 1 → Passing next nodes visits
    goes-by place next nodes visits other passing within is on =
        rw on (record {
          sending = subst (λ (n : ℕ). Sending before places state done n nodes visits)
              (sym (ap length (found-next place nodes visits other false passing within is ∙ append-nil (places_where test 0 (take place before))))) passing.sending;
          kinds = passing.kinds;
        })

    pub sleeps-here : (place : ℕ) (nodes : List FlatNode) (visits : ℕ) → Passing place nodes visits → Sleeps nodes
    sleeps-here place nodes visits passing = sleeps-on before places state done of (many place) nodes visits passing.sending

    pub leaf-here : (place : ℕ) (nodes : List FlatNode) (visits : ℕ) (other : FlatNode) → Passing place nodes visits → place < length before → passes test (get_or nodes place other).kind ≡ true → IsLeafAt nodes place
    leaf-here place nodes visits other passing within is =
        leaf-on before places state done of (many place) place nodes visits passing.sending (here place nodes visits other passing within is)

    module _ (place : ℕ) (nodes : List FlatNode) (visits : ℕ) (other : FlatNode) (passing : Passing place nodes visits) (within : place < length before) (is : passes test (get_or nodes place other).kind ≡ true)
        (after : List FlatNode) (wakes : Bool) (more : ℕ) (tells : TellsOne state nodes place after wakes more) where
      pub fits-here : place < 18446744073709551615 → visits + more < 340282366920938463463374607431768211456
      fits-here small =
          let sum = fits-on before places state done of nodes after (many place) place visits wakes more passing.sending tells (omega (arith, small)) in
          let few = few-found place within in
          omega (arith, sum, few, small)

      pub goes-on : (next : ℕ) → place < 18446744073709551616 → wakes ≡ false → next ≡ place + 1 → Passing next after (visits + more)
      goes-on next small asleep on =
          rw on (record {
            sending = sends-on before places state done of (many place) (many (place + 1)) place nodes visits after wakes more passing.sending
                (here place nodes visits other passing within is) small tells asleep (one-more place nodes visits other passing within is);
            kinds = kinds-told state nodes place after wakes more tells ∙ passing.kinds;
          })

      pub wakes-here : wakes ≡ true → Delivers before places state after true (visits + more)
      wakes-here awake =
          wakes-then before places state done of (many place) place nodes visits after wakes more passing.sending (here place nodes visits other passing within is) tells awake

    pub all-passed : (place : ℕ) (nodes : List FlatNode) (visits : ℕ) → Passing place nodes visits → length before ≤ place → Delivers before places state nodes false visits
    all-passed place nodes visits passing end =
        all-sent before places state done of (many place) nodes visits passing.sending
        (omega (arith, ap (λ (ns : List FlatNode). length (places_where test 0 ns)) (take_all place before end)))
