-- Trees over handles, over what these stand for, and what is left of them.
use Rattle.std.proofs.Common.{◌≡◌, ◌-◌, ◌==◌, ◌<◌, ◌≤◌, ◌^◌, nat_lt, ◌||◌, ◌&&◌, ℕ, zero, suc, arith, Bool, true, false, List, [], ◌∷◌, Option, Some, None, refl, sym, ap, ◌∙◌, subst}
use Rattle.std.specs.Prelude.{if◌then◌else◌, IfSome, slice_get}
use Rattle.std.proofs.Math.Path.{fun_ext}
use Rattle.std.proofs.lemmas.Bool.Decides.{nat_tests}
use Rattle.journal_model.specs.declared.notification.NotificationId.{NotificationId}
use Rattle.journal_model.specs.declared.call.Call.{Call}
use Rattle.journal_model.specs.declared.options.SignalDelivery.{SignalDelivery}
use Rattle.journal_model.specs.Notification.{Arrival, cancel_id}
use Rattle.journal_model.specs.AwaitTree.{AwaitTree, levels_of, AwaitState, Pending, Succeeded, Failed, is_completed, is_succeeded, Combinator, Unknown, FirstCompleted, AllCompleted, FirstSucceededOrAllFailed, AllSucceededOrFirstFailed, AtLeast, asks_number, Single, Combined, AwaitTrees, no_trees, and_trees, many, await_state, child_states, is_awake, has_number, some_has_number}
use Rattle.journal_model.specs.Await.{awaited_tree, with_cancellation}
use Rattle.journal_model.specs.declared.options.ImplicitCancellationOption.{ImplicitCancellationOption}
use Rattle.journal_model.specs.declared.options.ImplicitCancellationOption.TheVariants.{Disabled, Enabled}
use Rattle.journal_model.specs.Spelling.{required_by}
use Rattle.journal_model.specs.History.{cancel_handle}
use Rattle.journal_model.specs.Request.{Request}
use Rattle.journal_model.specs.Refusal.{Refusal, AwaitTooDeep, UnsupportedAtLeast, first_refusal, refusal_of}
use Rattle.journal_model.specs.declared.future.TheConstants.{AWAIT_LEVELS}
use Rattle.journal_model.specs.Run.{Invocation}
use Rattle.journal_model.specs.PrunedTrees.{lowered, pruned, pruned_children, earlier_or_later, leaf_or_nothing, and_leaf, asking_of, only_leaves, only_children, tree_count}
use Rattle.journal_laws.proofs.AtLeast.{asked-most}
use Rattle.journal_laws.proofs.Leaving.{or-true_right}
use Rattle.journal_laws.proofs.Pruning.{pruned-awake}
use Rattle.protocol_types.specs.declared.feature.Feature.TheVariants as features
use Rattle.protocol_types.specs.Feature.{lacks_feature}
use Rattle.vm_request_laws.specs.Calls.{NumbersFit, AllNumbersFit}
use Rattle.attempt_model.specs.Children.{ChildrenOutcome, AllKnown, FirstUnknown, OneIsNoId, children_outcome, cancel_requests_for}
use Rattle.attempt_model.specs.Requests.{Commands, PutState, put_all}
use Rattle.attempt_model.specs.Results.{Slots, Ready, slot_in, slot_of, handle_state, Resolution, Awake, Asleep, ready_after, resolution_of}
use Rattle.attempt_model.specs.Machine.{Machine, AwaitsTree, is_cancelled, reply_where_asleep, reply_where_cancelled, reply_where_unknown, reply_to_children, reply_where_awake, reply_to_await, reply_unless_refused}
use Rattle.attempt_laws.proofs.Waking.{awake-map}
use Rattle.vm_request_laws.specs.Trees.{IdFits, IsSpoken, LeavesFit, AllLeavesFit, SlotsFit}
use Rattle.vm_request_laws.specs.AwaitedTrees.{HandlesFit, IsLeft, AwaitsLeave}

-- ---- what handles stand for

abbrev pub FitsIfSome : Option NotificationId → Type 0
FitsIfSome o = IfSome o IdFits

found_fits : (slots : Slots) (place : ℕ) → SlotsFit slots → FitsIfSome (slot_in (slice_get slots place))
found_fits [] place h = tt
found_fits (slot ∷ slots) zero h = h.0
found_fits (slot ∷ slots) (suc place) h = found_fits slots place h.1

pub chosen_fits : (b : Bool) (one other : Option NotificationId) → FitsIfSome one → FitsIfSome other → FitsIfSome (if b then one else other)
chosen_fits true one other first second = first
chosen_fits false one other first second = second

pub cancel_fits : FitsIfSome (Some cancel_id)
cancel_fits = omega arith

slot_fits : (slots : Slots) → SlotsFit slots → (handle : ℕ) → FitsIfSome (slot_of slots handle)
slot_fits slots h handle =
    chosen_fits (handle == cancel_handle) (Some cancel_id) (if nat_lt handle 17 then None else slot_in (slice_get slots (handle - 17))) cancel_fits
    (chosen_fits (nat_lt handle 17) None (slot_in (slice_get slots (handle - 17))) tt (found_fits slots (handle - 17) h))

-- a number that is lowered fits still
asked_fits : (combinator : Combinator) (count left : ℕ) → required_by combinator < 2 ^ 32 → required_by (asking_of combinator count left) < 2 ^ 32
asked_fits Unknown count left h = h
asked_fits FirstCompleted count left h = h
asked_fits AllCompleted count left h = h
asked_fits FirstSucceededOrAllFailed count left h = h
asked_fits AllSucceededOrFirstFailed count left h = h
asked_fits (AtLeast required) count left h = let most = asked-most required count left in omega (arith, most, h)

module _ {Leaf : Type 0} (stands : Leaf → Option NotificationId) (fits : (leaf : Leaf) → FitsIfSome (stands leaf)) where
  leaf_fits : (o : Option NotificationId) → FitsIfSome o → LeavesFit (leaf_or_nothing o)
  leaf_fits None h = (omega arith, tt)
  leaf_fits (Some id) h = h

  before_fits : (o : Option NotificationId) (trees : AwaitTrees NotificationId) → FitsIfSome o → AllLeavesFit trees → AllLeavesFit (and_leaf o trees)
  before_fits None trees h rest = rest
  before_fits (Some id) trees h rest = (h, rest)

  children_fit : (trees : AwaitTrees Leaf) → AllNumbersFit trees → AllLeavesFit (only_children stands trees)
  children_fit no_trees h = tt
  children_fit (and_trees (Single leaf) trees) h = before_fits (stands leaf) (only_children stands trees) (fits leaf) (children_fit trees h.1)
  children_fit (and_trees (Combined combinator children) trees) h = ((asked_fits combinator (tree_count children) (tree_count (only_children stands children)) h.0.0, children_fit children h.0.1), children_fit trees h.1)

  tree_fits : (tree : AwaitTree Leaf) → NumbersFit tree → LeavesFit (only_leaves stands tree)
  tree_fits (Single leaf) h = leaf_fits (stands leaf) (fits leaf)
  tree_fits (Combined combinator children) h = (asked_fits combinator (tree_count children) (tree_count (only_children stands children)) h.0, children_fit children h.1)

pub handles_fit : HandlesFit
handles_fit slots tree h numbers = tree_fits (slot_of slots) (slot_fits slots h) tree numbers

-- ---- the numbers of successes that are asked for

-- whether a node asks for one
asking_number : (combinator : Combinator) (count left : ℕ) → asks_number (asking_of combinator count left) ≡ asks_number combinator
asking_number Unknown count left = refl
asking_number FirstCompleted count left = refl
asking_number AllCompleted count left = refl
asking_number FirstSucceededOrAllFailed count left = refl
asking_number AllSucceededOrFirstFailed count left = refl
asking_number (AtLeast required) count left = refl

module _ {A B : Type 0} (stands : A → Option B) where
  leaf_number : (o : Option B) (trees : AwaitTrees B) → some_has_number (and_leaf o trees) ≡ some_has_number trees
  leaf_number None trees = refl
  leaf_number (Some leaf) trees = refl

  children_number : (trees : AwaitTrees A) → some_has_number (only_children stands trees) ≡ some_has_number trees
  children_number no_trees = refl
  children_number (and_trees (Single leaf) trees) = leaf_number (stands leaf) (only_children stands trees) ∙ children_number trees
  children_number (and_trees (Combined combinator children) trees) =
      (λ i. (asking_number combinator (tree_count children) (tree_count (only_children stands children)) i || children_number children i) || children_number trees i)

  nothing_number : (o : Option B) → has_number (leaf_or_nothing o) ≡ false
  nothing_number None = refl
  nothing_number (Some leaf) = refl

  only_number : (tree : AwaitTree A) → has_number (only_leaves stands tree) ≡ has_number tree
  only_number (Single leaf) = nothing_number (stands leaf)
  only_number (Combined combinator children) = (λ i. asking_number combinator (tree_count children) (tree_count (only_children stands children)) i || children_number children i)

-- where this holds of the one, it holds of the other
abbrev Implies : Bool → Bool → Type 0
Implies a b = a ≡ true → b ≡ true

either_implies : (a b c d : Bool) → Implies a c → Implies b d → Implies (a || b) (c || d)
either_implies true b c d f g e = ap (λ (x : Bool). x || d) (f refl)
either_implies false b true d f g e = refl
either_implies false b false d f g e = g e

lowered_number : (combinator : Combinator) (states : List AwaitState) → asks_number (lowered combinator states) ≡ asks_number combinator
lowered_number Unknown states = refl
lowered_number FirstCompleted states = refl
lowered_number AllCompleted states = refl
lowered_number FirstSucceededOrAllFailed states = refl
lowered_number AllSucceededOrFirstFailed states = refl
lowered_number (AtLeast required) states = refl

-- lowered by some, it still fits
less_fits : (k n : ℕ) → k < 2 ^ 32 → k - n < 2 ^ 32
less_fits k n small = omega (arith, small)

lowered_fits : (combinator : Combinator) (states : List AwaitState) → required_by combinator < 2 ^ 32 → required_by (lowered combinator states) < 2 ^ 32
lowered_fits Unknown states h = h
lowered_fits FirstCompleted states h = h
lowered_fits AllCompleted states h = h
lowered_fits FirstSucceededOrAllFailed states h = h
lowered_fits AllSucceededOrFirstFailed states h = h
lowered_fits (AtLeast required) states h = less_fits required (many is_succeeded states) h

module _ {A : Type 0} (states : A → AwaitState) where
  mutual
    left_number : (tree : AwaitTree A) → Implies (has_number (pruned tree states)) (has_number tree)
    left_number (Single leaf) e = e
    left_number (Combined combinator children) e =
        either_implies (asks_number (lowered combinator (child_states children states))) (some_has_number (pruned_children children states)) (asks_number combinator) (some_has_number children)
        (λ asks. sym (lowered_number combinator (child_states children states)) ∙ asks) (left_numbers children) e

    left_numbers : (trees : AwaitTrees A) → Implies (some_has_number (pruned_children trees states)) (some_has_number trees)
    left_numbers no_trees e = e
    left_numbers (and_trees tree trees) e = by_test (is_completed (await_state tree states)) (left_number tree) (left_numbers trees) e
      where
        by_test : (b : Bool) → Implies (has_number (pruned tree states)) (has_number tree) → Implies (some_has_number (pruned_children trees states)) (some_has_number trees)
            → Implies (some_has_number (if b then pruned_children trees states else and_trees (pruned tree states) (pruned_children trees states))) (has_number tree || some_has_number trees)
        by_test true own others e = or-true_right (has_number tree) (some_has_number trees) (others e)
        by_test false own others e =
            either_implies (has_number (pruned tree states)) (some_has_number (pruned_children trees states)) (has_number tree) (some_has_number trees) own others e

  mutual
    left_fits : (tree : AwaitTree A) → NumbersFit tree → NumbersFit (pruned tree states)
    left_fits (Single leaf) h = tt
    left_fits (Combined combinator children) h = (lowered_fits combinator (child_states children states) h.0, all_left_fit children h.1)

    all_left_fit : (trees : AwaitTrees A) → AllNumbersFit trees → AllNumbersFit (pruned_children trees states)
    all_left_fit no_trees h = tt
    all_left_fit (and_trees tree trees) h = by_test (is_completed (await_state tree states)) (left_fits tree h.0) (all_left_fit trees h.1)
      where
        by_test : (b : Bool) → NumbersFit (pruned tree states) → AllNumbersFit (pruned_children trees states)
            → AllNumbersFit (if b then pruned_children trees states else and_trees (pruned tree states) (pruned_children trees states))
        by_test true own others = others
        by_test false own others = (own, others)

-- what is awaited of a tree asks for a number where the tree does, and its numbers fit
pub awaited_number : (cancellation : ImplicitCancellationOption) (tree : AwaitTree ℕ) → has_number (awaited_tree cancellation tree) ≡ has_number tree
awaited_number Disabled tree = refl
awaited_number (Enabled calls sends) tree = by_tree tree
  where
    nothing_more : (b : Bool) → (b || false) ≡ b
    nothing_more true = refl
    nothing_more false = refl

    by_tree : (tree : AwaitTree ℕ) → has_number (with_cancellation tree) ≡ has_number tree
    by_tree (Combined FirstCompleted no_trees) = refl
    by_tree (Combined FirstCompleted (and_trees t ts)) = nothing_more (has_number t || some_has_number ts)
    by_tree (Combined Unknown ts) = nothing_more (some_has_number ts)
    by_tree (Combined AllCompleted ts) = nothing_more (some_has_number ts)
    by_tree (Combined FirstSucceededOrAllFailed ts) = nothing_more (some_has_number ts)
    by_tree (Combined AllSucceededOrFirstFailed ts) = nothing_more (some_has_number ts)
    by_tree (Combined (AtLeast required) ts) = refl
    by_tree (Single handle) = refl

pub awaited_fits : (cancellation : ImplicitCancellationOption) (tree : AwaitTree ℕ) → NumbersFit tree → NumbersFit (awaited_tree cancellation tree)
awaited_fits Disabled tree h = h
awaited_fits (Enabled calls sends) tree h = by_tree tree h
  where
    by_tree : (tree : AwaitTree ℕ) → NumbersFit tree → NumbersFit (with_cancellation tree)
    by_tree (Combined FirstCompleted no_trees) h = (h.0, (tt, tt))
    by_tree (Combined FirstCompleted (and_trees t ts)) h = (omega arith, (h, (tt, tt)))
    by_tree (Combined Unknown ts) h = (omega arith, (h, (tt, tt)))
    by_tree (Combined AllCompleted ts) h = (omega arith, (h, (tt, tt)))
    by_tree (Combined FirstSucceededOrAllFailed ts) h = (omega arith, (h, (tt, tt)))
    by_tree (Combined AllSucceededOrFirstFailed ts) h = (omega arith, (h, (tt, tt)))
    by_tree (Combined (AtLeast required) ts) h = (omega arith, (h, (tt, tt)))
    by_tree (Single handle) h = (omega arith, (tt, (tt, tt)))

-- ---- what is left

module _ {A : Type 0} (states : A → AwaitState) where
  -- what is left of a tree that is not awake is not awake by itself
  nothing_more : (leaf : A) → earlier_or_later states (λ other. Pending) leaf ≡ states leaf
  nothing_more leaf = by_state (states leaf)
    where
      by_state : (state : AwaitState) → (if is_completed state then state else Pending) ≡ state
      by_state Pending = refl
      by_state Succeeded = refl
      by_state Failed = refl

  left_asleep : (tree : AwaitTree A) → is_awake tree states ≡ false → is_awake (pruned tree states) (λ leaf. Pending) ≡ false
  left_asleep tree asleep = pruned-awake states (λ leaf. Pending) tree asleep ∙ ap (is_awake tree) (fun_ext nothing_more) ∙ asleep

-- what is left of a tree is not awake by itself, asks for a number only where the tree does, and its numbers fit
pub record IsAsleep (tree left : AwaitTree ℕ) : Type 0 where
  pub asleep : is_awake left (λ leaf. Pending) ≡ false
  pub number : Implies (has_number left) (has_number tree)
  pub fits : NumbersFit tree → NumbersFit left

resolved : (delivery : SignalDelivery) (slots : Slots) (tree left : AwaitTree ℕ) (queue : List Arrival) (ready waiting : Ready) → resolution_of delivery slots tree queue ready ≡ Asleep left waiting → IsAsleep tree left
resolved delivery slots tree left [] ready waiting e = by_awake (is_awake tree (handle_state slots ready)) refl e
  where
    by_awake : (b : Bool) → is_awake tree (handle_state slots ready) ≡ b → (if b then Awake [] ready else Asleep (pruned tree (handle_state slots ready)) ready) ≡ Asleep left waiting → IsAsleep tree left
    by_awake true is e = absurd cc
    by_awake false is e =
        let same : pruned tree (handle_state slots ready) ≡ left = cc in
        subst (IsAsleep tree) same (record {
          asleep = left_asleep (handle_state slots ready) tree is;
          number = left_number (handle_state slots ready) tree;
          fits = left_fits (handle_state slots ready) tree;
        })
resolved delivery slots tree left (arrival ∷ queue) ready waiting e =
    by_awake (is_awake tree (handle_state slots ready)) e (resolved delivery slots (pruned tree (handle_state slots ready)) left queue (ready_after delivery ready arrival) waiting)
  where
    by_awake : (b : Bool)
        → (if b then Awake (arrival ∷ queue) ready else resolution_of delivery slots (pruned tree (handle_state slots ready)) queue (ready_after delivery ready arrival)) ≡ Asleep left waiting
        → (resolution_of delivery slots (pruned tree (handle_state slots ready)) queue (ready_after delivery ready arrival) ≡ Asleep left waiting → IsAsleep (pruned tree (handle_state slots ready)) left)
        → IsAsleep tree left
    by_awake true e later = absurd cc
    by_awake false e later =
        let rest = later e in
        record {
          asleep = rest.asleep;
          number = λ some. left_number (handle_state slots ready) tree (rest.number some);
          fits = λ h. rest.fits (left_fits (handle_state slots ready) tree h);
        }

-- an await that is awake is answered, fails, or waits for a child
cancelled_never : (same : Request → Request → Bool) (given : Invocation) (m after : Machine) (left : AwaitTree ℕ) (requests : List Request) (put : Option PutState)
    → reply_where_cancelled same given m requests put ≡ AwaitsTree left after → ⊥
cancelled_never same given m after left requests None e = cc
cancelled_never same given m after left requests (Some p) e = cc

unknown_never : (child : ℕ) (m after : Machine) (left : AwaitTree ℕ) (commands : Commands) → reply_where_unknown child m commands ≡ AwaitsTree left after → ⊥
unknown_never child m after left [] e = cc
unknown_never child m after left (command ∷ commands) e = cc

children_never : (same : Request → Request → Bool) (given : Invocation) (m after : Machine) (left : AwaitTree ℕ) (outcome : ChildrenOutcome)
    → reply_to_children same given m outcome ≡ AwaitsTree left after → ⊥
children_never same given m after left (AllKnown queue ready) e =
    cancelled_never same given (record m { queue = queue; ready = ready }) after left (cancel_requests_for ready m.children)
    (put_all same (cancel_requests_for ready m.children) (record { left = m.left; written = m.written })) e
children_never same given m after left (FirstUnknown child ready) e = unknown_never child (record m { queue = []; ready = ready }) after left m.left e
children_never same given m after left OneIsNoId e = cc

awake_never : (same : Request → Request → Bool) (given : Invocation) (m after : Machine) (left : AwaitTree ℕ) (cancelled : Bool) → reply_where_awake same given m cancelled ≡ AwaitsTree left after → ⊥
awake_never same given m after left false e = cc
awake_never same given m after left true e = children_never same given m after left (children_outcome given.options.signal_delivery m.children m.queue m.ready) e

asleep_is : (tree left : AwaitTree ℕ) (m after : Machine) (commands : Commands) → reply_where_asleep tree m commands ≡ AwaitsTree left after → (tree ≡ left) × (m ≡ after)
asleep_is tree left m after [] e = (cc, cc)
asleep_is tree left m after (command ∷ commands) e = absurd cc

-- an await that is not refused asks for no number in a version in which none does
pub spoken : (version : ℕ) (tree : AwaitTree ℕ) → refusal_of version (Call.Await tree) ≡ None → IsSpoken version tree
spoken version tree = by_tests (nat_lt AWAIT_LEVELS (levels_of tree)) (has_number tree && lacks_feature version features.AtLeast)
  where
    by_tests : (deep b : Bool) → first_refusal ((deep, AwaitTooDeep) ∷ (b, UnsupportedAtLeast) ∷ []) ≡ None → b ≡ false
    by_tests true b e = absurd cc
    by_tests false true e = absurd cc
    by_tests false false e = refl

-- and is nested no deeper than what is awaited may be
shallow : (version : ℕ) (tree : AwaitTree ℕ) → refusal_of version (Call.Await tree) ≡ None → levels_of tree ≤ AWAIT_LEVELS
shallow version tree = by_test (nat_lt AWAIT_LEVELS (levels_of tree)) refl
  where
    by_test : (deep : Bool) → nat_lt AWAIT_LEVELS (levels_of tree) ≡ deep
        → first_refusal ((deep, AwaitTooDeep) ∷ (has_number tree && lacks_feature version features.AtLeast, UnsupportedAtLeast) ∷ []) ≡ None → levels_of tree ≤ AWAIT_LEVELS
    by_test true is e = absurd cc
    by_test false is e = grind (arith, nat_tests)

spoken_below : (a b lacks : Bool) → Implies a b → (b && lacks) ≡ false → (a && lacks) ≡ false
spoken_below true b lacks f e = ap (λ (x : Bool). x && lacks) (sym (f refl)) ∙ e
spoken_below false b lacks f e = refl

pub awaits_leave : AwaitsLeave
awaits_leave same_header given m after tree left e = by_refusal (refusal_of given.version (Call.Await tree)) refl e
  where
    by_resolution : IsSpoken given.version tree → levels_of tree ≤ AWAIT_LEVELS → (resolution : Resolution)
        → resolution_of given.options.signal_delivery m.slots (awaited_tree given.options.implicit_cancellation tree) m.queue m.ready ≡ resolution
        → reply_to_await (same_header (Call.Await tree)) given m resolution ≡ AwaitsTree left after → IsLeft given.version tree m after left
    by_resolution allowed few (Awake queue ready) is e =
        absurd (awake_never (same_header (Call.Await tree)) given (record m { queue = queue; ready = ready }) after left (is_cancelled given (record m { queue = queue; ready = ready })) e)
    by_resolution allowed few (Asleep some ready) is e =
        let both = asleep_is some left (record m { queue = []; ready = ready }) after m.left e in
        let rest = resolved given.options.signal_delivery m.slots (awaited_tree given.options.implicit_cancellation tree) left m.queue m.ready ready (is ∙ ap (λ (t : AwaitTree ℕ). Asleep t ready) both.0) in
        record {
          slots = sym (ap (λ (machine : Machine). machine.slots) both.1);
          asleep = awake-map (slot_of after.slots) (λ leaf. Pending) left ∙ rest.asleep;
          numbers = λ typed. rest.fits (awaited_fits given.options.implicit_cancellation tree (typed few));
          spoken = spoken_below (has_number (only_leaves (slot_of after.slots) left)) (has_number tree) (lacks_feature given.version features.AtLeast)
              (λ some_asks. sym (awaited_number given.options.implicit_cancellation tree) ∙ rest.number (sym (only_number (slot_of after.slots) left) ∙ some_asks)) allowed;
        }

    by_refusal : (o : Option Refusal) → refusal_of given.version (Call.Await tree) ≡ o → reply_unless_refused (same_header (Call.Await tree)) given m (Call.Await tree) o ≡ AwaitsTree left after
        → IsLeft given.version tree m after left
    by_refusal None is e =
        by_resolution (spoken given.version tree is) (shallow given.version tree is) (resolution_of given.options.signal_delivery m.slots (awaited_tree given.options.implicit_cancellation tree) m.queue m.ready) refl e
    by_refusal (Some refusal) is e = absurd cc
