-- A tree that is not awake, pruned by what has come, is awake under what comes later exactly where the whole tree is under both.
use Rattle.std.proofs.Common.{◌≡◌, refl, sym, ap, ap₂, ◌∙◌, Bool, true, false, ◌||◌, ◌&&◌, if◌then◌else◌, List, [], ◌∷◌, ◌⊎◌, inl, inr}
use Rattle.std.specs.List.{list_any, list_all}
use Rattle.journal_model.specs.AwaitTree.{AwaitState, Pending, Succeeded, Failed, is_completed, is_succeeded, is_failed, Combinator, Unknown, FirstCompleted, AllCompleted, FirstSucceededOrAllFailed, AllSucceededOrFirstFailed, AtLeast, AwaitTree, Single, Combined, AwaitTrees, no_trees, and_trees, first_completed, combined_state, at_least_state, await_state, child_states, ends_at_once, has_ended, has_ended_node, some_has_ended_node, is_awake}
use Rattle.journal_model.specs.PrunedTrees.{lowered, pruned, pruned_children, earlier_or_later}
use Rattle.journal_laws.proofs.AtLeast.{Goes, none, stays, comes, pruned-at_least, lowered-twice}
use Rattle.journal_laws.proofs.Leaving.{or-false, and-true, first-completed}

-- the second list of states is the first without some that are completed and do not end the node at once
data Drops (combinator : Combinator) : List AwaitState → List AwaitState → Type 0 where
  nothing : Drops combinator [] []
  kept : {xs ys : List AwaitState} (x : AwaitState) → Drops combinator xs ys → Drops combinator (x ∷ xs) (x ∷ ys)
  dropped : {xs ys : List AwaitState} (x : AwaitState) → is_completed x ≡ true → ends_at_once combinator x ≡ false
      → Drops combinator xs ys → Drops combinator (x ∷ xs) ys

any-dropped : (combinator : Combinator) {xs ys : List AwaitState} → Drops combinator xs ys
    → list_any (ends_at_once combinator) ys ≡ list_any (ends_at_once combinator) xs
any-dropped combinator nothing = refl
any-dropped combinator (kept x drops) = ap (λ (b : Bool). ends_at_once combinator x || b) (any-dropped combinator drops)
any-dropped combinator (dropped {xs} {ys} x done quiet drops) = any-dropped combinator drops ∙ sym (skips (ends_at_once combinator x) quiet)
  where
    skips : (b : Bool) → b ≡ false → (b || list_any (ends_at_once combinator) xs) ≡ list_any (ends_at_once combinator) xs
    skips true e = cc
    skips false e = refl

-- a test that all dropped states pass holds of all the others exactly where it holds of all
all-dropped : (combinator : Combinator) (p : AwaitState → Bool) → ((x : AwaitState) → is_completed x ≡ true → ends_at_once combinator x ≡ false → p x ≡ true)
    → {xs ys : List AwaitState} → Drops combinator xs ys → list_all p ys ≡ list_all p xs
all-dropped combinator p passes nothing = refl
all-dropped combinator p passes (kept x drops) = ap (λ (b : Bool). p x && b) (all-dropped combinator p passes drops)
all-dropped combinator p passes (dropped {xs} {ys} x done quiet drops) = all-dropped combinator p passes drops ∙ sym (skips (p x) (passes x done quiet))
  where
    skips : (b : Bool) → b ≡ true → (b && list_all p xs) ≡ list_all p xs
    skips true e = refl
    skips false e = cc

failed_then : (x : AwaitState) → is_completed x ≡ true → is_succeeded x ≡ false → is_failed x ≡ true
failed_then Pending done quiet = cc
failed_then Succeeded done quiet = cc
failed_then Failed done quiet = refl

succeeded_then : (x : AwaitState) → is_completed x ≡ true → is_failed x ≡ false → is_succeeded x ≡ true
succeeded_then Pending done quiet = cc
succeeded_then Succeeded done quiet = refl
succeeded_then Failed done quiet = cc

first-dropped : {xs ys : List AwaitState} → Drops FirstCompleted xs ys → first_completed ys ≡ first_completed xs
first-dropped nothing = refl
first-dropped (kept Pending drops) = first-dropped drops
first-dropped (kept Succeeded drops) = refl
first-dropped (kept Failed drops) = refl
first-dropped (dropped x done quiet drops) = cc

first-dropped' : {xs ys : List AwaitState} → Drops Unknown xs ys → first_completed ys ≡ first_completed xs
first-dropped' nothing = refl
first-dropped' (kept Pending drops) = first-dropped' drops
first-dropped' (kept Succeeded drops) = refl
first-dropped' (kept Failed drops) = refl
first-dropped' (dropped x done quiet drops) = cc

-- what comes of a node's children drops those that were completed before
drops : (combinator : Combinator) {before after left : List AwaitState} → Goes before after left → list_any (ends_at_once combinator) before ≡ false → Drops combinator after left
drops combinator none quiet = nothing
drops combinator (stays {before} state done goes) quiet =
    let (here, others) = or-false (ends_at_once combinator state) (list_any (ends_at_once combinator) before) quiet in dropped state done here (drops combinator goes others)
drops combinator (comes {before} state goes) quiet =
    let (here, others) = or-false (ends_at_once combinator Pending) (list_any (ends_at_once combinator) before) quiet in kept state (drops combinator goes others)

pending_if : (state : AwaitState) → is_completed state ≡ false → state ≡ Pending
pending_if Pending waits = refl
pending_if Succeeded waits = cc
pending_if Failed waits = cc

-- a node that has not ended comes to the same with what is left of its children as with all of them
combined-gone : (combinator : Combinator) {before after left : List AwaitState} → Goes before after left → has_ended combinator before ≡ false
    → combined_state (lowered combinator before) left ≡ combined_state combinator after
combined-gone Unknown goes quiet = first-dropped' (drops Unknown goes quiet)
combined-gone FirstCompleted goes quiet = first-dropped (drops FirstCompleted goes quiet)
combined-gone AllCompleted goes quiet =
    ap (λ (b : Bool). if b then Succeeded else Pending) (all-dropped AllCompleted is_completed (λ x done quiet. done) (drops AllCompleted goes quiet))
combined-gone FirstSucceededOrAllFailed goes quiet =
    let those = drops FirstSucceededOrAllFailed goes quiet in
    ap₂ (λ (a b : Bool). if a then Succeeded else (if b then Failed else Pending)) (any-dropped FirstSucceededOrAllFailed those)
    (all-dropped FirstSucceededOrAllFailed is_failed failed_then those)
combined-gone AllSucceededOrFirstFailed goes quiet =
    let those = drops AllSucceededOrFirstFailed goes quiet in
    ap₂ (λ (a b : Bool). if a then Failed else (if b then Succeeded else Pending)) (any-dropped AllSucceededOrFirstFailed those)
    (all-dropped AllSucceededOrFirstFailed is_succeeded succeeded_then those)
combined-gone (AtLeast required) {before} goes quiet = pruned-at_least required goes (pending_if (at_least_state required before) quiet)

-- and has ended with the ones where it has with the others
ended-gone : (combinator : Combinator) {before after left : List AwaitState} → Goes before after left → has_ended combinator before ≡ false
    → has_ended (lowered combinator before) left ≡ has_ended combinator after
ended-gone Unknown goes quiet = any-dropped Unknown (drops Unknown goes quiet)
ended-gone FirstCompleted goes quiet = any-dropped FirstCompleted (drops FirstCompleted goes quiet)
ended-gone AllCompleted goes quiet = any-dropped AllCompleted (drops AllCompleted goes quiet)
ended-gone FirstSucceededOrAllFailed goes quiet = any-dropped FirstSucceededOrAllFailed (drops FirstSucceededOrAllFailed goes quiet)
ended-gone AllSucceededOrFirstFailed goes quiet = any-dropped AllSucceededOrFirstFailed (drops AllSucceededOrFirstFailed goes quiet)
ended-gone (AtLeast required) goes quiet = ap is_completed (combined-gone (AtLeast required) goes quiet)

lowered-again : (combinator : Combinator) {before after left : List AwaitState} → Goes before after left → lowered (lowered combinator before) left ≡ lowered combinator after
lowered-again Unknown goes = refl
lowered-again FirstCompleted goes = refl
lowered-again AllCompleted goes = refl
lowered-again FirstSucceededOrAllFailed goes = refl
lowered-again AllSucceededOrFirstFailed goes = refl
lowered-again (AtLeast required) goes = ap AtLeast (lowered-twice required goes)

all_completed_by : (p : AwaitState → Bool) → ((x : AwaitState) → p x ≡ true → is_completed x ≡ true) → (xs : List AwaitState) → list_all p xs ≡ true → list_all is_completed xs ≡ true
all_completed_by p passes [] all = refl
all_completed_by p passes (x ∷ xs) all =
    let (a, b) = and-true (p x) (list_all p xs) all in
    rw (passes x a) (all_completed_by p passes xs b)

failed_completed : (x : AwaitState) → is_failed x ≡ true → is_completed x ≡ true
failed_completed Pending e = cc
failed_completed Succeeded e = refl
failed_completed Failed e = refl

succeeded_completed : (x : AwaitState) → is_succeeded x ≡ true → is_completed x ≡ true
succeeded_completed Pending e = cc
succeeded_completed Succeeded e = refl
succeeded_completed Failed e = refl

-- a node that is completed, and has not ended, has only completed children
pub completed-all : (combinator : Combinator) (xs : List AwaitState) → is_completed (combined_state combinator xs) ≡ true
    → has_ended combinator xs ≡ false → list_all is_completed xs ≡ true
completed-all Unknown xs done quiet = by_cases (first-completed xs)
  where
    by_cases : (first_completed xs ≡ Pending) ⊎ (list_any is_completed xs ≡ true) → list_all is_completed xs ≡ true
    by_cases (inl e) = let wrong : is_completed Pending ≡ true = rw e at done in cc
    by_cases (inr e) = cc
completed-all FirstCompleted xs done quiet = by_cases (first-completed xs)
  where
    by_cases : (first_completed xs ≡ Pending) ⊎ (list_any is_completed xs ≡ true) → list_all is_completed xs ≡ true
    by_cases (inl e) = let wrong : is_completed Pending ≡ true = rw e at done in cc
    by_cases (inr e) = cc
completed-all AllCompleted xs done quiet = by_cases (list_all is_completed xs) done
  where
    by_cases : (b : Bool) → is_completed (if b then Succeeded else Pending) ≡ true → b ≡ true
    by_cases true e = refl
    by_cases false e = cc
completed-all FirstSucceededOrAllFailed xs done quiet =
    all_completed_by is_failed failed_completed xs (by_cases (list_any is_succeeded xs) quiet (list_all is_failed xs) done)
  where
    by_cases : (a : Bool) → a ≡ false → (b : Bool) → is_completed (if a then Succeeded else (if b then Failed else Pending)) ≡ true → b ≡ true
    by_cases true wrong b e = cc
    by_cases false e b done = is_so b done
      where
        is_so : (b : Bool) → is_completed (if b then Failed else Pending) ≡ true → b ≡ true
        is_so true e = refl
        is_so false e = cc
completed-all AllSucceededOrFirstFailed xs done quiet =
    all_completed_by is_succeeded succeeded_completed xs (by_cases (list_any is_failed xs) quiet (list_all is_succeeded xs) done)
  where
    by_cases : (a : Bool) → a ≡ false → (b : Bool) → is_completed (if a then Failed else (if b then Succeeded else Pending)) ≡ true → b ≡ true
    by_cases true wrong b e = cc
    by_cases false e b done = is_so b done
      where
        is_so : (b : Bool) → is_completed (if b then Succeeded else Pending) ≡ true → b ≡ true
        is_so true e = refl
        is_so false e = cc
completed-all (AtLeast required) xs done quiet = cc

or-both-false : {a b : Bool} → a ≡ false → b ≡ false → (a || b) ≡ false
or-both-false e f = rw (e, f) refl

or-false_left : {a b : Bool} → a ≡ false → (a || b) ≡ b
or-false_left e = rw e refl

module _ {Leaf : Type 0} (early late : Leaf → AwaitState) where
  stands-early : (leaf : Leaf) → is_completed (early leaf) ≡ true → earlier_or_later early late leaf ≡ early leaf
  stands-early leaf done = rw done refl

  stands-late : (leaf : Leaf) → is_completed (early leaf) ≡ false → late leaf ≡ earlier_or_later early late leaf
  stands-late leaf waits = rw waits refl

  -- children that are completed, and hold no node that has ended at once, stay as they are
  settled : (trees : AwaitTrees Leaf) → some_has_ended_node trees early ≡ false → list_all is_completed (child_states trees early) ≡ true
      → (child_states trees (earlier_or_later early late) ≡ child_states trees early) × (some_has_ended_node trees (earlier_or_later early late) ≡ false)
  settled no_trees quiet done = (refl, refl)
  settled (and_trees (Single leaf) trees) quiet done =
      let (here, others) = and-true (is_completed (early leaf)) (list_all is_completed (child_states trees early)) done in
      let (states, ended) = settled trees quiet others in
      (ap₂ (λ (x : AwaitState) (xs : List AwaitState). x ∷ xs) (stands-early leaf here) states, ended)
  settled (and_trees (Combined combinator children) trees) quiet done =
      let (own, quiet_others) = or-false (has_ended_node (Combined combinator children) early) (some_has_ended_node trees early) quiet in
      let (ends, inner) = or-false (has_ended combinator (child_states children early)) (some_has_ended_node children early) own in
      let (here, others) = and-true (is_completed (combined_state combinator (child_states children early))) (list_all is_completed (child_states trees early)) done in
      let (states, ended) = settled trees quiet_others others in
      let (inner_states, inner_ended) = settled children inner (completed-all combinator (child_states children early) here ends) in (
        ap₂ (λ (x : AwaitState) (xs : List AwaitState). x ∷ xs) (ap (combined_state combinator) inner_states) states,
        or-both-false
            (or-both-false (ap (has_ended combinator) inner_states ∙ ends) inner_ended) ended,
      )

  -- the pruned children against the whole ones
  pruned_children-goes : (trees : AwaitTrees Leaf) → some_has_ended_node trees early ≡ false
      → Goes (child_states trees early) (child_states trees (earlier_or_later early late)) (child_states (pruned_children trees early) late)
      × (some_has_ended_node (pruned_children trees early) late ≡ some_has_ended_node trees (earlier_or_later early late))
  pruned_children-goes no_trees quiet = (none, refl)
  pruned_children-goes (and_trees (Single leaf) trees) quiet = by_cases (is_completed (early leaf)) refl (pruned_children-goes trees quiet)
    where
      by_cases : (b : Bool) → is_completed (early leaf) ≡ b
          → Goes (child_states trees early) (child_states trees (earlier_or_later early late)) (child_states (pruned_children trees early) late)
          × (some_has_ended_node (pruned_children trees early) late ≡ some_has_ended_node trees (earlier_or_later early late))
          → Goes (early leaf ∷ child_states trees early) (earlier_or_later early late leaf ∷ child_states trees (earlier_or_later early late))
          (child_states (if b then pruned_children trees early else and_trees (Single leaf) (pruned_children trees early)) late)
          × (some_has_ended_node (if b then pruned_children trees early else and_trees (Single leaf) (pruned_children trees early)) late
          ≡ some_has_ended_node trees (earlier_or_later early late))
      by_cases true done others = (rw (stands-early leaf done) (stays (early leaf) done others.0), others.1)
      by_cases false waits others = (rw (sym (stands-late leaf waits), pending_if (early leaf) waits) (comes (late leaf) others.0), others.1)
  pruned_children-goes (and_trees (Combined inner children) trees) quiet =
      let (own, quiet_others) = or-false (has_ended_node (Combined inner children) early) (some_has_ended_node trees early) quiet in
      let (inner_ends, inner_quiet) = or-false (has_ended inner (child_states children early)) (some_has_ended_node children early) own in
      by_cases (is_completed (combined_state inner (child_states children early))) refl inner_ends inner_quiet
      (pruned_children-goes children inner_quiet) (pruned_children-goes trees quiet_others)
    where
      by_cases : (b : Bool) → is_completed (combined_state inner (child_states children early)) ≡ b
          → has_ended inner (child_states children early) ≡ false → some_has_ended_node children early ≡ false
          → Goes (child_states children early) (child_states children (earlier_or_later early late)) (child_states (pruned_children children early) late)
          × (some_has_ended_node (pruned_children children early) late ≡ some_has_ended_node children (earlier_or_later early late))
          → Goes (child_states trees early) (child_states trees (earlier_or_later early late)) (child_states (pruned_children trees early) late)
          × (some_has_ended_node (pruned_children trees early) late ≡ some_has_ended_node trees (earlier_or_later early late))
          → Goes (combined_state inner (child_states children early) ∷ child_states trees early)
          (combined_state inner (child_states children (earlier_or_later early late)) ∷ child_states trees (earlier_or_later early late))
          (child_states (if b then pruned_children trees early else and_trees (Combined (lowered inner (child_states children early)) (pruned_children children early)) (pruned_children trees early)) late)
          × (some_has_ended_node (if b then pruned_children trees early else and_trees (Combined (lowered inner (child_states children early)) (pruned_children children early)) (pruned_children trees early)) late
          ≡ ((has_ended inner (child_states children (earlier_or_later early late)) || some_has_ended_node children (earlier_or_later early late))
          || some_has_ended_node trees (earlier_or_later early late)))
      by_cases true done inner_ends inner_quiet own others =
          let (states, ended) = settled children inner_quiet (completed-all inner (child_states children early) done inner_ends) in
          let same : combined_state inner (child_states children (earlier_or_later early late)) ≡ combined_state inner (child_states children early) = ap (combined_state inner) states in
          let quiet_both : (has_ended inner (child_states children (earlier_or_later early late)) || some_has_ended_node children (earlier_or_later early late)) ≡ false =
          or-both-false (ap (has_ended inner) states ∙ inner_ends) ended in
          (rw same (stays (combined_state inner (child_states children early)) done others.0), others.1 ∙ sym (or-false_left quiet_both))
      by_cases false waits inner_ends inner_quiet own others = (
        rw (combined-gone inner own.0 inner_ends, pending_if (combined_state inner (child_states children early)) waits)
            (comes (combined_state inner (child_states children (earlier_or_later early late))) others.0),
        ap₂ (λ (a b : Bool). a || b) (ap₂ (λ (a b : Bool). a || b) (ended-gone inner own.0 inner_ends) own.1) others.1,
      )

  pub pruned-awake : (tree : AwaitTree Leaf) → is_awake tree early ≡ false → is_awake (pruned tree early) late ≡ is_awake tree (earlier_or_later early late)
  pruned-awake (Single leaf) asleep =
      let (waits, quiet) = or-false (is_completed (early leaf)) false asleep in
      ap (λ (x : AwaitState). is_completed x || false) (stands-late leaf waits)
  pruned-awake (Combined combinator children) asleep =
      let (waits, own) = or-false (is_completed (combined_state combinator (child_states children early))) (has_ended_node (Combined combinator children) early) asleep in
      let (ends, quiet) = or-false (has_ended combinator (child_states children early)) (some_has_ended_node children early) own in
      let (goes, ended) = pruned_children-goes children quiet in
      ap₂ (λ (a b : Bool). a || b) (ap is_completed (combined-gone combinator goes ends))
      (ap₂ (λ (a b : Bool). a || b) (ended-gone combinator goes ends) ended)

  -- a child that is not completed is in the same state, pruned, under what comes later, as whole under both
  state-pruned : (tree : AwaitTree Leaf) → is_completed (await_state tree early) ≡ false → has_ended_node tree early ≡ false
      → await_state (pruned tree early) late ≡ await_state tree (earlier_or_later early late)
  state-pruned (Single leaf) waits quiet = stands-late leaf waits
  state-pruned (Combined combinator children) waits own =
      let (ends, quiet) = or-false (has_ended combinator (child_states children early)) (some_has_ended_node children early) own in
      combined-gone combinator (pruned_children-goes children quiet).0 ends

  -- a completed child without a node that has ended at once stays as it is
  state-settled : (tree : AwaitTree Leaf) → is_completed (await_state tree early) ≡ true → has_ended_node tree early ≡ false
      → await_state tree (earlier_or_later early late) ≡ await_state tree early
  state-settled (Single leaf) done quiet = stands-early leaf done
  state-settled (Combined combinator children) done own =
      let (ends, quiet) = or-false (has_ended combinator (child_states children early)) (some_has_ended_node children early) own in
      ap (combined_state combinator) (settled children quiet (completed-all combinator (child_states children early) done ends)).0

  again_at : (tree : AwaitTree Leaf) (trees : AwaitTrees Leaf) → has_ended_node tree early ≡ false → (b : Bool) → is_completed (await_state tree early) ≡ b
      → pruned (pruned tree early) late ≡ pruned tree (earlier_or_later early late)
      → pruned_children (pruned_children trees early) late ≡ pruned_children trees (earlier_or_later early late)
      → pruned_children (if b then pruned_children trees early else and_trees (pruned tree early) (pruned_children trees early)) late
      ≡ pruned_children (and_trees tree trees) (earlier_or_later early late)
  again_at tree trees own true done here later =
      let stays : is_completed (await_state tree (earlier_or_later early late)) ≡ true = ap is_completed (state-settled tree done own) ∙ done in
      rw stays later
  again_at tree trees own false waits here later =
      let same : await_state (pruned tree early) late ≡ await_state tree (earlier_or_later early late) = state-pruned tree waits own in
      rw (same, here, later) refl

  -- pruning again is pruning by both
  mutual
    pub pruned-again : (tree : AwaitTree Leaf) → has_ended_node tree early ≡ false
        → pruned (pruned tree early) late ≡ pruned tree (earlier_or_later early late)
    pruned-again (Single leaf) quiet = refl
    pruned-again (Combined combinator children) own =
        let (ends, quiet) = or-false (has_ended combinator (child_states children early)) (some_has_ended_node children early) own in
        ap₂ Combined (lowered-again combinator (pruned_children-goes children quiet).0) (pruned_children-again children quiet)

    pruned_children-again : (trees : AwaitTrees Leaf) → some_has_ended_node trees early ≡ false
        → pruned_children (pruned_children trees early) late ≡ pruned_children trees (earlier_or_later early late)
    pruned_children-again no_trees quiet = refl
    pruned_children-again (and_trees tree trees) quiet =
        let (own, others) = or-false (has_ended_node tree early) (some_has_ended_node trees early) quiet in
        again_at tree trees own (is_completed (await_state tree early)) refl (pruned-again tree own) (pruned_children-again trees others)
