-- A suspension is awake under later arrivals where the run over all of them goes past its await, and under the premises of exactness only there.
use Rattle.std.proofs.Common.{ℕ, suc, ◌+◌, ◌<◌, arith, ◌≡◌, refl, sym, ap, ap₂, subst, ◌∙◌, inr, Bool, true, false, true≢false, ◌&&◌, ◌||◌, if◌then◌else◌, List, [], ◌∷◌, ◌++◌, length, Option, Some, None, is_some}
use Rattle.std.proofs.lemmas.Bool.{ltb-true, leb-true}
use Rattle.protocol_types.specs.Version.{version_number}
use Rattle.protocol_types.specs.Feature.{first_version, lacks_feature, has_feature}
use Rattle.protocol_types.specs.declared.feature.Feature.TheVariants as features
use Rattle.std.specs.List.{find, list_any}
use Rattle.journal_model.specs.declared.notification.NotificationId.{NotificationId}
use Rattle.journal_model.specs.Notification.{Arrival, same_id, cancel_id}
use Rattle.journal_model.specs.Request.{Request}
use Rattle.journal_model.specs.AwaitTree.{AwaitTree, Combinator, Single, Combined, AwaitTrees, no_trees, and_trees, AwaitState, Pending, is_completed, is_awake, await_state, child_states, some_has_ended_node, combined_state, has_ended}
use Rattle.journal_model.specs.Delivery.{state_of_result}
use Rattle.journal_model.specs.PrunedTrees.{pruned, pruned_children, only_leaves, only_children, asking_of, state_of_some, tree_count}
use Rattle.journal_model.specs.Run.{Handler, Invocation, Progress, Ending, GoesOn, Waits, RefusedCall, Ended, run, is_going}
use Rattle.journal_model.specs.Event.{Suspension, ForTree, ForAny}
use Rattle.journal_model.specs.Attempt.{result_of, is_woken}
use Rattle.journal_model.specs.Headline.{IsWaiting, GoesPast, all_stand, all_children_stand}
use Rattle.journal_model.proofs.Extension.{run-within}
use Rattle.journal_laws.proofs.Leaving.{only_leaves-awake, and-true, asking_all}
use Rattle.run_laws.specs.WakingLaws.{WokenWherePast, PastWhereWoken}
use Rattle.run_laws.specs.SuspensionContent.{TellsAwaitedTree, left_of, WaitsAll}
use Rattle.run_laws.proofs.Tallies.{run_sound}
use Rattle.run_laws.proofs.WaitingRuns.{WaitsAt, waited, stopped_same, past_over, over_past}
use Rattle.run_laws.proofs.Waking.{states_by, over_awake, awake_over}

-- ---- leaves that stand for ids

-- none is left out, so that as much is asked for
stand_count : (trees : AwaitTrees (Option NotificationId)) → all_children_stand trees ≡ true → tree_count (only_children (λ leaf. leaf) trees) ≡ tree_count trees
stand_count no_trees e = refl
stand_count (and_trees (Single None) trees) e = absurd (true≢false (sym e))
stand_count (and_trees (Single (Some id)) trees) e = ap suc (stand_count trees e)
stand_count (and_trees (Combined combinator children) trees) e = ap suc (stand_count trees (and-true (all_children_stand children) (all_children_stand trees) e).1)

stand_asks : (combinator : Combinator) (children : AwaitTrees (Option NotificationId)) → all_children_stand children ≡ true
    → asking_of combinator (tree_count children) (tree_count (only_children (λ leaf. leaf) children)) ≡ combinator
stand_asks combinator children e = ap (asking_of combinator (tree_count children)) (stand_count children e) ∙ asking_all combinator (tree_count children)

module _ (states : NotificationId → AwaitState) where
  mutual
    stand_state : (tree : AwaitTree (Option NotificationId)) → all_stand tree ≡ true → await_state (only_leaves (λ leaf. leaf) tree) states ≡ await_state tree (state_of_some states)
    stand_state (Single None) e = absurd (true≢false (sym e))
    stand_state (Single (Some id)) e = refl
    stand_state (Combined combinator children) e = ap₂ combined_state (stand_asks combinator children e) (stand_states children e)

    stand_states : (trees : AwaitTrees (Option NotificationId)) → all_children_stand trees ≡ true → child_states (only_children (λ leaf. leaf) trees) states ≡ child_states trees (state_of_some states)
    stand_states no_trees e = refl
    stand_states (and_trees (Single None) trees) e = absurd (true≢false (sym e))
    stand_states (and_trees (Single (Some id)) trees) e = ap (λ (rest : List AwaitState). states id ∷ rest) (stand_states trees e)
    stand_states (and_trees (Combined combinator children) trees) e =
        let (own, others) = and-true (all_children_stand children) (all_children_stand trees) e in
        ap₂ (λ (x : AwaitState) (rest : List AwaitState). x ∷ rest) (ap₂ combined_state (stand_asks combinator children own) (stand_states children own)) (stand_states trees others)

  stand_ended : (trees : AwaitTrees (Option NotificationId)) → all_children_stand trees ≡ true
      → some_has_ended_node (only_children (λ leaf. leaf) trees) states ≡ some_has_ended_node trees (state_of_some states)
  stand_ended no_trees e = refl
  stand_ended (and_trees (Single None) trees) e = absurd (true≢false (sym e))
  stand_ended (and_trees (Single (Some id)) trees) e = stand_ended trees e
  stand_ended (and_trees (Combined combinator children) trees) e =
      let (own, others) = and-true (all_children_stand children) (all_children_stand trees) e in
      ap₂ (λ (a b : Bool). a || b)
      (ap₂ (λ (a b : Bool). a || b) (ap₂ has_ended (stand_asks combinator children own) (stand_states children own)) (stand_ended children own)) (stand_ended trees others)

  stand_awake : (tree : AwaitTree (Option NotificationId)) → all_stand tree ≡ true → is_awake (only_leaves (λ leaf. leaf) tree) states ≡ is_awake tree (state_of_some states)
  stand_awake (Single None) e = absurd (true≢false (sym e))
  stand_awake (Single (Some id)) e = refl
  stand_awake (Combined combinator children) e =
      ap₂ (λ (a b : Bool). a || b) (ap (λ (state : AwaitState). is_completed state) (stand_state (Combined combinator children) e))
      (ap₂ (λ (a b : Bool). a || b) (ap₂ has_ended (stand_asks combinator children e) (stand_states children e)) (stand_ended children e))

pub both_true : (a b : Bool) → a ≡ true → b ≡ true → (a && b) ≡ true
both_true true b e f = f
both_true false b e f = e

mutual
  pub pruned_stand : (early : Option NotificationId → AwaitState) (tree : AwaitTree (Option NotificationId)) → all_stand tree ≡ true → all_stand (pruned tree early) ≡ true
  pruned_stand early (Single leaf) e = e
  pruned_stand early (Combined combinator children) e = pruned_children_stand early children e

  pruned_children_stand : (early : Option NotificationId → AwaitState) (trees : AwaitTrees (Option NotificationId)) → all_children_stand trees ≡ true → all_children_stand (pruned_children trees early) ≡ true
  pruned_children_stand early no_trees e = refl
  pruned_children_stand early (and_trees tree trees) e = by_test (is_completed (await_state tree early)) (pruned_stand early tree (and-true (all_stand tree) (all_children_stand trees) e).0) (pruned_children_stand early trees (and-true (all_stand tree) (all_children_stand trees) e).1)
    where
      by_test : (b : Bool) → all_stand (pruned tree early) ≡ true → all_children_stand (pruned_children trees early) ≡ true
          → all_children_stand (if b then pruned_children trees early else and_trees (pruned tree early) (pruned_children trees early)) ≡ true
      by_test true own others = others
      by_test false own others = both_true (all_stand (pruned tree early)) (all_children_stand (pruned_children trees early)) own others

-- ---- what a suspension tells

same_state : (states : NotificationId → AwaitState) (a : Option NotificationId) (b : NotificationId) → a ≡ Some b → states b ≡ state_of_some states a
same_state states None b e = cc
same_state states (Some c) b e = let same : c ≡ b = cc in ap states (sym same)

stays_pending : (states : NotificationId → AwaitState) (a : Option NotificationId) → a ≡ None → state_of_some states a ≡ Pending
stays_pending states None e = refl
stays_pending states (Some c) e = cc

left_out : (states : NotificationId → AwaitState) (tree : AwaitTree (Option NotificationId)) → is_awake tree (state_of_some states) ≡ true → is_awake (only_leaves (λ leaf. leaf) tree) states ≡ true
left_out states tree awake = only_leaves-awake (λ leaf. leaf) (state_of_some states) states (λ a b e. inr (same_state states a b e)) (stays_pending states) tree awake

find-any : (p : Arrival → Bool) (arrivals : List Arrival) → is_some (find p arrivals) ≡ true → list_any p arrivals ≡ true
find-any p [] e = absurd (true≢false (sym e))
find-any p (x ∷ xs) e = by_test (p x) e (find-any p xs)
  where
    by_test : (b : Bool) → is_some (if b then Some x else find p xs) ≡ true → (is_some (find p xs) ≡ true → list_any p xs ≡ true) → (b || list_any p xs) ≡ true
    by_test true e later = refl
    by_test false e later = later e

come_one : (arrivals : List Arrival) (id : NotificationId) → is_completed (states_by arrivals id) ≡ true → list_any (λ (arrival : Arrival). same_id arrival.id id) arrivals ≡ true
come_one arrivals id e = find-any (λ (arrival : Arrival). same_id arrival.id id) arrivals (by_found (find (λ (arrival : Arrival). same_id arrival.id id) arrivals) e)
  where
    by_found : (o : Option Arrival) → is_completed (state_of_result (result_of o)) ≡ true → is_some o ≡ true
    by_found None e = absurd (true≢false (sym e))
    by_found (Some arrival) e = refl

any_come : (arrivals : List Arrival) (ids : List NotificationId) → list_any (λ id. is_completed (states_by arrivals id)) ids ≡ true
    → list_any (λ id. list_any (λ (arrival : Arrival). same_id arrival.id id) arrivals) ids ≡ true
any_come arrivals [] e = absurd (true≢false (sym e))
any_come arrivals (id ∷ ids) e = by_test (is_completed (states_by arrivals id)) refl e (any_come arrivals ids)
  where
    or_right : (a b : Bool) → b ≡ true → (a || b) ≡ true
    or_right true b e = refl
    or_right false b e = e

    by_test : (b : Bool) → is_completed (states_by arrivals id) ≡ b → (b || list_any (λ id. is_completed (states_by arrivals id)) ids) ≡ true
        → (list_any (λ id. is_completed (states_by arrivals id)) ids ≡ true → list_any (λ id. list_any (λ (arrival : Arrival). same_id arrival.id id) arrivals) ids ≡ true)
        → (list_any (λ (arrival : Arrival). same_id arrival.id id) arrivals || list_any (λ id. list_any (λ (arrival : Arrival). same_id arrival.id id) arrivals) ids) ≡ true
    by_test true f e later = ap (λ (b : Bool). b || list_any (λ id. list_any (λ (arrival : Arrival). same_id arrival.id id) arrivals) ids) (come_one arrivals id f)
    by_test false f e later = or_right (list_any (λ (arrival : Arrival). same_id arrival.id id) arrivals) (list_any (λ id. list_any (λ (arrival : Arrival). same_id arrival.id id) arrivals) ids) (later e)

pub woken_by : (version : ℕ) (tree : AwaitTree (Option NotificationId)) (suspension : Suspension) → TellsAwaitedTree version tree (Some suspension) → (later : List Arrival)
    → is_awake tree (state_of_some (states_by later)) ≡ true → is_woken later (Some suspension) ≡ true
woken_by version tree (ForTree told) tells later awake = tells (states_by later) ∙ left_out (states_by later) tree awake
woken_by version tree (ForAny ids) tells later awake = any_come later ids (tells.1 (states_by later) awake)

-- no version both has a feature and lacks it
not_both : (version : ℕ) → lacks_feature version features.AwaitTree ≡ true → has_feature version features.AwaitTree ≡ true → ⊥
not_both version lacks has =
    let first : ℕ = version_number (first_version features.AwaitTree) in
    let low = ltb-true version first lacks in
    let high = leb-true first version has in
    omega (arith, low, high)

pub awake_by : (version : ℕ) (tree : AwaitTree (Option NotificationId)) (suspension : Suspension) → TellsAwaitedTree version tree (Some suspension) → has_feature version features.AwaitTree ≡ true → all_stand tree ≡ true → (later : List Arrival)
    → is_woken later (Some suspension) ≡ true → is_awake tree (state_of_some (states_by later)) ≡ true
awake_by version tree (ForTree told) tells high stands later woken = sym (stand_awake (states_by later) tree stands) ∙ sym (tells (states_by later)) ∙ woken
awake_by version tree (ForAny ids) tells high stands later woken = absurd (not_both version tells.0 high)

-- ---- waking

waiting_stops : (ending : Ending) → IsWaiting ending → is_going ending ≡ false
waiting_stops GoesOn waits = absurd waits
waiting_stops (Waits tree) waits = refl
waiting_stops (RefusedCall refusal) waits = absurd waits
waiting_stops Ended waits = absurd waits

module _ (next : Handler) (given : Invocation) (first later : List Arrival) (requests : List Request) (suspension : Option Suspension) (w : WaitsAll next given first requests suspension) where
  abbrev steps_then : Progress
  steps_then = run next given first w.calls

  at_wait : WaitsAt next given first steps_then.steps w.tree
  at_wait = waited next given first w.calls w.tree w.waits

  pub core_awake : GoesPast next given first (first ++ later) → is_awake (left_of given first steps_then w.tree) (state_of_some (states_by later)) ≡ true
  core_awake past =
      let same : run next given first past.calls ≡ steps_then =
      stopped_same next given first past.calls w.calls (waiting_stops (run next given first past.calls).ending past.waits) (ap is_going w.waits) in
      let goes : length steps_then.steps < length (run next given (first ++ later) past.more_calls).steps =
      subst (λ (p : Progress). length p.steps < length (run next given (first ++ later) past.more_calls).steps) same past.past in
      over_awake given.options steps_then.steps first later (run-within next given first w.calls) (run_sound next given first w.calls) at_wait.asked w.tree at_wait.outcome
      (past_over next given first later steps_then.steps w.tree at_wait past.more_calls goes)

  pub core_past : list_any (λ (arrival : Arrival). same_id arrival.id cancel_id) (first ++ later) ≡ false
      → is_awake (left_of given first steps_then w.tree) (state_of_some (states_by later)) ≡ true → GoesPast next given first (first ++ later)
  core_past none awake = record {
    calls = w.calls;
    more_calls = 1 + at_wait.before;
    waits = subst IsWaiting (sym w.waits) tt;
    past =
        let one : 1 + at_wait.before ≡ suc at_wait.before = omega arith in
        subst (λ (n : ℕ). length steps_then.steps < length (run next given (first ++ later) n).steps) (sym one)
        (over_past next given first later steps_then.steps w.tree at_wait
        (awake_over given.options steps_then.steps first later (run-within next given first w.calls) (run_sound next given first w.calls) at_wait.asked w.tree at_wait.outcome none awake));
  }

-- ---- what a suspension wakes by

pub woken_past : WokenWherePast
woken_past next given first later requests suspension waits past =
    woken_by given.version (left_of given first (run next given first waits.calls) waits.tree) suspension waits.tells later
    (core_awake next given first later requests (Some suspension) waits past)

pub past_woken : PastWhereWoken
past_woken next given first later requests suspension waits high stands none woken =
    core_past next given first later requests (Some suspension) waits none
    (awake_by given.version (left_of given first (run next given first waits.calls) waits.tree) suspension waits.tells high (pruned_stand _ waits.tree stands) later woken)
