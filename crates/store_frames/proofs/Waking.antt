-- The state of each leaf by the first of its arrivals, and what three lists wait for.
use Rattle.std.proofs.Common.{◌≡◌, ℕ, Bool, true, false, ◌||◌, List, [], ◌∷◌, ◌++◌, map, Option, Some, None, option_map, unwrap_or, refl, sym, ap, subst, ◌∙◌}
use Rattle.std.specs.Prelude.{if◌then◌else◌}
use Rattle.std.specs.List.{list_any, find}
use Rattle.std.proofs.lemmas.Bool.{eqb-true}
use Rattle.std.proofs.lemmas.Slice.Eq.{bytes_eq-Decides}
use Rattle.journal_model.specs.Notification.{Arrival, same_id}
use Rattle.journal_model.specs.declared.notification.NotificationId.{NotificationId}
use Rattle.journal_model.specs.declared.notification.NotificationId.TheVariants.{CompletionId, SignalId, SignalName}
use Rattle.journal_model.specs.declared.notification.NotificationResult.{NotificationResult}
use Rattle.journal_model.specs.declared.notification.NotificationResult.TheVariants as brought
use Rattle.journal_model.specs.AwaitTree as Trees
use Rattle.journal_model.specs.Delivery.{state_of_result}
use Rattle.journal_model.specs.Attempt.{first_result, is_woken, result_of}
use Rattle.journal_model.specs.Event.{ForAny}
use Rattle.protocol_records.specs.declared.suspension_v6.SuspensionMessageV6.{SuspensionMessageV6}
use Rattle.protocol_trees.specs.Shape.{forest, state_meant}
use Rattle.protocol_trees.specs.Future.{future_tree, ids_in}
use Rattle.protocol_trees.specs.declared.tree.AwaitState.{AwaitState}
use Rattle.store_frames.specs.Requests.{suspension_of_lists}
use Rattle.store_frames.specs.First.{AreFirst, IsPut, arrived_state, first_state, or_pending, await_state_of}
use Rattle.store_frames.specs.AwaitedFutures.{IsAwaited, any_of}
use Rattle.store_frames.proofs.KeptTrees.{rolled_tree}

-- ---- one more arrival

pub same_ids : (id other : NotificationId) → same_id id other ≡ true → id ≡ other
same_ids (CompletionId n) (CompletionId m) e = ap CompletionId (eqb-true n m e)
same_ids (SignalId n) (SignalId m) e = ap SignalId (eqb-true n m e)
same_ids (SignalName s) (SignalName t) e = ap SignalName ((bytes_eq-Decides s t).0 e)
same_ids (CompletionId n) (SignalId m) e = cc
same_ids (CompletionId n) (SignalName t) e = cc
same_ids (SignalId n) (CompletionId m) e = cc
same_ids (SignalId n) (SignalName t) e = cc
same_ids (SignalName s) (CompletionId m) e = cc
same_ids (SignalName s) (SignalId m) e = cc

-- the state of the first of these, or else of the one behind them
abbrev or_last : Option AwaitState → Bool → AwaitState → Option AwaitState
or_last found true state = Some (unwrap_or found state)
or_last found false state = found

first_behind : (arrivals : List Arrival) (arrival : Arrival) (id : NotificationId)
    → option_map await_state_of (first_result (arrivals ++ arrival ∷ []) id) ≡ or_last (option_map await_state_of (first_result arrivals id)) (same_id arrival.id id) (await_state_of arrival.result)
first_behind [] arrival id = by_test (same_id arrival.id id)
  where
    by_test : (b : Bool) → option_map await_state_of (result_of (if b then Some arrival else None)) ≡ or_last None b (await_state_of arrival.result)
    by_test true = refl
    by_test false = refl
first_behind (one ∷ arrivals) arrival id = by_test (same_id one.id id) (first_behind arrivals arrival id)
  where
    found : Bool → List Arrival → Option AwaitState
    found b rest = option_map await_state_of (result_of (if b then Some one else find (λ (a : Arrival). same_id a.id id) rest))

    always : (b : Bool) → Some (await_state_of one.result) ≡ or_last (Some (await_state_of one.result)) b (await_state_of arrival.result)
    always true = refl
    always false = refl

    by_test : (b : Bool) → option_map await_state_of (first_result (arrivals ++ arrival ∷ []) id) ≡ or_last (option_map await_state_of (first_result arrivals id)) (same_id arrival.id id) (await_state_of arrival.result)
        → option_map await_state_of (result_of (if b then Some one else find (λ (a : Arrival). same_id a.id id) (arrivals ++ arrival ∷ [])))
        ≡ or_last (option_map await_state_of (result_of (if b then Some one else find (λ (a : Arrival). same_id a.id id) arrivals))) (same_id arrival.id id) (await_state_of arrival.result)
    by_test true later = always (same_id arrival.id id)
    by_test false later = later

pub heard_more : (before after : NotificationId → Option AwaitState) (arrivals : List Arrival) (arrival : Arrival)
    → ((id : NotificationId) → before id ≡ option_map await_state_of (first_result arrivals id)) → IsPut before arrival.id (await_state_of arrival.result) after
    → (id : NotificationId) → after id ≡ option_map await_state_of (first_result (arrivals ++ arrival ∷ []) id)
heard_more before after arrivals arrival are put id = put id ∙ by_test (same_id arrival.id id) refl ∙ sym (first_behind arrivals arrival id)
  where
    by_test : (b : Bool) → same_id arrival.id id ≡ b
        → (if b then Some (unwrap_or (before arrival.id) (await_state_of arrival.result)) else before id) ≡ or_last (option_map await_state_of (first_result arrivals id)) b (await_state_of arrival.result)
    by_test true e =
        ap (λ (o : Option AwaitState). Some (unwrap_or o (await_state_of arrival.result))) (ap before (same_ids arrival.id id e) ∙ are id)
    by_test false e = are id

-- ---- the state of a leaf

meant_of : (result : NotificationResult) → state_meant (await_state_of result) ≡ state_of_result (Some result)
meant_of brought.Void = refl
meant_of (brought.Value content) = refl
meant_of (brought.Failure failure) = refl
meant_of (brought.InvocationId id) = refl
meant_of (brought.StateKeys keys) = refl

meant_found : (o : Option NotificationResult) → state_meant (or_pending (option_map await_state_of o)) ≡ state_of_result o
meant_found None = refl
meant_found (Some result) = meant_of result

pub leaf_meant : (found : Option AwaitState) (arrivals : List Arrival) (id : NotificationId) → found ≡ option_map await_state_of (first_result arrivals id) → state_meant (or_pending found) ≡ arrived_state arrivals id
leaf_meant found arrivals id e = ap (λ (o : Option AwaitState). state_meant (or_pending o)) e ∙ meant_found (first_result arrivals id)

-- ---- any of some ids

or_itself : (a b : Bool) → (a || (a || b)) ≡ (a || b)
or_itself true b = refl
or_itself false b = refl

is_come : (arrivals : List Arrival) (id : NotificationId) → Trees.is_completed (arrived_state arrivals id) ≡ list_any (λ (arrival : Arrival). same_id arrival.id id) arrivals
is_come [] id = refl
is_come (one ∷ arrivals) id = by_test (same_id one.id id) (is_come arrivals id)
  where
    completed : (result : NotificationResult) → Trees.is_completed (state_of_result (Some result)) ≡ true
    completed brought.Void = refl
    completed (brought.Value content) = refl
    completed (brought.Failure failure) = refl
    completed (brought.InvocationId of) = refl
    completed (brought.StateKeys keys) = refl

    by_test : (b : Bool) → Trees.is_completed (arrived_state arrivals id) ≡ list_any (λ (arrival : Arrival). same_id arrival.id id) arrivals
        → Trees.is_completed (state_of_result (result_of (if b then Some one else find (λ (arrival : Arrival). same_id arrival.id id) arrivals)))
        ≡ (b || list_any (λ (arrival : Arrival). same_id arrival.id id) arrivals)
    by_test true later = completed one.result
    by_test false later = later

module _ (arrivals : List Arrival) where
  abbrev leaves : List NotificationId → Trees.AwaitTrees NotificationId
  leaves ids = forest (map (λ (id : NotificationId). Trees.Single id) ids ++ [])

  abbrev states : NotificationId → Trees.AwaitState
  states id = arrived_state arrivals id

  first_of_any : (x : Trees.AwaitState) (xs : List Trees.AwaitState) → Trees.is_completed (Trees.first_completed (x ∷ xs)) ≡ (Trees.is_completed x || Trees.is_completed (Trees.first_completed xs))
  first_of_any Trees.Pending xs = refl
  first_of_any Trees.Succeeded xs = refl
  first_of_any Trees.Failed xs = refl

  any_come : (ids : List NotificationId) → list_any (λ (id : NotificationId). Trees.is_completed (states id)) ids ≡ list_any (λ (id : NotificationId). list_any (λ (arrival : Arrival). same_id arrival.id id) arrivals) ids
  any_come [] = refl
  any_come (id ∷ ids) = λ i. is_come arrivals id i || any_come ids i

  any_completed : (ids : List NotificationId) → Trees.is_completed (Trees.first_completed (Trees.child_states (leaves ids) states)) ≡ list_any (λ (id : NotificationId). Trees.is_completed (states id)) ids
  any_completed [] = refl
  any_completed (id ∷ ids) = first_of_any (states id) (Trees.child_states (leaves ids) states) ∙ ap (λ (b : Bool). Trees.is_completed (states id) || b) (any_completed ids)

  any_ends : (ids : List NotificationId) → list_any (Trees.ends_at_once Trees.FirstCompleted) (Trees.child_states (leaves ids) states) ≡ list_any (λ (id : NotificationId). Trees.is_completed (states id)) ids
  any_ends [] = refl
  any_ends (id ∷ ids) = ap (λ (b : Bool). Trees.is_completed (states id) || b) (any_ends ids)

  none_below : (ids : List NotificationId) → Trees.some_has_ended_node (leaves ids) states ≡ false
  none_below [] = refl
  none_below (id ∷ ids) = none_below ids

  or_nothing : (a b : Bool) → b ≡ false → (a || (a || b)) ≡ a
  or_nothing true b e = refl
  or_nothing false b e = e

  any_awake : (ids : List NotificationId) → Trees.is_awake (Trees.Combined Trees.FirstCompleted (leaves ids)) states ≡ list_any (λ (id : NotificationId). list_any (λ (arrival : Arrival). same_id arrival.id id) arrivals) ids
  any_awake ids =
      let any = list_any (λ (id : NotificationId). Trees.is_completed (states id)) ids in
      (λ i. any_completed ids i || (any_ends ids i || Trees.some_has_ended_node (leaves ids) states))
      ∙ or_nothing any (Trees.some_has_ended_node (leaves ids) states) (none_below ids) ∙ any_come ids

pub lists_awaited : (one : SuspensionMessageV6) → IsAwaited (suspension_of_lists one) (any_of one)
lists_awaited one arrivals =
    ap (λ (tree : Trees.AwaitTree NotificationId). Trees.is_awake tree (arrived_state arrivals)) (rolled_tree _)
    ∙ any_awake arrivals (ids_in one.waiting_completions one.waiting_signals one.waiting_named_signals)
