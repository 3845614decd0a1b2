-- Which child a cancellation waits for.
use Rattle.std.proofs.Common.{◌≡◌, ◌<◌, ◌≤◌, ◌^◌, ℕ, arith, Bool, true, false, List, [], ◌∷◌, Option, Some, None, refl, sym, ap, ◌∙◌, subst}
use Rattle.journal_model.specs.declared.call.Call.{Call}
use Rattle.journal_model.specs.declared.options.SignalDelivery.{SignalDelivery}
use Rattle.journal_model.specs.declared.value.Value.{Value}
use Rattle.journal_model.specs.Notification.{Arrival}
use Rattle.journal_model.specs.AwaitTree.{AwaitTree}
use Rattle.journal_model.specs.Await.{awaited_tree}
use Rattle.journal_model.specs.Request.{Request}
use Rattle.journal_model.specs.Refusal.{Refusal, refusal_of}
use Rattle.journal_model.specs.Run.{Invocation}
use Rattle.attempt_model.specs.Children.{Child, child_value, ChildrenState, AreIds, IsUnknown, IsNoId, with_child, children_state, ChildrenOutcome, AllKnown, FirstUnknown, OneIsNoId, outcome_by, children_outcome, cancel_requests_for}
use Rattle.attempt_model.specs.Requests.{Commands, PutState, put_all}
use Rattle.attempt_model.specs.Results.{Ready, Resolution, Awake, Asleep, ready_after, resolution_of}
use Rattle.attempt_model.specs.Machine.{Machine, AwaitsChild, is_cancelled, reply_where_asleep, reply_where_cancelled, reply_where_unknown, reply_to_children, reply_where_awake, reply_to_await, reply_unless_refused}
use Rattle.vm_awaits.specs.Children.{AreMade}
use Rattle.vm_request_laws.specs.AwaitedTrees.{ChildrenLeave, AwaitedTreesFit}
use Rattle.vm_request_laws.proofs.RequestBounds.{future_fits}
use Rattle.vm_request_laws.proofs.Handles.{handles_fit, awaits_leave}

-- ---- the first that is unknown

module _ (next child : ℕ) where
  first_made : (ready : Ready) (children : List Child) → AreMade next children → children_state ready children ≡ IsUnknown child → child < next
  first_made ready [] made e = absurd cc
  first_made ready (one ∷ children) made e = by_value (child_value ready one) e (first_made ready children made.1)
    where
      by_value : (value : Option Value) → with_child value one.completion (children_state ready children) ≡ IsUnknown child
          → (children_state ready children ≡ IsUnknown child → child < next) → child < next
      by_value None e later = let same : one.completion ≡ child = cc in subst (λ (n : ℕ). n < next) same made.0
      by_value (Some (Value.InvocationId id)) e later = later e
      by_value (Some Value.Void) e later = absurd cc
      by_value (Some (Value.Success bytes)) e later = absurd cc
      by_value (Some (Value.Failure failure)) e later = absurd cc
      by_value (Some (Value.StateKeys keys)) e later = absurd cc

  outcome_made : (delivery : SignalDelivery) (children : List Child) (queue : List Arrival) (ready waiting : Ready) → AreMade next children
      → children_outcome delivery children queue ready ≡ FirstUnknown child waiting → child < next
  outcome_made delivery children [] ready waiting made e = by_state (children_state ready children) refl e
    where
      by_state : (state : ChildrenState) → children_state ready children ≡ state → outcome_by state (AllKnown [] ready) (λ n. FirstUnknown n ready) ≡ FirstUnknown child waiting → child < next
      by_state AreIds is e = absurd cc
      by_state (IsUnknown n) is e = let same : n ≡ child = cc in first_made ready children made (is ∙ ap IsUnknown same)
      by_state IsNoId is e = absurd cc
  outcome_made delivery children (arrival ∷ queue) ready waiting made e =
      by_state (children_state ready children) e (outcome_made delivery children queue (ready_after delivery ready arrival) waiting made)
    where
      by_state : (state : ChildrenState)
          → outcome_by state (AllKnown (arrival ∷ queue) ready) (λ n. children_outcome delivery children queue (ready_after delivery ready arrival)) ≡ FirstUnknown child waiting
          → (children_outcome delivery children queue (ready_after delivery ready arrival) ≡ FirstUnknown child waiting → child < next) → child < next
      by_state AreIds e later = absurd cc
      by_state (IsUnknown n) e later = later e
      by_state IsNoId e later = absurd cc

-- ---- the reply that waits for it

module _ (given : Invocation) (child : ℕ) (after : Machine) where
  -- it is among those that a machine tracks, whose handles stand for what they stood for
  record WaitsIn (m : Machine) : Type 0 where
    pub made : AreMade m.completions m.children → child < m.completions
    pub slots : after.slots ≡ m.slots

  module _ (same : Request → Request → Bool) where
    passed_on_never : (m : Machine) (requests : List Request) (put : Option PutState) → reply_where_cancelled same given m requests put ≡ AwaitsChild child after → ⊥
    passed_on_never m requests None e = cc
    passed_on_never m requests (Some p) e = cc

    unknown_is : (n : ℕ) (m : Machine) (commands : Commands) → reply_where_unknown n m commands ≡ AwaitsChild child after → (n ≡ child) × (m ≡ after)
    unknown_is n m [] e = (cc, cc)
    unknown_is n m (command ∷ commands) e = absurd cc

    asleep_never : (tree : AwaitTree ℕ) (m : Machine) (commands : Commands) → reply_where_asleep tree m commands ≡ AwaitsChild child after → ⊥
    asleep_never tree m [] e = cc
    asleep_never tree m (command ∷ commands) e = cc

    children_wait : (m : Machine) (outcome : ChildrenOutcome) → children_outcome given.options.signal_delivery m.children m.queue m.ready ≡ outcome
        → reply_to_children same given m outcome ≡ AwaitsChild child after → WaitsIn m
    children_wait m (AllKnown queue ready) is e =
        absurd (passed_on_never (record m { queue = queue; ready = ready }) (cancel_requests_for ready m.children)
        (put_all same (cancel_requests_for ready m.children) (record { left = m.left; written = m.written })) e)
    children_wait m (FirstUnknown n ready) is e =
        let both = unknown_is n (record m { queue = []; ready = ready }) m.left e in
        record {
          made = λ made. outcome_made m.completions child given.options.signal_delivery m.children m.queue m.ready ready made (is ∙ ap (λ (k : ℕ). FirstUnknown k ready) both.0);
          slots = sym (ap (λ (machine : Machine). machine.slots) both.1);
        }
    children_wait m OneIsNoId is e = absurd cc

    awake_waits : (m : Machine) (cancelled : Bool) → reply_where_awake same given m cancelled ≡ AwaitsChild child after → WaitsIn m
    awake_waits m false e = absurd cc
    awake_waits m true e = children_wait m (children_outcome given.options.signal_delivery m.children m.queue m.ready) refl e

    await_waits : (m : Machine) (resolution : Resolution) → reply_to_await same given m resolution ≡ AwaitsChild child after → WaitsIn m
    await_waits m (Awake queue ready) e =
        let waits = awake_waits (record m { queue = queue; ready = ready }) (is_cancelled given (record m { queue = queue; ready = ready })) e in
        record { made = waits.made; slots = waits.slots }
    await_waits m (Asleep tree ready) e = absurd (asleep_never tree (record m { queue = []; ready = ready }) m.left e)

    child_waits : (m : Machine) (tree : AwaitTree ℕ) (o : Option Refusal) → reply_unless_refused same given m (Call.Await tree) o ≡ AwaitsChild child after → WaitsIn m
    child_waits m tree None e =
        await_waits m (resolution_of given.options.signal_delivery m.slots (awaited_tree given.options.implicit_cancellation tree) m.queue m.ready) e
    child_waits m tree (Some refusal) e = absurd cc

below_all : (child next : ℕ) → child < next → next ≤ 2 ^ 32 → child < 2 ^ 32
below_all child next made few = omega (arith, made, few)

children_leave : ChildrenLeave
children_leave same_header given m after tree child made e =
    let waits = child_waits given child after (same_header (Call.Await tree)) m tree (refusal_of given.version (Call.Await tree)) e in
    let below = waits.made made in
    record { made = below; fits = λ few. below_all child m.completions below few; slots = waits.slots }

pub awaited_trees_fit : AwaitedTreesFit
awaited_trees_fit = record { records = future_fits; handles = handles_fit; awaits = awaits_leave; children = children_leave }
