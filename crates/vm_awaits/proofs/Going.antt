-- A flat tree on the way to what is resolved.
use Rattle.std.specs.Option.{ForSome}
use Rattle.std.proofs.Common.{◌≡◌, refl, sym, ap, ap₂, ◌∙◌, subst, ℕ, true, false, List, [], ◌∷◌, ◌++◌, append_assoc, Some, Result, Ok, Err, OnErr}
use Rattle.journal_model.specs.Notification.{Arrival}
use Rattle.journal_model.specs.AwaitTree.{AwaitState, AwaitTree, is_awake, map_leaves}
use Rattle.journal_model.specs.Delivery.{state_of_result}
use Rattle.journal_model.specs.Future.{tree_of}
use Rattle.journal_model.specs.PrunedTrees.{pruned, earlier_or_later}
use Rattle.journal_model.specs.declared.future.UnresolvedFuture.{UnresolvedFuture}
use Rattle.journal_model.specs.declared.options.SignalDelivery.{SignalDelivery}
use Rattle.attempt_model.specs.Results.{Ready, Slots, handle_state, ready_after, ready_after_all, Awake, Asleep, resolution_of}
use Rattle.vm_flat_trees.specs.SleepingTree.{Awaited, has_woken, leaf_over, awaited_over, delivered, still_waits}
use Rattle.vm_flat_trees.specs.NotificationDelivery.{brought}
use Rattle.vm_flat_trees.specs.NotificationRecipients.{waits_for}
use Rattle.vm_flat_trees.proofs.Awaiting.{over-asleep, over-woken, over-later, over-left}
use Rattle.vm_flat_trees.proofs.Lines.{Follows, follows-on}
use Rattle.vm_awaits.specs.FutureResolution.{OnTheWay, StopsMidway}

pub ready_after_last : (delivery : SignalDelivery) (ready : Ready) (arrivals : List Arrival) (arrival : Arrival) → ready_after_all delivery ready (arrivals ++ arrival ∷ []) ≡ ready_after delivery (ready_after_all delivery ready arrivals) arrival
ready_after_last delivery ready [] arrival = refl
ready_after_last delivery ready (first ∷ arrivals) arrival = ready_after_last delivery (ready_after delivery ready first) arrivals arrival

-- the resolution by its first step
module _ (delivery : SignalDelivery) (slots : Slots) (left : AwaitTree ℕ) where
  pub awake_now : (others : List Arrival) (waiting : Ready) → is_awake left (handle_state slots waiting) ≡ true → resolution_of delivery slots left others waiting ≡ Awake others waiting
  awake_now [] waiting awake = rw awake refl
  awake_now (arrival ∷ others) waiting awake = rw awake refl

  pub at_end : (waiting : Ready) → is_awake left (handle_state slots waiting) ≡ false → resolution_of delivery slots left [] waiting ≡ Asleep (pruned left (handle_state slots waiting)) waiting
  at_end waiting e = rw e refl

  pub one_less : (behind : List Arrival) (waiting : Ready) (arrival : Arrival) → is_awake left (handle_state slots waiting) ≡ false
      → resolution_of delivery slots left (arrival ∷ behind) waiting ≡ resolution_of delivery slots (pruned left (handle_state slots waiting)) behind (ready_after delivery waiting arrival)
  one_less behind waiting arrival e = rw e refl

module _ (delivery : SignalDelivery) (slots : Slots) (tree : AwaitTree ℕ) (queue : List Arrival) (ready : Ready) where
  pub record Going (flat : Awaited) (others : List Arrival) (waiting : Ready) : Type 0 where
    pub leaves : ℕ → AwaitState
    pub left : AwaitTree ℕ
    pub way : OnTheWay delivery slots tree queue ready left others waiting
    pub follows : Follows delivery slots tree left leaves waiting
    pub awaits : flat ≡ awaited_over slots leaves tree

  pub starts : (flat : Awaited) → flat ≡ awaited_over slots (handle_state slots ready) tree → Going flat queue ready
  starts flat awaits = record {
    leaves = handle_state slots ready;
    left = tree;
    way = record { looked = []; queue_is = refl; ready_is = refl; same = refl };
    follows = record { awake = refl; less = λ e. refl; waits = λ handle e. e };
    awaits = awaits;
  }

  -- whether it is awake
  woken : (flat : Awaited) (others : List Arrival) (waiting : Ready) (going : Going flat others waiting) → has_woken flat ≡ is_awake tree going.leaves
  woken flat others waiting going = ap has_woken going.awaits ∙ over-woken slots going.leaves tree

  pub wakes : (flat : Awaited) (others : List Arrival) (waiting : Ready) → Going flat others waiting → has_woken flat ≡ true → resolution_of delivery slots tree queue ready ≡ Awake others waiting
  wakes flat others waiting going awake =
      sym going.way.same ∙ awake_now delivery slots going.left others waiting (going.follows.awake ∙ sym (woken flat others waiting going) ∙ awake)

  -- what is left of it, where it sleeps
  left-is : (flat : Awaited) (others : List Arrival) (waiting : Ready) (answer : UnresolvedFuture) (going : Going flat others waiting) → is_awake tree going.leaves ≡ false
      → ForSome flat (λ some. tree_of answer ≡ still_waits some) → tree_of answer ≡ pruned tree going.leaves
  left-is flat others waiting answer going asleep told =
      let there : flat ≡ Some (map_leaves (leaf_over slots going.leaves) tree) = going.awaits ∙ over-asleep slots going.leaves tree asleep in
      (subst (λ (some : Awaited). ForSome some (λ t. tree_of answer ≡ still_waits t)) there told) (map_leaves (leaf_over slots going.leaves) tree) refl ∙ over-left slots going.leaves tree

  pub ends : (flat : Awaited) (others : List Arrival) (waiting : Ready) (answer : UnresolvedFuture) → Going flat others waiting → has_woken flat ≡ false → others ≡ []
      → ForSome flat (λ some. tree_of answer ≡ still_waits some) → resolution_of delivery slots tree queue ready ≡ Asleep (tree_of answer) waiting
  ends flat others waiting answer going asleep none told =
      let sleeps : is_awake tree going.leaves ≡ false = sym (woken flat others waiting going) ∙ asleep in
      sym going.way.same ∙ ap (λ (xs : List Arrival). resolution_of delivery slots going.left xs waiting) none
      ∙ at_end delivery slots going.left waiting (going.follows.awake ∙ sleeps)
      ∙ ap (λ (t : AwaitTree ℕ). Asleep t waiting) (going.follows.less sleeps ∙ sym (left-is flat others waiting answer going sleeps told))

  pub goes_on : (flat after : Awaited) (others behind rest : List Arrival) (waiting now : Ready) (arrival : Arrival) (state : AwaitState) → Going flat others waiting → has_woken flat ≡ false
      → others ≡ arrival ∷ behind → rest ≡ behind → now ≡ ready_after delivery waiting arrival → state ≡ state_of_result (Some arrival.result)
      → after ≡ delivered arrival.id state flat → Going after rest now
  goes_on flat after others behind rest waiting now arrival state going asleep front same_rest is_now is_state told =
      let sleeps : is_awake tree going.leaves ≡ false = sym (woken flat others waiting going) ∙ asleep in
      rw (same_rest, is_now) (record {
        leaves = earlier_or_later going.leaves (brought (waits_for slots arrival.id) (state_of_result (Some arrival.result)));
        left = pruned tree going.leaves;
        way = record {
          looked = going.way.looked ++ arrival ∷ [];
          queue_is = going.way.queue_is ∙ ap (λ (xs : List Arrival). going.way.looked ++ xs) front ∙ sym (append_assoc going.way.looked (arrival ∷ []) behind);
          ready_is = ap (λ (r : Ready). ready_after delivery r arrival) going.way.ready_is ∙ sym (ready_after_last delivery ready going.way.looked arrival);
          same = ap (λ (t : AwaitTree ℕ). resolution_of delivery slots t behind (ready_after delivery waiting arrival)) (sym (going.follows.less sleeps))
              ∙ sym (one_less delivery slots going.left behind waiting arrival (going.follows.awake ∙ sleeps)) ∙ ap (λ (xs : List Arrival). resolution_of delivery slots going.left xs waiting) (sym front) ∙ going.way.same;
        };
        follows = follows-on delivery slots tree going.leaves waiting arrival sleeps going.follows.waits;
        awaits = told ∙ ap₂ (λ (s : AwaitState) (v : Awaited). delivered arrival.id s v) is_state going.awaits ∙ over-later slots going.leaves tree arrival.id (state_of_result (Some arrival.result));
      })

  pub stops : (flat : Awaited) (others rest : List Arrival) (waiting now : Ready) → Going flat others waiting → rest ≡ others → now ≡ waiting → StopsMidway delivery slots tree queue ready rest now
  stops flat others rest waiting now going same_rest is_now = rw (same_rest, is_now) (going.left, going.way)

  pub stops-first : (rest : List Arrival) (now : Ready) → rest ≡ queue → now ≡ ready → StopsMidway delivery slots tree queue ready rest now
  stops-first rest now same_rest is_now = rw (same_rest, is_now) (tree, record { looked = []; queue_is = refl; ready_is = refl; same = refl })

pub on_err : {A E P : Type 0} (result : Result A E) → P → OnErr result P
on_err (Ok answer) it = tt
on_err (Err error) it = it
