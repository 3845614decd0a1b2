-- What is left of a tree that is pruned at each step stands to the whole one, whose leaves keep what they came to first.
use Rattle.std.proofs.Common.{◌≡◌, refl, ap, ◌∙◌, ℕ, Bool, true, false, if◌then◌else◌, List, [], ◌∷◌, ◌++◌, Option, Some, None}
use Rattle.std.proofs.Math.Path.{fun_ext}
use Rattle.std.specs.Prelude.{option_and_then}
use Rattle.journal_model.specs.declared.notification.NotificationId.{NotificationId}
use Rattle.journal_model.specs.declared.notification.NotificationResult.{NotificationResult}
use Rattle.journal_model.specs.declared.notification.NotificationResult.TheVariants as results
use Rattle.journal_model.specs.declared.options.SignalDelivery.{SignalDelivery}
use Rattle.journal_model.specs.Notification.{same_id, Arrival}
use Rattle.journal_model.specs.Options.{replaces}
use Rattle.journal_model.specs.Delivery.{state_of_result}
use Rattle.journal_model.specs.AwaitTree.{AwaitTree, AwaitState, Pending, Succeeded, Failed, await_state, is_completed, has_ended_node, is_awake}
use Rattle.journal_model.specs.PrunedTrees.{pruned, earlier_or_later}
use Rattle.journal_laws.proofs.Leaving.{or-false}
use Rattle.journal_laws.proofs.Pruning.{pruned-awake, pruned-again}
use Rattle.attempt_model.specs.Results.{Ready, Slots, first_waiting_result, slot_of, handle_state, ready_after}
use Rattle.vm_flat_trees.specs.NotificationRecipients.{is_for, brought_by}

none_waits : (waiting : List NotificationResult) → state_of_result (first_waiting_result waiting) ≡ Pending → waiting ≡ []
none_waits [] e = refl
none_waits (results.Void ∷ waiting) e = absurd cc
none_waits (results.Value bytes ∷ waiting) e = absurd cc
none_waits (results.Failure failure ∷ waiting) e = absurd cc
none_waits (results.InvocationId id ∷ waiting) e = absurd cc
none_waits (results.StateKeys keys ∷ waiting) e = absurd cc

module _ (delivery : SignalDelivery) (slots : Slots) where
  by_tests : (arrival : Arrival) (same replaced : Bool) → state_of_result (first_waiting_result (if same then (if replaced then arrival.result ∷ [] else [] ++ arrival.result ∷ []) else [])) ≡ (if same then state_of_result (Some arrival.result) else Pending)
  by_tests arrival true true = refl
  by_tests arrival true false = refl
  by_tests arrival false replaced = refl

  by_slot : (ready : Ready) (arrival : Arrival) (slot : Option NotificationId) → state_of_result (option_and_then (λ id. first_waiting_result (ready id)) slot) ≡ Pending
      → state_of_result (option_and_then (λ id. first_waiting_result (ready_after delivery ready arrival id)) slot) ≡ (if is_for arrival.id slot then state_of_result (Some arrival.result) else Pending)
  by_slot ready arrival None e = refl
  by_slot ready arrival (Some id) e =
      ap (λ (waiting : List NotificationResult). state_of_result (first_waiting_result (if same_id arrival.id id then (if replaces delivery id then arrival.result ∷ [] else waiting ++ arrival.result ∷ []) else waiting))) (none_waits (ready id) e)
      ∙ by_tests arrival (same_id arrival.id id) (replaces delivery id)

  -- of a handle for which nothing waits
  brings : (ready : Ready) (arrival : Arrival) (handle : ℕ) → handle_state slots ready handle ≡ Pending → handle_state slots (ready_after delivery ready arrival) handle ≡ brought_by slots arrival handle
  brings ready arrival handle e = by_slot ready arrival (slot_of slots handle) e

  is-pending : (s : AwaitState) → is_completed s ≡ false → s ≡ Pending
  is-pending Pending e = refl
  is-pending Succeeded e = cc
  is-pending Failed e = cc

  not-pending : (s : AwaitState) → is_completed s ≡ true → s ≡ Pending → ⊥
  not-pending Pending e f = cc
  not-pending Succeeded e f = cc
  not-pending Failed e f = cc

  -- what is left of a tree stands to the whole one
  pub record Follows (tree left : AwaitTree ℕ) (leaves : ℕ → AwaitState) (ready : Ready) : Type 0 where
    pub awake : is_awake left (handle_state slots ready) ≡ is_awake tree leaves
    pub less : is_awake tree leaves ≡ false → pruned left (handle_state slots ready) ≡ pruned tree leaves
    pub waits : (handle : ℕ) → leaves handle ≡ Pending → handle_state slots ready handle ≡ Pending

  pub follows-on : (tree : AwaitTree ℕ) (leaves : ℕ → AwaitState) (ready : Ready) (arrival : Arrival) → is_awake tree leaves ≡ false → ((handle : ℕ) → leaves handle ≡ Pending → handle_state slots ready handle ≡ Pending)
      → Follows tree (pruned tree leaves) (earlier_or_later leaves (brought_by slots arrival)) (ready_after delivery ready arrival)
  follows-on tree leaves ready arrival asleep waits =
      let same : earlier_or_later leaves (handle_state slots (ready_after delivery ready arrival)) ≡ earlier_or_later leaves (brought_by slots arrival) =
      fun_ext (λ handle. by_state handle (is_completed (leaves handle)) refl) in
      record {
        awake = pruned-awake leaves (handle_state slots (ready_after delivery ready arrival)) tree asleep ∙ ap (is_awake tree) same;
        less = λ e. pruned-again leaves (handle_state slots (ready_after delivery ready arrival)) tree ((or-false (is_completed (await_state tree leaves)) (has_ended_node tree leaves) asleep).1) ∙ ap (pruned tree) same;
        waits = λ handle. still handle (is_completed (leaves handle)) refl;
      }
    where
      by_state : (handle : ℕ) (b : Bool) → is_completed (leaves handle) ≡ b
          → (if b then leaves handle else handle_state slots (ready_after delivery ready arrival) handle) ≡ (if b then leaves handle else brought_by slots arrival handle)
      by_state handle true e = refl
      by_state handle false e = brings ready arrival handle (waits handle (is-pending (leaves handle) e))

      still : (handle : ℕ) (b : Bool) → is_completed (leaves handle) ≡ b → (if b then leaves handle else brought_by slots arrival handle) ≡ Pending
          → handle_state slots (ready_after delivery ready arrival) handle ≡ Pending
      still handle true e f = absurd (not-pending (leaves handle) e f)
      still handle false e f = brings ready arrival handle (waits handle (is-pending (leaves handle) e)) ∙ f
