-- From the await at which a run waits to what its suspension tells.
use Rattle.std.proofs.Common.{ℕ, suc, ◌-◌, ◌≤◌, arith, ◌≡◌, refl, sym, ap, subst, ◌∙◌, Bool, true, false, true≢false, if◌then◌else◌, List, length, Option, Some, None}
use Rattle.journal_model.specs.declared.notification.NotificationId.{NotificationId}
use Rattle.journal_model.specs.AwaitTree.{AwaitTree, Single, Pending, is_awake}
use Rattle.journal_model.specs.History.{Step, place_of}
use Rattle.journal_model.specs.Delivery.{leaf_state}
use Rattle.journal_model.specs.Await.{WaitsFor, WokenAt, child_id, first_unknown, tracked_children, awaited_ids, awake_place, is_awake_at, is_cancelled_at, children_place, cancellation_outcome, outcome_from}
use Rattle.journal_model.specs.PrunedTrees.{pruned}
use Rattle.journal_model.specs.Run.{run}
use Rattle.journal_model.proofs.Extension.{run-within, place_of-within}
use Rattle.run_laws.proofs.WaitingRuns.{waited, steps_at_wait, is_over}
use Rattle.run_laws.specs.SuspensionContent.{TellsAwaitedTree}
use Rattle.run_laws.specs.WakingLaws.{AwaitsTell, ChildrenTell, WaitsAsleep}
use Rattle.run_laws.proofs.Waking.{least-none}
use Rattle.run_laws.proofs.Suspending.{left_asleep}

pub awaits_tell : AwaitsTell
awaits_tell next given arrivals calls requests ids left suspension going waits exactly left_is tells = record {
  calls = suc calls;
  tree = ids;
  waits = waits;
  exactly = sym exactly;
  tells =
      subst (λ (tree : AwaitTree (Option NotificationId)). TellsAwaitedTree given.version tree (Some suspension))
      (left_is
      ∙ ap (λ (steps : List Step). pruned ids (leaf_state given.options steps arrivals (place_of steps) (length arrivals))) (sym (steps_at_wait next given arrivals calls ids going waits)))
      tells;
}

pub children_tell : ChildrenTell
children_tell next given arrivals calls requests child suspension waits exactly tells =
    record { calls = calls; tree = Single child; waits = waits; exactly = sym exactly; tells = tells }

waits_same : (a b : AwaitTree (Option NotificationId)) → WaitsFor a ≡ WaitsFor b → a ≡ b
waits_same a b e = cc

pub waits_asleep : WaitsAsleep
waits_asleep next given arrivals calls tree waits =
    let steps = (run next given arrivals calls).steps in
    let at = waited next given arrivals calls tree waits in
    by_found steps (awaited_ids given.options steps at.asked) (place_of-within (length arrivals) steps (run-within next given arrivals calls))
    (awake_place given.options steps arrivals (awaited_ids given.options steps at.asked)) refl at.outcome
  where
    by_found : (steps : List Step) (ids : AwaitTree (Option NotificationId)) → place_of steps ≤ length arrivals → (found : Option ℕ) → awake_place given.options steps arrivals ids ≡ found
        → outcome_from given.options steps arrivals ids found ≡ WaitsFor tree → is_awake (pruned tree (leaf_state given.options steps arrivals (place_of steps) (length arrivals))) (λ leaf. Pending) ≡ false
    by_found steps ids within None e outcome =
        subst (λ (t : AwaitTree (Option NotificationId)). is_awake (pruned t (leaf_state given.options steps arrivals (place_of steps) (length arrivals))) (λ leaf. Pending) ≡ false)
        (waits_same ids tree outcome)
        (left_asleep (leaf_state given.options steps arrivals (place_of steps) (length arrivals)) ids
        (least-none (is_awake_at given.options steps arrivals ids (place_of steps)) (place_of steps) (length arrivals - place_of steps) e (length arrivals) within (omega (arith, within))))
    by_found steps ids within (Some place) e outcome =
        by_cancel (is_cancelled_at given.options steps arrivals place) (children_place given.options steps arrivals place) outcome
      where
        by_cancel : (b : Bool) (some : Option ℕ) → (if b then cancellation_outcome given.options steps arrivals some else WokenAt place) ≡ WaitsFor tree
            → is_awake (pruned tree (leaf_state given.options steps arrivals (place_of steps) (length arrivals))) (λ leaf. Pending) ≡ false
        by_cancel false some outcome = absurd (true≢false (ap is_over outcome))
        by_cancel true (Some r) outcome = absurd (true≢false (ap is_over outcome))
        by_cancel true None outcome =
            subst (λ (t : AwaitTree (Option NotificationId)). is_awake (pruned t (leaf_state given.options steps arrivals (place_of steps) (length arrivals))) (λ leaf. Pending) ≡ false)
            (waits_same (Single (child_id (first_unknown given.options steps arrivals (tracked_children given.options.implicit_cancellation steps)))) tree outcome) refl
