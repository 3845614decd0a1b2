-- What resolving comes to, and what a delivery of the cancellation leaves that is taken.
use Rattle.std.proofs.Common.{◌≡◌, refl, sym, ap, ◌∙◌, subst, ℕ, Bool, true, false, if◌then◌else◌, List, [], ◌∷◌, drop, Option, Some, None, Result, Ok, Err, IfOk}
use Rattle.std.proofs.Math.Path.{fun_ext}
use Rattle.journal_model.specs.AwaitTree.{AwaitTree}
use Rattle.journal_model.specs.Await.{awaited_tree}
use Rattle.journal_model.specs.Notification.{same_id, cancel_id}
use Rattle.journal_model.specs.declared.notification.NotificationId.{NotificationId}
use Rattle.journal_model.specs.declared.notification.NotificationResult.{NotificationResult}
use Rattle.journal_model.specs.declared.options.ImplicitCancellationOption.{ImplicitCancellationOption}
use Rattle.journal_model.proofs.Ids.{same_id-same}
use Rattle.attempt_model.specs.Results.{Ready, first_waiting_result, waiting_for, ready_without_first, resolution_of}
use Rattle.vm_awaits.specs.Views.{AsyncResults}
use Rattle.vm_awaits.specs.Calls.{results_after_take}
use Rattle.vm_awaits.specs.FutureResolution.{resolution_as, line_left}
use Rattle.vm_awaits.specs.declared.resolving.ResolveFutureResult.{ResolveFutureResult}
use Rattle.vm_waiting.specs.AwaitSteps.{after_cancellation, Resolves}

pub resolves : {E : Type 0} (cancellation : ImplicitCancellationOption) (tree whole : AwaitTree ℕ) (old new : AsyncResults) (result : Result ResolveFutureResult E) → whole ≡ awaited_tree cancellation tree
    → IfOk result (λ answer. resolution_of old.delivery old.slots whole old.queue old.ready ≡ resolution_as new.queue new.ready answer)
    → IfOk result (λ answer. new.queue ≡ line_left new.queue answer) → new.delivery ≡ old.delivery → new.slots ≡ old.slots
    → IfOk result (λ answer. Resolves cancellation tree old answer new)
resolves cancellation tree whole old new (Ok answer) is resolved left delivery slots = record {
  resolution = ap (λ (t : AwaitTree ℕ). resolution_of old.delivery old.slots t old.queue old.ready) (sym is) ∙ resolved;
  queue = left;
  delivery = delivery;
  slots = slots;
}
resolves cancellation tree whole old new (Err error) is resolved left delivery slots = tt

-- what one resolution is answered, another that is equal is
pub resolves_so : (cancellation : ImplicitCancellationOption) (tree : AwaitTree ℕ) (old new : AsyncResults) (answer other : ResolveFutureResult) → answer ≡ other
    → Resolves cancellation tree old answer new → Resolves cancellation tree old other new
resolves_so cancellation tree old new answer other same resolves = subst (λ (r : ResolveFutureResult). Resolves cancellation tree old r new) same resolves

-- ---- a delivery of the cancellation

none_first : (results : List NotificationResult) → None ≡ first_waiting_result results → results ≡ drop 1 results
none_first [] e = refl
none_first (result ∷ results) e = absurd cc

-- where none waits, nothing goes
nothing_goes : (ready : Ready) → None ≡ first_waiting_result (ready cancel_id) → ready ≡ ready_without_first ready (Some cancel_id)
nothing_goes ready none = fun_ext (λ other. by_test other (same_id cancel_id other) refl)
  where
    by_test : (other : NotificationId) (b : Bool) → same_id cancel_id other ≡ b → ready other ≡ (if b then drop 1 (ready other) else ready other)
    by_test other true e = none_first (ready other) (none ∙ ap (λ (q : NotificationId). first_waiting_result (ready q)) (same_id-same cancel_id other e))
    by_test other false e = refl

pub cancels : (old new : AsyncResults) (taken : Option NotificationResult) → taken ≡ waiting_for old.slots old.ready 1 → new ≡ results_after_take 1 taken old → new ≡ after_cancellation old
cancels old new (Some taken) is rest = rest
cancels old new None is rest = rest ∙ ap (λ (ready : Ready). record old { ready = ready }) (nothing_goes old.ready is)
