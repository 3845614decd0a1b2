-- The steps by which a cancellation is passed on.
use Rattle.std.proofs.Common.{◌≡◌, ap, ◌∙◌, subst, Bool, List, [], map, Option, Result, Ok, Err}
use Rattle.journal_model.specs.Notification.{Text}
use Rattle.journal_model.specs.Request.{Request}
use Rattle.journal_model.specs.declared.notification.NotificationResult.{NotificationResult}
use Rattle.attempt_model.specs.Children.{Child, cancel_requests_for}
use Rattle.attempt_model.specs.Results.{waiting_for}
use Rattle.vm_awaits.specs.Views.{AsyncResults, results_of, ready_of, slots_of}
use Rattle.vm_awaits.specs.Calls.{results_after_take}
use Rattle.vm_awaits.specs.declared.state.AsyncResultsState.{AsyncResultsState}
use Rattle.vm_calls.specs.declared.active.Active.{Active}
use Rattle.vm_calls.specs.Active.{IsActiveSettled}
use Rattle.vm_calls.specs.SpentReplay.{IsSpent}
use Rattle.vm_waiting.specs.AwaitSteps.{CancelsAll, StopsAmong}
use Rattle.vm_waiting.specs.ChildCancellation.{LooksFor, ids_known, cancels, PutsEach, PutsNone}
use Rattle.vm_waiting.specs.declared.cancelling.CancelError.{CancelError}
use Rattle.vm_waiting.specs.declared.children.ChildrenKnown.{ChildrenKnown}
use Rattle.vm_waiting.proofs.CancelReplies.{all_asked}
use Rattle.vm_waiting.proofs.ResolveLemmas as resolving

-- what was found, another that is equal was
pub looks_so : (children : List Child) (old : AsyncResults) (found other : ChildrenKnown) (new : AsyncResults) → found ≡ other → LooksFor children old found new → LooksFor children old other new
looks_so children old found other new same looks = subst (λ (k : ChildrenKnown). LooksFor children old k new) same looks

-- the requests are for the ids that are known
module _ (ignoring : Bool) (old : Active) (ids : List Text) (is : ids ≡ ids_known (ready_of old.results) old.children) where
  asked_same : map cancels ids ≡ cancel_requests_for (ready_of old.results) old.children
  asked_same = ap (λ (some : List Text). map cancels some) is ∙ all_asked (ready_of old.results) old.children

  module _ (result : Result (Unit {0}) CancelError) (new : Active) (puts : (written : List Request) → IsActiveSettled old → PutsEach ignoring (map cancels ids) written old result new)
      (spent : IsSpent old → PutsNone (map cancels ids) old result new) where
    puts_same : (written : List Request) → IsActiveSettled old → PutsEach ignoring (cancel_requests_for (ready_of old.results) old.children) written old result new
    puts_same written settled = subst (λ (requests : List Request). PutsEach ignoring requests written old result new) asked_same (puts written settled)

    spent_same : IsSpent old → PutsNone (cancel_requests_for (ready_of old.results) old.children) old result new
    spent_same none = subst (λ (requests : List Request). PutsNone requests old result new) asked_same (spent none)

  pub stops_among : (error other : CancelError) (new : Active) → error ≡ other → ((written : List Request) → IsActiveSettled old → PutsEach ignoring (map cancels ids) written old (Err error) new)
      → (IsSpent old → PutsNone (map cancels ids) old (Err error) new) → StopsAmong ignoring old other new
  stops_among error other new same puts spent =
      subst (λ (e : CancelError). StopsAmong ignoring old e new) same (record { puts = puts_same (Err error) new puts spent; spent = spent_same (Err error) new puts spent })

  pub cancels_each : (put : Active) (taken : Option NotificationResult) (results : AsyncResultsState) (children : List Child)
      → ((written : List Request) → IsActiveSettled old → PutsEach ignoring (map cancels ids) written old (Ok tt) put) → (IsSpent old → PutsNone (map cancels ids) old (Ok tt) put)
      → taken ≡ waiting_for (slots_of put.results) (ready_of put.results) 1 → results_of results ≡ results_after_take 1 taken (results_of put.results) → children ≡ []
      → CancelsAll ignoring old (record put { results = results; children = children })
  cancels_each put taken results children puts spent value rest none = record {
    put = put;
    puts = puts_same (Ok tt) put puts spent;
    spent = spent_same (Ok tt) put puts spent;
    taken = resolving.cancels (results_of put.results) (results_of results) taken value rest;
    others = ap (λ (cs : List Child). record put { results = results; children = cs }) none;
  }
