-- What a schedule leaves of an invocation.
use Rattle.std.proofs.Common.{◌≡◌, refl, sym, subst, ◌∙◌, Bool, true, false, true≢false, ◌&&◌, List, [], ◌∷◌, Some, filter_map, bytes_eq}
use Rattle.std.proofs.lemmas.Slice.Eq.{bytes_eq-Decides}
use Rattle.journal_model.specs.declared.invocation.NewInvocation.{NewInvocation}
use Rattle.journal_model.specs.Notification.{Text}
use Rattle.journal_model.specs.Event.{Event}
use Rattle.journal_model.specs.Journal.{begins, invoked_by, invocation_begun, starting_state}
use Rattle.journal_model.specs.Cause.{IsAccepted}
use Rattle.journal_model.specs.Run.{Handler, Invocation}
use Rattle.journal_model.specs.Headline.{run_of, FollowsRun, Headline}
use Rattle.journal_laws.proofs.ObjectState.{find-passes}
use Rattle.live_laws.specs.RequestsInFlight.{FollowsSo}
use Rattle.input_laws.proofs.Events.{not_begun}
use Rattle.input_laws.proofs.LiveAttempts.{unborn_live, live_now}
use Rattle.live_laws.proofs.RequestsInFlight.{none_flies}
use Rattle.live_laws.proofs.Keeping.{all_events}
use Rattle.run_laws.proofs.Beginning.{unborn_of_run}
use Rattle.live_laws.specs.TurnLaws.{LeavesOfRun, SchedulesLeave}
use Rattle.run_laws.proofs.Holding.{all_holds, holds_follows, holds_wakes}

module _ (next : Handler) (given : Invocation) (id : Text) where
  -- one that was just begun
  pub begins_of_run : (event : Event) (events : List Event) → IsAccepted (event ∷ events) → begins id event ≡ true → FollowsSo next given id (event ∷ events) []
  begins_of_run (Event.Invoke new) events accepted e =
      let unborn = not_begun (Event.Invoke new) events id accepted e in record {
        accepted = accepted;
        holds = all_holds next given id (Event.Invoke new ∷ events) accepted (tt, unborn_of_run next given id events accepted.1 unborn);
        flies = none_flies next given id (Event.Invoke new ∷ events) [] (live_now (Event.Invoke new) events id refl (never (bytes_eq new.id id)) ∙ unborn_live events accepted.1 id unborn);
      }
    where
      never : (b : Bool) → (b && false) ≡ false
      never true = refl
      never false = refl
  begins_of_run event events accepted e = absurd (true≢false (sym e))

-- what a schedule leaves of an invocation
pub schedule_leaves : SchedulesLeave
schedule_leaves next options fallback_seed id events coming schedule = (leaves_headline, leaves)
  where
    leaves : (new : NewInvocation) → invocation_begun events id ≡ Some new → LeavesOfRun next (run_of options fallback_seed new (starting_state events id)) id events
    leaves new is =
        let f = all_events next (run_of options fallback_seed new (starting_state events id)) id (schedule new is) in
        let (never_late, exactly) = holds_wakes next (run_of options fallback_seed new (starting_state events id)) id events f.holds in
        record { holds = f.holds; never_late = never_late; exactly = exactly }

    leaves_headline : Headline next options fallback_seed events id
    leaves_headline new is =
        let same : new.id ≡ id = (bytes_eq-Decides new.id id).0 (find-passes (λ (other : NewInvocation). bytes_eq other.id id) (filter_map invoked_by events) new is) in
        let f = all_events next (run_of options fallback_seed new (starting_state events id)) id (schedule new is) in
        subst (λ (x : Text). FollowsRun next (run_of options fallback_seed new (starting_state events x)) events new) (sym same)
        (holds_follows next (run_of options fallback_seed new (starting_state events id)) id events new same f.accepted
        (subst (λ (x : Text). invocation_begun events x ≡ Some new) (sym same) is) f.holds)
