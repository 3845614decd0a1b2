-- What is kept of an invocation is kept by each event that takes frames of its run alone, from any list of events of which it holds.
use Rattle.std.proofs.Common.{◌≡◌, sym, ap, subst, ◌∙◌, List, ◌∷◌, Some, filter_map, bytes_eq}
use Rattle.journal_model.specs.declared.invocation.NewInvocation.{NewInvocation}
use Rattle.std.proofs.lemmas.Slice.Eq.{bytes_eq-Decides}
use Rattle.journal_model.specs.Notification.{Text}
use Rattle.journal_model.specs.Event.{Event}
use Rattle.journal_model.specs.Journal.{invoked_by, invocation_begun, starting_state}
use Rattle.journal_model.specs.Cause.{IsAccepted}
use Rattle.journal_model.specs.History.{requests_of}
use Rattle.journal_model.specs.Run.{Handler, Invocation, Progress}
use Rattle.journal_model.specs.Headline.{run_of, FollowsRun, NeverLate, WakesExactly}
use Rattle.journal_laws.proofs.ObjectState.{state_of_open, find-passes}
use Rattle.run_laws.specs.TakenFrames.{TakesOfRun, AllOfRun}
use Rattle.run_laws.specs.HeldInvocations.{Holds}
use Rattle.run_laws.specs.HeadlineLaws.{HeadlineStands, RunsRecordTheSame}
use Rattle.run_laws.proofs.Following.{begins_next, answered_next, all-begin, all-answered}
use Rattle.run_laws.proofs.WaitingRuns.{stopped_same}
use Rattle.run_laws.proofs.Whole.{whole_step, all-whole}
use Rattle.run_laws.proofs.Due.{still_step, still_waits, never_late, wakes_exactly}

module _ (next : Handler) (given : Invocation) (id : Text) where
  pub holds_step : (event : Event) (events : List Event) → IsAccepted (event ∷ events) → TakesOfRun next given id events event → Holds next given id events → Holds next given id (event ∷ events)
  holds_step event events accepted of_run h = record {
    begins = begins_next next given id event events accepted of_run h.begins;
    whole = (whole_step next given id event events accepted.1 of_run, h.whole);
    answered = answered_next next given id event events accepted of_run h.answered;
    waits = λ suspension e. still_step next given id event events suspension accepted of_run e (λ f. h.waits suspension f);
  }

  pub all_holds : (events : List Event) → IsAccepted events → AllOfRun next given id events → Holds next given id events
  all_holds events accepted of_run = record {
    begins = all-begin next given id events accepted of_run;
    whole = all-whole next given id events accepted of_run;
    answered = all-answered next given id events accepted of_run;
    waits = λ suspension e. still_waits next given id events accepted of_run suspension e;
  }

  pub holds_follows : (events : List Event) (new : NewInvocation) → new.id ≡ id → IsAccepted events → invocation_begun events new.id ≡ Some new → Holds next given id events → FollowsRun next given events new
  holds_follows events new same accepted is h =
      let there : Holds next given new.id events = subst (λ (x : Text). Holds next given x events) (sym same) h in record {
        calls = there.begins.calls;
        beginning = there.begins.beginning;
        whole = there.whole;
        ended = there.answered;
        state = state_of_open events new accepted is;
      }

  pub holds_wakes : (events : List Event) → Holds next given id events → NeverLate next given events id × WakesExactly next given events id
  holds_wakes events h = (never_late next given events id h.waits, wakes_exactly next given events id h.waits)

-- two records that are each the whole of the run over the same arrivals are the same
pub whole_same : RunsRecordTheSame
whole_same next given arrivals requests others a b =
    a.exactly ∙ ap (λ (p : Progress). requests_of p.steps) (stopped_same next given arrivals a.calls b.calls a.over b.over) ∙ sym b.exactly

-- ---- what holds of an invocation in every run, said of the events

pub headline : HeadlineStands
headline next options fallback_seed events id accepted holds new is =
    let same : new.id ≡ id = (bytes_eq-Decides new.id id).0 (find-passes (λ (other : NewInvocation). bytes_eq other.id id) (filter_map invoked_by events) new is) in
    subst (λ (x : Text). FollowsRun next (run_of options fallback_seed new (starting_state events x)) events new) (sym same)
    (holds_follows next (run_of options fallback_seed new (starting_state events id)) id events new same accepted
    (subst (λ (x : Text). invocation_begun events x ≡ Some new) (sym same) is) (holds new is))
