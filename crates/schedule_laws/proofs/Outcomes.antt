-- The outcomes of runs on their way: none at first, as they stand behind one more event, and behind frames that propose none.
use Rattle.std.proofs.Common.{◌≡◌, ℕ, arith, Bool, false, List, [], ◌∷◌, ◌++◌, map, append-nil, append_assoc, Some, sym, ap, subst, inl, inr}
use Rattle.journal_model.specs.Notification.{Arrival, Text}
use Rattle.journal_model.specs.Request.{Request}
use Rattle.journal_model.specs.Event.{Event, Frame}
use Rattle.journal_model.specs.Journal.{begins, entries_of, recorded_arrivals, recorded_requests}
use Rattle.journal_model.specs.Attempt.{begins_attempt, live_attempt, is_input_closed}
use Rattle.journal_model.specs.Cause.{IsAccepted}
use Rattle.journal_model.specs.Headline.{arrivals_handed}
use Rattle.journal_model.specs.Run.{Handler, Invocation, BeginsRun}
use Rattle.protocol_types.specs.declared.version.Version.{Version}
use Rattle.std.specs.List.{AllByRecursion}
use Rattle.live_laws.specs.RequestsInFlight.{requests_sent, SendsOfRun, FollowsSo, PassesOn}
use Rattle.live_laws.specs.TurnWrites.{IsNote, notes}
use Rattle.live_laws.proofs.RequestsInFlight.{sends-append}
use Rattle.live_laws.proofs.TurnWrites.{writes_send}
use Rattle.replay_laws.proofs.OutcomesInFlight.{outcomes_stay, others_follow, outcomes_are_open}
use Rattle.vm_attempt_laws.specs.Bodies.{outcomes_in}
use Rattle.vm_attempt_laws.specs.AttemptInvariants.{TellsBy}
use Rattle.vm_attempt_laws.specs.OutputOfAttempt.{Sent, frame_meant}
use Rattle.vm_attempt_laws.specs.Words.{Error}
use Rattle.schedule_laws.specs.FrameSoundness.{IsOpenOutcome}
use Rattle.schedule_laws.specs.InvocationInRun.{OutcomesFly}

-- ---- none is on its way

pub none_fly : (id : Text) (events : List Event) → OutcomesFly id events []
none_fly id events = record {
  journal = recorded_arrivals events id;
  proposed = [];
  stand = record {
    once = λ n. omega arith;
    few = λ n. omega arith;
    unrecorded = λ n some. absurd (omega (arith, some));
    behind = tt;
    own = λ n asked come. inl come;
  };
}

-- ---- one more event

module _ (next : Handler) (given : Invocation) where
  -- frames of the run, behind requests that begin it, begin it
  begins_sent : (handed : List Arrival) (is_closed : Bool) (frames : List Frame) (arrivals : List Arrival) (requests : List Request) → BeginsRun next given arrivals requests
      → SendsOfRun next given handed is_closed requests frames → (some : List Arrival) × BeginsRun next given some (requests ++ requests_sent frames)
  begins_sent handed is_closed [] arrivals requests begins sends = (arrivals, subst (λ (some : List Request). BeginsRun next given arrivals some) (sym (append-nil requests)) begins)
  begins_sent handed is_closed (Frame.Command request ∷ frames) arrivals requests begins sends =
      let more = begins_sent handed is_closed frames handed (requests ++ request ∷ []) sends.0 sends.1 in
      (more.0, subst (λ (some : List Request). BeginsRun next given more.0 some) (append_assoc requests (request ∷ []) (requests_sent frames)) more.1)
  begins_sent handed is_closed (frame ∷ frames) arrivals requests begins sends =
      let more = begins_sent handed is_closed frames arrivals (requests ++ []) (subst (λ (some : List Request). BeginsRun next given arrivals some) (sym (append-nil requests)) begins) sends.1 in
      (more.0, subst (λ (some : List Request). BeginsRun next given more.0 (some ++ requests_sent frames)) (append-nil requests) more.1)

  pub fly_on : (id : Text) (event : Event) (events : List Event) (coming left : List Frame) (number : ℕ) → IsAccepted (event ∷ events) → begins id event ≡ false → begins_attempt id event ≡ false
      → PassesOn id event coming left → FollowsSo next given id events coming → live_attempt events id ≡ Some number → OutcomesFly id events coming → OutcomesFly id (event ∷ events) left
  fly_on id event events coming left number accepted old going passes follows live o =
      let begun = begins_sent (arrivals_handed events id) (is_input_closed events id) coming (recorded_arrivals events id) (recorded_requests events id) follows.holds.begins (follows.flies number live) in
      record {
        journal = o.journal;
        proposed = o.proposed;
        stand = outcomes_stay next given begun.0 events id event o.journal o.proposed coming left accepted old going passes begun.1 o.stand;
      }

-- ---- frames behind them

-- frames that say nothing of requests are of the run
pub notes_follow : (next : Handler) (given : Invocation) (id : Text) (events : List Event) (coming frames : List Frame) → FollowsSo next given id events coming → AllByRecursion IsNote frames
    → FollowsSo next given id events (coming ++ frames)
notes_follow next given id events coming frames f all = record {
  accepted = f.accepted;
  holds = f.holds;
  flies = λ attempt live.
      sends-append next given (arrivals_handed events id) (is_input_closed events id) (recorded_requests events id) coming frames (f.flies attempt live)
      (writes_send next given (arrivals_handed events id) (is_input_closed events id) (recorded_requests events id ++ requests_sent coming) frames (notes frames all));
}

pub others_fly : (id : Text) (events : List Event) (coming sent : List Frame) → outcomes_in sent ≡ [] → OutcomesFly id events coming → OutcomesFly id events (coming ++ sent)
others_fly id events coming sent none o = record { journal = o.journal; proposed = o.proposed; stand = others_follow events id o.journal o.proposed coming sent none o.stand }

-- what tells an error proposes none
pub told_none : (version : Version) (told : Error) (sent : List Sent) → TellsBy told sent → outcomes_in (map (frame_meant version) sent) ≡ []
told_none version told sent (inl one) = ap (λ (coming : List Sent). outcomes_in (map (frame_meant version) coming)) one
told_none version told sent (inr none) = ap (λ (coming : List Sent). outcomes_in (map (frame_meant version) coming)) none.1

-- ---- the first of them

-- an outcome that comes first is open
pub first_open : (id : Text) (events : List Event) (frame : Frame) (frames : List Frame) → IsAccepted events → OutcomesFly id events (frame ∷ frames) → IsOpenOutcome (entries_of events id) frame
first_open id events (Frame.RunOutcome n value told) frames accepted o = outcomes_are_open events id o.journal o.proposed frames n value told accepted o.stand
first_open id events frame frames accepted o = tt
