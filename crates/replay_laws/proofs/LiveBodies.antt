-- The live attempt with the bodies of its runs: it begins, takes in what comes, and reads.
use Rattle.std.proofs.Common.{◌≡◌, refl, sym, ap, ◌∙◌, subst, ℕ, ◌≤◌, inl, inr, true, false, List, [], ◌∷◌, ◌++◌, append-nil, take, map, None}
use Rattle.std.specs.List.{AllByRecursion}
use Rattle.journal_model.specs.declared.options.RunOptions.{RunOptions}
use Rattle.journal_model.specs.declared.value.NonEmptyValue.{NonEmptyValue}
use Rattle.journal_model.specs.Notification.{Text, Arrival}
use Rattle.journal_model.specs.Request.{Request}
use Rattle.journal_model.specs.Run.{Handler, run, BeginsRun}
use Rattle.journal_model.specs.Event.{Event, Frame}
use Rattle.journal_model.specs.Journal.{completion, begins, entries_of, recorded_requests, recorded_arrivals}
use Rattle.journal_model.specs.Attempt.{begins_attempt, bytes_asked, input_left}
use Rattle.journal_model.specs.Cause.{IsAccepted}
use Rattle.input_laws.specs.Message.{InputMessage, arrivals_carried, requests_carried, IsBroughtBy, message_of}
use Rattle.input_laws.proofs.Telling.{entries_arrivals}
use Rattle.input_laws.proofs.News.{requests_carried-append}
use Rattle.input_laws.specs.CompletionsOnce.{count_of, numbers_asked}
use Rattle.attempt_model.specs.Machine.{machine_at_start}
use Rattle.live_laws.specs.RequestsInFlight.{requests_sent, PassesOn}
use Rattle.live_laws.specs.BegunAttempts.{IsProposed}
use Rattle.live_laws.specs.MachineTurn.{HasPosition}
use Rattle.live_laws.specs.StartFrame.{start_after}
use Rattle.live_laws.specs.AttemptWithMachine.{AttemptInRun, handed_bytes}
use Rattle.live_laws.proofs.LiveMachines.{machine_begins, machine_stays, position}
use Rattle.live_laws.proofs.Going.{later_none, none_unread}
use Rattle.body_laws.specs.Bodies.{Body, Executor, bodies_of}
use Rattle.body_laws.specs.BodySimulation.{Among}
use Rattle.body_laws.proofs.BodySimulation.{no_bodies}
use Rattle.replay_laws.specs.Outcomes.{runs}
use Rattle.replay_laws.specs.OutcomesInFlight.{OutcomesStand}
use Rattle.replay_laws.specs.AttemptWithBodies.{IsLiveExecutor, ExecutorsBegin, ExecutorsStayLive}
use Rattle.replay_laws.proofs.Asked.{begins_asking, body_asked, journal_read}
use Rattle.replay_laws.proofs.OutcomesInFlight.{outcomes_begin, outcomes_stay, begins_once}

-- ---- the begin

journal_arrivals : (events : List Event) (id : Text) → arrivals_carried (map (message_of (entries_of events id)) (entries_of events id)) ≡ recorded_arrivals events id
journal_arrivals events id = entries_arrivals (entries_of events id) (entries_of events id)

none_proposed : (outcome : ℕ × NonEmptyValue) → IsProposed [] outcome → ⊥
none_proposed outcome p = nothing p.before p.behind p.parts
  where
    nothing : (before behind : List (ℕ × NonEmptyValue)) → [] ≡ before ++ outcome ∷ behind → ⊥
    nothing [] behind e = cc
    nothing (x ∷ before) behind e = cc

pub executor_begins : ExecutorsBegin
executor_begins next options fallback_seed id now events new accepted begun holds = record {
  is_live = machine_begins next options fallback_seed id now events new accepted begun holds;
  machine = refl;
  idle = refl;
  bodies = no_bodies (start_after options fallback_seed events id now new).given.version [] (machine_at_start (start_after options fallback_seed events id now new).shown [] []);
  asked = inl refl;
  texts = refl;
  outcomes = subst (λ (arrivals : List Arrival). OutcomesStand (Event.Begin id now ∷ events) id arrivals [] []) (sym (journal_arrivals events id)) (outcomes_begin events id now accepted);
  told = λ n value p. absurd (none_proposed (n, value) p);
}

module _ (next : Handler) (options : RunOptions) (fallback_seed : ℕ) (id : Text) (events : List Event) (live : AttemptInRun) (proposed : List (ℕ × NonEmptyValue)) (e : Executor) (accepted : IsAccepted events)
    (x : IsLiveExecutor next options fallback_seed id events live proposed e) where
  pub at : HasPosition next live.start.given live.start.shown live.read live.unread live.calls live.machine
  at = position next options fallback_seed id events live x.is_live

  -- the requests of its input are those of its journal
  input_requests : requests_carried (live.read ++ live.unread) ≡ requests_carried live.start.journal
  input_requests =
      ap requests_carried x.is_live.messages.parts ∙ requests_carried-append live.start.journal x.is_live.messages.later
      ∙ ap (λ (some : List Request). requests_carried live.start.journal ++ some) (later_none (entries_of events id) live.proposed x.is_live.messages.later x.is_live.messages.later_are)
      ∙ append-nil (requests_carried live.start.journal)

  -- what is recorded and what is on its way begins the run, over what it has read or over its journal
  pub begins_coming : (arrivals : List Arrival) × BeginsRun next live.start.given arrivals (recorded_requests events id ++ requests_sent live.coming)
  begins_coming =
      let (arrivals, begins) = begins_asking next live at x.is_live.begun.of_run input_requests in
      (arrivals, subst (λ (requests : List Request). BeginsRun next live.start.given arrivals requests) (sym x.is_live.asked) begins)

  pub whole : (n : ℕ) → count_of n (numbers_asked (recorded_requests events id ++ requests_sent live.coming)) ≤ 1
  whole n = let (arrivals, begins) = begins_coming in begins_once next live.start.given arrivals (recorded_requests events id ++ requests_sent live.coming) begins n

  -- ---- one more event

  brings_on : (event : Event) (coming : List Frame) → IsAccepted (event ∷ events) → begins id event ≡ false → begins_attempt id event ≡ false → PassesOn id event live.coming coming
      → OutcomesStand (event ∷ events) id (arrivals_carried live.start.journal) proposed coming
  brings_on event coming accepted' old going passes =
      let (arrivals, begins) = begins_coming in
      outcomes_stay next live.start.given arrivals events id event (arrivals_carried live.start.journal) proposed live.coming coming accepted' old going passes begins x.outcomes

  brings_same : (event : Event) (coming : List Frame) → IsAccepted (event ∷ events) → begins id event ≡ false → begins_attempt id event ≡ false → bytes_asked id event ≡ None → PassesOn id event live.coming coming
      → (more : List InputMessage) × AllByRecursion (IsBroughtBy (entries_of (event ∷ events) id) id event) more
      × IsLiveExecutor next options fallback_seed id (event ∷ events) (record live { unread = live.unread ++ more; coming = coming }) proposed e
  brings_same event coming accepted' old going asks passes =
      let (more, brought, still) = (machine_stays next options fallback_seed id events live accepted x.is_live).brings event coming old going asks passes in (
        more,
        brought,
        record {
          is_live = still;
          machine = x.machine;
          idle = x.idle;
          bodies = x.bodies;
          asked = elim x.asked [ inl zero ↦ inl zero | inr r ↦ inr (record { later = r.later; parts = r.parts }) ];
          texts = x.texts;
          outcomes = brings_on event coming accepted' old going passes;
          told = x.told;
        },
      )

  is_handed : (attempt most : ℕ) → IsAccepted (Event.Feed id attempt most ∷ events)
      → IsLiveExecutor next options fallback_seed id (Event.Feed id attempt most ∷ events) (handed_bytes live (take most (input_left events id))) proposed e
  is_handed attempt most accepted' = record {
    is_live = (machine_stays next options fallback_seed id events live accepted x.is_live).is_handed attempt most;
    machine = x.machine;
    idle = x.idle;
    bodies = x.bodies;
    asked = elim x.asked [ inl zero ↦ inl zero | inr r ↦ inr (record { later = r.later; parts = r.parts }) ];
    texts = x.texts;
    outcomes = brings_on (Event.Feed id attempt most) live.coming accepted' refl refl refl;
    told = x.told;
  }

  reads_begin : live.bytes ≡ live.start.frame ++ live.held → IsLiveExecutor next options fallback_seed id events (record live { bytes = live.held }) proposed e
  reads_begin f = record {
    is_live = (machine_stays next options fallback_seed id events live accepted x.is_live).reads_start f;
    machine = x.machine;
    idle = x.idle;
    bodies = x.bodies;
    asked = elim x.asked [ inl zero ↦ inl zero | inr r ↦ inr (record { later = r.later; parts = r.parts }) ];
    texts = x.texts;
    outcomes = x.outcomes;
    told = x.told;
  }

  -- ---- what it has read

  -- a run whose body it has is requested, in what is recorded or on its way
  pub body_requested : (body : Body) → Among body (bodies_of (run next live.start.given (arrivals_carried live.read) live.calls).steps)
      → runs body.completion (recorded_requests events id ++ requests_sent live.coming) ≡ true
  body_requested body a =
      ap (runs body.completion) x.is_live.asked
      ∙ body_asked next live at (none_unread next options fallback_seed id events live x.is_live (journal_read next live x.asked body a)) body a

pub executor_stays : ExecutorsStayLive
executor_stays next options fallback_seed id events live proposed e accepted x = record {
  brings = λ event coming accepted' old going asks passes. brings_same next options fallback_seed id events live proposed e accepted x event coming accepted' old going asks passes;
  is_handed = λ attempt most accepted'. is_handed next options fallback_seed id events live proposed e accepted x attempt most accepted';
  reads_start = λ f. reads_begin next options fallback_seed id events live proposed e accepted x f;
}
