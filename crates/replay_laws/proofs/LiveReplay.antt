-- The live attempt of a store replays its journal.
use Rattle.std.proofs.Common.{◌≡◌, refl, sym, ap, ◌∙◌, subst, ℕ, true, List, [], ◌∷◌, ◌++◌, map}
use Rattle.std.specs.List.{AllByRecursion}
use Rattle.journal_model.specs.declared.invocation.StateMode.{StateMode}
use Rattle.journal_model.specs.declared.options.RunOptions.{RunOptions}
use Rattle.journal_model.specs.declared.value.NonEmptyValue.{NonEmptyValue}
use Rattle.journal_model.specs.Notification.{Text, Arrival}
use Rattle.journal_model.specs.State.{StateMap}
use Rattle.journal_model.specs.Run.{Handler, Invocation}
use Rattle.journal_model.specs.Event.{Event}
use Rattle.journal_model.specs.Journal.{Entry, Recorded, Arrived, starting_state, entries_of, recorded_requests, recorded_arrivals}
use Rattle.journal_model.specs.Attempt.{input_left}
use Rattle.journal_model.specs.Cause.{IsAccepted}
use Rattle.journal_model.specs.Headline.{shown_state}
use Rattle.run_laws.specs.Keys.{HasTextKeys}
use Rattle.run_laws.proofs.States.{starts_text}
use Rattle.input_laws.specs.Message.{InputMessage, CarriesInput, CarriesRequest, CarriesArrival, CarriesOutcome, arrivals_carried, requests_carried, message_of}
use Rattle.input_laws.proofs.Telling.{entries_requests}
use Rattle.input_laws.specs.CompletionsOnce.{ComeWhenAsked}
use Rattle.input_laws.proofs.Results.{recorded_when_asked}
use Rattle.live_laws.specs.RequestsInFlight.{requests_sent}
use Rattle.live_laws.specs.BegunAttempts.{IsBegunAfter, begun_last, begun_earlier, IsProposed, IsLater}
use Rattle.live_laws.proofs.StartFrame.{start_shows}
use Rattle.live_laws.specs.AskedArrivals.{GiveIds, keys_are_text, are_by_text}
use Rattle.live_laws.specs.AttemptWithMachine.{AttemptInRun}
use Rattle.live_laws.proofs.Recording.{ids_recorded}
use Rattle.live_laws.proofs.Texts.{requests_text, records_text}
use Rattle.body_laws.specs.Bodies.{Executor, acknowledges}
use Rattle.body_laws.specs.BodySimulation.{Among, has_arrived}
use Rattle.replay_laws.specs.AttemptWithBodies.{IsLiveExecutor}
use Rattle.replay_laws.specs.ReplayedAttempt.{IsOfJournal, IsBehind, CanReplay, ComesAsAsked, requests_asked_by, IsReplayed}
use Rattle.replay_laws.specs.Laws.{LivesReplay}

-- ---- its journal

-- what was accepted before an attempt was begun
accepted_before : (id : Text) (earlier : List Event) (now : ℕ) (events : List Event) → IsBegunAfter id earlier now events → IsAccepted events → IsAccepted earlier
accepted_before id earlier now events begun_last accepted = accepted.1
accepted_before id earlier now events (begun_earlier {events = before} event old going begun) accepted = accepted_before id earlier now before begun accepted.1

of_journal : (all entries : List Entry) → AllByRecursion IsOfJournal (map (message_of all) entries)
of_journal all [] = tt
of_journal all (Recorded request ∷ entries) = (tt, of_journal all entries)
of_journal all (Arrived arrival ∷ entries) = (tt, of_journal all entries)

-- the state that an invocation is shown has keys that are text, where that with which it begins has
shown_text : (mode : StateMode) (entries : StateMap) → HasTextKeys entries → HasTextKeys (shown_state mode entries).entries
shown_text StateMode.Whole entries all = all
shown_text StateMode.None entries all = tt

-- ---- what comes behind it

come_behind : (version : ℕ) (entries : List Entry) (told proposed : List (ℕ × NonEmptyValue)) (messages : List InputMessage)
    → ((n : ℕ) (value : NonEmptyValue) → IsProposed told (n, value) → (acknowledges version ≡ true) × Among (n, value) proposed)
    → AllByRecursion (IsLater entries told) messages → AllByRecursion (IsBehind version proposed) messages
come_behind version entries told proposed [] is all = tt
come_behind version entries told proposed (CarriesArrival type arrival ∷ messages) is all = (tt, come_behind version entries told proposed messages is all.1)
come_behind version entries told proposed (CarriesOutcome number value ∷ messages) is all = (is number value all.0, come_behind version entries told proposed messages is all.1)
come_behind version entries told proposed (CarriesInput new ∷ messages) is all = absurd all.0
come_behind version entries told proposed (CarriesRequest request ∷ messages) is all = absurd all.0

module _ (next : Handler) (options : RunOptions) (fallback_seed : ℕ) (id : Text) (events : List Event) (live : AttemptInRun) (proposed : List (ℕ × NonEmptyValue)) (e : Executor) (accepted : IsAccepted events)
    (x : IsLiveExecutor next options fallback_seed id events live proposed e) where
  starts : CanReplay next live.start
  starts = record {
    shows = start_shows next options fallback_seed events id live.start x.is_live.begun;
    of_run = x.is_live.begun.of_run;
    journal = subst (AllByRecursion IsOfJournal) (sym x.is_live.begun.begun.journal_is) (of_journal (entries_of x.is_live.begun.begun.earlier id) (entries_of x.is_live.begun.begun.earlier id));
    texts =
        ap are_by_text (ap requests_carried x.is_live.begun.begun.journal_is ∙ entries_requests (entries_of x.is_live.begun.begun.earlier id) (entries_of x.is_live.begun.begun.earlier id))
        ∙ requests_text x.is_live.begun.begun.earlier id (accepted_before id x.is_live.begun.begun.earlier x.is_live.begun.begun.now events x.is_live.begun.begun.begun accepted);
    keys =
        subst (λ (given : Invocation). HasTextKeys given.start.entries) (sym x.is_live.begun.given_is)
        (shown_text live.start.new.state (starting_state events id) (starts_text events id accepted));
  }

  same : recorded_arrivals events id ≡ arrivals_carried (live.read ++ live.unread)
  same = sym x.is_live.reads.all.arrivals

  comes : ComesAsAsked (arrivals_carried live.start.journal) proposed (requests_asked_by live) (arrivals_carried (live.read ++ live.unread))
  comes = record {
    first = recorded_requests events id;
    more = requests_sent live.coming;
    parts = x.is_live.asked;
    come = subst (λ (arrivals : List Arrival). ComeWhenAsked (recorded_requests events id) arrivals) same (recorded_when_asked events id accepted);
    ids = subst (λ (arrivals : List Arrival). GiveIds (recorded_requests events id) arrivals) same (ids_recorded events id accepted);
    keys = ap keys_are_text (sym same) ∙ records_text events id accepted;
    own = λ n r come. x.outcomes.own n r (ap (λ (arrivals : List Arrival). has_arrived arrivals n) same ∙ come);
  }

  replays : IsReplayed next live proposed e
  replays = record {
    start = starts;
    later = x.is_live.messages.later;
    parts = x.is_live.messages.parts;
    later_are = come_behind live.start.given.version (entries_of events id) live.proposed proposed x.is_live.messages.later x.told x.is_live.messages.later_are;
    comes = comes;
    holds = x.is_live.holds;
    rest = input_left events id;
    bytes = x.is_live.reads.bytes;
    stands = x.is_live.machine;
    machine = x.machine;
    idle = x.idle;
    bodies = x.bodies;
    asked = x.asked;
    texts = x.texts;
  }

pub lives_replay : LivesReplay
lives_replay next options fallback_seed id events live proposed e accepted x = replays next options fallback_seed id events live proposed e accepted x
