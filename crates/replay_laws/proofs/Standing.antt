-- Where an attempt that replays has read its journal, its machine stands in the run, and what it was fed fits and is of its kind.
use Rattle.std.proofs.Common.{◌≡◌, refl, sym, ap, ◌∙◌, subst, ℕ, ◌≤◌, true, ◌⊎◌, inl, inr, List, [], ◌∷◌, ◌++◌, append_assoc, append-nil}
use Rattle.std.specs.List.{AllByRecursion, list_all}
use Rattle.std.specs.Str.{is_utf8}
use Rattle.std.proofs.lemmas.List.{append_cancel_left}
use Rattle.journal_model.specs.declared.value.NonEmptyValue.{NonEmptyValue}
use Rattle.journal_model.specs.Notification.{Arrival}
use Rattle.journal_model.specs.Request.{Request}
use Rattle.journal_model.specs.History.{requests_of}
use Rattle.journal_model.specs.Run.{Handler, Progress, run_requests, BeginsRun}
use Rattle.journal_model.specs.Cause.{keys_of}
use Rattle.run_laws.proofs.Extending.{begins-less, begins-more}
use Rattle.input_laws.specs.Message.{InputMessage, CarriesInput, CarriesRequest, CarriesArrival, CarriesOutcome, arrivals_carried, requests_carried}
use Rattle.input_laws.proofs.News.{requests_carried-append}
use Rattle.input_laws.proofs.Telling.{arrivals_carried-append}
use Rattle.input_laws.specs.CompletionsOnce.{ComeWhenAsked, count_of, numbers_asked}
use Rattle.attempt_model.specs.Results.{are_keys_text}
use Rattle.attempt_model.specs.Simulation.{IsShown}
use Rattle.attempt_laws.proofs.Apart.{comes_once}
use Rattle.attempt_laws.proofs.Coming.{all-front, all-both, kinds_by_asking}
use Rattle.live_laws.specs.MachinePosition.{IsInRun}
use Rattle.live_laws.specs.MachineTurn.{HasPosition}
use Rattle.live_laws.proofs.MachinePosition.{none_before, none_behind, machine_position}
use Rattle.live_laws.specs.AskedArrivals.{GiveIds, keys_are_text, are_by_text, AsksByText}
use Rattle.live_laws.specs.AttemptWithMachine.{AttemptInRun, HasReadJournal}
use Rattle.live_laws.proofs.AskedArrivals.{fewer_come, fewer_give, come_as_asked}
use Rattle.body_laws.specs.Bodies.{Executor}
use Rattle.replay_laws.proofs.Asked.{begins_asking}
use Rattle.replay_laws.proofs.OutcomesInFlight.{begins_once}
use Rattle.replay_laws.specs.ReplayedAttempt.{IsBehind, requests_asked_by, IsReplayed}
use Rattle.replay_laws.specs.Laws.{StandsReplayed, ReplaysStand}

-- messages behind the journal carry no request
pub behind_none : (version : ℕ) (proposed : List (ℕ × NonEmptyValue)) (messages : List InputMessage) → AllByRecursion (IsBehind version proposed) messages → requests_carried messages ≡ []
behind_none version proposed [] all = refl
behind_none version proposed (CarriesArrival type arrival ∷ messages) all = behind_none version proposed messages all.1
behind_none version proposed (CarriesOutcome number value ∷ messages) all = behind_none version proposed messages all.1
behind_none version proposed (CarriesInput new ∷ messages) all = absurd all.0
behind_none version proposed (CarriesRequest request ∷ messages) all = absurd all.0

module _ (next : Handler) (live : AttemptInRun) (proposed : List (ℕ × NonEmptyValue)) (e : Executor) (x : IsReplayed next live proposed e) where
  pub at : HasPosition next live.start.given live.start.shown live.read live.unread live.calls live.machine
  at = machine_position next live.start.given live.start.shown live.read live.unread live.calls live.machine x.stands

  -- the requests of its input are those of its journal
  pub input_requests : requests_carried (live.read ++ live.unread) ≡ requests_carried live.start.journal
  input_requests =
      ap requests_carried x.parts ∙ requests_carried-append live.start.journal x.later
      ∙ ap (λ (some : List Request). requests_carried live.start.journal ++ some) (behind_none live.start.given.version proposed x.later x.later_are)
      ∙ append-nil (requests_carried live.start.journal)

  -- what is asked for begins the run, over what it has read or over its journal
  pub begins_asked : (arrivals : List Arrival) × BeginsRun next live.start.given arrivals (requests_asked_by live)
  begins_asked = begins_asking next live at x.start.of_run input_requests

  -- so each completion is asked for once
  pub asked_once : (n : ℕ) → count_of n (numbers_asked (x.comes.first ++ x.comes.more)) ≤ 1
  asked_once n =
      let (arrivals, begins) = begins_asked in
      begins_once next live.start.given arrivals (x.comes.first ++ x.comes.more) (subst (λ (requests : List Request). BeginsRun next live.start.given arrivals requests) (sym x.comes.parts) begins) n

  pub all_arrivals : arrivals_carried (live.read ++ live.unread) ≡ arrivals_carried live.read ++ arrivals_carried live.unread
  all_arrivals = arrivals_carried-append live.read live.unread

  module _ (r : HasReadJournal live) where
    read_requests : requests_carried live.read ≡ requests_carried live.start.journal ++ requests_carried r.later
    read_requests = ap requests_carried r.parts ∙ requests_carried-append live.start.journal r.later

    none_more : requests_carried r.later ++ requests_carried live.unread ≡ []
    none_more =
        append_cancel_left (requests_carried live.start.journal) (requests_carried r.later ++ requests_carried live.unread) []
        (sym (append_assoc (requests_carried live.start.journal) (requests_carried r.later) (requests_carried live.unread))
        ∙ ap (λ (some : List Request). some ++ requests_carried live.unread) (sym read_requests)
        ∙ sym (requests_carried-append live.read live.unread) ∙ input_requests ∙ sym (append-nil (requests_carried live.start.journal)))

    pub none_unread : requests_carried live.unread ≡ []
    none_unread = none_behind (requests_carried r.later) (requests_carried live.unread) none_more

    journal_requests : requests_carried live.read ≡ requests_carried live.start.journal
    journal_requests =
        read_requests ∙ ap (λ (some : List Request). requests_carried live.start.journal ++ some) (none_before (requests_carried r.later) (requests_carried live.unread) none_more)
        ∙ append-nil (requests_carried live.start.journal)

    -- what is asked for is what it has read and what it has written
    pub asked_read : requests_asked_by live ≡ requests_carried live.read ++ live.machine.written
    asked_read =
        ap (λ (some : List Request). some ++ live.machine.written)
        (requests_carried-append live.read live.unread ∙ ap (λ (some : List Request). requests_carried live.read ++ some) none_unread ∙ append-nil (requests_carried live.read))

    pub in_run : IsInRun next live.start.given live.read live.unread live.calls live.machine
    in_run = at.stands none_unread (subst (λ (requests : List Request). IsShown live.start.given.start requests live.start.shown) (sym journal_requests) x.start.shows.known)

    begins_read : BeginsRun next live.start.given (arrivals_carried live.read) (requests_carried live.read)
    begins_read =
        subst (λ (arrivals : List Arrival). BeginsRun next live.start.given arrivals (requests_carried live.read))
        (sym (ap arrivals_carried r.parts ∙ arrivals_carried-append live.start.journal r.later))
        (subst (λ (requests : List Request). BeginsRun next live.start.given (arrivals_carried live.start.journal ++ arrivals_carried r.later) requests) (sym journal_requests)
        (begins-more next live.start.given (arrivals_carried live.start.journal) (arrivals_carried r.later) (requests_carried live.start.journal) x.start.of_run))

    -- what it was asked and has written begins the run
    begins_at : BeginsRun next live.start.given (arrivals_carried live.read) (requests_carried live.read ++ live.machine.written)
    begins_at = by_replay at.position.replays
      where
        by_replay : ((at.left ≡ []) × (requests_carried live.unread ≡ [])) ⊎ (live.machine.written ≡ [])
            → BeginsRun next live.start.given (arrivals_carried live.read) (requests_carried live.read ++ live.machine.written)
        by_replay (inl (none, all)) = record {
          calls = live.calls;
          beginning = (
            [],
            append-nil (requests_carried live.read ++ live.machine.written) ∙ sym at.position.requests
                ∙ ap (λ (some : List Request). run_requests next live.start.given (arrivals_carried live.read) live.calls ++ some) none
                ∙ append-nil (run_requests next live.start.given (arrivals_carried live.read) live.calls),
          );
        }
        by_replay (inr none) =
            subst (λ (requests : List Request). BeginsRun next live.start.given (arrivals_carried live.read) requests)
            (sym (ap (λ (some : List Request). requests_carried live.read ++ some) none ∙ append-nil (requests_carried live.read))) begins_read

    begins_first : BeginsRun next live.start.given (arrivals_carried live.read) x.comes.first
    begins_first =
        begins-less next live.start.given (arrivals_carried live.read) x.comes.first x.comes.more
        (subst (λ (requests : List Request). BeginsRun next live.start.given (arrivals_carried live.read) requests) (sym (x.comes.parts ∙ asked_read)) begins_at)

    come : ComeWhenAsked x.comes.first (arrivals_carried live.read)
    come =
        fewer_come x.comes.first (arrivals_carried live.read) (arrivals_carried live.unread)
        (subst (λ (arrivals : List Arrival). ComeWhenAsked x.comes.first arrivals) all_arrivals x.comes.come)

    give : GiveIds x.comes.first (arrivals_carried live.read)
    give =
        fewer_give x.comes.first (arrivals_carried live.read) (arrivals_carried live.unread) (subst (λ (arrivals : List Arrival). GiveIds x.comes.first arrivals) all_arrivals x.comes.ids)

    keys : keys_are_text (arrivals_carried live.read) ≡ true
    keys = all-front (λ arrival. are_keys_text arrival.result) (arrivals_carried live.read) (arrivals_carried live.unread) (ap keys_are_text (sym all_arrivals) ∙ x.comes.keys)

    by_text : AsksByText next live.start.given (arrivals_carried live.read) live.calls
    by_text =
        all-front (λ request. list_all is_utf8 (keys_of request)) (run_requests next live.start.given (arrivals_carried live.read) live.calls) in_run.stands.requests.left
        (ap are_by_text (ap (λ (p : Progress). requests_of p.steps ++ in_run.stands.requests.left) in_run.stands.going ∙ in_run.stands.requests.requests)
        ∙ all-both (λ request. list_all is_utf8 (keys_of request)) (requests_carried live.read) live.machine.written (ap are_by_text journal_requests ∙ x.start.texts) x.texts)

    with_journal : StandsReplayed next live
    with_journal = record {
      at = in_run;
      fits = λ queued. record {
        calls = begins_read.calls;
        beginning = begins_read.beginning;
        queued = queued;
        once = comes_once next live.start.given x.comes.first (arrivals_carried live.read) begins_first.calls begins_first.beginning come.once come.asked;
      };
      kinds = kinds_by_asking next live.start.given (arrivals_carried live.read) live.calls
          (come_as_asked next live.start.given x.comes.first (arrivals_carried live.read) live.calls begins_first come give keys by_text);
      by_text = by_text;
    }

pub replay_stands : ReplaysStand
replay_stands next live proposed e x r = with_journal next live proposed e x r
