-- What an attempt has asked for begins its run, and asks for each run whose body it has; by then it has read its journal.
use Rattle.std.proofs.Common.{ℕ, ◌≡◌, refl, sym, ap, ap₂, ◌∙◌, subst, ◌⊎◌, inl, inr, Bool, true, ◌||◌, List, [], ◌∷◌, ◌++◌, append-nil, eq-eqb}
use Rattle.std.proofs.lemmas.List.Folds.{list_any-append}
use Rattle.journal_model.specs.Notification.{Arrival}
use Rattle.journal_model.specs.Request.{Request}
use Rattle.journal_model.specs.Run.{Handler, run, run_requests, BeginsRun}
use Rattle.journal_laws.proofs.Leaving.{or-true_left, or-true_right}
use Rattle.input_laws.specs.Message.{arrivals_carried, requests_carried}
use Rattle.input_laws.proofs.Telling.{arrivals_carried-append}
use Rattle.input_laws.proofs.News.{requests_carried-append}
use Rattle.live_laws.specs.MachineTurn.{HasPosition}
use Rattle.live_laws.specs.AttemptWithMachine.{AttemptInRun, HasReadJournal}
use Rattle.body_laws.specs.Bodies.{Body, bodies_of}
use Rattle.body_laws.specs.BodySimulation.{Among, has_arrived}
use Rattle.body_laws.proofs.BodySimulation.{arrived-before}
use Rattle.body_laws.proofs.Steps.{requested-run}
use Rattle.replay_laws.specs.Outcomes.{asks_run, runs}
use Rattle.replay_laws.specs.ReplayedAttempt.{requests_asked_by}

some-run : (n : ℕ) (name : List ℕ) (requests : List Request) → Among (Request.Run n name) requests → runs n requests ≡ true
some-run n name [] a = absurd a
some-run n name (request ∷ requests) (inl e) = ap (λ (some : Request). asks_run n some || runs n requests) (sym e) ∙ ap (λ (b : Bool). b || runs n requests) (eq-eqb n n refl)
some-run n name (request ∷ requests) (inr a) = or-true_right (asks_run n request) (runs n requests) (some-run n name requests a)

module _ (next : Handler) (live : AttemptInRun) (at : HasPosition next live.start.given live.start.shown live.read live.unread live.calls live.machine) where
  -- over what it has read or over its journal, where its input asks for what its journal does
  pub begins_asking : BeginsRun next live.start.given (arrivals_carried live.start.journal) (requests_carried live.start.journal)
      → requests_carried (live.read ++ live.unread) ≡ requests_carried live.start.journal → (arrivals : List Arrival) × BeginsRun next live.start.given arrivals (requests_asked_by live)
  begins_asking of_run input = by_replay at.position.replays
    where
      by_replay : ((at.left ≡ []) × (requests_carried live.unread ≡ [])) ⊎ (live.machine.written ≡ []) → (arrivals : List Arrival) × BeginsRun next live.start.given arrivals (requests_asked_by live)
      by_replay (inl (none, all)) = (
        arrivals_carried live.read,
        record {
          calls = live.calls;
          beginning = (
            [],
            append-nil (requests_carried (live.read ++ live.unread) ++ live.machine.written)
                ∙ ap (λ (some : List Request). some ++ live.machine.written)
                (requests_carried-append live.read live.unread ∙ ap (λ (some : List Request). requests_carried live.read ++ some) all ∙ append-nil (requests_carried live.read))
                ∙ sym at.position.requests
                ∙ ap (λ (some : List Request). run_requests next live.start.given (arrivals_carried live.read) live.calls ++ some) none
                ∙ append-nil (run_requests next live.start.given (arrivals_carried live.read) live.calls),
          );
        },
      )
      by_replay (inr none) = (
        arrivals_carried live.start.journal,
        subst (λ (requests : List Request). BeginsRun next live.start.given (arrivals_carried live.start.journal) requests)
            (sym (ap₂ (λ (some written : List Request). some ++ written) input none ∙ append-nil (requests_carried live.start.journal))) of_run,
      )

  -- a run whose body it has is asked for, where no request of its input is unread
  pub body_asked : requests_carried live.unread ≡ [] → (body : Body) → Among body (bodies_of (run next live.start.given (arrivals_carried live.read) live.calls).steps)
      → runs body.completion (requests_asked_by live) ≡ true
  body_asked none body a =
      let (name, r) = requested-run next live.start.given (arrivals_carried live.read) live.calls body a in
      ap (runs body.completion) asked_all
      ∙ list_any-append (asks_run body.completion) (run_requests next live.start.given (arrivals_carried live.read) live.calls) at.left
      ∙ or-true_left (runs body.completion (run_requests next live.start.given (arrivals_carried live.read) live.calls)) (runs body.completion at.left)
      (some-run body.completion name (run_requests next live.start.given (arrivals_carried live.read) live.calls) r)
    where
      asked_all : requests_asked_by live ≡ run_requests next live.start.given (arrivals_carried live.read) live.calls ++ at.left
      asked_all =
          ap (λ (some : List Request). some ++ live.machine.written)
          (requests_carried-append live.read live.unread ∙ ap (λ (some : List Request). requests_carried live.read ++ some) none ∙ append-nil (requests_carried live.read))
          ∙ sym at.position.requests

-- one that has called a run has read its journal
pub journal_read : (next : Handler) (live : AttemptInRun) → (live.calls ≡ 0) ⊎ HasReadJournal live → (body : Body)
    → Among body (bodies_of (run next live.start.given (arrivals_carried live.read) live.calls).steps) → HasReadJournal live
journal_read next live (inl none) body a = absurd (subst (λ (calls : ℕ). Among body (bodies_of (run next live.start.given (arrivals_carried live.read) calls).steps)) none a)
journal_read next live (inr r) body a = r

pub journal_come : (live : AttemptInRun) → HasReadJournal live → (n : ℕ) → has_arrived (arrivals_carried live.start.journal) n ≡ true → has_arrived (arrivals_carried live.read) n ≡ true
journal_come live r n come =
    ap (λ (arrivals : List Arrival). has_arrived arrivals n) (ap arrivals_carried r.parts ∙ arrivals_carried-append live.start.journal r.later)
    ∙ arrived-before (arrivals_carried live.start.journal) (arrivals_carried r.later) n come
