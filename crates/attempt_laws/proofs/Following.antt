-- A whole attempt follows the run.
use Rattle.std.proofs.Common.{map, Some, ◌≡◌, refl, sym, ap, ap₂, ◌∙◌, subst, ℕ, suc, ◌+◌, ◌≤◌, arith, Bool, List, [], ◌∷◌, ◌++◌, append_assoc, append-nil, length, length-append}
use Rattle.journal_model.specs.declared.notification.NotificationId.TheVariants.{CompletionId}
use Rattle.journal_model.specs.Notification.{Arrival}
use Rattle.journal_model.specs.declared.call.Answer.{Answer}
use Rattle.journal_model.specs.declared.call.Call.{Call}
use Rattle.journal_model.specs.Request.{Request}
use Rattle.journal_model.specs.State.{StartState}
use Rattle.journal_model.specs.History.{Step, answers_of, requests_of, next_completion}
use Rattle.journal_model.specs.Delivery.{results_for, known_results, known_result}
use Rattle.journal_model.specs.Journal.{Entry, Recorded, Arrived, requests_in, arrivals_in}
use Rattle.journal_model.specs.Run.{Handler, Invocation, Progress, run}
use Rattle.journal_model.proofs.Extension as Extension
use Rattle.journal_model.proofs.Extension.{run-more}
use Rattle.attempt_model.specs.Attempts.{with_entries, Happening, Comes, Turns, AttemptState, Live, Over, attempt_with_arrival, attempt_after_reply, arrivals_after, attempt_after_turn, attempt_after, AnswersFirst, AgreesWithRun}
use Rattle.attempt_model.specs.Machine.{Machine, machine_at_start, with_arrival, Mismatch, UncompletedInReplay, EndInReplay, KeysNotText, ChildNotId, Refused, Reply, Answered, AwaitsTree, AwaitsChild, Finished, FailedBy, reply_to}
use Rattle.attempt_model.specs.Requests.{Commands}
use Rattle.attempt_model.specs.Simulation.{IsShown, Stands, ComesOnce, AreOfKind, Fits, next_call, RepliesAsRun, AreReflexive}
use Rattle.attempt_laws.proofs.Tables.{results-append}
use Rattle.attempt_laws.proofs.Simulating.{simulates}
use Rattle.attempt_laws.proofs.Standing.{begins, goes_same, reads_on, fits_on}

-- the journal, entry by entry
reads_from : (start : StartState) (commands : Commands) (arrivals : List Arrival) (entries : List Entry)
    → with_entries (machine_at_start start commands arrivals) entries ≡ machine_at_start start (commands ++ map Some (requests_in entries)) (arrivals ++ arrivals_in entries)
reads_from start commands arrivals [] = ap₂ (λ (some : Commands) (read : List Arrival). machine_at_start start some read) (sym (append-nil commands)) (sym (append-nil arrivals))
reads_from start commands arrivals (Recorded request ∷ entries) =
    reads_from start (commands ++ Some request ∷ []) arrivals entries
    ∙ ap (λ (some : Commands). machine_at_start start some (arrivals ++ arrivals_in entries)) (append_assoc commands (Some request ∷ []) (map Some (requests_in entries)))
reads_from start commands arrivals (Arrived arrival ∷ entries) =
    reads_from start commands (arrivals ++ arrival ∷ []) entries
    ∙ ap (λ (some : List Arrival). machine_at_start start (commands ++ map Some (requests_in entries)) some) (append_assoc arrivals (arrival ∷ []) (arrivals_in entries))

pub reads_journal : (start : StartState) (entries : List Entry) → with_entries (machine_at_start start [] []) entries ≡ machine_at_start start (map Some (requests_in entries)) (arrivals_in entries)
reads_journal start entries = reads_from start [] [] entries

-- what comes once among more comes once among fewer
pub known-more : (more steps : List Step) → (rest : List Arrival) × (known_results (more ++ steps) ≡ known_results steps ++ rest)
known-more [] steps = ([], sym (append-nil (known_results steps)))
known-more (step ∷ more) steps =
    let (rest, e) = known-more more steps in
    let known = known_result (next_completion (more ++ steps)) step.requests in
    (rest ++ known, ap (λ (xs : List Arrival). xs ++ known) e ∙ append_assoc (known_results steps) rest known)

both : (xs ys : List Arrival) (n : ℕ) → length (results_for (xs ++ ys) (CompletionId n)) ≡ length (results_for xs (CompletionId n)) + length (results_for ys (CompletionId n))
both xs ys n = ap length (results-append xs ys (CompletionId n)) ∙ length-append (results_for xs (CompletionId n)) (results_for ys (CompletionId n))

fewer : (known rest arrivals later : List Arrival) (n : ℕ) → length (results_for ((known ++ rest) ++ (arrivals ++ later)) (CompletionId n)) ≤ 1
    → length (results_for (known ++ arrivals) (CompletionId n)) ≤ 1
fewer known rest arrivals later n once =
    omega (arith, once, both (known ++ rest) (arrivals ++ later) n, both known rest n, both arrivals later n, both known arrivals n)

pub once-before : (handler : Handler) (given : Invocation) (arrivals later : List Arrival) → ComesOnce handler given (arrivals ++ later) → ComesOnce handler given arrivals
once-before handler given arrivals later once made n =
    by_extends (run-more handler given arrivals later made).extends
  where
    by_extends : Extension.Extends (run handler given arrivals made) (run handler given (arrivals ++ later) made)
        → length (results_for (known_results (run handler given arrivals made).steps ++ arrivals) (CompletionId n)) ≤ 1
    by_extends (Extension.same e) =
        fewer (known_results (run handler given arrivals made).steps) [] arrivals later n
        (subst (λ (known : List Arrival). length (results_for (known ++ (arrivals ++ later)) (CompletionId n)) ≤ 1)
        (ap (λ (p : Progress). known_results p.steps) e ∙ sym (append-nil (known_results (run handler given arrivals made).steps))) (once made n))
    by_extends (Extension.further tree waits more e) =
        let (rest, f) = known-more more (run handler given arrivals made).steps in
        fewer (known_results (run handler given arrivals made).steps) rest arrivals later n
        (subst (λ (known : List Arrival). length (results_for (known ++ (arrivals ++ later)) (CompletionId n)) ≤ 1) (ap known_results e ∙ f) (once made n))

module _ (same_header : Call → Request → Request → Bool) (reflexive : AreReflexive same_header) (handler : Handler) (given : Invocation) (start : StartState) (journal : List Request) (first : List Arrival)
    (shows : IsShown given.start journal start) where
  kinds_before : (earlier : List Happening) (arrival : Arrival) → ((some later : List Arrival) → some ++ later ≡ arrivals_after first earlier ++ arrival ∷ [] → (calls : ℕ) → AreOfKind handler given some calls)
      → (some later : List Arrival) → some ++ later ≡ arrivals_after first earlier → (calls : ℕ) → AreOfKind handler given some calls
  kinds_before earlier arrival kinds some later e = kinds some (later ++ arrival ∷ []) (sym (append_assoc some later (arrival ∷ [])) ∙ ap (λ (xs : List Arrival). xs ++ arrival ∷ []) e)

  -- behind all that happened, what is fed fits
  fits_after : (happened : List Happening) → Fits handler given journal first → ComesOnce handler given (arrivals_after first happened) → Fits handler given journal (arrivals_after first happened)
  fits_after [] fits once = fits
  fits_after (Comes arrival ∷ earlier) fits once =
      fits_on handler given journal (arrivals_after first earlier) (arrival ∷ [])
      (fits_after earlier fits (once-before handler given (arrivals_after first earlier) (arrival ∷ []) once)) once
  fits_after (Turns ∷ earlier) fits once = fits_after earlier fits once

  answers_by : (arrivals : List Arrival) (calls : ℕ) (answers : List Answer) (m : Machine) → Stands handler given journal arrivals calls m
      → answers ≡ answers_of (run handler given arrivals calls).steps → AnswersFirst handler given journal arrivals answers m
  answers_by arrivals calls answers m stands answered = record {
    calls = calls;
    stands = stands;
    answered = answered;
    left = stands.requests.left;
    are_requests = stands.requests.are_requests;
    requested = ap (λ (p : Progress). requests_of p.steps ++ stands.requests.left) stands.going ∙ stands.requests.requests;
  }

  one_more : (arrivals : List Arrival) (arrival : Arrival) (a : AttemptState) → AgreesWithRun handler given journal arrivals a → AgreesWithRun handler given journal (arrivals ++ arrival ∷ []) (attempt_with_arrival arrival a)
  one_more arrivals arrival (Live answers m) f =
      answers_by (arrivals ++ arrival ∷ []) f.calls answers (with_arrival m arrival) (reads_on handler given journal arrivals arrival f.calls m f.stands)
      (f.answered ∙ ap (λ (p : Progress). answers_of p.steps) (sym (goes_same handler given journal arrivals arrival f.calls m f.stands.steps f.stands.going)))
  one_more arrivals arrival (Over (Finished m)) f = record {
    some = f.some;
    later = f.later ++ arrival ∷ [];
    read = ap (λ (xs : List Arrival). xs ++ arrival ∷ []) f.read ∙ append_assoc f.some f.later (arrival ∷ []);
    calls = f.calls;
    ended = f.ended;
    exactly = f.exactly;
  }
  one_more arrivals arrival (Over (FailedBy fault)) f = record {
    some = f.some;
    later = f.later ++ arrival ∷ [];
    read = ap (λ (xs : List Arrival). xs ++ arrival ∷ []) f.read ∙ append_assoc f.some f.later (arrival ∷ []);
    calls = f.calls;
    refused = f.refused;
  }
  one_more arrivals arrival (Over (Answered answer m)) f = absurd f
  one_more arrivals arrival (Over (AwaitsTree tree m)) f = absurd f
  one_more arrivals arrival (Over (AwaitsChild child m)) f = absurd f

  one_turn : (arrivals : List Arrival) → Fits handler given journal arrivals → ((calls : ℕ) → AreOfKind handler given arrivals calls) → (a : AttemptState) → AgreesWithRun handler given journal arrivals a
      → AgreesWithRun handler given journal arrivals (attempt_after_turn same_header handler given a)
  one_turn arrivals fits kinds (Live answers m) f =
      let same : answers ≡ answers_of f.stands.steps = f.answered ∙ ap (λ (p : Progress). answers_of p.steps) f.stands.going in
      subst (λ (some : List Answer). AgreesWithRun handler given journal arrivals (attempt_after_reply answers (reply_to same_header given m (handler given.input some)))) (sym same)
      (by_reply (reply_to same_header given m (next_call handler given f.stands.steps)) (simulates same_header handler given journal arrivals f.calls m reflexive fits (kinds f.calls) f.stands))
    where
      by_reply : (reply : Reply) → RepliesAsRun handler given journal arrivals f.calls reply → AgreesWithRun handler given journal arrivals (attempt_after_reply answers reply)
      by_reply (Answered answer new) r =
          answers_by arrivals (suc f.calls) (answers ++ answer ∷ []) new r.stands (ap (λ (some : List Answer). some ++ answer ∷ []) f.answered ∙ sym r.answers)
      by_reply (AwaitsTree tree new) r = answers_by arrivals f.calls answers new r.stands f.answered
      by_reply (AwaitsChild child new) r = answers_by arrivals f.calls answers new r.stands f.answered
      by_reply (Finished new) r = record { some = arrivals; later = []; read = sym (append-nil arrivals); calls = suc f.calls; ended = r.ended; exactly = r.exactly }
      by_reply (FailedBy Mismatch) r = absurd r
      by_reply (FailedBy UncompletedInReplay) r = absurd r
      by_reply (FailedBy EndInReplay) r = absurd r
      by_reply (FailedBy KeysNotText) r = absurd r
      by_reply (FailedBy ChildNotId) r = absurd r
      by_reply (FailedBy (Refused refusal)) r = record { some = arrivals; later = []; read = sym (append-nil arrivals); calls = suc f.calls; refused = r }
  one_turn arrivals fits kinds (Over (Finished m)) f = f
  one_turn arrivals fits kinds (Over (FailedBy fault)) f = f
  one_turn arrivals fits kinds (Over (Answered answer m)) f = absurd f
  one_turn arrivals fits kinds (Over (AwaitsTree tree m)) f = absurd f
  one_turn arrivals fits kinds (Over (AwaitsChild child m)) f = absurd f

  follows : (happened : List Happening) → Fits handler given journal first → ComesOnce handler given (arrivals_after first happened)
      → ((some later : List Arrival) → some ++ later ≡ arrivals_after first happened → (calls : ℕ) → AreOfKind handler given some calls)
      → AgreesWithRun handler given journal (arrivals_after first happened) (attempt_after same_header handler given (machine_at_start start (map Some journal) first) happened)
  follows [] fits once kinds = answers_by first 0 [] (machine_at_start start (map Some journal) first) (begins handler given start journal first shows) refl
  follows (Comes arrival ∷ earlier) fits once kinds =
      one_more (arrivals_after first earlier) arrival (attempt_after same_header handler given (machine_at_start start (map Some journal) first) earlier)
      (follows earlier fits (once-before handler given (arrivals_after first earlier) (arrival ∷ []) once) (kinds_before earlier arrival kinds))
  follows (Turns ∷ earlier) fits once kinds =
      one_turn (arrivals_after first earlier) (fits_after earlier fits once) (kinds (arrivals_after first earlier) [] (append-nil (arrivals_after first earlier))) (attempt_after same_header handler given (machine_at_start start (map Some journal) first) earlier) (follows earlier fits once kinds)

pub attempts_follow : (same_header : Call → Request → Request → Bool) (handler : Handler) (given : Invocation) (start : StartState) (journal : List Request) (first : List Arrival) (happened : List Happening)
    → AreReflexive same_header → IsShown given.start journal start → Fits handler given journal first → ComesOnce handler given (arrivals_after first happened)
    → ((some later : List Arrival) → some ++ later ≡ arrivals_after first happened → (calls : ℕ) → AreOfKind handler given some calls)
    → AgreesWithRun handler given journal (arrivals_after first happened) (attempt_after same_header handler given (machine_at_start start (map Some journal) first) happened)
attempts_follow same_header handler given start journal first happened reflexive shows fits once kinds =
    follows same_header reflexive handler given start journal first shows happened fits once kinds
