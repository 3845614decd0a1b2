-- What is of a run over some arrivals is of the run over more.
use Rattle.std.proofs.Common.{◌≡◌, refl, sym, ap, subst, ◌∙◌, ℕ, List, ◌++◌, append_assoc}
use Rattle.journal_model.specs.Notification.{Arrival}
use Rattle.journal_model.specs.Request.{Request}
use Rattle.journal_model.specs.Run.{Handler, Invocation, Progress, Ending, GoesOn, Waits, Ended, run, run_requests, IsBeginning, BeginsRun}
use Rattle.journal_model.specs.History.{requests_of}
use Rattle.journal_model.specs.Headline.{IsWholeRun}
use Rattle.journal_model.proofs.Extension.{requests-more, run-same}

pub beginning-trans : (a b c : List Request) → IsBeginning a b → IsBeginning b c → IsBeginning a c
beginning-trans a b c (more, e) (rest, f) =
    (more ++ rest, sym (append_assoc a more rest) ∙ ap (λ (some : List Request). some ++ rest) e ∙ f)

pub begins-less : (next : Handler) (given : Invocation) (arrivals : List Arrival) (requests more : List Request)
    → BeginsRun next given arrivals (requests ++ more) → BeginsRun next given arrivals requests
begins-less next given arrivals requests more begins = record {
  calls = begins.calls;
  beginning = beginning-trans requests (requests ++ more) (run_requests next given arrivals begins.calls) (more, refl) begins.beginning;
}

pub begins-more : (next : Handler) (given : Invocation) (arrivals later : List Arrival) (requests : List Request)
    → BeginsRun next given arrivals requests → BeginsRun next given (arrivals ++ later) requests
begins-more next given arrivals later requests begins = record {
  calls = begins.calls;
  beginning = beginning-trans requests (run_requests next given arrivals begins.calls) (run_requests next given (arrivals ++ later) begins.calls)
      begins.beginning (requests-more next given arrivals later begins.calls);
}

abbrev is_waiting : Ending → Type 0
is_waiting (Waits tree) = Unit {0}
is_waiting _ = ⊥

-- a run that has ended has ended so over more arrivals
pub ended-same : (next : Handler) (given : Invocation) (arrivals later : List Arrival) (n : ℕ)
    → (run next given arrivals n).ending ≡ Ended → run next given (arrivals ++ later) n ≡ run next given arrivals n
ended-same next given arrivals later n ended =
    run-same next given arrivals later n (λ tree waits. subst is_waiting (sym waits ∙ ended) tt)

pub going-same : (next : Handler) (given : Invocation) (arrivals later : List Arrival) (n : ℕ)
    → (run next given arrivals n).ending ≡ GoesOn → run next given (arrivals ++ later) n ≡ run next given arrivals n
going-same next given arrivals later n going =
    run-same next given arrivals later n (λ tree waits. subst is_waiting (sym waits ∙ going) tt)

pub ended-more : (next : Handler) (given : Invocation) (arrivals later : List Arrival) (requests : List Request)
    → IsWholeRun next given arrivals requests (λ ending. ending ≡ Ended) → IsWholeRun next given (arrivals ++ later) requests (λ ending. ending ≡ Ended)
ended-more next given arrivals later requests whole =
    let same = ended-same next given arrivals later whole.calls whole.over in record {
      calls = whole.calls;
      over = ap (λ (p : Progress). p.ending) same ∙ whole.over;
      exactly = whole.exactly ∙ ap (λ (p : Progress). requests_of p.steps) (sym same);
    }
