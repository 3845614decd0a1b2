-- Worked rows: of a nap that sleeps until 10 the store has taken what a host wrote. One host writes frames of the run, and the law speaks of
-- it. Another asks for a sleep until 99: the store takes that too, and the law says nothing.
use Rattle.std.proofs.Common.{◌≡◌, refl, ap, subst, ◌∙◌, ℕ, suc, zero, arith, List, [], ◌∷◌, Option, Some, unwrap_or, codes}
use Rattle.journal_model.specs.declared.invocation.NewInvocation.{NewInvocation}
use Rattle.journal_model.specs.Request.{Request}
use Rattle.journal_model.specs.Event.{Frame, Event}
use Rattle.journal_model.specs.Cause.{IsAccepted}
use Rattle.journal_model.specs.Run.{BeginsRun, Progress, run_requests, IsBeginning}
use Rattle.journal_model.specs.History.{requests_of}
use Rattle.journal_model.proofs.Continuing.{run-stopped}
use Rattle.journal_model.specs.Headline.{run_of, Headline}
use Rattle.built_in_handlers.specs.Handlers
use Rattle.run_laws.proofs.RunRows.{i1, new, options, given, sleep, output}
use Rattle.run_laws.proofs.SuspensionRows.{for_one}
use Rattle.run_laws.proofs.TakenRows.{take}
use Rattle.run_laws.specs.TakenFrames.{AllOfRun}
use Rattle.elsewhere_laws.specs.Elsewhere.{AreTakenOfRun, PromisesHold}
use Rattle.elsewhere_laws.proofs.Promises.{promises_hold}

-- it asks for its sleep and is suspended; once that has ended it is begun again, puts out `ok` and ends
abbrev honest_events : List Event
honest_events =
    take 2 Frame.End ∷ take 2 (Frame.Command (output (codes "ok"))) ∷ Event.Close i1 2 ∷ Event.Feed i1 2 34 ∷ Event.Begin i1 10 ∷ Event.Tick 10
    ∷ take 1 (Frame.Suspend (Some (for_one 1))) ∷ take 1 (Frame.Command sleep) ∷ Event.Close i1 1 ∷ Event.Feed i1 1 10 ∷ Event.Begin i1 0 ∷ Event.Invoke new ∷ []

honest-accepted : IsAccepted honest_events
honest-accepted = (refl, (refl, (refl, (refl, (refl, (refl, (refl, (refl, (refl, (refl, (refl, (refl, tt))))))))))))

honest-of_run : AreTakenOfRun Handlers.nap options 0 honest_events i1
honest-of_run one begun =
    subst (λ (x : NewInvocation). AllOfRun Handlers.nap (run_of options 0 x []) i1 honest_events) (ap (λ (x : Option NewInvocation). unwrap_or x new) begun) taken
  where
    taken : AllOfRun Handlers.nap given i1 honest_events
    taken = (
      λ same. record { calls = 9; over = refl; exactly = refl },
      (
        λ same. record { calls = 9; beginning = ([], refl) },
        (
          tt,
          (
            tt,
            (
              tt,
              (
                tt,
                (
                  λ same. record { calls = 9; tree = _; waits = refl; exactly = refl; tells = λ states. refl },
                  (λ same. record { calls = 9; beginning = ([], refl) }, (tt, (tt, (tt, (tt, tt))))),
                ),
              ),
            ),
          ),
        ),
      ),
    )

honest-holds : PromisesHold Handlers.nap options 0 honest_events i1
honest-holds = promises_hold Handlers.nap options 0 honest_events i1 honest-accepted honest-of_run

-- it asks for another sleep
abbrev lying_events : List Event
lying_events = take 1 (Frame.Command (Request.Sleep 99 1 [])) ∷ Event.Feed i1 1 10 ∷ Event.Begin i1 0 ∷ Event.Invoke new ∷ []

lying-accepted : IsAccepted lying_events
lying-accepted = (refl, (refl, (refl, (refl, tt))))

abbrev first_wake : List Request → ℕ
first_wake (Request.Sleep wake_up completion name ∷ requests) = wake_up
first_wake _ = 0

-- no run of the nap begins so
no_run : BeginsRun Handlers.nap given [] (Request.Sleep 99 1 [] ∷ []) → ⊥
no_run begins = by_calls begins.calls begins.beginning
  where
    by_calls : (calls : ℕ) → IsBeginning (Request.Sleep 99 1 [] ∷ []) (run_requests Handlers.nap given [] calls) → ⊥
    by_calls zero (rest, same) = let wakes : 99 ≡ 0 = ap first_wake same in omega (arith, wakes)
    by_calls (suc zero) (rest, same) = let wakes : 99 ≡ 10 = ap first_wake same in omega (arith, wakes)
    by_calls (suc (suc calls)) (rest, same) =
        let stays = run-stopped Handlers.nap given [] 2 (suc (suc calls)) (omega arith) refl in
        let wakes : 99 ≡ 10 = ap first_wake (same ∙ ap (λ (p : Progress). requests_of p.steps) stays) in
        omega (arith, wakes)

lying-of_no_run : AreTakenOfRun Handlers.nap options 0 lying_events i1 → ⊥
lying-of_no_run of_run = no_run ((of_run new refl).0 refl)

-- and what is recorded of it is of no run either: a host that lies takes the headline away
lying-unlike_runs : Headline Handlers.nap options 0 lying_events i1 → ⊥
lying-unlike_runs stands = let follows = stands new refl in no_run (record { calls = follows.calls; beginning = follows.beginning })
