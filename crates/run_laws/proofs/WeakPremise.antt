-- That the headline and the waking clauses hold of a store is not enough to go on with. A nap sleeps until 10 under completion 1, and the
-- store has taken a suspension of it that names completion 7. The headline holds of these six events, and so do both waking clauses,
-- since nothing has come so far. After the next tick, at 10, the run goes past its await, and the invocation is not due: waking is late.
use Rattle.std.proofs.Common.{◌≡◌, refl, sym, ap, ℕ, suc, zero, ◌≤◌, ◌<◌, arith, false, true≢false, List, [], ◌∷◌, length, ◌⊎◌, inl, inr, Some}
use Rattle.journal_model.specs.declared.notification.NotificationId.TheVariants.{CompletionId}
use Rattle.journal_model.specs.Notification.{Arrival}
use Rattle.journal_model.specs.AwaitTree.{Single}
use Rattle.journal_model.specs.Event.{ForTree, Frame, Event}
use Rattle.journal_model.specs.Cause.{IsAccepted}
use Rattle.journal_model.specs.Run.{Handler, Invocation, Progress, Ending, GoesOn, Waits, RefusedCall, Ended, run, is_going}
use Rattle.journal_model.specs.Headline.{IsWaiting, GoesPast, FollowsRun, NeverLate, WakesExactly}
use Rattle.journal_model.proofs.Continuing.{run-stopped}
use Rattle.built_in_handlers.specs.Handlers
use Rattle.run_laws.proofs.WaitingRuns.{steps_rise}
use Rattle.run_laws.proofs.RunRows.{i1, new, given, sleep}
use Rattle.run_laws.proofs.TakenRows.{take}

order : (n m : ℕ) → (n ≤ m) ⊎ (m < n)
order zero m = inl (omega arith)
order (suc n) zero = inr (omega arith)
order (suc n) (suc m) = elim (order n m) [ inl low ↦ inl (omega arith) | inr high ↦ inr (omega arith) ]

stops : (ending : Ending) → IsWaiting ending → is_going ending ≡ false
stops GoesOn waits = absurd waits
stops (Waits tree) waits = refl
stops (RefusedCall refusal) waits = absurd waits
stops Ended waits = absurd waits

-- no run goes past its await without more arrivals
no_past : (next : Handler) (invocation : Invocation) (arrivals : List Arrival) → GoesPast next invocation arrivals arrivals → ⊥
no_past next invocation arrivals past = by_order (order past.more_calls past.calls)
  where
    by_order : (past.more_calls ≤ past.calls) ⊎ (past.calls < past.more_calls) → ⊥
    by_order (inl low) =
        let rise = steps_rise next invocation arrivals past.more_calls past.calls low in
        let goes = past.past in
        omega arith
    by_order (inr high) =
        let stays = run-stopped next invocation arrivals past.calls past.more_calls (omega (arith, high)) (stops (run next invocation arrivals past.calls).ending past.waits) in
        let same = ap (λ (p : Progress). length p.steps) stays in
        let goes = past.past in
        omega arith

-- the nap sleeps under completion 1, and its suspension names completion 7
abbrev wrong_events : List Event
wrong_events =
    take 1 (Frame.Suspend (Some (ForTree (Single (CompletionId 7))))) ∷ take 1 (Frame.Command (sleep)) ∷ Event.Close i1 1 ∷ Event.Feed i1 1 10 ∷ Event.Begin i1 0 ∷ Event.Invoke new ∷ []

wrong-accepted : IsAccepted (Event.Tick 10 ∷ wrong_events)
wrong-accepted = (refl, (refl, (refl, (refl, (refl, (refl, (refl, tt)))))))

wrong-follows : FollowsRun Handlers.nap given wrong_events new
wrong-follows = record {
  calls = 9;
  beginning = ([], refl);
  whole = ((λ same. record { calls = 9; over = tt; exactly = refl }), (tt, (tt, (tt, (tt, (tt, tt))))));
  ended = λ closing. cc;
  state = λ opened. refl;
}

wrong-in_time : NeverLate Handlers.nap given wrong_events i1
wrong-in_time suspended past = absurd (no_past Handlers.nap given [] past)

wrong-exact : WakesExactly Handlers.nap given wrong_events i1
wrong-exact suspended high stands none = ((λ due. absurd (true≢false (sym due))), (λ past. absurd (no_past Handlers.nap given [] past)))

-- after a tick the run over all arrivals goes past the await, and the invocation is not due
wrong-late : NeverLate Handlers.nap given (Event.Tick 10 ∷ wrong_events) i1 → ⊥
wrong-late in_time =
    true≢false (sym (in_time (record { open_still = refl; not_live = refl; suspended = refl })
    (record { calls = 9; more_calls = 9; waits = tt; past = further })))
  where
    further : 1 < 4
    further = omega arith
