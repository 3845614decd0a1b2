-- Worked rows: what the store takes of attempts that nap, that race, and that are stopped between two cancel requests, is of the run.
use Rattle.std.proofs.Common.{refl, ℕ, List, [], ◌∷◌, Some, None, codes}
use Rattle.journal_model.specs.declared.notification.NotificationId.TheVariants.{CompletionId}
use Rattle.journal_model.specs.declared.notification.NotificationResult.{NotificationResult}
use Rattle.journal_model.specs.declared.value.NonEmptyValue.{NonEmptyValue}
use Rattle.journal_model.specs.Notification.{Text}
use Rattle.journal_model.specs.AwaitTree.{Single}
use Rattle.journal_model.specs.Request.{Request, SignalValue}
use Rattle.journal_model.specs.declared.notification.SignalKey.{SignalKey}
use Rattle.journal_model.specs.Event.{ForTree, Frame, Event}
use Rattle.built_in_handlers.specs.Handlers
use Rattle.run_laws.proofs.RunRows.{i1, new, given, sleep, output}
use Rattle.run_laws.proofs.SuspensionRows.{for_one}
use Rattle.run_laws.specs.TakenFrames.{AllOfRun}

abbrev pub take : ℕ → Frame → Event
take attempt frame = Event.Move i1 attempt frame

-- stopped, then suspended, woken, replayed and ended
abbrev nap_events : List Event
nap_events =
    take 3 Frame.End ∷ take 3 (Frame.Command (output (codes "ok"))) ∷ Event.Close i1 3 ∷ Event.Feed i1 3 34 ∷ Event.Begin i1 10 ∷ Event.Tick 10
    ∷ take 2 (Frame.Suspend (Some (for_one 1))) ∷ take 2 (Frame.Command (sleep)) ∷ Event.Close i1 2 ∷ Event.Feed i1 2 10 ∷ Event.Begin i1 0
    ∷ Event.Stop i1 1 ∷ Event.Feed i1 1 10 ∷ Event.Begin i1 0 ∷ Event.Invoke new ∷ []

nap-of_run : AllOfRun Handlers.nap given i1 nap_events
nap-of_run = (
  λ same. record { calls = 9; over = refl; exactly = refl },
  (
    λ same. record { calls = 9; beginning = ([], refl) },
    (
      tt,
      (
        tt,
        (
          tt,
          (
            tt,
            (
              λ same. record { calls = 9; tree = _; waits = refl; exactly = refl; tells = λ states. refl },
              (
                λ same. record { calls = 9; beginning = ([], refl) },
                (tt, (tt, (tt, (tt, (tt, (tt, (tt, tt))))))),
              ),
            ),
          ),
        ),
      ),
    ),
  ),
)

abbrev asked : ℕ → ℕ → Request
asked m n = Request.CallService (record {
  service_name = codes "svc";
  handler_name = codes "h";
  parameter = [];
  headers = [];
  key = [];
  idempotency_key = None;
  scope = None;
  limit_key = None;
}) m n []

abbrev cancel_of : Text → Request
cancel_of id = Request.SendSignal id (SignalKey.ByIndex 1) SignalValue.Empty []

abbrev cancelled_output : Request
cancelled_output = Request.Output (NonEmptyValue.Failure (record { code = 409; message = codes "cancelled"; metadata = [] })) []

-- a cancellation that waits for a child, and an attempt that is stopped between the two requests of one await
abbrev pair_events : List Event
pair_events =
    take 3 Frame.End ∷ take 3 (Frame.Command cancelled_output) ∷ take 3 (Frame.Command (cancel_of (codes "b"))) ∷ Event.Close i1 3 ∷ Event.Feed i1 3 9999 ∷ Event.Begin i1 0
    ∷ Event.Stop i1 2 ∷ take 2 (Frame.Command (cancel_of (codes "a"))) ∷ Event.Feed i1 2 9999 ∷ Event.Result i1 3 (NotificationResult.InvocationId (codes "b"))
    ∷ Event.Feed i1 2 3 ∷ Event.Begin i1 0
    ∷ take 1 (Frame.Suspend (Some (ForTree (Single (CompletionId 3))))) ∷ Event.Close i1 1 ∷ Event.Feed i1 1 9999
    ∷ Event.Cancel i1 ∷ Event.Result i1 1 (NotificationResult.InvocationId (codes "a"))
    ∷ take 1 (Frame.Command (asked 3 4)) ∷ take 1 (Frame.Command (asked 1 2)) ∷ Event.Feed i1 1 9999 ∷ Event.Begin i1 0 ∷ Event.Invoke new ∷ []

pair-of_run : AllOfRun Handlers.pair given i1 pair_events
pair-of_run = (
  λ same. record { calls = 9; over = refl; exactly = refl },
  (
    λ same. record { calls = 9; beginning = ([], refl) },
    (
      λ same. record { calls = 9; beginning = (cancelled_output ∷ [], refl) },
      (
        tt,
        (
          tt,
          (
            tt,
            (
              tt,
              (
                λ same. record { calls = 9; beginning = (cancel_of (codes "b") ∷ cancelled_output ∷ [], refl) },
                (
                  tt,
                  (
                    tt,
                    (
                      tt,
                      (
                        tt,
                        (
                          λ same. record { calls = 9; tree = _; waits = refl; exactly = refl; tells = λ states. refl },
                          (
                            tt,
                            (
                              tt,
                              (
                                tt,
                                (
                                  tt,
                                  (
                                    λ same. record { calls = 9; beginning = ([], refl) },
                                    (
                                      λ same. record { calls = 9; beginning = (asked 3 4 ∷ [], refl) },
                                      (tt, (tt, (tt, tt))),
                                    ),
                                  ),
                                ),
                              ),
                            ),
                          ),
                        ),
                      ),
                    ),
                  ),
                ),
              ),
            ),
          ),
        ),
      ),
    ),
  ),
)
