-- Worked rows: what a nap's attempts send, where they stand, and what a turn may write.
use Rattle.std.proofs.Common.{refl, inl, inr, true, false, [], ◌∷◌, Some, codes}
use Rattle.protocol_types.specs.declared.message_type.MessageType.TheVariants.{SleepCompletionNotification}
use Rattle.journal_model.specs.declared.notification.NotificationId.TheVariants.{CompletionId, SignalId}
use Rattle.journal_model.specs.AwaitTree.{Single, Combined, no_trees, and_trees, FirstCompleted}
use Rattle.journal_model.specs.Event.{Frame}
use Rattle.built_in_handlers.specs.Handlers
use Rattle.run_laws.proofs.RunRows.{new, given, sleep, slept, output}
use Rattle.run_laws.proofs.SuspensionRows.{for_one}
use Rattle.input_laws.specs.Message.{CarriesInput, CarriesRequest, CarriesArrival}
use Rattle.live_laws.specs.RequestsInFlight.{SendsOfRun}
use Rattle.live_laws.specs.TurnWrites.{WritesOfRun, answers, awaits, suspends}
use Rattle.live_laws.specs.Live.{IsPosition}

-- the first attempt, whose input was closed when nothing had come
first-sends : SendsOfRun Handlers.nap given [] true [] (Frame.Command sleep ∷ Frame.Suspend (Some (for_one 1)) ∷ [])
first-sends = (
  record { calls = 9; beginning = ([], refl) },
  ((refl, record { calls = 9; tree = _; waits = refl; exactly = refl; tells = λ states. refl }), tt),
)

-- its first turn writes the sleep, and its second one suspends
first-answers : WritesOfRun Handlers.nap given [] true [] (Frame.Command sleep ∷ [])
first-answers = answers (sleep ∷ []) [] 1 (record { going = refl; asked_is = refl }) (inl refl)

first-suspends : WritesOfRun Handlers.nap given [] true (sleep ∷ []) (Frame.Suspend (Some (for_one 1)) ∷ [])
first-suspends = suspends (Some (for_one 1)) refl (record { calls = 9; tree = _; waits = refl; exactly = refl; tells = λ states. refl })

-- while its input is open it may tell what it waits for: the completion, or the cancellation
first-waits : WritesOfRun Handlers.nap given [] false (sleep ∷ []) (Frame.AwaitingOn (Some (Combined FirstCompleted (and_trees (Single (CompletionId 1)) (and_trees (Single (SignalId 1)) no_trees)))) ∷ [])
first-waits = awaits _ (record { calls = 9; tree = _; waits = refl; exactly = refl; tells = λ states. refl })

-- the second attempt, which was begun when the sleep had ended: it has read its journal and has replayed the sleep
second-stands : IsPosition Handlers.nap given (CarriesInput new ∷ CarriesRequest sleep ∷ CarriesArrival SleepCompletionNotification slept ∷ []) [] 1 [] []
second-stands = record { going = refl; requests = refl; replays = inr refl }

second-sends : SendsOfRun Handlers.nap given (slept ∷ []) true (sleep ∷ []) (Frame.Command (output (codes "ok")) ∷ Frame.End ∷ [])
second-sends = (record { calls = 9; beginning = ([], refl) }, (record { calls = 9; over = refl; exactly = refl }, tt))
