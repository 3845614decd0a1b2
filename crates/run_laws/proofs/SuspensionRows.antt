-- Worked rows: what suspensions tell of what a nap waits for.
use Rattle.std.proofs.Common.{refl, ℕ, true, [], ◌∷◌, Some, ◌≡◌}
use Rattle.journal_model.specs.declared.notification.NotificationId.TheVariants.{CompletionId, SignalId}
use Rattle.journal_model.specs.AwaitTree.{Single, Combined, no_trees, and_trees, FirstCompleted}
use Rattle.journal_model.specs.Event.{Suspension, ForTree}
use Rattle.journal_model.specs.Attempt.{is_woken}
use Rattle.built_in_handlers.specs.Handlers
use Rattle.run_laws.proofs.RunRows.{given, sleep, slept}
use Rattle.run_laws.specs.SuspensionContent.{WaitsAll}

-- a completion, or the cancellation
abbrev pub for_one : ℕ → Suspension
for_one n = ForTree (Combined FirstCompleted (and_trees (Single (CompletionId n)) (and_trees (Single (SignalId 1)) no_trees)))

-- nothing has come: it waits for its sleep
nap-waits : WaitsAll Handlers.nap given [] (sleep ∷ []) (Some (for_one 1))
nap-waits = record { calls = 9; tree = _; waits = refl; exactly = refl; tells = λ states. refl }

-- and is awake when that has ended
nap-wakes : is_woken (slept ∷ []) (Some (for_one 1)) ≡ true
nap-wakes = refl
