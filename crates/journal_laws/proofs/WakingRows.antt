-- Worked rows of waking: at each place where a run waits, the suspended tree is awake under the arrivals that are left
-- exactly where the run over all arrivals goes past the await.
use Rattle.std.proofs.Common.{◌≡◌, refl, ℕ, nat_lt, Bool, true, false, not, ◌||◌, List, [], ◌∷◌, length, take, drop, Option, Some, None, codes}
use Rattle.std.specs.List.{list_all}
use Rattle.journal_model.specs.declared.notification.NotificationId.{NotificationId}
use Rattle.journal_model.specs.declared.notification.NotificationId.TheVariants.{SignalId, SignalName}
use Rattle.journal_model.specs.declared.notification.NotificationResult.{NotificationResult}
use Rattle.journal_model.specs.declared.notification.NotificationResult.TheVariants.{Void}
use Rattle.journal_model.specs.Notification.{Arrival}
use Rattle.journal_model.specs.AwaitTree.{AwaitTree, Single, Combined, no_trees, and_trees, FirstSucceededOrAllFailed, AllSucceededOrFirstFailed, is_awake}
use Rattle.journal_model.specs.declared.call.Call.{Call}
use Rattle.journal_model.specs.Run.{Handler, run}
use Rattle.journal_model.specs.Delivery.{state_of_result}
use Rattle.journal_model.specs.PrunedTrees.{suspended_tree}
use Rattle.journal_model.specs.Attempt.{first_result}
use Rattle.built_in_handlers.specs.Handlers
use Rattle.journal_laws.proofs.Rows.{whole, completed}

-- whether the run over all arrivals goes past where the run over the first ones is
abbrev is_past : Handler → List Arrival → ℕ → Bool
is_past handler arrivals k = nat_lt (length (run handler (whole []) (take k arrivals) 12).steps) (length (run handler (whole []) arrivals 12).steps)

abbrev same : Bool → Bool → Bool
same true b = b
same false b = not b

-- whether what is suspended for wakes exactly where the run goes on; nothing is asked where nothing is suspended
abbrev wakes_exactly : Option (AwaitTree NotificationId) → Bool → List Arrival → Bool
wakes_exactly None past later = true
wakes_exactly (Some tree) past later = same past (is_awake tree (λ id. state_of_result (first_result later id)))

abbrev is_exact_at : Handler → List Arrival → ℕ → Bool
is_exact_at handler arrivals k =
    wakes_exactly (suspended_tree (whole []) (take k arrivals) (run handler (whole []) (take k arrivals) 12) (run handler (whole []) (take k arrivals) 12).ending)
    (is_past handler arrivals k) (drop k arrivals)

-- whether it wakes where the run goes on, and perhaps too early
abbrev wakes_in_time : Option (AwaitTree NotificationId) → Bool → List Arrival → Bool
wakes_in_time None past later = true
wakes_in_time (Some tree) past later = not past || is_awake tree (λ id. state_of_result (first_result later id))

abbrev is_in_time_at : Handler → List Arrival → ℕ → Bool
is_in_time_at handler arrivals k =
    wakes_in_time (suspended_tree (whole []) (take k arrivals) (run handler (whole []) (take k arrivals) 12) (run handler (whole []) (take k arrivals) 12).ending)
    (is_past handler arrivals k) (drop k arrivals)

abbrev at_each : (ℕ → Bool) → Bool
at_each test = list_all test (0 ∷ 1 ∷ 2 ∷ 3 ∷ 4 ∷ [])

abbrev failed : ℕ → Arrival
failed n = completed n (NotificationResult.Failure (record { code = 500; message = []; metadata = [] }))

abbrev done : ℕ → Arrival
done n = completed n Void

abbrev signal : ℕ → Arrival
signal n = record { id = SignalName (codes "go"); result = NotificationResult.Value (n ∷ []) }

abbrev cancel : Arrival
cancel = record { id = SignalId 1; result = Void }

-- a handler that awaits and takes the same signal twice, and then sleeps
abbrev go_twice : Handler
go_twice input answers =
    Handlers.scripted ((λ before. Call.Signal (codes "go")) ∷ Handlers.await_one 0 ∷ Handlers.take_one 0 ∷ (λ before. Call.Signal (codes "go")) ∷ Handlers.await_one 3 ∷ Handlers.take_one 3
    ∷ Handlers.sleep_until 10 ∷ Handlers.await_one 6 ∷ []) answers

-- a handler that awaits two sleeps by any node, beside a signal
abbrev nested : Handler
nested input answers =
    Handlers.scripted (Handlers.sleep_until 10 ∷ Handlers.sleep_until 20 ∷ (λ before. Call.Signal (codes "go"))
    ∷ (λ before. Call.Await (Combined AllSucceededOrFirstFailed (and_trees (Single (Handlers.handle_at before 2))
    (and_trees (Combined FirstSucceededOrAllFailed (and_trees (Single (Handlers.handle_at before 0)) (and_trees (Single (Handlers.handle_at before 1)) no_trees))) no_trees))))
    ∷ Handlers.take_one 2 ∷ Handlers.await_one 1 ∷ []) answers

exact_1 : at_each (is_exact_at Handlers.both (done 1 ∷ done 2 ∷ [])) ≡ true
exact_1 = refl

exact_2 : at_each (is_exact_at Handlers.race (signal 1 ∷ done 2 ∷ done 1 ∷ [])) ≡ true
exact_2 = refl

exact_3 : at_each (is_exact_at go_twice (signal 1 ∷ done 9 ∷ signal 2 ∷ done 1 ∷ [])) ≡ true
exact_3 = refl

exact_4 : at_each (is_exact_at go_twice (signal 1 ∷ signal 2 ∷ signal 3 ∷ done 1 ∷ [])) ≡ true
exact_4 = refl

exact_5 : at_each (is_exact_at nested (failed 1 ∷ signal 1 ∷ failed 2 ∷ [])) ≡ true
exact_5 = refl

exact_6 : at_each (is_exact_at nested (signal 1 ∷ failed 2 ∷ done 1 ∷ [])) ≡ true
exact_6 = refl

exact_7 : at_each (is_exact_at nested (done 2 ∷ failed 1 ∷ signal 1 ∷ [])) ≡ true
exact_7 = refl

exact_8 : at_each (is_exact_at Handlers.pair (done 2 ∷ done 1 ∷ done 4 ∷ done 3 ∷ [])) ≡ true
exact_8 = refl

in_time_1 : at_each (is_in_time_at Handlers.pair (cancel ∷ completed 1 (NotificationResult.InvocationId (codes "a")) ∷ completed 3 (NotificationResult.InvocationId (codes "b")) ∷ [])) ≡ true
in_time_1 = refl

in_time_2 : at_each (is_in_time_at Handlers.pair (completed 3 (NotificationResult.InvocationId (codes "b")) ∷ cancel ∷ done 2 ∷ completed 1 (NotificationResult.InvocationId (codes "a")) ∷ [])) ≡ true
in_time_2 = refl

in_time_3 : at_each (is_in_time_at go_twice (cancel ∷ signal 1 ∷ cancel ∷ [])) ≡ true
in_time_3 = refl
