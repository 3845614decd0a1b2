-- Of the next completion nothing was taken and nothing is known: so what has come for it is what is in line or waits.
use Rattle.std.proofs.Common.{◌≡◌, refl, sym, ap, ap₂, ◌∙◌, ℕ, arith, Bool, true, false, ◌||◌, if◌then◌else◌, List, [], ◌∷◌, ◌++◌, length, take, drop, is_some}
use Rattle.std.specs.List.{list_any}
use Rattle.std.proofs.lemmas.List.{take-append-drop}
use Rattle.std.proofs.lemmas.List.Folds.{list_any-append}
use Rattle.journal_model.specs.declared.notification.NotificationId.{NotificationId}
use Rattle.journal_model.specs.declared.notification.NotificationId.TheVariants.{CompletionId}
use Rattle.journal_model.specs.declared.notification.NotificationResult.{NotificationResult}
use Rattle.journal_model.specs.Notification.{same_id, Arrival}
use Rattle.journal_model.specs.declared.options.RunOptions.{RunOptions}
use Rattle.journal_model.specs.History.{Step, next_completion, ids_created, handle_taken}
use Rattle.journal_model.specs.Delivery.{results_for, known_results, deliveries, passed_at_take}
use Rattle.journal_model.specs.Journal.{completes}
use Rattle.attempt_model.specs.Results.{Ready, Slots, first_waiting_result}
use Rattle.attempt_model.specs.Simulation.{only_last, TablesStand}
use Rattle.attempt_laws.proofs.Children.{AllBelow, ids-below, not_taken}
use Rattle.attempt_laws.proofs.Tables.{results-append}
use Rattle.body_laws.specs.BodySimulation.{has_arrived}

-- nothing was taken of a completion that was not made
none-passed : (n : ℕ) (ids : List NotificationId) → AllBelow n ids → (arrivals : List Arrival) (some : List Step) → passed_at_take ids arrivals (CompletionId n) some ≡ 0
none-passed n ids below arrivals [] = refl
none-passed n ids below arrivals (one ∷ earlier) =
    ap (λ (b : Bool). if b then length (deliveries earlier arrivals one.place (CompletionId n)) else passed_at_take ids arrivals (CompletionId n) earlier) (not_taken n ids below (handle_taken one.call one.answer))
    ∙ none-passed n ids below arrivals earlier

-- results of which the last is kept
some-last : (r : NotificationResult) (rs : List NotificationResult) → is_some (first_waiting_result (only_last (r ∷ rs))) ≡ true
some-last r [] = refl
some-last r (next ∷ rs) = some-last next rs

some-result : (n : ℕ) (xs : List Arrival) → is_some (first_waiting_result (only_last (results_for xs (CompletionId n)))) ≡ list_any (completes n) xs
some-result n [] = refl
some-result n (x ∷ xs) = by_test (same_id x.id (CompletionId n)) refl (some-result n xs)
  where
    by_test : (b : Bool) → same_id x.id (CompletionId n) ≡ b → is_some (first_waiting_result (only_last (results_for xs (CompletionId n)))) ≡ list_any (completes n) xs
        → is_some (first_waiting_result (only_last (results_for (x ∷ xs) (CompletionId n)))) ≡ list_any (completes n) (x ∷ xs)
    by_test true e later = rw e (some-last x.result (results_for xs (CompletionId n)))
    by_test false e later = rw e later

nothing-there : (xs : List NotificationResult) → length xs ≡ 0 → xs ≡ []
nothing-there [] e = refl
nothing-there (x ∷ xs) e = absurd (omega (arith, e))

or-other : (a b c : Bool) → c ≡ (b || a) → (a || b) ≡ c
or-other true true c e = sym e
or-other true false c e = sym e
or-other false true c e = sym e
or-other false false c e = sym e

module _ (options : RunOptions) (steps : List Step) (arrivals : List Arrival) (place : ℕ) (line : List Arrival) (waiting : Ready) (table : Slots)
    (stands : TablesStand options steps arrivals place line waiting table) (unknown : length (results_for (known_results steps) (CompletionId (next_completion steps))) ≡ 0) where
  n : ℕ
  n = next_completion steps

  delivered : deliveries steps arrivals place (CompletionId (next_completion steps)) ≡ results_for (take place arrivals) (CompletionId (next_completion steps))
  delivered =
      results-append (known_results steps) (take place arrivals) (CompletionId (next_completion steps))
      ∙ ap (λ (some : List NotificationResult). some ++ results_for (take place arrivals) (CompletionId (next_completion steps))) (nothing-there (results_for (known_results steps) (CompletionId (next_completion steps))) unknown)

  waits : is_some (first_waiting_result (waiting (CompletionId (next_completion steps)))) ≡ list_any (completes (next_completion steps)) (take place arrivals)
  waits =
      ap (λ (some : List NotificationResult). is_some (first_waiting_result some)) (stands.ready (CompletionId (next_completion steps)))
      ∙ ap₂ (λ (k : ℕ) (ds : List NotificationResult). is_some (first_waiting_result (only_last (drop k ds)))) (none-passed (next_completion steps) (ids_created steps) (ids-below steps) arrivals steps) delivered
      ∙ some-result (next_completion steps) (take place arrivals)

  -- what is in line or waits for the next completion is what has come for it
  pub come-same : (list_any (completes (next_completion steps)) line || is_some (first_waiting_result (waiting (CompletionId (next_completion steps))))) ≡ has_arrived arrivals (next_completion steps)
  come-same =
      or-other (list_any (completes (next_completion steps)) line) (is_some (first_waiting_result (waiting (CompletionId (next_completion steps))))) (has_arrived arrivals (next_completion steps))
      (ap (list_any (completes (next_completion steps))) (sym (take-append-drop place arrivals))
      ∙ list_any-append (completes (next_completion steps)) (take place arrivals) (drop place arrivals)
      ∙ ap₂ (λ (a b : Bool). a || b) (sym waits) (ap (list_any (completes (next_completion steps))) (sym stands.queue)))
