-- The payload that is kept of a suspension for any of some ids is that of its three lists.
use Rattle.std.proofs.Common.{◌≡◌, ℕ, List, [], ◌∷◌, ◌++◌, map, ap, ◌∙◌, refl, append-nil}
use Rattle.journal_model.specs.Notification.{Text}
use Rattle.journal_model.specs.declared.notification.NotificationId.{NotificationId}
use Rattle.journal_model.specs.declared.notification.NotificationId.TheVariants as ids
use Rattle.journal_model.specs.Spelling.{packed_numbers, repeated_bytes}
use Rattle.journal_model.specs.Event.{ForAny}
use Rattle.protocol_trees.specs.Future.{ids_in}
use Rattle.store_model.specs.Progress.{completions_among, signals_among, names_among, payload_of_suspension}

-- ids of a kind that is picked or is not, with others behind them
abbrev Skips : {A B : Type 0} → (List NotificationId → List A) → (B → NotificationId) → Type 0
Skips {A} {B} pick made = (x : B) (rest : List NotificationId) → pick (made x ∷ rest) ≡ pick rest

abbrev Takes : {A : Type 0} → (List NotificationId → List A) → (A → NotificationId) → Type 0
Takes {A} pick made = (x : A) (rest : List NotificationId) → pick (made x ∷ rest) ≡ x ∷ pick rest

skips : {A B : Type 0} (pick : List NotificationId → List A) (made : B → NotificationId) → Skips pick made
    → (xs : List B) (more : List NotificationId) → pick (map made xs ++ more) ≡ pick more
skips pick made h [] more = refl
skips pick made h (x ∷ xs) more = h x (map made xs ++ more) ∙ skips pick made h xs more

skips_all : {A B : Type 0} (pick : List NotificationId → List A) (made : B → NotificationId) → pick [] ≡ [] → Skips pick made
    → (xs : List B) → pick (map made xs) ≡ []
skips_all pick made none h [] = none
skips_all pick made none h (x ∷ xs) = h x (map made xs) ∙ skips_all pick made none h xs

takes : {A : Type 0} (pick : List NotificationId → List A) (made : A → NotificationId) → Takes pick made
    → (xs : List A) (more : List NotificationId) → pick (map made xs ++ more) ≡ xs ++ pick more
takes pick made h [] more = refl
takes {A} pick made h (x ∷ xs) more = h x (map made xs ++ more) ∙ ap (λ (picked : List A). x ∷ picked) (takes pick made h xs more)

takes_all : {A : Type 0} (pick : List NotificationId → List A) (made : A → NotificationId) → pick [] ≡ [] → Takes pick made
    → (xs : List A) → pick (map made xs) ≡ xs
takes_all pick made none h [] = none
takes_all {A} pick made none h (x ∷ xs) = h x (map made xs) ∙ ap (λ (picked : List A). x ∷ picked) (takes_all pick made none h xs)

module _ (completions signals : List ℕ) (names : List Text) where
  completions_of : completions_among (ids_in completions signals names) ≡ completions
  completions_of =
      takes completions_among ids.CompletionId (λ n rest. refl) completions (map ids.SignalId signals ++ map ids.SignalName names)
      ∙ ap (λ (picked : List ℕ). completions ++ picked)
      (skips completions_among ids.SignalId (λ n rest. refl) signals (map ids.SignalName names) ∙ skips_all completions_among ids.SignalName refl (λ name rest. refl) names)
      ∙ append-nil completions

  signals_of : signals_among (ids_in completions signals names) ≡ signals
  signals_of =
      skips signals_among ids.CompletionId (λ n rest. refl) completions (map ids.SignalId signals ++ map ids.SignalName names)
      ∙ takes signals_among ids.SignalId (λ n rest. refl) signals (map ids.SignalName names)
      ∙ ap (λ (picked : List ℕ). signals ++ picked) (skips_all signals_among ids.SignalName refl (λ name rest. refl) names)
      ∙ append-nil signals

  names_of : names_among (ids_in completions signals names) ≡ names
  names_of =
      skips names_among ids.CompletionId (λ n rest. refl) completions (map ids.SignalId signals ++ map ids.SignalName names)
      ∙ skips names_among ids.SignalId (λ n rest. refl) signals (map ids.SignalName names)
      ∙ takes_all names_among ids.SignalName refl (λ name rest. refl) names

  pub payload_of_lists : payload_of_suspension (ForAny (ids_in completions signals names))
      ≡ packed_numbers 1 completions ++ (packed_numbers 2 signals ++ repeated_bytes 3 names)
  payload_of_lists = λ i. packed_numbers 1 (completions_of i) ++ (packed_numbers 2 (signals_of i) ++ repeated_bytes 3 (names_of i))
