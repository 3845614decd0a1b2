-- What comes for a child is its invocation id: what was taken, and what is in front.
use Rattle.std.proofs.Common.{◌++◌, ◌≡◌, refl, sym, ap, ◌∙◌, ℕ, ◌==◌, Bool, true, false, ◌&&◌, if◌then◌else◌, List, [], ◌∷◌, map, Option, Some, None, option_map, eq-eqb}
use Rattle.std.specs.List.{list_all, list_any}
use Rattle.journal_model.specs.declared.notification.NotificationId.{NotificationId}
use Rattle.journal_model.specs.declared.notification.NotificationId.TheVariants.{CompletionId}
use Rattle.journal_model.specs.declared.notification.NotificationResult.{NotificationResult}
use Rattle.journal_model.specs.Notification.{same_id, Arrival}
use Rattle.journal_model.specs.declared.value.Value.{Value}
use Rattle.journal_model.specs.Value.{as_taken}
use Rattle.journal_model.specs.declared.options.RunOptions.{RunOptions}
use Rattle.journal_model.specs.History.{Step, ids_created}
use Rattle.journal_model.specs.Delivery.{front, or_else}
use Rattle.journal_model.specs.Await.{last_taken, child_result}
use Rattle.attempt_model.specs.Children.{Child, new_child, child_with_value, is_id, may_take}
use Rattle.attempt_model.specs.Simulation.{child_after, is_id_if_known}
use Rattle.journal_model.proofs.Ids.{same_id-same}
use Rattle.journal_laws.proofs.Leaving.{or-true_left, or-true_right}

pub both-true : (a b : Bool) → a ≡ true → b ≡ true → (a && b) ≡ true
both-true true true e f = refl
both-true true false e f = cc
both-true false b e f = cc

pub first-true : (a b : Bool) → (a && b) ≡ true → a ≡ true
first-true true b e = refl
first-true false b e = cc

pub second-true : (a b : Bool) → (a && b) ≡ true → b ≡ true
second-true true b e = e
second-true false b e = cc

-- what holds of each that is in the list holds of all
abbrev pub is_in : List ℕ → ℕ → Bool
is_in ns n = list_any (λ m. m == n) ns

pub all-in : (test : ℕ → Bool) (ns : List ℕ) → ((n : ℕ) → is_in ns n ≡ true → test n ≡ true) → list_all test ns ≡ true
all-in test [] holds = refl
all-in test (n ∷ ns) holds =
    both-true (test n) (list_all test ns) (holds n (or-true_left (n == n) (is_in ns n) (eq-eqb n n refl)))
    (all-in test ns (λ m e. holds m (or-true_right (n == m) (is_in ns m) e)))

module _ (options : RunOptions) (steps : List Step) (arrivals : List Arrival) where
  -- each child is known by its invocation id, if it is
  pub results-ids : (place : ℕ) (ns : List ℕ) → list_all (λ child. is_id_if_known child.taken) (map (child_after steps) ns) ≡ true
      → ((n : ℕ) → is_in ns n ≡ true → is_id_if_known (option_map as_taken (front options steps arrivals place (CompletionId n))) ≡ true)
      → list_all (λ n. is_id_if_known (child_result options steps arrivals place n)) ns ≡ true
  results-ids place [] taken fronts = refl
  results-ids place (n ∷ ns) taken fronts =
      both-true (is_id_if_known (child_result options steps arrivals place n)) (list_all (λ n. is_id_if_known (child_result options steps arrivals place n)) ns)
      (by_taken (last_taken (ids_created steps) (CompletionId n) steps) (first-true (is_id_if_known (last_taken (ids_created steps) (CompletionId n) steps)) _ taken)
      (fronts n (or-true_left (n == n) (is_in ns n) (eq-eqb n n refl))))
      (results-ids place ns (second-true (is_id_if_known (last_taken (ids_created steps) (CompletionId n) steps)) _ taken) (λ m e. fronts m (or-true_right (n == m) (is_in ns m) e)))
    where
      by_taken : (o : Option Value) → is_id_if_known o ≡ true → is_id_if_known (option_map as_taken (front options steps arrivals place (CompletionId n))) ≡ true
          → is_id_if_known (or_else o (option_map as_taken (front options steps arrivals place (CompletionId n)))) ≡ true
      by_taken None e f = f
      by_taken (Some v) e f = e

  -- what is in front of a child's id may be taken
  pub takes-ids : (place : ℕ) (ns : List ℕ) (id : NotificationId) (r : NotificationResult) → front options steps arrivals place id ≡ Some r
      → ((n : ℕ) → is_in ns n ≡ true → is_id_if_known (option_map as_taken (front options steps arrivals place (CompletionId n))) ≡ true)
      → list_all (may_take (Some id) (as_taken r)) (map (child_after steps) ns) ≡ true
  takes-ids place [] id r e fronts = refl
  takes-ids place (n ∷ ns) id r e fronts =
      both-true (may_take (Some id) (as_taken r) (child_after steps n)) (list_all (may_take (Some id) (as_taken r)) (map (child_after steps) ns))
      (by_test (same_id id (CompletionId n)) refl) (takes-ids place ns id r e (λ m f. fronts m (or-true_right (n == m) (is_in ns m) f)))
    where
      by_test : (b : Bool) → same_id id (CompletionId n) ≡ b → (if b then is_id (as_taken r) else true) ≡ true
      by_test true f =
          ap is_id_if_known (ap (option_map as_taken) (sym e ∙ ap (front options steps arrivals place) (same_id-same id (CompletionId n) f)))
          ∙ fronts n (or-true_left (n == n) (is_in ns n) (eq-eqb n n refl))
      by_test false f = refl

-- a child keeps an invocation id, or takes one
pub taken-ids : (id : NotificationId) (value : Value) (children : List Child) → list_all (λ child. is_id_if_known child.taken) children ≡ true
    → list_all (may_take (Some id) value) children ≡ true → list_all (λ child. is_id_if_known child.taken) (map (child_with_value (Some id) value) children) ≡ true
taken-ids id value [] known may = refl
taken-ids id value (child ∷ children) known may =
    both-true (is_id_if_known (child_with_value (Some id) value child).taken) (list_all (λ child. is_id_if_known child.taken) (map (child_with_value (Some id) value) children))
    (by_test (same_id id (CompletionId child.completion)) (first-true (may_take (Some id) value child) _ may))
    (taken-ids id value children (second-true (is_id_if_known child.taken) _ known) (second-true (may_take (Some id) value child) _ may))
  where
    by_test : (b : Bool) → (if b then is_id value else true) ≡ true
        → is_id_if_known (if b then record { completion = child.completion; taken = Some value } else child).taken ≡ true
    by_test true e = e
    by_test false e = first-true (is_id_if_known child.taken) _ known

-- children of which nothing was taken
pub new-ids : (children : List Child) (ns : List ℕ) → list_all (λ child. is_id_if_known child.taken) children ≡ true → list_all (λ child. is_id_if_known child.taken) (children ++ map new_child ns) ≡ true
new-ids [] [] known = refl
new-ids [] (n ∷ ns) known = new-ids [] ns known
new-ids (child ∷ children) ns known =
    both-true (is_id_if_known child.taken) (list_all (λ child. is_id_if_known child.taken) (children ++ map new_child ns))
    (first-true (is_id_if_known child.taken) _ known) (new-ids children ns (second-true (is_id_if_known child.taken) _ known))
