-- What wakes a suspension wakes it with whatever comes behind.
use Rattle.std.proofs.Common.{◌≡◌, refl, ap, Bool, true, false, ◌||◌, if◌then◌else◌, List, [], ◌∷◌, ◌++◌, Option, Some, None, ◌⊎◌, inl, inr}
use Rattle.std.specs.List.{list_any, find}
use Rattle.journal_model.specs.Notification.{Arrival, same_id}
use Rattle.journal_model.specs.declared.notification.NotificationId.{NotificationId}
use Rattle.journal_model.specs.AwaitTree.{Pending}
use Rattle.journal_model.specs.Delivery.{state_of_result}
use Rattle.journal_model.specs.Event.{ForTree, ForAny}
use Rattle.journal_model.specs.Attempt.{result_of, first_result}
use Rattle.journal_laws.proofs.Leaving.{or-true, or-true_left, or-true_right, awake-more}
use Rattle.due_laws.specs.Awake.{AwakeGrows}

find_more : (p : Arrival → Bool) (xs ys : List Arrival) → (find p xs ≡ None) ⊎ (find p (xs ++ ys) ≡ find p xs)
find_more p [] ys = inl refl
find_more p (x ∷ xs) ys = by_test (p x) (find_more p xs ys)
  where
    by_test : (b : Bool) → (find p xs ≡ None) ⊎ (find p (xs ++ ys) ≡ find p xs)
        → ((if b then Some x else find p xs) ≡ None) ⊎ ((if b then Some x else find p (xs ++ ys)) ≡ (if b then Some x else find p xs))
    by_test true later = inr refl
    by_test false later = later

leaf_more : (arrivals more : List Arrival) (id : NotificationId)
    → (state_of_result (first_result arrivals id) ≡ Pending) ⊎ (state_of_result (first_result (arrivals ++ more) id) ≡ state_of_result (first_result arrivals id))
leaf_more arrivals more id = by_found (find_more (λ (arrival : Arrival). same_id arrival.id id) arrivals more)
  where
    by_found : (find (λ (arrival : Arrival). same_id arrival.id id) arrivals ≡ None)
        ⊎ (find (λ (arrival : Arrival). same_id arrival.id id) (arrivals ++ more) ≡ find (λ (arrival : Arrival). same_id arrival.id id) arrivals)
        → (state_of_result (first_result arrivals id) ≡ Pending) ⊎ (state_of_result (first_result (arrivals ++ more) id) ≡ state_of_result (first_result arrivals id))
    by_found (inl e) = inl (ap (λ (o : Option Arrival). state_of_result (result_of o)) e)
    by_found (inr e) = inr (ap (λ (o : Option Arrival). state_of_result (result_of o)) e)

any_more : (p : Arrival → Bool) (xs ys : List Arrival) → list_any p xs ≡ true → list_any p (xs ++ ys) ≡ true
any_more p [] ys e = cc
any_more p (x ∷ xs) ys e = by_cases (or-true (p x) (list_any p xs) e) (any_more p xs ys)
  where
    by_cases : (p x ≡ true) ⊎ (list_any p xs ≡ true) → (list_any p xs ≡ true → list_any p (xs ++ ys) ≡ true) → (p x || list_any p (xs ++ ys)) ≡ true
    by_cases (inl f) later = or-true_left (p x) (list_any p (xs ++ ys)) f
    by_cases (inr f) later = or-true_right (p x) (list_any p (xs ++ ys)) (later f)

ids_more : (arrivals more : List Arrival) (ids : List NotificationId) → list_any (λ (id : NotificationId). list_any (λ (arrival : Arrival). same_id arrival.id id) arrivals) ids ≡ true
    → list_any (λ (id : NotificationId). list_any (λ (arrival : Arrival). same_id arrival.id id) (arrivals ++ more)) ids ≡ true
ids_more arrivals more [] e = cc
ids_more arrivals more (id ∷ ids) e =
    by_cases
    (or-true (list_any (λ (arrival : Arrival). same_id arrival.id id) arrivals) (list_any (λ (other : NotificationId). list_any (λ (arrival : Arrival). same_id arrival.id other) arrivals) ids) e)
    (ids_more arrivals more ids)
  where
    by_cases : (list_any (λ (arrival : Arrival). same_id arrival.id id) arrivals ≡ true)
        ⊎ (list_any (λ (other : NotificationId). list_any (λ (arrival : Arrival). same_id arrival.id other) arrivals) ids ≡ true)
        → (list_any (λ (other : NotificationId). list_any (λ (arrival : Arrival). same_id arrival.id other) arrivals) ids ≡ true
        → list_any (λ (other : NotificationId). list_any (λ (arrival : Arrival). same_id arrival.id other) (arrivals ++ more)) ids ≡ true)
        → (list_any (λ (arrival : Arrival). same_id arrival.id id) (arrivals ++ more)
        || list_any (λ (other : NotificationId). list_any (λ (arrival : Arrival). same_id arrival.id other) (arrivals ++ more)) ids) ≡ true
    by_cases (inl f) later =
        or-true_left (list_any (λ (arrival : Arrival). same_id arrival.id id) (arrivals ++ more))
        (list_any (λ (other : NotificationId). list_any (λ (arrival : Arrival). same_id arrival.id other) (arrivals ++ more)) ids)
        (any_more (λ (arrival : Arrival). same_id arrival.id id) arrivals more f)
    by_cases (inr f) later =
        or-true_right (list_any (λ (arrival : Arrival). same_id arrival.id id) (arrivals ++ more))
        (list_any (λ (other : NotificationId). list_any (λ (arrival : Arrival). same_id arrival.id other) (arrivals ++ more)) ids) (later f)

pub awake_grows : AwakeGrows
awake_grows arrivals more None e = refl
awake_grows arrivals more (Some (ForTree tree)) e =
    awake-more (λ (id : NotificationId). state_of_result (first_result arrivals id)) (λ (id : NotificationId). state_of_result (first_result (arrivals ++ more) id)) (leaf_more arrivals more) tree e
awake_grows arrivals more (Some (ForAny ids)) e = ids_more arrivals more ids e
