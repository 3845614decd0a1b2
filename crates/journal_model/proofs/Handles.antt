-- What handles stand for, one step on: an old one for what it stood for, a new one for the id that it was made for.
use Rattle.std.proofs.Common.{◌≡◌, refl, sym, ap, ap₂, ◌∙◌, subst, ℕ, zero, suc, ◌+◌, ◌-◌, ◌≤◌, ◌<◌, ◌==◌, nat_lt, arith, Bool, true, false, ◌||◌, if◌then◌else◌, List, [], ◌∷◌, ◌++◌, append-nil, length, length-append, slice_get, Option, Some, None}
use Rattle.std.proofs.lemmas.Bool.{eqb-true, ltb-false, ltb-true}
use Rattle.std.proofs.lemmas.Option.{slice_get_past}
use Rattle.std.specs.List.{list_any}
use Rattle.journal_model.specs.Notification.{NotificationId, Arrival, cancel_id}
use Rattle.journal_model.specs.History.{Step, ids_created, stands_for, takes_handle, handle_is, handle_taken, id_of_handle, next_handle, IsBelow, TakesBelow}
use Rattle.journal_model.specs.Delivery.{known_results, Makes}

get-front : {A : Type 0} (xs ys : List A) (k : ℕ) → k < length xs → slice_get (xs ++ ys) k ≡ slice_get xs k
get-front [] ys k h = absurd (omega arith)
get-front (x ∷ xs) ys zero h = refl
get-front (x ∷ xs) ys (suc k) h = get-front xs ys k (omega arith)

get-next : {A : Type 0} (xs ys : List A) (y : A) (k : ℕ) → k ≡ length xs → slice_get (xs ++ y ∷ ys) k ≡ Some y
get-next [] ys y zero e = refl
get-next [] ys y (suc k) e = absurd (omega arith)
get-next (x ∷ xs) ys y zero e = absurd (omega arith)
get-next (x ∷ xs) ys y (suc k) e = get-next xs ys y k (omega arith)

-- the id that a handle was created for
pub id_of_handle-cancel : (ids : List NotificationId) → id_of_handle ids 1 ≡ Some cancel_id
id_of_handle-cancel ids = refl

pub id_of_handle-old : (ids more : List NotificationId) (handle : ℕ) → handle < 17 + length ids → id_of_handle (ids ++ more) handle ≡ id_of_handle ids handle
id_of_handle-old ids more handle below = by_cases (handle == 1) (nat_lt handle 17) refl
  where
    by_cases : (a b : Bool) → nat_lt handle 17 ≡ b
        → (if a then Some cancel_id else (if b then None else slice_get (ids ++ more) (handle - 17))) ≡ (if a then Some cancel_id else (if b then None else slice_get ids (handle - 17)))
    by_cases true b e = refl
    by_cases false true e = refl
    by_cases false false e = let high : 17 ≤ handle = ltb-false handle 17 e in get-front ids more (handle - 17) (omega arith)

-- a handle from 17 on is the one that its place among the created ones tells
from_17 : (handle : ℕ) → 17 ≤ handle → (found : Option NotificationId)
    → (if handle == 1 then Some cancel_id else (if nat_lt handle 17 then None else found)) ≡ found
from_17 handle high found = by_cases (handle == 1) refl (nat_lt handle 17) refl
  where
    by_cases : (a : Bool) → (handle == 1) ≡ a → (b : Bool) → nat_lt handle 17 ≡ b → (if a then Some cancel_id else (if b then None else found)) ≡ found
    by_cases true e b f = let same : handle ≡ 1 = eqb-true handle 1 e in absurd (omega arith)
    by_cases false e true f = let low : handle < 17 = ltb-true handle 17 f in absurd (omega arith)
    by_cases false e false f = refl

pub id_of_handle-new : (ids more : List NotificationId) (id : NotificationId) (handle : ℕ) → handle ≡ 17 + length ids → id_of_handle (ids ++ id ∷ more) handle ≡ Some id
id_of_handle-new ids more id handle is = from_17 handle (omega arith) _ ∙ get-next ids more id (handle - 17) (omega arith)

pub id_of_handle-none : (ids : List NotificationId) (handle : ℕ) → 17 + length ids ≤ handle → id_of_handle ids handle ≡ None
id_of_handle-none ids handle above = from_17 handle (omega arith) _ ∙ slice_get_past ids (handle - 17) (omega arith)

-- what was taken is below a greater number too
pub takes-more : (n m : ℕ) → n ≤ m → (steps : List Step) → TakesBelow n steps → TakesBelow m steps
takes-more n m high [] below = tt
takes-more n m high (step ∷ earlier) below = (one (handle_taken step.call step.answer) below.0, takes-more n m high earlier below.1)
  where
    one : (o : Option ℕ) → IsBelow n o → IsBelow m o
    one None below = tt
    one (Some handle) below = omega arith

-- a handle that is not below it was not taken
pub none-takes : (n handle : ℕ) → n ≤ handle → (steps : List Step) → TakesBelow n steps → list_any (takes_handle handle) steps ≡ false
none-takes n handle high [] below = refl
none-takes n handle high (step ∷ earlier) below =
    ap₂ (λ (a b : Bool). a || b) (one (handle_taken step.call step.answer) below.0) (none-takes n handle high earlier below.1)
  where
    one : (o : Option ℕ) → IsBelow n o → handle_is handle o ≡ false
    one None below = refl
    one (Some taken) below = no (taken == handle) refl
      where
        no : (b : Bool) → (taken == handle) ≡ b → b ≡ false
        no true e = let same : taken ≡ handle = eqb-true taken handle e in absurd (omega arith)
        no false e = refl

-- a step that makes handles for these ids, and takes and reads nothing
module _ (steps : List Step) (step : Step) (ids : List NotificationId) (makes : Makes steps step ids) where
  pub ids_created-next : ids_created (step ∷ steps) ≡ ids_created steps ++ ids
  ids_created-next = ap (λ (more : List NotificationId). ids_created steps ++ more) makes.made

  pub next_handle-next : next_handle (step ∷ steps) ≡ next_handle steps + length ids
  next_handle-next =
      let e : length (ids_created (step ∷ steps)) ≡ length (ids_created steps) + length ids = ap length ids_created-next ∙ length-append (ids_created steps) ids in
      omega (arith, e)

  pub known_results-next : known_results (step ∷ steps) ≡ known_results steps
  known_results-next = ap (λ (known : List Arrival). known_results steps ++ known) makes.reads ∙ append-nil (known_results steps)

  pub takes-next : TakesBelow (next_handle steps) steps → TakesBelow (next_handle (step ∷ steps)) (step ∷ steps)
  takes-next below = (
    subst (λ (o : Option ℕ). IsBelow (next_handle (step ∷ steps)) o) (sym makes.takes) tt,
    takes-more (next_handle steps) (next_handle (step ∷ steps)) (omega (arith, next_handle-next)) steps below,
  )

  -- what a handle stands for depends on the ids made and the notifications taken before
  stands_for-by : (handle : ℕ) → stands_for (step ∷ steps) handle
      ≡ (if handle == 1 then Some cancel_id else (if list_any (takes_handle handle) steps then None else id_of_handle (ids_created steps ++ ids) handle))
  stands_for-by handle =
      ap (λ (more : List NotificationId). if handle == 1 then Some cancel_id
      else (if handle_is handle (handle_taken step.call step.answer) || list_any (takes_handle handle) steps then None else id_of_handle (ids_created steps ++ more) handle)) makes.made
      ∙ ap (λ (o : Option ℕ). if handle == 1 then Some cancel_id
      else (if handle_is handle o || list_any (takes_handle handle) steps then None else id_of_handle (ids_created steps ++ ids) handle)) makes.takes

  -- an older handle stands for what it stood for
  pub stands_for-old : (handle : ℕ) → handle < next_handle steps → stands_for (step ∷ steps) handle ≡ stands_for steps handle
  stands_for-old handle below =
      stands_for-by handle
      ∙ ap (λ (o : Option NotificationId). if handle == 1 then Some cancel_id else (if list_any (takes_handle handle) steps then None else o))
      (id_of_handle-old (ids_created steps) ids handle below)

-- where a step makes no handle, each stands for what it stood for
pub stands_for-made_none : (steps : List Step) (step : Step) → Makes steps step [] → (handle : ℕ) → stands_for (step ∷ steps) handle ≡ stands_for steps handle
stands_for-made_none steps step makes handle =
    stands_for-by steps step [] makes handle
    ∙ ap (λ (ids : List NotificationId). if handle == 1 then Some cancel_id else (if list_any (takes_handle handle) steps then None else id_of_handle ids handle)) (append-nil (ids_created steps))

-- a handle that was not created stands for nothing
pub stands_for-none : (steps : List Step) (handle : ℕ) → next_handle steps ≤ handle → stands_for steps handle ≡ None
stands_for-none steps handle above = by_cases (handle == 1) refl (list_any (takes_handle handle) steps)
  where
    by_cases : (a : Bool) → (handle == 1) ≡ a → (b : Bool)
        → (if a then Some cancel_id else (if b then None else id_of_handle (ids_created steps) handle)) ≡ None
    by_cases true e b = let same : handle ≡ 1 = eqb-true handle 1 e in absurd (omega arith)
    by_cases false e true = refl
    by_cases false e false = id_of_handle-none (ids_created steps) handle above

-- the next handle stands for the first id that it is made for
pub stands_for-new : (steps : List Step) (step : Step) (id : NotificationId) (more : List NotificationId) → Makes steps step (id ∷ more) → TakesBelow (next_handle steps) steps
    → stands_for (step ∷ steps) (next_handle steps) ≡ Some id
stands_for-new steps step id more makes below =
    stands_for-by steps step (id ∷ more) makes (next_handle steps)
    ∙ not_cancel (next_handle steps == 1) refl
    ∙ ap (λ (b : Bool). if b then None else id_of_handle (ids_created steps ++ id ∷ more) (next_handle steps)) (none-takes (next_handle steps) (next_handle steps) (omega arith) steps below)
    ∙ id_of_handle-new (ids_created steps) more id (next_handle steps) refl
  where
    not_cancel : (a : Bool) → (next_handle steps == 1) ≡ a
        → (if a then Some cancel_id else (if list_any (takes_handle (next_handle steps)) steps then None else id_of_handle (ids_created steps ++ id ∷ more) (next_handle steps)))
        ≡ (if list_any (takes_handle (next_handle steps)) steps then None else id_of_handle (ids_created steps ++ id ∷ more) (next_handle steps))
    not_cancel true e = let same : next_handle steps ≡ 1 = eqb-true (next_handle steps) 1 e in absurd (omega arith)
    not_cancel false e = refl
