-- What a take brings is one of what has come for its handle, and so of its kind.
use Rattle.std.proofs.Common.{◌≡◌, refl, sym, ap, ◌∙◌, ℕ, zero, suc, ◌-◌, ◌≤◌, ◌==◌, arith, nat_lt, Bool, true, false, ◌&&◌, if◌then◌else◌, List, [], ◌∷◌, ◌++◌, append_assoc, take, drop, slice_get, map, filter, Option, Some, None, option_map, option_and_then}
use Rattle.std.proofs.lemmas.Bool.{ltb-false, eqb-true}
use Rattle.std.proofs.lemmas.List.{take-append-drop}
use Rattle.std.specs.List.{list_any, list_all}
use Rattle.journal_model.specs.declared.notification.NotificationId.{NotificationId}
use Rattle.journal_model.specs.declared.notification.NotificationResult.{NotificationResult}
use Rattle.journal_model.specs.Notification.{same_id, Arrival}
use Rattle.journal_model.specs.Value.{as_taken}
use Rattle.journal_model.specs.declared.call.Call.{Call}
use Rattle.journal_model.specs.declared.call.Answer.{Answer}
use Rattle.journal_model.specs.declared.value.Value.{Value}
use Rattle.journal_model.specs.declared.options.RunOptions.{RunOptions}
use Rattle.journal_model.specs.Options.{replaces}
use Rattle.journal_model.specs.History.{Step, place_of, ids_created, takes_handle, stands_for}
use Rattle.journal_model.specs.Delivery.{results_for, known_results, deliveries, front, last_of, takes_of, passed_at_take}
use Rattle.journal_model.specs.Run.{Invocation, front_of_handle, answer_to}
use Rattle.straight_line.specs.TakenValues.{ValueKind, is_of, kinds_created, kind_of_handle, AreOf, ComesOfKind}

-- of what is true of all
first-true : (a b : Bool) → (a && b) ≡ true → a ≡ true
first-true true b e = refl
first-true false b e = cc

second-true : (a b : Bool) → (a && b) ≡ true → b ≡ true
second-true true b e = e
second-true false b e = cc

all-front : (test : NotificationResult → Bool) (xs ys : List NotificationResult) → list_all test (xs ++ ys) ≡ true → list_all test xs ≡ true
all-front test [] ys e = refl
all-front test (x ∷ xs) ys e =
    rw (first-true (test x) (list_all test (xs ++ ys)) e) (all-front test xs ys (second-true (test x) (list_all test (xs ++ ys)) e))

all-drop : (test : NotificationResult → Bool) (n : ℕ) (xs : List NotificationResult) → list_all test xs ≡ true → list_all test (drop n xs) ≡ true
all-drop test zero xs e = e
all-drop test (suc n) [] e = refl
all-drop test (suc n) (x ∷ xs) e = all-drop test n xs (second-true (test x) (list_all test xs) e)

all-last : (test : NotificationResult → Bool) (xs : List NotificationResult) (r : NotificationResult) → list_all test xs ≡ true → last_of xs ≡ Some r → test r ≡ true
all-last test [] r e f = cc
all-last test (x ∷ []) r e f = let same : x ≡ r = cc in ap test (sym same) ∙ first-true (test x) true e
all-last test (x ∷ y ∷ xs) r e f = all-last test (y ∷ xs) r (second-true (test x) (list_all test (y ∷ xs)) e) f

all-get : (test : NotificationResult → Bool) (xs : List NotificationResult) (k : ℕ) (r : NotificationResult) → list_all test xs ≡ true → slice_get xs k ≡ Some r → test r ≡ true
all-get test [] k r e f = cc
all-get test (x ∷ xs) zero r e f = let same : x ≡ r = cc in ap test (sym same) ∙ first-true (test x) (list_all test xs) e
all-get test (x ∷ xs) (suc k) r e f = all-get test xs k r (second-true (test x) (list_all test xs) e) f

results-append : (xs ys : List Arrival) (id : NotificationId) → results_for (xs ++ ys) id ≡ results_for xs id ++ results_for ys id
results-append [] ys id = refl
results-append (x ∷ xs) ys id = by_id (same_id x.id id) (results-append xs ys id)
  where
    by_id : (b : Bool) → results_for (xs ++ ys) id ≡ results_for xs id ++ results_for ys id
        → map (λ (a : Arrival). a.result) (if b then x ∷ filter (λ (a : Arrival). same_id a.id id) (xs ++ ys) else filter (λ (a : Arrival). same_id a.id id) (xs ++ ys))
        ≡ map (λ (a : Arrival). a.result) (if b then x ∷ filter (λ (a : Arrival). same_id a.id id) xs else filter (λ (a : Arrival). same_id a.id id) xs) ++ results_for ys id
    by_id true e = ap (λ (rest : List NotificationResult). x.result ∷ rest) e
    by_id false e = e

-- what is in front is one of what has come
all-in-front : (options : RunOptions) (steps : List Step) (arrivals : List Arrival) (place : ℕ) (id : NotificationId) (test : NotificationResult → Bool) (r : NotificationResult)
    → list_all test (results_for (known_results steps ++ arrivals) id) ≡ true → front options steps arrivals place id ≡ Some r → test r ≡ true
all-in-front options steps arrivals place id test r all f = by_replaced (replaces options.signal_delivery id) f
  where
    some : list_all test (deliveries steps arrivals place id) ≡ true
    some = all-front test (deliveries steps arrivals place id) (results_for (drop place arrivals) id)
        (ap (list_all test) (sym (results-append (known_results steps ++ take place arrivals) (drop place arrivals) id)
        ∙ ap (λ (each : List Arrival). results_for each id) (append_assoc (known_results steps) (take place arrivals) (drop place arrivals)
        ∙ ap (λ (rest : List Arrival). known_results steps ++ rest) (take-append-drop place arrivals))) ∙ all)

    by_replaced : (b : Bool)
        → (if b then last_of (drop (passed_at_take (ids_created steps) arrivals id steps) (deliveries steps arrivals place id)) else slice_get (deliveries steps arrivals place id) (takes_of steps id)) ≡ Some r
        → test r ≡ true
    by_replaced true g =
        all-last test (drop (passed_at_take (ids_created steps) arrivals id steps) (deliveries steps arrivals place id)) r
        (all-drop test (passed_at_take (ids_created steps) arrivals id steps) (deliveries steps arrivals place id) some) g
    by_replaced false g = all-get test (deliveries steps arrivals place id) (takes_of steps id) r some g

-- the ids and the kinds stand side by side
are-at : (ids : List NotificationId) (kinds : List ValueKind) (arrivals : List Arrival) (k : ℕ) (id : NotificationId) (kind : ValueKind)
    → AreOf ids kinds arrivals → slice_get ids k ≡ Some id → slice_get kinds k ≡ Some kind
    → list_all (λ result. is_of kind (as_taken result)) (results_for arrivals id) ≡ true
are-at [] kinds arrivals k id kind all at is = cc
are-at (x ∷ ids) [] arrivals k id kind all at is = cc
are-at (x ∷ ids) (y ∷ kinds) arrivals zero id kind all at is =
    let e : x ≡ id = cc in
    let f : y ≡ kind = cc in
    rw (← e) (rw (← f) all.0)
are-at (x ∷ ids) (y ∷ kinds) arrivals (suc k) id kind all at is = are-at ids kinds arrivals k id kind all.1 at is

-- a handle of a kind stands for the id that stands beside it
beside : (steps : List Step) (handle : ℕ) (kind : ValueKind) (id : NotificationId) → kind_of_handle steps handle ≡ Some kind → stands_for steps handle ≡ Some id
    → (slice_get (ids_created steps) (handle - 17) ≡ Some id) × (slice_get (kinds_created steps) (handle - 17) ≡ Some kind)
beside steps handle kind id made stands = by_below (nat_lt handle 17) refl made
  where
    by_taken : (b : Bool) → (if b then None else slice_get (ids_created steps) (handle - 17)) ≡ Some id → slice_get (ids_created steps) (handle - 17) ≡ Some id
    by_taken true e = cc
    by_taken false e = e

    by_equal : (b : Bool) → (handle == 1) ≡ b → 17 ≤ handle → b ≡ false
    by_equal true e high = let same : handle ≡ 1 = eqb-true handle 1 e in absurd (omega arith)
    by_equal false e high = refl

    above : nat_lt handle 17 ≡ false → stands_for steps handle ≡ (if list_any (takes_handle handle) steps then None else slice_get (ids_created steps) (handle - 17))
    above low =
        let high : 17 ≤ handle = ltb-false handle 17 low in
        let other : (handle == 1) ≡ false = by_equal (handle == 1) refl high in
        rw other (rw low refl)

    by_below : (b : Bool) → nat_lt handle 17 ≡ b → (if b then None else slice_get (kinds_created steps) (handle - 17)) ≡ Some kind
        → (slice_get (ids_created steps) (handle - 17) ≡ Some id) × (slice_get (kinds_created steps) (handle - 17) ≡ Some kind)
    by_below true low e = cc
    by_below false low e = (by_taken (list_any (takes_handle handle) steps) (sym (above low) ∙ stands), e)

pub takes_of_kind : (invocation : Invocation) (steps : List Step) (arrivals : List Arrival) → ComesOfKind steps arrivals
    → (handle : ℕ) (kind : ValueKind) (value : Value) → kind_of_handle steps handle ≡ Some kind
    → answer_to invocation steps arrivals (Call.Take handle) ≡ Answer.Taken (Some value) → is_of kind value ≡ true
takes_of_kind invocation steps arrivals come handle kind value made taken = by_id (stands_for steps handle) refl (let e : option_map as_taken (front_of_handle invocation.options steps arrivals handle) ≡ Some value = cc in e)
  where
    by_front : (id : NotificationId) → stands_for steps handle ≡ Some id → (o : Option NotificationResult) → front invocation.options steps arrivals (place_of steps) id ≡ o
        → option_map as_taken o ≡ Some value → is_of kind value ≡ true
    by_front id stands None f e = cc
    by_front id stands (Some result) f e =
        let same : as_taken result ≡ value = cc in
        let (at, is) = beside steps handle kind id made stands in
        ap (is_of kind) (sym same)
        ∙ all-in-front invocation.options steps arrivals (place_of steps) id (λ result. is_of kind (as_taken result)) result
        (are-at (ids_created steps) (kinds_created steps) (known_results steps ++ arrivals) (handle - 17) id kind come at is) f

    by_id : (o : Option NotificationId) → stands_for steps handle ≡ o → option_map as_taken (option_and_then (front invocation.options steps arrivals (place_of steps)) o) ≡ Some value → is_of kind value ≡ true
    by_id None stands e = cc
    by_id (Some id) stands e = by_front id stands (front invocation.options steps arrivals (place_of steps) id) refl e
