-- What has come and what handles stand for, one arrival on; lists of what handles stand for.
use Rattle.std.proofs.Common.{◌≡◌, refl, sym, ap, ap₂, ◌∙◌, ℕ, zero, suc, ◌+◌, ◌-◌, ◌≤◌, ◌<◌, ◌==◌, nat_lt, arith, eq-or-lt_of_le, Bool, true, false, if◌then◌else◌, List, [], ◌∷◌, ◌++◌, append_assoc, append-nil, length, length-append, take, drop, map, filter, slice_get, Option, Some, None, option_and_then, eqb-true, ◌⊎◌, inl, inr}
use Rattle.std.proofs.Math.Path.{fun_ext}
use Rattle.std.proofs.lemmas.Bool.{ltb-true}
use Rattle.journal_model.specs.declared.notification.NotificationId.{NotificationId}
use Rattle.journal_model.specs.declared.notification.NotificationResult.{NotificationResult}
use Rattle.journal_model.specs.Notification.{same_id, Arrival, cancel_id}
use Rattle.journal_model.specs.AwaitTree.{AwaitState, Pending}
use Rattle.journal_model.specs.declared.options.RunOptions.{RunOptions}
use Rattle.journal_model.specs.Options.{replaces}
use Rattle.journal_model.specs.History.{Step, ids_created, stands_for, id_of_handle, WithinPlaces}
use Rattle.journal_model.specs.Delivery.{results_for, known_results, deliveries, takes_of, passed_at_take, last_of, front, state_of_result}
use Rattle.journal_model.proofs.Extension.{deliveries-more, passed_at_take-more}
use Rattle.attempt_model.specs.Results.{Ready, Slots, ready_after, first_waiting_result, slot_in, slot_of, waiting_for, handle_state}
use Rattle.attempt_model.specs.Simulation.{passed_deliveries, only_last, kept_results, untaken_results, TablesStand}

-- the first of what waits to be taken is in front
last-first : (results : List NotificationResult) → last_of results ≡ first_waiting_result (only_last results)
last-first [] = refl
last-first (result ∷ []) = refl
last-first (result ∷ next ∷ results) = last-first (next ∷ results)

get-drop : (n : ℕ) (results : List NotificationResult) → slice_get results n ≡ first_waiting_result (drop n results)
get-drop zero [] = refl
get-drop zero (result ∷ results) = refl
get-drop (suc n) [] = refl
get-drop (suc n) (result ∷ results) = get-drop n results

pub front-untaken : (options : RunOptions) (steps : List Step) (arrivals : List Arrival) (place : ℕ) (id : NotificationId)
    → front options steps arrivals place id ≡ first_waiting_result (untaken_results options steps arrivals place id)
front-untaken options steps arrivals place id =
    by_cases (replaces options.signal_delivery id) (passed_at_take (ids_created steps) arrivals id steps) (takes_of steps id) (deliveries steps arrivals place id)
  where
    by_cases : (b : Bool) (p t : ℕ) (ds : List NotificationResult)
        → (if b then last_of (drop p ds) else slice_get ds t) ≡ first_waiting_result (kept_results b (drop (if b then p else t) ds))
    by_cases true p t ds = last-first (drop p ds)
    by_cases false p t ds = get-drop t ds

-- one more arrival
take-next : {A : Type 0} (n : ℕ) (xs : List A) (x : A) (rest : List A) → drop n xs ≡ x ∷ rest → take (suc n) xs ≡ take n xs ++ x ∷ []
take-next zero [] x rest e = cc
take-next zero (y ∷ xs) x rest e = let same : y ≡ x = cc in ap (λ z. z ∷ []) same
take-next (suc n) [] x rest e = cc
take-next (suc n) (y ∷ xs) x rest e = ap (λ zs. y ∷ zs) (take-next n xs x rest e)

pub drop-next : {A : Type 0} (n : ℕ) (xs : List A) (x : A) (rest : List A) → drop n xs ≡ x ∷ rest → drop (suc n) xs ≡ rest
drop-next zero [] x rest e = cc
drop-next zero (y ∷ xs) x rest e = cc
drop-next (suc n) [] x rest e = cc
drop-next (suc n) (y ∷ xs) x rest e = drop-next n xs x rest e

pub drop-more : {A : Type 0} (n : ℕ) (xs ys : List A) → n ≤ length xs → drop n (xs ++ ys) ≡ drop n xs ++ ys
drop-more zero xs ys h = refl
drop-more (suc n) [] ys h = absurd (omega arith)
drop-more (suc n) (x ∷ xs) ys h = drop-more n xs ys (omega arith)

pub drop-cons-length : {A : Type 0} (n : ℕ) (xs : List A) (x : A) (rest : List A) → drop n xs ≡ x ∷ rest → n < length xs
drop-cons-length zero [] x rest e = cc
drop-cons-length zero (y ∷ xs) x rest e = omega arith
drop-cons-length (suc n) [] x rest e = cc
drop-cons-length (suc n) (y ∷ xs) x rest e = let h : n < length xs = drop-cons-length n xs x rest e in omega arith

pub drop-nil-length : {A : Type 0} (n : ℕ) (xs : List A) → drop n xs ≡ [] → length xs ≤ n
drop-nil-length zero [] e = omega arith
drop-nil-length zero (y ∷ xs) e = cc
drop-nil-length (suc n) [] e = omega arith
drop-nil-length (suc n) (y ∷ xs) e = let h : length xs ≤ n = drop-nil-length n xs e in omega arith

pub results-append : (xs ys : List Arrival) (id : NotificationId) → results_for (xs ++ ys) id ≡ results_for xs id ++ results_for ys id
results-append [] ys id = refl
results-append (x ∷ xs) ys id = by_cases (same_id x.id id) (results-append xs ys id)
  where
    by_cases : (b : Bool) → results_for (xs ++ ys) id ≡ results_for xs id ++ results_for ys id → map (λ (arrival : Arrival). arrival.result) (if b then x ∷ filter (λ (arrival : Arrival). same_id arrival.id id) (xs ++ ys) else filter (λ (arrival : Arrival). same_id arrival.id id) (xs ++ ys))
        ≡ map (λ (arrival : Arrival). arrival.result) (if b then x ∷ filter (λ (arrival : Arrival). same_id arrival.id id) xs else filter (λ (arrival : Arrival). same_id arrival.id id) xs) ++ results_for ys id
    by_cases true later = ap (λ (zs : List NotificationResult). x.result ∷ zs) later
    by_cases false later = later

last-append : (results : List NotificationResult) (result : NotificationResult) → only_last (results ++ result ∷ []) ≡ result ∷ []
last-append [] result = refl
last-append (first ∷ []) result = refl
last-append (first ∷ next ∷ results) result = last-append (next ∷ results) result

pub deliveries-next : (steps : List Step) (arrivals : List Arrival) (place : ℕ) (id : NotificationId) (arrival : Arrival) (rest : List Arrival)
    → drop place arrivals ≡ arrival ∷ rest
    → deliveries steps arrivals (suc place) id ≡ deliveries steps arrivals place id ++ (if same_id arrival.id id then arrival.result ∷ [] else [])
deliveries-next steps arrivals place id arrival rest e =
    ap (λ (some : List Arrival). results_for (known_results steps ++ some) id) (take-next place arrivals arrival rest e)
    ∙ ap (λ (all : List Arrival). results_for all id) (sym (append_assoc (known_results steps) (take place arrivals) (arrival ∷ [])))
    ∙ results-append (known_results steps ++ take place arrivals) (arrival ∷ []) id
    ∙ ap (λ (more : List NotificationResult). deliveries steps arrivals place id ++ more) (by_cases (same_id arrival.id id))
  where
    by_cases : (b : Bool) → map (λ (a : Arrival). a.result) (if b then arrival ∷ [] else []) ≡ (if b then arrival.result ∷ [] else [])
    by_cases true = refl
    by_cases false = refl

kept-next : (s b : Bool) (n : ℕ) (ds : List NotificationResult) (result : NotificationResult) → n ≤ length ds
    → kept_results b (drop n (ds ++ (if s then result ∷ [] else []))) ≡ (if s then (if b then result ∷ [] else kept_results b (drop n ds) ++ result ∷ []) else kept_results b (drop n ds))
kept-next true true n ds result h = ap only_last (drop-more n ds (result ∷ []) h) ∙ last-append (drop n ds) result
kept-next true false n ds result h = drop-more n ds (result ∷ []) h
kept-next false b n ds result h = ap (λ (xs : List NotificationResult). kept_results b (drop n xs)) (append-nil ds)

pub within-more : (n m : ℕ) → n ≤ m → (steps : List Step) → WithinPlaces n steps → WithinPlaces m steps
within-more n m h [] within = tt
within-more n m h (step ∷ earlier) within = (omega (arith, within.0), within-more n m h earlier within.1)

-- the next in line is looked at
pub arrive : (options : RunOptions) (steps : List Step) (arrivals : List Arrival) (place : ℕ) (arrival : Arrival) (line : List Arrival) (waiting : Ready) (table : Slots)
    → TablesStand options steps arrivals place (arrival ∷ line) waiting table
    → TablesStand options steps arrivals (suc place) line (ready_after options.signal_delivery waiting arrival) table
arrive options steps arrivals place arrival line waiting table stands =
    let split : drop place arrivals ≡ arrival ∷ line = sym stands.queue in
    record {
      within = drop-cons-length place arrivals arrival line split;
      before = within-more place (suc place) (omega arith) steps stands.before;
      queue = sym (drop-next place arrivals arrival line split);
      ready = λ id. ready_at id split;
      taken = λ id. taken_at id split;
      handles = stands.handles;
      next = stands.next;
      takes = stands.takes;
    }
  where
    ready_at : (id : NotificationId) → drop place arrivals ≡ arrival ∷ line
        → ready_after options.signal_delivery waiting arrival id ≡ untaken_results options steps arrivals (suc place) id
    ready_at id split =
        ap (λ (rs : List NotificationResult). if same_id arrival.id id then (if replaces options.signal_delivery id then arrival.result ∷ [] else rs ++ arrival.result ∷ []) else rs) (stands.ready id)
        ∙ sym (kept-next (same_id arrival.id id) (replaces options.signal_delivery id) (passed_deliveries options steps arrivals id) (deliveries steps arrivals place id) arrival.result (stands.taken id))
        ∙ ap (λ (ds : List NotificationResult). kept_results (replaces options.signal_delivery id) (drop (passed_deliveries options steps arrivals id) ds))
        (sym (deliveries-next steps arrivals place id arrival line split))

    taken_at : (id : NotificationId) → drop place arrivals ≡ arrival ∷ line
        → passed_deliveries options steps arrivals id ≤ length (deliveries steps arrivals (suc place) id)
    taken_at id split =
        let h : passed_deliveries options steps arrivals id ≤ length (deliveries steps arrivals place id) = stands.taken id in
        let e : length (deliveries steps arrivals (suc place) id) ≡ length (deliveries steps arrivals place id) + length (if same_id arrival.id id then arrival.result ∷ [] else []) =
        ap length (deliveries-next steps arrivals place id arrival line split) ∙ length-append (deliveries steps arrivals place id) (if same_id arrival.id id then arrival.result ∷ [] else []) in
        omega arith

-- one more arrival is read
pub comes : (options : RunOptions) (steps : List Step) (arrivals : List Arrival) (place : ℕ) (arrival : Arrival) (line : List Arrival) (waiting : Ready) (table : Slots)
    → TablesStand options steps arrivals place line waiting table
    → TablesStand options steps (arrivals ++ arrival ∷ []) place (line ++ arrival ∷ []) waiting table
comes options steps arrivals place arrival line waiting table stands = record {
  within =
      let e : length (arrivals ++ arrival ∷ []) ≡ length arrivals + 1 = length-append arrivals (arrival ∷ []) in
      let h : place ≤ length arrivals = stands.within in
      omega arith;
  before = stands.before;
  queue = ap (λ (xs : List Arrival). xs ++ arrival ∷ []) stands.queue ∙ sym (drop-more place arrivals (arrival ∷ []) stands.within);
  ready = λ id. stands.ready id
      ∙ sym (ap₂ (λ (n : ℕ) (ds : List NotificationResult). kept_results (replaces options.signal_delivery id) (drop n ds)) (passed-same id) (deliveries-same id));
  taken = λ id. rw (passed-same id, deliveries-same id) (stands.taken id);
  handles = stands.handles;
  next = stands.next;
  takes = stands.takes;
}
  where
    deliveries-same : (id : NotificationId) → deliveries steps (arrivals ++ arrival ∷ []) place id ≡ deliveries steps arrivals place id
    deliveries-same id = deliveries-more steps arrivals (arrival ∷ []) place id stands.within

    passed-same : (id : NotificationId) → passed_deliveries options steps (arrivals ++ arrival ∷ []) id ≡ passed_deliveries options steps arrivals id
    passed-same id = ap (λ (n : ℕ). if replaces options.signal_delivery id then n else takes_of steps id)
        (passed_at_take-more (ids_created steps) arrivals (arrival ∷ []) id steps (within-more place (length arrivals) stands.within steps stands.before))

-- lists of what handles stand for
pub get-front : {A : Type 0} (xs ys : List A) (k : ℕ) → k < length xs → slice_get (xs ++ ys) k ≡ slice_get xs k
get-front [] ys k h = absurd (omega arith)
get-front (x ∷ xs) ys zero h = refl
get-front (x ∷ xs) ys (suc k) h = get-front xs ys k (omega arith)

pub get-back : {A : Type 0} (xs ys : List A) (k j : ℕ) → k ≡ length xs + j → slice_get (xs ++ ys) k ≡ slice_get ys j
get-back [] ys k j e = let same : k ≡ j = omega arith in ap (slice_get ys) same
get-back (x ∷ xs) ys zero j e = absurd (omega arith)
get-back (x ∷ xs) ys (suc k) j e = get-back xs ys k j (omega arith)

pub length-some : (ids : List NotificationId) → length (map (λ (id : NotificationId). Some id) ids) ≡ length ids
length-some [] = refl
length-some (id ∷ ids) = ap suc (length-some ids)

pub slot-some : (ids : List NotificationId) (k : ℕ) → slot_in (slice_get (map (λ (id : NotificationId). Some id) ids) k) ≡ slice_get ids k
slot-some [] k = refl
slot-some (id ∷ ids) zero = refl
slot-some (id ∷ ids) (suc k) = slot-some ids k

-- a handle from 17 on is the one that its place tells
pub slot-high : (table : Slots) (h : ℕ) → 17 ≤ h → slot_of table h ≡ slot_in (slice_get table (h - 17))
slot-high table h high = by_cases (h == 1) refl (nat_lt h 17) refl
  where
    by_cases : (a : Bool) → (h == 1) ≡ a → (b : Bool) → nat_lt h 17 ≡ b
        → (if a then Some cancel_id else (if b then None else slot_in (slice_get table (h - 17)))) ≡ slot_in (slice_get table (h - 17))
    by_cases true e b f = let same : h ≡ 1 = eqb-true h 1 e in absurd (omega arith)
    by_cases false e true f = let low : h < 17 = ltb-true h 17 f in absurd (omega arith)
    by_cases false e false f = refl

pub id-high : (ids : List NotificationId) (h : ℕ) → 17 ≤ h → id_of_handle ids h ≡ slice_get ids (h - 17)
id-high ids h high = by_cases (h == 1) refl (nat_lt h 17) refl
  where
    by_cases : (a : Bool) → (h == 1) ≡ a → (b : Bool) → nat_lt h 17 ≡ b
        → (if a then Some cancel_id else (if b then None else slice_get ids (h - 17))) ≡ slice_get ids (h - 17)
    by_cases true e b f = let same : h ≡ 1 = eqb-true h 1 e in absurd (omega arith)
    by_cases false e true f = let low : h < 17 = ltb-true h 17 f in absurd (omega arith)
    by_cases false e false f = refl

-- what waits for a handle is in front of it
pub in_front : (options : RunOptions) (steps : List Step) (arrivals : List Arrival) (line : List Arrival) (waiting : Ready) (table : Slots) (place : ℕ)
    → TablesStand options steps arrivals place line waiting table
    → (handle : ℕ) → waiting_for table waiting handle ≡ option_and_then (front options steps arrivals place) (stands_for steps handle)
in_front options steps arrivals line waiting table place stands handle =
    ap (option_and_then (λ id. first_waiting_result (waiting id))) (stands.handles handle) ∙ by_slot (stands_for steps handle)
  where
    by_slot : (o : Option NotificationId) → option_and_then (λ id. first_waiting_result (waiting id)) o ≡ option_and_then (front options steps arrivals place) o
    by_slot None = refl
    by_slot (Some id) = ap first_waiting_result (stands.ready id) ∙ sym (front-untaken options steps arrivals place id)

-- nothing has come, and no handle was made
pub starts : (options : RunOptions) (arrivals : List Arrival) → TablesStand options [] arrivals 0 arrivals (λ id. []) []
starts options arrivals = record {
  within = omega arith;
  before = tt;
  queue = refl;
  ready = λ id. nothing (replaces options.signal_delivery id);
  taken = λ id. none (replaces options.signal_delivery id);
  handles = λ h. handles_at h (h == 1) (nat_lt h 17);
  next = refl;
  takes = tt;
}
  where
    nobody : List NotificationId
    nobody = []

    empty : List NotificationResult
    empty = []

    nothing : (b : Bool) → empty ≡ kept_results b (drop (if b then 0 else 0) empty)
    nothing true = refl
    nothing false = refl

    none : (b : Bool) → (if b then 0 else 0) ≤ 0
    none true = omega arith
    none false = omega arith

    no_slots : Slots
    no_slots = []

    handles_at : (h : ℕ) (a b : Bool) → (if a then Some cancel_id else (if b then None else slot_in (slice_get no_slots (h - 17))))
        ≡ (if a then Some cancel_id else (if a then Some cancel_id else (if b then None else slice_get nobody (h - 17))))
    handles_at h true b = refl
    handles_at h false true = refl
    handles_at h false false = refl

-- a test that fails at a place and behind it fails from there on
pub from_here : (test : ℕ → Bool) (place q : ℕ) → test place ≡ false → (place < q → test q ≡ false) → place ≤ q → test q ≡ false
from_here test place q here behind low = by_order (eq-or-lt_of_le low)
  where
    by_order : (place ≡ q) ⊎ (place < q) → test q ≡ false
    by_order (inl same) = ap test (sym same) ∙ here
    by_order (inr above) = behind above

-- where nothing is in line all has been looked at
pub all_read : (options : RunOptions) (steps : List Step) (arrivals : List Arrival) (place : ℕ) (waiting : Ready) (table : Slots)
    → TablesStand options steps arrivals place [] waiting table → place ≡ length arrivals
all_read options steps arrivals place waiting table stands =
    let low : length arrivals ≤ place = drop-nil-length place arrivals (sym stands.queue) in
    let high : place ≤ length arrivals = stands.within in
    omega (arith, low, high)

-- the states of leaves by what is in front at a place
abbrev pub front_states : RunOptions → List Step → List Arrival → ℕ → Option NotificationId → AwaitState
front_states options steps arrivals q None = Pending
front_states options steps arrivals q (Some id) = state_of_result (front options steps arrivals q id)

pub leaves_in_front : (options : RunOptions) (steps : List Step) (arrivals : List Arrival) (place : ℕ) (line : List Arrival) (waiting : Ready) (table : Slots)
    → TablesStand options steps arrivals place line waiting table
    → handle_state table waiting ≡ (λ handle. front_states options steps arrivals place (stands_for steps handle))
leaves_in_front options steps arrivals place line waiting table stands =
    fun_ext (λ handle. ap state_of_result (in_front options steps arrivals line waiting table place stands handle) ∙ by_id (stands_for steps handle))
  where
    by_id : (o : Option NotificationId) → state_of_result (option_and_then (front options steps arrivals place) o) ≡ front_states options steps arrivals place o
    by_id None = refl
    by_id (Some id) = refl
