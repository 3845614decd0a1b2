-- What has come and what handles stand for, one step on that takes the first of what waits for a handle.
use Rattle.std.proofs.Common.{◌≡◌, refl, sym, ap, ap₂, ◌∙◌, subst, ℕ, zero, suc, ◌+◌, ◌-◌, ◌≤◌, ◌<◌, ◌==◌, nat_lt, arith, le_refl, Bool, true, false, ◌||◌, if◌then◌else◌, List, [], ◌∷◌, ◌++◌, append-nil, length, take, drop, slice_get, slice_set, Option, Some, None, option_and_then, eqb-true, eq-eqb}
use Rattle.std.proofs.lemmas.Bool.{ltb-false}
use Rattle.std.specs.List.{list_any}
use Rattle.journal_model.specs.declared.notification.NotificationId.{NotificationId}
use Rattle.journal_model.specs.declared.notification.NotificationResult.{NotificationResult}
use Rattle.journal_model.specs.Notification.{same_id, Arrival, cancel_id}
use Rattle.journal_model.specs.declared.options.RunOptions.{RunOptions}
use Rattle.journal_model.specs.Options.{replaces}
use Rattle.journal_model.specs.History.{Step, ids_of, ids_created, stands_for, takes_handle, handle_is, handle_taken, id_of_handle, next_handle, next_completion, next_signal, IsBelow, TakesBelow}
use Rattle.journal_model.specs.Delivery.{results_for, known_results, known_result, deliveries, taken_is, takes_of, count_taken, passed_at_take}
use Rattle.attempt_model.specs.Results.{Ready, Slots, first_waiting_result, slot_in, slot_of, ready_without_first, slots_without}
use Rattle.attempt_model.specs.Simulation.{passed_deliveries, only_last, kept_results, TablesStand}
use Rattle.journal_model.proofs.Ids.{same_id-same}
use Rattle.attempt_laws.proofs.Tables.{drop-next, drop-cons-length, slot-high}

-- a take: what is kept after the first was taken
one-kept : (results : List NotificationResult) (r : NotificationResult) (rest : List NotificationResult) → only_last results ≡ r ∷ rest → rest ≡ []
one-kept [] r rest e = cc
one-kept (x ∷ []) r rest e = cc
one-kept (x ∷ y ∷ xs) r rest e = one-kept (y ∷ xs) r rest e

drop-whole : (xs : List NotificationResult) → drop (length xs) xs ≡ []
drop-whole [] = refl
drop-whole (x ∷ xs) = drop-whole xs

kept-taken : (b s : Bool) (ds : List NotificationResult) (m n : ℕ) (r : NotificationResult) (old rest : List NotificationResult)
    → old ≡ kept_results b (drop (if b then m else n) ds) → (s ≡ true → old ≡ r ∷ rest) → (s ≡ false → rest ≡ old)
    → rest ≡ kept_results b (drop (if b then (if s then length ds else m) else ((if s then 1 else 0) + n)) ds)
kept-taken true true ds m n r old rest is taken other =
    let e : only_last (drop m ds) ≡ r ∷ rest = sym is ∙ taken refl in
    one-kept (drop m ds) r rest e ∙ sym (ap only_last (drop-whole ds))
kept-taken false true ds m n r old rest is taken other =
    let e : drop n ds ≡ r ∷ rest = sym is ∙ taken refl in
    let more : suc n ≡ 1 + n = omega arith in
    sym (drop-next n ds r rest e) ∙ ap (λ k. drop k ds) more
kept-taken true false ds m n r old rest is taken other = other refl ∙ is
kept-taken false false ds m n r old rest is taken other =
    let same : n ≡ 0 + n = omega arith in
    other refl ∙ is ∙ ap (λ k. drop k ds) same

within-taken : (b s : Bool) (ds : List NotificationResult) (m n : ℕ) (r : NotificationResult) (old rest : List NotificationResult)
    → old ≡ kept_results b (drop (if b then m else n) ds) → (s ≡ true → old ≡ r ∷ rest) → (if b then m else n) ≤ length ds
    → (if b then (if s then length ds else m) else ((if s then 1 else 0) + n)) ≤ length ds
within-taken true true ds m n r old rest is taken h = le_refl (length ds)
within-taken false true ds m n r old rest is taken h =
    let more : n < length ds = drop-cons-length n ds r rest (sym is ∙ taken refl) in
    omega arith
within-taken true false ds m n r old rest is taken h = h
within-taken false false ds m n r old rest is taken h = omega arith

first-rest : (results : List NotificationResult) (r : NotificationResult) → first_waiting_result results ≡ Some r → results ≡ r ∷ drop 1 results
first-rest [] r e = cc
first-rest (x ∷ xs) r e = let same : x ≡ r = cc in ap (λ y. y ∷ xs) same

pub known-id : (b c : Bool) (x : Option NotificationId) (id : NotificationId)
    → (if b then Some cancel_id else (if c then None else (if b then Some cancel_id else x))) ≡ Some id → (if b then Some cancel_id else x) ≡ Some id
known-id true c x id e = e
known-id false true x id e = cc
known-id false false x id e = e

-- slots
get-set-other : {A : Type 0} (xs : List A) (i j : ℕ) (a : A) → (j ≡ i → ⊥) → slice_get (slice_set xs i a) j ≡ slice_get xs j
get-set-other [] i j a ne = refl
get-set-other (x ∷ xs) zero zero a ne = absurd (ne refl)
get-set-other (x ∷ xs) zero (suc j) a ne = refl
get-set-other (x ∷ xs) (suc i) zero a ne = refl
get-set-other (x ∷ xs) (suc i) (suc j) a ne = get-set-other xs i j a (λ e. ne (ap suc e))

get-set-same : {A : Type 0} (xs : List A) (i : ℕ) (a : A) → i < length xs → slice_get (slice_set xs i a) i ≡ Some a
get-set-same [] i a h = absurd (omega arith)
get-set-same (x ∷ xs) zero a h = refl
get-set-same (x ∷ xs) (suc i) a h = get-set-same xs i a (omega arith)

length-set-same : {A : Type 0} (xs : List A) (i : ℕ) (a : A) → length (slice_set xs i a) ≡ length xs
length-set-same [] i a = refl
length-set-same (x ∷ xs) zero a = refl
length-set-same (x ∷ xs) (suc i) a = ap suc (length-set-same xs i a)

slot-within : (xs : Slots) (k : ℕ) (id : NotificationId) → slot_in (slice_get xs k) ≡ Some id → k < length xs
slot-within [] k id e = cc
slot-within (x ∷ xs) zero id e = omega arith
slot-within (x ∷ xs) (suc k) id e = let r : k < length xs = slot-within xs k id e in omega arith

-- a handle that stands for an id, and is not the cancellation's, is within the table
slot-inside : (table : Slots) (h : ℕ) (id : NotificationId) → slot_of table h ≡ Some id → (h == 1) ≡ false → (17 ≤ h) × (h - 17 < length table)
slot-inside table h id e one = by_cases (nat_lt h 17) refl
  where
    by_cases : (b : Bool) → nat_lt h 17 ≡ b → (17 ≤ h) × (h - 17 < length table)
    by_cases true f = let wrong : None ≡ Some id = sym (rw (one, f) refl) ∙ e in cc
    by_cases false f =
        let high : 17 ≤ h = ltb-false h 17 f in
        (high, slot-within table (h - 17) id (sym (slot-high table h high) ∙ e))

-- a step that takes the first of what waits for a handle
pub record TakesOf (steps : List Step) (step : Step) (handle : ℕ) : Type 0 where
  pub none_made : ids_of (next_completion steps) (next_signal steps) step.call ≡ []
  pub handle_is : handle_taken step.call step.answer ≡ Some handle
  pub none_known : known_result (next_completion steps) step.requests ≡ []

module _ (options : RunOptions) (steps : List Step) (arrivals : List Arrival) (place : ℕ) (step : Step) (line : List Arrival) (waiting : Ready) (table : Slots)
    (handle : ℕ) (id : NotificationId) (r : NotificationResult)
    (at : step.place ≡ place) (takes : TakesOf steps step handle) (stands : TablesStand options steps arrivals place line waiting table)
    (slot : slot_of table handle ≡ Some id) (first : first_waiting_result (waiting id) ≡ Some r) where
  known : id_of_handle (ids_created steps) handle ≡ Some id
  known = known-id (handle == 1) (list_any (takes_handle handle) steps) _ id (sym (stands.handles handle) ∙ slot)

  same_ids : ids_created (step ∷ steps) ≡ ids_created steps
  same_ids = ap (λ (more : List NotificationId). ids_created steps ++ more) takes.none_made ∙ append-nil (ids_created steps)

  deliveries-same : (some : NotificationId) → deliveries (step ∷ steps) arrivals place some ≡ deliveries steps arrivals place some
  deliveries-same some = ap (λ (all : List Arrival). results_for ((known_results steps ++ all) ++ take place arrivals) some) takes.none_known
      ∙ ap (λ (all : List Arrival). results_for (all ++ take place arrivals) some) (append-nil (known_results steps))

  passed-next : (some : NotificationId) → passed_deliveries options (step ∷ steps) arrivals some
      ≡ (if replaces options.signal_delivery some then (if same_id id some then length (deliveries steps arrivals place some) else passed_at_take (ids_created steps) arrivals some steps)
      else ((if same_id id some then 1 else 0) + takes_of steps some))
  passed-next some =
      ap (λ (ids : List NotificationId). if replaces options.signal_delivery some then passed_at_take ids arrivals some (step ∷ steps) else count_taken ids some (step ∷ steps)) same_ids
      ∙ ap (λ (o : Option ℕ). if replaces options.signal_delivery some
      then (if taken_is some (option_and_then (id_of_handle (ids_created steps)) o) then length (deliveries steps arrivals step.place some) else passed_at_take (ids_created steps) arrivals some steps)
      else ((if taken_is some (option_and_then (id_of_handle (ids_created steps)) o) then 1 else 0) + takes_of steps some)) takes.handle_is
      ∙ ap (λ (o : Option NotificationId). if replaces options.signal_delivery some
      then (if taken_is some o then length (deliveries steps arrivals step.place some) else passed_at_take (ids_created steps) arrivals some steps)
      else ((if taken_is some o then 1 else 0) + takes_of steps some)) known
      ∙ ap (λ (n : ℕ). if replaces options.signal_delivery some then (if same_id id some then length (deliveries steps arrivals n some) else passed_at_take (ids_created steps) arrivals some steps)
      else ((if same_id id some then 1 else 0) + takes_of steps some)) at

  taken-some : (some : NotificationId) → same_id id some ≡ true → waiting some ≡ r ∷ ready_without_first waiting (Some id) some
  taken-some some e =
      let same : id ≡ some = same_id-same id some e in
      rw e (subst (λ (one : NotificationId). waiting one ≡ r ∷ drop 1 (waiting one)) same (first-rest (waiting id) r first))

  other-some : (some : NotificationId) → same_id id some ≡ false → ready_without_first waiting (Some id) some ≡ waiting some
  other-some some e = rw e refl

  handles-next : (h : ℕ) → slot_of (slots_without table handle) h ≡ stands_for (step ∷ steps) h
  handles-next h =
      by_cases (handle == 1) refl (handle == h) refl (h == 1) refl (list_any (takes_handle h) steps) (stands.handles h)
      ∙ sym (ap (λ (o : Option ℕ). if h == 1 then Some cancel_id else (if handle_is h o || list_any (takes_handle h) steps then None else id_of_handle (ids_created steps) h)) takes.handle_is)
      ∙ sym (ap (λ (ids : List NotificationId). if h == 1 then Some cancel_id else (if takes_handle h step || list_any (takes_handle h) steps then None else id_of_handle ids h)) same_ids)
    where
      by_cases : (a : Bool) → (handle == 1) ≡ a → (b : Bool) → (handle == h) ≡ b → (c : Bool) → (h == 1) ≡ c → (any : Bool)
          → slot_of table h ≡ (if c then Some cancel_id else (if any then None else id_of_handle (ids_created steps) h))
          → slot_of (if a then table else slice_set table (handle - 17) None) h
          ≡ (if c then Some cancel_id else (if b || any then None else id_of_handle (ids_created steps) h))
      by_cases true one b e true first any was = was
      by_cases true one true e false first any was =
          let x : handle ≡ 1 = eqb-true handle 1 one in
          let y : handle ≡ h = eqb-true handle h e in
          let z : (h == 1) ≡ true = eq-eqb h 1 (sym y ∙ x) in
          cc
      by_cases true one false e false first any was = was
      by_cases false one b e true first any was = rw first refl
      by_cases false one true e false first any was =
          let y : handle ≡ h = eqb-true handle h e in
          let (high, inside) = slot-inside table handle id slot one in
          let high_h : 17 ≤ h = omega (arith, y, high) in
          slot-high (slice_set table (handle - 17) None) h high_h
          ∙ ap slot_in (ap (λ (k : ℕ). slice_get (slice_set table (handle - 17) None) (k - 17)) (sym y) ∙ get-set-same table (handle - 17) None inside)
      by_cases false one false e false first any was = below_or (nat_lt h 17) refl
        where
          none-or : (any : Bool) → let nothing : Option NotificationId = None in nothing ≡ (if any then None else None)
          none-or true = refl
          none-or false = refl

          below_or : (d : Bool) → nat_lt h 17 ≡ d
              → slot_of (slice_set table (handle - 17) None) h ≡ (if any then None else id_of_handle (ids_created steps) h)
          below_or true f = rw (first, f) (none-or any)
          below_or false f =
              let high : 17 ≤ h = ltb-false h 17 f in
              let (high_handle, inside) = slot-inside table handle id slot one in
              slot-high (slice_set table (handle - 17) None) h high
              ∙ ap slot_in (get-set-other table (handle - 17) (h - 17) None (λ q. let y : h ≡ handle = omega (arith, q, high, high_handle) in let z : (handle == h) ≡ true = eq-eqb handle h (sym y) in let wrong : true ≡ false = sym z ∙ e in cc))
              ∙ sym (slot-high table h high) ∙ was

  pub takes_first : TablesStand options (step ∷ steps) arrivals place line (ready_without_first waiting (Some id)) (slots_without table handle)
  takes_first = record {
    within = stands.within;
    before = (let e : step.place ≡ place = at in omega arith, stands.before);
    queue = stands.queue;
    ready = λ some.
        kept-taken (replaces options.signal_delivery some) (same_id id some) (deliveries steps arrivals place some) (passed_at_take (ids_created steps) arrivals some steps) (takes_of steps some) r
        (waiting some) (ready_without_first waiting (Some id) some) (stands.ready some) (taken-some some) (other-some some)
        ∙ ap₂ (λ (n : ℕ) (ds : List NotificationResult). kept_results (replaces options.signal_delivery some) (drop n ds)) (sym (passed-next some)) (sym (deliveries-same some));
    taken = λ some. rw (passed-next some, deliveries-same some)
        (within-taken (replaces options.signal_delivery some) (same_id id some) (deliveries steps arrivals place some) (passed_at_take (ids_created steps) arrivals some steps) (takes_of steps some) r
        (waiting some) (ready_without_first waiting (Some id) some) (stands.ready some) (taken-some some) (stands.taken some));
    handles = handles-next;
    next = same_length (handle == 1) ∙ stands.next ∙ ap (λ (ids : List NotificationId). 17 + length ids) (sym same_ids);
    takes = subst (λ (ids : List NotificationId). TakesBelow (17 + length ids) (step ∷ steps)) (sym same_ids)
        (subst (λ (o : Option ℕ). IsBelow (next_handle steps) o) (sym takes.handle_is) (below (handle == 1) refl), stands.takes);
  }
    where
      same_length : (b : Bool) → 17 + length (if b then table else slice_set table (handle - 17) None) ≡ 17 + length table
      same_length true = refl
      same_length false = ap (λ (n : ℕ). 17 + n) (length-set-same table (handle - 17) None)

      below : (b : Bool) → (handle == 1) ≡ b → handle < next_handle steps
      below true e = let one : handle ≡ 1 = eqb-true handle 1 e in omega arith
      below false e =
          let (high, inside) = slot-inside table handle id slot e in
          let next : 17 + length table ≡ next_handle steps = stands.next in
          omega (arith, high, inside, next)
