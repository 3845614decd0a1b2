-- What has come and what handles stand for, one step on that makes handles and takes nothing.
use Rattle.std.proofs.Common.{◌≡◌, refl, sym, ap, ap₂, ◌∙◌, subst, ℕ, ◌+◌, ◌-◌, ◌≤◌, ◌<◌, ◌==◌, nat_lt, arith, Bool, true, false, ◌||◌, if◌then◌else◌, List, [], ◌∷◌, ◌++◌, append-nil, length, length-append, take, drop, map, Option, Some, None, option_and_then, eq-eqb}
use Rattle.std.proofs.lemmas.Bool.{ltb-false, ltb-true}
use Rattle.std.proofs.lemmas.List.{take-append-drop}
use Rattle.std.specs.List.{list_any}
use Rattle.journal_model.specs.declared.notification.NotificationId.{NotificationId}
use Rattle.journal_model.specs.declared.notification.NotificationId.TheVariants.{CompletionId}
use Rattle.journal_model.specs.declared.notification.NotificationResult.{NotificationResult}
use Rattle.journal_model.specs.Notification.{same_id, Arrival, cancel_id}
use Rattle.journal_model.specs.declared.options.RunOptions.{RunOptions}
use Rattle.journal_model.specs.Options.{replaces}
use Rattle.journal_model.specs.History.{Step, ids_of, ids_created, stands_for, takes_handle, handle_is, handle_taken, id_of_handle, next_handle, next_completion, next_signal, IsBelow, TakesBelow}
use Rattle.journal_model.specs.Delivery.{results_for, known_results, known_result, deliveries, taken_is, count_taken, passed_at_take}
use Rattle.journal_model.proofs.Handles.{takes-more, id_of_handle-old, none-takes}
use Rattle.attempt_model.specs.Results.{Ready, Slots, ready_after, slot_in, slot_of}
use Rattle.attempt_model.specs.Simulation.{passed_deliveries, only_last, kept_results, untaken_results, TablesStand}
use Rattle.journal_model.proofs.Ids.{same_id-same}
use Rattle.attempt_laws.proofs.Tables.{results-append, get-front, get-back, length-some, slot-some, slot-high, id-high}

-- a step that makes handles for these ids, and takes nothing
pub record Creates (steps : List Step) (step : Step) (ids : List NotificationId) : Type 0 where
  pub made : ids_of (next_completion steps) (next_signal steps) step.call ≡ ids
  pub takes : handle_taken step.call step.answer ≡ None

ids_created-by : (steps : List Step) (step : Step) (ids : List NotificationId) → Creates steps step ids → ids_created (step ∷ steps) ≡ ids_created steps ++ ids
ids_created-by steps step ids creates = ap (λ (more : List NotificationId). ids_created steps ++ more) creates.made

next_handle-by : (steps : List Step) (step : Step) (ids : List NotificationId) → Creates steps step ids → next_handle (step ∷ steps) ≡ next_handle steps + length ids
next_handle-by steps step ids creates =
    let e : length (ids_created (step ∷ steps)) ≡ length (ids_created steps) + length ids = ap length (ids_created-by steps step ids creates) ∙ length-append (ids_created steps) ids in
    omega (arith, e)

takes-by : (steps : List Step) (step : Step) (ids : List NotificationId) → Creates steps step ids → TakesBelow (next_handle steps) steps → TakesBelow (next_handle (step ∷ steps)) (step ∷ steps)
takes-by steps step ids creates below = (
  subst (λ (o : Option ℕ). IsBelow (next_handle (step ∷ steps)) o) (sym creates.takes) tt,
  takes-more (next_handle steps) (next_handle (step ∷ steps)) (omega (arith, next_handle-by steps step ids creates)) steps below,
)

-- the counts of a step that makes handles and takes nothing
module _ (options : RunOptions) (steps : List Step) (arrivals : List Arrival) (place : ℕ) (step : Step) (ids : List NotificationId)
    (makes : Creates steps step ids) (takes : TakesBelow (next_handle steps) steps) where
  taken-same : (o : Option ℕ) → IsBelow (next_handle steps) o → option_and_then (id_of_handle (ids_created steps ++ ids)) o ≡ option_and_then (id_of_handle (ids_created steps)) o
  taken-same None below = refl
  taken-same (Some h) below = id_of_handle-old (ids_created steps) ids h below

  count-same : (id : NotificationId) (some : List Step) → TakesBelow (next_handle steps) some → count_taken (ids_created steps ++ ids) id some ≡ count_taken (ids_created steps) id some
  count-same id [] below = refl
  count-same id (one ∷ earlier) below =
      ap₂ (λ (o : Option NotificationId) (n : ℕ). (if taken_is id o then 1 else 0) + n) (taken-same (handle_taken one.call one.answer) below.0) (count-same id earlier below.1)

  passed_at-same : (id : NotificationId) (some : List Step) → TakesBelow (next_handle steps) some
      → passed_at_take (ids_created steps ++ ids) arrivals id some ≡ passed_at_take (ids_created steps) arrivals id some
  passed_at-same id [] below = refl
  passed_at-same id (one ∷ earlier) below =
      ap₂ (λ (o : Option NotificationId) (n : ℕ). if taken_is id o then length (deliveries earlier arrivals one.place id) else n)
      (taken-same (handle_taken one.call one.answer) below.0) (passed_at-same id earlier below.1)

  deliveries-made : (known : List Arrival) → known_result (next_completion steps) step.requests ≡ known → (id : NotificationId)
      → deliveries (step ∷ steps) arrivals place id ≡ results_for ((known_results steps ++ known) ++ take place arrivals) id
  deliveries-made known reads id = ap (λ (more : List Arrival). results_for ((known_results steps ++ more) ++ take place arrivals) id) reads

  passed-made : (id : NotificationId) → passed_deliveries options (step ∷ steps) arrivals id ≡ passed_deliveries options steps arrivals id
  passed-made id =
      ap (λ (all : List NotificationId). if replaces options.signal_delivery id then passed_at_take all arrivals id (step ∷ steps) else count_taken all id (step ∷ steps)) (ids_created-by steps step ids makes)
      ∙ ap (λ (o : Option ℕ). if replaces options.signal_delivery id
      then (if taken_is id (option_and_then (id_of_handle (ids_created steps ++ ids)) o) then length (deliveries steps arrivals step.place id) else passed_at_take (ids_created steps ++ ids) arrivals id steps)
      else ((if taken_is id (option_and_then (id_of_handle (ids_created steps ++ ids)) o) then 1 else 0) + count_taken (ids_created steps ++ ids) id steps)) makes.takes
      ∙ ap₂ (λ (m n : ℕ). if replaces options.signal_delivery id then m else n)
      (passed_at-same id steps takes)
      (let none : 0 + count_taken (ids_created steps ++ ids) id steps ≡ count_taken (ids_created steps ++ ids) id steps = omega arith in
      none ∙ count-same id steps takes)

-- what a handle stands for depends on the ids made and the notifications taken before
stands_for-by : (steps : List Step) (step : Step) (ids : List NotificationId) → Creates steps step ids → (handle : ℕ) → stands_for (step ∷ steps) handle
    ≡ (if handle == 1 then Some cancel_id else (if list_any (takes_handle handle) steps then None else id_of_handle (ids_created steps ++ ids) handle))
stands_for-by steps step ids makes handle =
    ap (λ (more : List NotificationId). if handle == 1 then Some cancel_id
    else (if handle_is handle (handle_taken step.call step.answer) || list_any (takes_handle handle) steps then None else id_of_handle (ids_created steps ++ more) handle)) makes.made
    ∙ ap (λ (o : Option ℕ). if handle == 1 then Some cancel_id
    else (if handle_is handle o || list_any (takes_handle handle) steps then None else id_of_handle (ids_created steps ++ ids) handle)) makes.takes

-- one step on, which takes nothing and makes handles for these ids
module _ (options : RunOptions) (steps : List Step) (arrivals : List Arrival) (place : ℕ) (step : Step) (ids : List NotificationId)
    (line : List Arrival) (waiting : Ready) (table : Slots)
    (at : step.place ≡ place) (made : Creates steps step ids) (stands : TablesStand options steps arrivals place line waiting table) where
  abbrev pub new : Slots
  new = map (λ (id : NotificationId). Some id) ids

  slots-made : (h : ℕ) → slot_of (table ++ new) h
      ≡ (if h == 1 then Some cancel_id else (if list_any (takes_handle h) steps then None else id_of_handle (ids_created steps ++ ids) h))
  slots-made h = by_cases (h == 1) refl (nat_lt h 17) refl (nat_lt (h - 17) (length table)) refl
    where
      none-or : (any : Bool) → let nothing : Option NotificationId = None in nothing ≡ (if any then None else None)
      none-or true = refl
      none-or false = refl

      by_cases : (a : Bool) → (h == 1) ≡ a → (b : Bool) → nat_lt h 17 ≡ b → (c : Bool) → nat_lt (h - 17) (length table) ≡ c
          → slot_of (table ++ new) h
          ≡ (if h == 1 then Some cancel_id else (if list_any (takes_handle h) steps then None else id_of_handle (ids_created steps ++ ids) h))
      by_cases true e b f c g = rw e refl
      by_cases false e true f c g = rw (e, f) (none-or (list_any (takes_handle h) steps))
      by_cases false e false f true g =
          let low : h - 17 < length table = ltb-true (h - 17) (length table) g in
          let high : 17 ≤ h = ltb-false h 17 f in
          let next : 17 + length table ≡ next_handle steps = stands.next in
          let below : h < next_handle steps = omega (arith, low, high, next) in
          slot-high (table ++ new) h high ∙ ap slot_in (get-front table new (h - 17) low) ∙ sym (slot-high table h high) ∙ stands.handles h
          ∙ ap (λ (o : Option NotificationId). if h == 1 then Some cancel_id else (if list_any (takes_handle h) steps then None else o))
          (sym (id_of_handle-old (ids_created steps) ids h below))
      by_cases false e false f false g =
          let far : length table ≤ h - 17 = ltb-false (h - 17) (length table) g in
          let high : 17 ≤ h = ltb-false h 17 f in
          let next : 17 + length table ≡ 17 + length (ids_created steps) = stands.next in
          let above : 17 + length (ids_created steps) ≤ h = omega (arith, far, high, next) in
          let j : ℕ = (h - 17) - length table in
          let at_table : h - 17 ≡ length table + ((h - 17) - length table) = omega (arith, far) in
          let at_ids : h - 17 ≡ length (ids_created steps) + ((h - 17) - length table) = omega (arith, far, next) in
          slot-high (table ++ new) h high ∙ ap slot_in (get-back table new (h - 17) ((h - 17) - length table) at_table) ∙ slot-some ids ((h - 17) - length table)
          ∙ sym (get-back (ids_created steps) ids (h - 17) ((h - 17) - length table) at_ids) ∙ sym (id-high (ids_created steps ++ ids) h high)
          ∙ sym (rw (e, none-takes (next_handle steps) h above steps stands.takes) refl)

  -- where what waits is what was delivered and not taken
  pub creates : (behind : Ready) → ((id : NotificationId) → behind id ≡ untaken_results options (step ∷ steps) arrivals place id)
      → ((id : NotificationId) → passed_deliveries options steps arrivals id ≤ length (deliveries (step ∷ steps) arrivals place id))
      → TablesStand options (step ∷ steps) arrivals place line behind (table ++ new)
  creates behind ready taken = record {
    within = stands.within;
    before = (let e : step.place ≡ place = at in omega arith, stands.before);
    queue = stands.queue;
    ready = ready;
    taken = λ id. rw (passed-made options steps arrivals place step ids made stands.takes id) (taken id);
    handles = λ h. slots-made h ∙ sym (stands_for-by steps step ids made h);
    next =
        let e : length (table ++ new) ≡ length table + length new = length-append table new in
        let f : length new ≡ length ids = length-some ids in
        let g : next_handle (step ∷ steps) ≡ next_handle steps + length ids = next_handle-by steps step ids made in
        let h : 17 + length table ≡ next_handle steps = stands.next in
        omega (arith, e, f, g, h);
    takes = takes-by steps step ids made stands.takes;
  }

  -- where it reads no known state
  pub makes : known_result (next_completion steps) step.requests ≡ [] → TablesStand options (step ∷ steps) arrivals place line waiting (table ++ map (λ (id : NotificationId). Some id) ids)
  makes reads = creates waiting
      (λ id. stands.ready id
      ∙ ap₂ (λ (n : ℕ) (ds : List NotificationResult). kept_results (replaces options.signal_delivery id) (drop n ds))
      (sym (passed-made options steps arrivals place step ids made stands.takes id)) (sym (same_deliveries id)))
      (λ id. rw (same_deliveries id) (stands.taken id))
    where
      same_deliveries : (id : NotificationId) → deliveries (step ∷ steps) arrivals place id ≡ deliveries steps arrivals place id
      same_deliveries id = deliveries-made options steps arrivals place step ids made stands.takes [] reads id
          ∙ ap (λ (known : List Arrival). results_for (known ++ take place arrivals) id) (append-nil (known_results steps))

  -- where it reads a known state, of which nothing else comes
  pub knows : (n : ℕ) (result : NotificationResult) → known_result (next_completion steps) step.requests ≡ record { id = CompletionId n; result = result } ∷ []
      → length (results_for (known_results (step ∷ steps) ++ arrivals) (CompletionId n)) ≤ 1
      → TablesStand options (step ∷ steps) arrivals place line (ready_after options.signal_delivery waiting (record { id = CompletionId n; result = result })) (table ++ map (λ (id : NotificationId). Some id) ids)
  knows n result reads once = creates (ready_after options.signal_delivery waiting known)
      (λ id. ready_at id (same_id (CompletionId n) id) refl)
      (λ id. taken_at id (same_id (CompletionId n) id) refl)
    where
      known : Arrival
      known = record { id = CompletionId n; result = result }

      before : List Arrival
      before = known_results steps

      some : List Arrival
      some = take place arrivals

      split : (id : NotificationId) → results_for ((before ++ known ∷ []) ++ some) id ≡ (results_for before id ++ results_for (known ∷ []) id) ++ results_for some id
      split id = results-append (before ++ known ∷ []) some id ∙ ap (λ (rs : List NotificationResult). rs ++ results_for some id) (results-append before (known ∷ []) id)

      one-known : (id : NotificationId) (b : Bool) → same_id (CompletionId n) id ≡ b → results_for (known ∷ []) id ≡ (if b then result ∷ [] else [])
      one-known id true e = rw e refl
      one-known id false e = rw e refl

      delivered : (id : NotificationId) (b : Bool) → same_id (CompletionId n) id ≡ b
          → deliveries (step ∷ steps) arrivals place id ≡ (results_for before id ++ (if b then result ∷ [] else [])) ++ results_for some id
      delivered id b e = deliveries-made options steps arrivals place step ids made stands.takes (known ∷ []) reads id ∙ split id
          ∙ ap (λ (rs : List NotificationResult). (results_for before id ++ rs) ++ results_for some id) (one-known id b e)

      -- nothing else has come or comes
      itself : same_id (CompletionId n) (CompletionId n) ≡ true
      itself = eq-eqb n n refl

      nothing-else : (length (results_for before (CompletionId n)) ≤ 0) × (length (results_for some (CompletionId n)) ≤ 0)
      nothing-else =
          let a : length (results_for ((before ++ known ∷ []) ++ arrivals) (CompletionId n)) ≤ 1 =
          subst (λ (more : List Arrival). length (results_for ((before ++ more) ++ arrivals) (CompletionId n)) ≤ 1) reads once in
          let b : length (results_for ((before ++ known ∷ []) ++ arrivals) (CompletionId n)) ≡ length (results_for (before ++ known ∷ []) (CompletionId n)) + length (results_for arrivals (CompletionId n)) =
          ap length (results-append (before ++ known ∷ []) arrivals (CompletionId n)) ∙ length-append (results_for (before ++ known ∷ []) (CompletionId n)) (results_for arrivals (CompletionId n)) in
          let c : length (results_for (before ++ known ∷ []) (CompletionId n)) ≡ length (results_for before (CompletionId n)) + length (results_for (known ∷ []) (CompletionId n)) =
          ap length (results-append before (known ∷ []) (CompletionId n)) ∙ length-append (results_for before (CompletionId n)) (results_for (known ∷ []) (CompletionId n)) in
          let d : length (results_for (known ∷ []) (CompletionId n)) ≡ 1 = ap length (one-known (CompletionId n) true itself) in
          let f : length (results_for arrivals (CompletionId n)) ≡ length (results_for some (CompletionId n)) + length (results_for (drop place arrivals) (CompletionId n)) =
          ap (λ (xs : List Arrival). length (results_for xs (CompletionId n))) (sym (take-append-drop place arrivals)) ∙ ap length (results-append some (drop place arrivals) (CompletionId n))
          ∙ length-append (results_for some (CompletionId n)) (results_for (drop place arrivals) (CompletionId n)) in
          (omega (arith, a, b, c, d), omega (arith, a, b, c, d, f))

      nil : (xs : List NotificationResult) → length xs ≤ 0 → xs ≡ []
      nil [] h = refl
      nil (x ∷ xs) h = absurd (omega arith)

      passed-none : passed_deliveries options steps arrivals (CompletionId n) ≡ 0
      passed-none =
          let h : passed_deliveries options steps arrivals (CompletionId n) ≤ length (deliveries steps arrivals place (CompletionId n)) = stands.taken (CompletionId n) in
          let e : length (deliveries steps arrivals place (CompletionId n)) ≡ length (results_for before (CompletionId n)) + length (results_for some (CompletionId n)) =
          ap length (results-append before some (CompletionId n)) ∙ length-append (results_for before (CompletionId n)) (results_for some (CompletionId n)) in
          let (a, b) = nothing-else in
          omega (arith, h, e, a, b)

      alone : deliveries (step ∷ steps) arrivals place (CompletionId n) ≡ result ∷ []
      alone = delivered (CompletionId n) true itself
          ∙ ap₂ (λ (xs ys : List NotificationResult). (xs ++ result ∷ []) ++ ys) (nil (results_for before (CompletionId n)) nothing-else.0) (nil (results_for some (CompletionId n)) nothing-else.1)

      ready_at : (id : NotificationId) (b : Bool) → same_id (CompletionId n) id ≡ b → ready_after options.signal_delivery waiting known id ≡ untaken_results options (step ∷ steps) arrivals place id
      ready_at id true e =
          let same : CompletionId n ≡ id = same_id-same (CompletionId n) id e in
          subst (λ (one : NotificationId). ready_after options.signal_delivery waiting known one ≡ untaken_results options (step ∷ steps) arrivals place one) same
          (ap (λ (b : Bool). if b then result ∷ [] else waiting (CompletionId n)) itself
          ∙ sym (ap₂ (λ (k : ℕ) (ds : List NotificationResult). only_last (drop k ds)) (passed-made options steps arrivals place step ids made stands.takes (CompletionId n) ∙ passed-none) alone))
      ready_at id false e =
          rw e (stands.ready id
          ∙ ap₂ (λ (k : ℕ) (ds : List NotificationResult). kept_results (replaces options.signal_delivery id) (drop k ds))
          (sym (passed-made options steps arrivals place step ids made stands.takes id)) (sym (same_deliveries id e)))
        where
          same_deliveries : (id : NotificationId) → same_id (CompletionId n) id ≡ false → deliveries (step ∷ steps) arrivals place id ≡ deliveries steps arrivals place id
          same_deliveries id e = delivered id false e ∙ ap (λ (xs : List NotificationResult). xs ++ results_for some id) (append-nil (results_for before id)) ∙ sym (results-append before some id)

      taken_at : (id : NotificationId) (b : Bool) → same_id (CompletionId n) id ≡ b → passed_deliveries options steps arrivals id ≤ length (deliveries (step ∷ steps) arrivals place id)
      taken_at id true e =
          let same : CompletionId n ≡ id = same_id-same (CompletionId n) id e in
          subst (λ (one : NotificationId). passed_deliveries options steps arrivals one ≤ length (deliveries (step ∷ steps) arrivals place one)) same
          (omega (arith, passed-none))
      taken_at id false e =
          subst (λ (ds : List NotificationResult). passed_deliveries options steps arrivals id ≤ length ds)
          (results-append before some id ∙ ap (λ (xs : List NotificationResult). xs ++ results_for some id) (sym (append-nil (results_for before id))) ∙ sym (delivered id false e))
          (stands.taken id)
