-- Ids of children are text: what has come, what waits to be taken, and what was taken.
use Rattle.std.proofs.Common.{ℕ, zero, suc, Bool, true, false, if◌then◌else◌, List, [], ◌∷◌, ◌++◌, map, filter, take, drop, Option, Some, None, option_map, option_and_then, sym, subst}
use Rattle.std.specs.List.{AllByRecursion}
use Rattle.journal_model.specs.AwaitTree.{AwaitTree, is_awake}
use Rattle.journal_model.specs.Delivery.{known_result, known_results, results_for, value_or_void, deliveries, or_else}
use Rattle.journal_model.specs.Notification.{same_id}
use Rattle.journal_model.specs.Options.{replaces}
use Rattle.journal_model.specs.Value.{as_taken, result_of_value}
use Rattle.journal_model.specs.PrunedTrees.{pruned}
use Rattle.journal_model.specs.declared.notification.NotificationId.TheVariants.{CompletionId}
use Rattle.journal_model.specs.declared.notification.NotificationResult.{NotificationResult}
use Rattle.journal_model.specs.declared.options.SignalDelivery.{SignalDelivery}
use Rattle.journal_model.specs.declared.value.NonEmptyValue.{NonEmptyValue}
use Rattle.journal_model.specs.declared.value.Value.{Value}
use Rattle.attempt_model.specs.Children.{Child, child_value, child_with_value, ChildrenState, AreIds, IsUnknown, IsNoId, children_state, ChildrenOutcome, AllKnown, FirstUnknown, outcome_by, children_outcome}
use Rattle.attempt_model.specs.Results.{Ready, slot_of, waiting_for, handle_state, Resolution, Awake, Asleep, ready_after, resolution_of, first_waiting_result}
use Rattle.attempt_model.specs.Simulation.{Stands, passed_deliveries, only_last, kept_results}
use Rattle.vm_request_laws.proofs.RequestBounds.{all_append}
use Rattle.vm_attempt_laws.specs.InputOfAttempt.{ArrivalFits, MessageFits}
use Rattle.vm_attempt_laws.specs.Words.{Bytes, NotificationId, Arrival, Request, Step, next_completion, Handler, Invocation, InputMessage, CarriesInput, CarriesRequest, CarriesArrival, CarriesOutcome, arrivals_carried, Machine, Slots, IsTextId}

abbrev pub IsTextResult : NotificationResult → Type 0
IsTextResult result = IsTextId (Some (as_taken result))

abbrev pub AreText : List Arrival → Type 0
AreText arrivals = AllByRecursion (λ arrival. IsTextResult arrival.result) arrivals

abbrev pub AreReadyText : Ready → Type 0
AreReadyText ready = (id : NotificationId) → AllByRecursion IsTextResult (ready id)

abbrev pub AreTaken : List Child → Type 0
AreTaken children = AllByRecursion (λ child. IsTextId child.taken) children

-- ---- what has come

arrival_text : (id : NotificationId) (result : NotificationResult) → ArrivalFits (record { id = id; result = result }) → IsTextResult result
arrival_text id (NotificationResult.InvocationId text) fits = fits.fits.result
arrival_text id _ fits = tt

-- an outcome is no id
outcome_text : (value : NonEmptyValue) → IsTextResult (result_of_value value)
outcome_text (NonEmptyValue.Success bytes) = tt
outcome_text (NonEmptyValue.Failure failure) = tt

pub messages_text : (messages : List InputMessage) → AllByRecursion MessageFits messages → AreText (arrivals_carried messages)
messages_text [] all = tt
messages_text (CarriesInput new ∷ messages) all = messages_text messages all.1
messages_text (CarriesRequest request ∷ messages) all = messages_text messages all.1
messages_text (CarriesArrival ty arrival ∷ messages) all = (arrival_text arrival.id arrival.result all.0.0, messages_text messages all.1)
messages_text (CarriesOutcome number value ∷ messages) all = (outcome_text value, messages_text messages all.1)

-- a read of the state has no id
known_text : (n : ℕ) (requests : List Request) → AreText (known_result n requests)
known_text n [] = tt
known_text n (Request.GetEagerState key value name ∷ more) = (by_value value, tt)
  where
    by_value : (value : Option Bytes) → IsTextResult (value_or_void value)
    by_value None = tt
    by_value (Some bytes) = tt
known_text n (Request.GetEagerStateKeys keys name ∷ more) = (tt, tt)
known_text n (_ ∷ more) = tt

knowns_text : (steps : List Step) → AreText (known_results steps)
knowns_text [] = tt
knowns_text (step ∷ earlier) =
    all_append (λ (arrival : Arrival). IsTextResult arrival.result) (known_results earlier) (known_result (next_completion earlier) step.requests) (knowns_text earlier)
    (known_text (next_completion earlier) step.requests)

-- ---- parts of that

module _ {A : Type 0} (P : A → Type 0) where
  all_dropped : (n : ℕ) (xs : List A) → AllByRecursion P xs → AllByRecursion P (drop n xs)
  all_dropped zero xs all = all
  all_dropped (suc n) [] all = tt
  all_dropped (suc n) (x ∷ xs) all = all_dropped n xs all.1

  all_taken : (n : ℕ) (xs : List A) → AllByRecursion P xs → AllByRecursion P (take n xs)
  all_taken zero xs all = tt
  all_taken (suc n) [] all = tt
  all_taken (suc n) (x ∷ xs) all = (all.0, all_taken n xs all.1)

results_text : (arrivals : List Arrival) (id : NotificationId) → AreText arrivals → AllByRecursion IsTextResult (results_for arrivals id)
results_text [] id all = tt
results_text (arrival ∷ arrivals) id all = by_test (same_id arrival.id id) (results_text arrivals id all.1)
  where
    by_test : (b : Bool) → AllByRecursion IsTextResult (results_for arrivals id)
        → AllByRecursion IsTextResult (map (λ (one : Arrival). one.result) (if b then arrival ∷ filter (λ (one : Arrival). same_id one.id id) arrivals else filter (λ (one : Arrival). same_id one.id id) arrivals))
    by_test true later = (all.0, later)
    by_test false later = later

last_text : (results : List NotificationResult) → AllByRecursion IsTextResult results → AllByRecursion IsTextResult (only_last results)
last_text [] all = tt
last_text (result ∷ []) all = all
last_text (result ∷ next ∷ results) all = last_text (next ∷ results) all.1

kept_text : (replaced : Bool) (results : List NotificationResult) → AllByRecursion IsTextResult results → AllByRecursion IsTextResult (kept_results replaced results)
kept_text true results all = last_text results all
kept_text false results all = all

-- ---- a machine that stands in the run

module _ (next : Handler) (given : Invocation) (journal : List Request) (arrivals : List Arrival) (calls : ℕ) (m : Machine) (s : Stands next given journal arrivals calls m) (all : AreText arrivals) where
  pub line_text : AreText m.queue
  line_text = subst AreText (sym s.tables.queue) (all_dropped (λ (arrival : Arrival). IsTextResult arrival.result) s.place arrivals all)

  pub ready_text : AreReadyText m.ready
  ready_text id =
      subst (AllByRecursion IsTextResult) (sym (s.tables.ready id))
      (kept_text (replaces given.options.signal_delivery id) (drop (passed_deliveries given.options s.steps arrivals id) (deliveries s.steps arrivals s.place id))
      (all_dropped IsTextResult (passed_deliveries given.options s.steps arrivals id) (deliveries s.steps arrivals s.place id)
      (results_text (known_results s.steps ++ take s.place arrivals) id
      (all_append (λ (arrival : Arrival). IsTextResult arrival.result) (known_results s.steps) (take s.place arrivals) (knowns_text s.steps)
      (all_taken (λ (arrival : Arrival). IsTextResult arrival.result) s.place arrivals all)))))

-- ---- while something is looked at

looked_text : (delivery : SignalDelivery) (ready : Ready) (arrival : Arrival) → IsTextResult arrival.result → AreReadyText ready → AreReadyText (ready_after delivery ready arrival)
looked_text delivery ready arrival text all id = by_test (same_id arrival.id id) (replaces delivery id)
  where
    by_test : (b replaced : Bool) → AllByRecursion IsTextResult (if b then (if replaced then arrival.result ∷ [] else ready id ++ arrival.result ∷ []) else ready id)
    by_test true true = (text, tt)
    by_test true false = all_append IsTextResult (ready id) (arrival.result ∷ []) (all id) (text, tt)
    by_test false replaced = all id

abbrev pub ResolvesText : Resolution → Type 0
ResolvesText (Awake queue ready) = AreText queue × AreReadyText ready
ResolvesText (Asleep tree ready) = Unit {0}

pub resolved_text : (delivery : SignalDelivery) (slots : Slots) (tree : AwaitTree ℕ) (queue : List Arrival) (ready : Ready) → AreText queue → AreReadyText ready
    → ResolvesText (resolution_of delivery slots tree queue ready)
resolved_text delivery slots tree [] ready line all = by_test (is_awake tree (handle_state slots ready))
  where
    by_test : (b : Bool) → ResolvesText (if b then Awake [] ready else Asleep (pruned tree (handle_state slots ready)) ready)
    by_test true = (tt, all)
    by_test false = tt
resolved_text delivery slots tree (arrival ∷ queue) ready line all =
    by_test (is_awake tree (handle_state slots ready))
    (resolved_text delivery slots (pruned tree (handle_state slots ready)) queue (ready_after delivery ready arrival) line.1 (looked_text delivery ready arrival line.0 all))
  where
    by_test : (b : Bool) → ResolvesText (resolution_of delivery slots (pruned tree (handle_state slots ready)) queue (ready_after delivery ready arrival))
        → ResolvesText (if b then Awake (arrival ∷ queue) ready else resolution_of delivery slots (pruned tree (handle_state slots ready)) queue (ready_after delivery ready arrival))
    by_test true later = (line, all)
    by_test false later = later

abbrev pub FindsText : ChildrenOutcome → Type 0
FindsText (AllKnown queue ready) = AreReadyText ready
FindsText _ = Unit {0}

pub found_text : (delivery : SignalDelivery) (children : List Child) (queue : List Arrival) (ready : Ready) → AreText queue → AreReadyText ready
    → FindsText (children_outcome delivery children queue ready)
found_text delivery children [] ready line all = by_state (children_state ready children)
  where
    by_state : (state : ChildrenState) → FindsText (outcome_by state (AllKnown [] ready) (λ n. FirstUnknown n ready))
    by_state AreIds = all
    by_state (IsUnknown n) = tt
    by_state IsNoId = tt
found_text delivery children (arrival ∷ queue) ready line all =
    by_state (children_state ready children)
    (found_text delivery children queue (ready_after delivery ready arrival) line.1 (looked_text delivery ready arrival line.0 all))
  where
    by_state : (state : ChildrenState) → FindsText (children_outcome delivery children queue (ready_after delivery ready arrival))
        → FindsText (outcome_by state (AllKnown (arrival ∷ queue) ready) (λ n. children_outcome delivery children queue (ready_after delivery ready arrival)))
    by_state AreIds later = all
    by_state (IsUnknown n) later = later
    by_state IsNoId later = tt

-- ---- what is taken

abbrev pub WaitsText : Option NotificationResult → Type 0
WaitsText None = Unit {0}
WaitsText (Some result) = IsTextResult result

pub waiting_text : (slots : Slots) (ready : Ready) (handle : ℕ) → AreReadyText ready → WaitsText (waiting_for slots ready handle)
waiting_text slots ready handle all = by_slot (slot_of slots handle)
  where
    by_first : (results : List NotificationResult) → AllByRecursion IsTextResult results → WaitsText (first_waiting_result results)
    by_first [] text = tt
    by_first (result ∷ results) text = text.0

    by_slot : (slot : Option NotificationId) → WaitsText (option_and_then (λ (id : NotificationId). first_waiting_result (ready id)) slot)
    by_slot None = tt
    by_slot (Some id) = by_first (ready id) (all id)

-- ---- children

first_text : (results : List NotificationResult) → AllByRecursion IsTextResult results → IsTextId (option_map as_taken (first_waiting_result results))
first_text [] all = tt
first_text (result ∷ results) all = all.0

-- what is known of them
pub values_text : (ready : Ready) (children : List Child) → AreReadyText ready → AreTaken children → AllByRecursion (λ child. IsTextId (child_value ready child)) children
values_text ready [] all taken = tt
values_text ready (child ∷ children) all taken = (by_taken child.taken taken.0, values_text ready children all taken.1)
  where
    by_taken : (value : Option Value) → IsTextId value → IsTextId (or_else value (option_map as_taken (first_waiting_result (ready (CompletionId child.completion)))))
    by_taken None text = first_text (ready (CompletionId child.completion)) (all (CompletionId child.completion))
    by_taken (Some value) text = text

-- what is taken is remembered
pub taken_text : (id : Option NotificationId) (value : Value) (children : List Child) → IsTextId (Some value) → AreTaken children → AreTaken (map (child_with_value id value) children)
taken_text id value [] text taken = tt
taken_text None value (child ∷ children) text taken = (taken.0, taken_text None value children text taken.1)
taken_text (Some id) value (child ∷ children) text taken = (by_test (same_id id (CompletionId child.completion)), taken_text (Some id) value children text taken.1)
  where
    by_test : (b : Bool) → IsTextId (if b then record { completion = child.completion; taken = Some value } else child).taken
    by_test true = text
    by_test false = taken.0
