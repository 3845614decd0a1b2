-- The children that a cancellation is passed on to, and the least place by which all of them are known.
use Rattle.std.proofs.Common.{◌≡◌, refl, sym, ap, ap₂, ◌∙◌, subst, ℕ, zero, suc, ◌+◌, ◌-◌, ◌≤◌, ◌<◌, ◌==◌, nat_lt, arith, le_refl, Bool, true, false, ◌&&◌, if◌then◌else◌, List, [], ◌∷◌, ◌++◌, append-nil, length, map, slice_get, Option, Some, None, is_some, option_map, option_and_then, eqb-true}
use Rattle.std.proofs.Math.Path.{fun_ext}
use Rattle.std.specs.List.{list_all}
use Rattle.journal_model.specs.declared.notification.NotificationId.{NotificationId}
use Rattle.journal_model.specs.declared.notification.NotificationId.TheVariants.{CompletionId, SignalId, SignalName}
use Rattle.journal_model.specs.declared.notification.NotificationResult.{NotificationResult}
use Rattle.journal_model.specs.Notification.{same_id, Arrival, cancel_id}
use Rattle.journal_model.specs.declared.call.Call.{Call}
use Rattle.journal_model.specs.declared.call.Answer.{Answer}
use Rattle.journal_model.specs.declared.value.Value.{Value}
use Rattle.journal_model.specs.Value.{as_taken}
use Rattle.journal_model.specs.Request.{Request}
use Rattle.journal_model.specs.declared.options.RunOptions.{RunOptions}
use Rattle.journal_model.specs.declared.options.ImplicitCancellationOption.{ImplicitCancellationOption}
use Rattle.journal_model.specs.declared.options.ImplicitCancellationOption.TheVariants.{Disabled, Enabled}
use Rattle.journal_model.specs.History.{Step, next_completion, next_signal, next_handle, ids_of, completions_of, ids_created, id_of_handle, handle_taken, IsBelow, TakesBelow}
use Rattle.journal_model.specs.Delivery.{taken_is, or_else}
use Rattle.journal_model.specs.Await.{child_of, children_after, tracked_children, value_taken, last_taken, child_result, all_known_at, first_unknown, cancel_request, cancel_requests}
use Rattle.journal_model.proofs.Handles.{id_of_handle-old}
use Rattle.attempt_model.specs.Children.{Child, new_child, child_with_value, child_value, ChildrenState, AreIds, IsUnknown, IsNoId, with_child, children_state, cancel_requests_for, ChildrenOutcome, AllKnown, FirstUnknown, OneIsNoId, outcome_by, children_outcome}
use Rattle.attempt_model.specs.Results.{Ready, Slots, ready_after, first_waiting_result}
use Rattle.attempt_model.specs.Simulation.{TablesStand, child_after, children_of, is_id_if_known}
use Rattle.attempt_laws.proofs.Making.{Creates}
use Rattle.attempt_laws.proofs.Tables.{from_here, all_read, front-untaken, arrive}

-- what was taken last of an id, where more handles were made since
last_taken-old : (ids more : List NotificationId) (id : NotificationId) (some : List Step) → TakesBelow (17 + length ids) some
    → last_taken (ids ++ more) id some ≡ last_taken ids id some
last_taken-old ids more id [] below = refl
last_taken-old ids more id (one ∷ earlier) below =
    ap₂ (λ (o : Option NotificationId) (v : Option Value). if taken_is id o then value_taken one.answer else v) (same (handle_taken one.call one.answer) below.0) (last_taken-old ids more id earlier below.1)
  where
    same : (o : Option ℕ) → IsBelow (17 + length ids) o → option_and_then (id_of_handle (ids ++ more)) o ≡ option_and_then (id_of_handle ids) o
    same None below = refl
    same (Some h) below = id_of_handle-old ids more h below

-- completions that were made are below the next one
abbrev IdBelow : ℕ → NotificationId → Type 0
IdBelow n (CompletionId m) = m < n
IdBelow n _ = Unit {0}

abbrev pub AllBelow : ℕ → List NotificationId → Type 0
AllBelow n [] = Unit {0}
AllBelow n (id ∷ ids) = IdBelow n id × AllBelow n ids

one-below-more : (n m : ℕ) → n ≤ m → (id : NotificationId) → IdBelow n id → IdBelow m id
one-below-more n m h (CompletionId k) below = omega (arith, h, below)
one-below-more n m h (SignalId k) below = tt
one-below-more n m h (SignalName k) below = tt

below-more : (n m : ℕ) → n ≤ m → (ids : List NotificationId) → AllBelow n ids → AllBelow m ids
below-more n m h [] below = tt
below-more n m h (id ∷ ids) below = (one-below-more n m h id below.0, below-more n m h ids below.1)

below-append : (n : ℕ) (xs ys : List NotificationId) → AllBelow n xs → AllBelow n ys → AllBelow n (xs ++ ys)
below-append n [] ys a b = b
below-append n (x ∷ xs) ys a b = (a.0, below-append n xs ys a.1 b)

below-next : (n : ℕ) → n < n + 1
below-next n = omega arith

call-below : (n signal : ℕ) (call : Call) → AllBelow (n + completions_of call) (ids_of n signal call)
call-below n signal (Call.StateGet key name options) = (below-next n, tt)
call-below n signal (Call.StateGetKeys name) = (below-next n, tt)
call-below n signal (Call.Sleep name wake_up now) = (below-next n, tt)
call-below n signal (Call.Call target parameter name options) = (omega arith, (omega arith, tt))
call-below n signal (Call.Send target parameter execution_time name options) = (below-next n, tt)
call-below n signal Call.Awakeable = (tt, tt)
call-below n signal (Call.Signal name) = (tt, tt)
call-below n signal (Call.GetPromise key) = (below-next n, tt)
call-below n signal (Call.PeekPromise key) = (below-next n, tt)
call-below n signal (Call.CompletePromise key value options) = (below-next n, tt)
call-below n signal (Call.Run name) = (below-next n, tt)
call-below n signal (Call.Attach target) = (below-next n, tt)
call-below n signal (Call.GetOutput target) = (below-next n, tt)
call-below n signal _ = tt

pub ids-below : (steps : List Step) → AllBelow (next_completion steps) (ids_created steps)
ids-below [] = tt
ids-below (step ∷ earlier) =
    below-append (next_completion earlier + completions_of step.call) (ids_created earlier) (ids_of (next_completion earlier) (next_signal earlier) step.call)
    (below-more (next_completion earlier) (next_completion earlier + completions_of step.call) (omega arith) (ids_created earlier) (ids-below earlier))
    (call-below (next_completion earlier) (next_signal earlier) step.call)

get-below : (n : ℕ) (ids : List NotificationId) (k : ℕ) (id : NotificationId) → AllBelow n ids → slice_get ids k ≡ Some id → IdBelow n id
get-below n [] k id below e = cc
get-below n (x ∷ xs) zero id below e = let same : x ≡ id = cc in subst (IdBelow n) same below.0
get-below n (x ∷ xs) (suc k) id below e = get-below n xs k id below.1 e

-- no handle stands for a completion that was not made
pub not_taken : (n : ℕ) (ids : List NotificationId) → AllBelow n ids → (o : Option ℕ) → taken_is (CompletionId n) (option_and_then (id_of_handle ids) o) ≡ false
not_taken n ids below None = refl
not_taken n ids below (Some handle) = not-it (id_of_handle ids handle) (λ id e. by_handle handle (handle == 1) (nat_lt handle 17) id e)
  where
    not-it : (o : Option NotificationId) → ((id : NotificationId) → o ≡ Some id → IdBelow n id) → taken_is (CompletionId n) o ≡ false
    not-it None h = refl
    not-it (Some (CompletionId m)) h =
        by_test (m == n) refl
      where
        by_test : (b : Bool) → (m == n) ≡ b → b ≡ false
        by_test true e =
            let same : m ≡ n = eqb-true m n e in
            let low : m < n = h (CompletionId m) refl in
            absurd (omega (arith, same, low))
        by_test false e = refl
    not-it (Some (SignalId m)) h = refl
    not-it (Some (SignalName m)) h = refl

    by_handle : (handle : ℕ) (a b : Bool) (id : NotificationId)
        → (if a then Some cancel_id else (if b then None else slice_get ids (handle - 17))) ≡ Some id → IdBelow n id
    by_handle handle true b id e = let same : cancel_id ≡ id = cc in subst (IdBelow n) same tt
    by_handle handle false true id e = cc
    by_handle handle false false id e = get-below n ids (handle - 17) id below e

-- so nothing was taken of it
last_taken-none : (n : ℕ) (ids : List NotificationId) → AllBelow n ids → (some : List Step) → last_taken ids (CompletionId n) some ≡ None
last_taken-none n ids below [] = refl
last_taken-none n ids below (one ∷ earlier) =
    ap (λ (b : Bool). if b then value_taken one.answer else last_taken ids (CompletionId n) earlier) (not_taken n ids below (handle_taken one.call one.answer)) ∙ last_taken-none n ids below earlier

map-append : {A B : Type 0} (f : A → B) (xs ys : List A) → map f (xs ++ ys) ≡ map f xs ++ map f ys
map-append f [] ys = refl
map-append f (x ∷ xs) ys = ap (λ zs. f x ∷ zs) (map-append f xs ys)

map-map : {A B C : Type 0} (f : B → C) (g : A → B) (xs : List A) → map f (map g xs) ≡ map (λ x. f (g x)) xs
map-map f g [] = refl
map-map f g (x ∷ xs) = ap (λ zs. f (g x) ∷ zs) (map-map f g xs)

-- a step that makes handles and is no cancellation: its own children come behind the others
module _ (cancellation : ImplicitCancellationOption) (steps : List Step) (step : Step) (ids : List NotificationId) (creates : Creates steps step ids) (takes : TakesBelow (next_handle steps) steps) where
  child-same : (n : ℕ) → child_after (step ∷ steps) n ≡ child_after steps n
  child-same n =
      ap (λ (v : Option Value). record { completion = n; taken = v })
      (ap (λ (o : Option ℕ). if taken_is (CompletionId n) (option_and_then (id_of_handle (ids_created (step ∷ steps))) o) then value_taken step.answer else last_taken (ids_created (step ∷ steps)) (CompletionId n) steps) creates.takes
      ∙ last_taken-old (ids_created steps) (ids_of (next_completion steps) (next_signal steps) step.call) (CompletionId n) steps takes)

  pub children-made : ((xs : List ℕ) → children_after step.answer xs ≡ xs)
      → children_of cancellation (step ∷ steps) ≡ children_of cancellation steps ++ map new_child (child_of cancellation (next_completion steps) step.call)
  children-made keeps =
      ap (map (child_after (step ∷ steps))) (keeps (tracked_children cancellation steps ++ child_of cancellation (next_completion steps) step.call))
      ∙ ap (λ (f : ℕ → Child). map f (tracked_children cancellation steps ++ child_of cancellation (next_completion steps) step.call)) (fun_ext child-same)
      ∙ map-append (child_after steps) (tracked_children cancellation steps) (child_of cancellation (next_completion steps) step.call)
      ∙ ap (λ (xs : List Child). children_of cancellation steps ++ xs) (own cancellation step.call)
    where
      new-one : child_after steps (next_completion steps) ≡ new_child (next_completion steps)
      new-one = ap (λ (v : Option Value). record { completion = next_completion steps; taken = v })
          (last_taken-none (next_completion steps) (ids_created steps) (ids-below steps) steps)

      new-list : child_after steps (next_completion steps) ∷ [] ≡ new_child (next_completion steps) ∷ []
      new-list = ap (λ (c : Child). c ∷ []) new-one

      own : (cancellation : ImplicitCancellationOption) (call : Call)
          → map (child_after steps) (child_of cancellation (next_completion steps) call) ≡ map new_child (child_of cancellation (next_completion steps) call)
      own Disabled _ = refl
      own (Enabled true sends) (Call.Call target parameter name options) = new-list
      own (Enabled true true) (Call.Send target parameter execution_time name options) = new-list
      own (Enabled false true) (Call.Send target parameter execution_time name options) = new-list
      own (Enabled _ _) _ = refl

abbrev pub taking : ℕ → Value → ℕ → Step
taking handle value place = record { call = Call.Take handle; answer = Answer.Taken (Some value); requests = []; place = place }

-- a take tells the child whose notification it was
pub children-taken : (cancellation : ImplicitCancellationOption) (steps : List Step) (handle place : ℕ) (id : NotificationId) (value : Value)
    → id_of_handle (ids_created steps) handle ≡ Some id
    → children_of cancellation (taking handle value place ∷ steps)
    ≡ map (child_with_value (Some id) value) (children_of cancellation steps)
children-taken cancellation steps handle place id value known =
    ap (map (child_after (taking handle value place ∷ steps))) (tracked-same cancellation)
    ∙ ap (λ (f : ℕ → Child). map f (tracked_children cancellation steps)) (fun_ext told-one)
    ∙ sym (map-map (child_with_value (Some id) value) (child_after steps) (tracked_children cancellation steps))
  where
    tracked-same : (cancellation : ImplicitCancellationOption) → tracked_children cancellation (taking handle value place ∷ steps) ≡ tracked_children cancellation steps
    tracked-same Disabled = append-nil (tracked_children Disabled steps)
    tracked-same (Enabled true true) = append-nil (tracked_children (Enabled true true) steps)
    tracked-same (Enabled true false) = append-nil (tracked_children (Enabled true false) steps)
    tracked-same (Enabled false true) = append-nil (tracked_children (Enabled false true) steps)
    tracked-same (Enabled false false) = append-nil (tracked_children (Enabled false false) steps)

    told-one : (n : ℕ) → child_after (taking handle value place ∷ steps) n ≡ child_with_value (Some id) value (child_after steps n)
    told-one n =
        ap (λ (ids : List NotificationId). record { completion = n; taken = if taken_is (CompletionId n) (id_of_handle ids handle) then Some value else last_taken ids (CompletionId n) steps }) (append-nil (ids_created steps))
        ∙ ap (λ (o : Option NotificationId). record { completion = n; taken = if taken_is (CompletionId n) o then Some value else last_taken (ids_created steps) (CompletionId n) steps }) known
        ∙ by_test (same_id id (CompletionId n))
      where
        v : Option Value
        v = last_taken (ids_created steps) (CompletionId n) steps

        child : Option Value → Child
        child taken = record { completion = n; taken = taken }

        by_test : (b : Bool) → child (if b then Some value else v) ≡ (if b then child (Some value) else child v)
        by_test true = refl
        by_test false = refl

-- what is known of the children at a place
module _ (options : RunOptions) (steps : List Step) (arrivals : List Arrival) where
  module _ (place : ℕ) (line : List Arrival) (waiting : Ready) (table : Slots) (stands : TablesStand options steps arrivals place line waiting table) where
    value-same : (n : ℕ) → child_value waiting (child_after steps n) ≡ child_result options steps arrivals place n
    value-same n = ap (λ (o : Option NotificationResult). or_else (last_taken (ids_created steps) (CompletionId n) steps) (option_map as_taken o))
        (ap first_waiting_result (stands.ready (CompletionId n)) ∙ sym (front-untaken options steps arrivals place (CompletionId n)))

    -- what the machine knows of the children, by what the run knows of them
    abbrev state : List ℕ → ChildrenState
    state ns = children_state waiting (map (child_after steps) ns)

    state-next : (n : ℕ) (ns : List ℕ) (v : Option Value) → child_result options steps arrivals place n ≡ v → state (n ∷ ns) ≡ with_child v n (state ns)
    state-next n ns v e = ap (λ (v : Option Value). with_child v n (state ns)) (value-same n ∙ e)

    pub all-known : (ns : List ℕ) → state ns ≡ AreIds → all_known_at options steps arrivals ns place ≡ true
    all-known [] e = refl
    all-known (n ∷ ns) e = by_value (child_result options steps arrivals place n) refl (all-known ns)
      where
        by_value : (v : Option Value) → child_result options steps arrivals place n ≡ v → (state ns ≡ AreIds → all_known_at options steps arrivals ns place ≡ true)
            → (is_some (child_result options steps arrivals place n) && all_known_at options steps arrivals ns place) ≡ true
        by_value None f later = let wrong : IsUnknown n ≡ AreIds = sym (state-next n ns None f) ∙ e in cc
        by_value (Some (Value.InvocationId id)) f later = ap₂ (λ (v : Option Value) (b : Bool). is_some v && b) f (later (sym (state-next n ns (Some (Value.InvocationId id)) f) ∙ e))
        by_value (Some Value.Void) f later = let wrong : IsNoId ≡ AreIds = sym (state-next n ns (Some Value.Void) f) ∙ e in cc
        by_value (Some (Value.Success bytes)) f later = let wrong : IsNoId ≡ AreIds = sym (state-next n ns (Some (Value.Success bytes)) f) ∙ e in cc
        by_value (Some (Value.Failure failure)) f later = let wrong : IsNoId ≡ AreIds = sym (state-next n ns (Some (Value.Failure failure)) f) ∙ e in cc
        by_value (Some (Value.StateKeys keys)) f later = let wrong : IsNoId ≡ AreIds = sym (state-next n ns (Some (Value.StateKeys keys)) f) ∙ e in cc

    -- one that is not known
    pub record FirstMissing (ns : List ℕ) (child : ℕ) : Type 0 where
      pub unknown : all_known_at options steps arrivals ns place ≡ false
      pub first : place ≡ length arrivals → Some child ≡ first_unknown options steps arrivals ns

    pub one-unknown : (ns : List ℕ) (child : ℕ) → state ns ≡ IsUnknown child → FirstMissing ns child
    one-unknown [] child e = cc
    one-unknown (n ∷ ns) child e = by_value (child_result options steps arrivals place n) refl (one-unknown ns child)
      where
        at_end : place ≡ length arrivals → child_result options steps arrivals (length arrivals) n ≡ child_result options steps arrivals place n
        at_end over = ap (λ (p : ℕ). child_result options steps arrivals p n) (sym over)

        by_value : (v : Option Value) → child_result options steps arrivals place n ≡ v → (state ns ≡ IsUnknown child → FirstMissing ns child) → FirstMissing (n ∷ ns) child
        by_value None f later =
            let is : IsUnknown n ≡ IsUnknown child = sym (state-next n ns None f) ∙ e in
            let same : child ≡ n = cc in
            record {
              unknown = ap (λ (v : Option Value). is_some v && all_known_at options steps arrivals ns place) f;
              first = λ over. ap (λ (m : ℕ). Some m) same ∙ sym (ap (λ (v : Option Value). if is_some v then first_unknown options steps arrivals ns else Some n) (at_end over ∙ f));
            }
        by_value (Some (Value.InvocationId id)) f later =
            let u : FirstMissing ns child = later (sym (state-next n ns (Some (Value.InvocationId id)) f) ∙ e) in
            record {
              unknown = ap₂ (λ (v : Option Value) (b : Bool). is_some v && b) f u.unknown;
              first = λ over. u.first over ∙ sym (ap (λ (v : Option Value). if is_some v then first_unknown options steps arrivals ns else Some n) (at_end over ∙ f));
            }
        by_value (Some Value.Void) f later = let wrong : IsNoId ≡ IsUnknown child = sym (state-next n ns (Some Value.Void) f) ∙ e in cc
        by_value (Some (Value.Success bytes)) f later = let wrong : IsNoId ≡ IsUnknown child = sym (state-next n ns (Some (Value.Success bytes)) f) ∙ e in cc
        by_value (Some (Value.Failure failure)) f later = let wrong : IsNoId ≡ IsUnknown child = sym (state-next n ns (Some (Value.Failure failure)) f) ∙ e in cc
        by_value (Some (Value.StateKeys keys)) f later = let wrong : IsNoId ≡ IsUnknown child = sym (state-next n ns (Some (Value.StateKeys keys)) f) ∙ e in cc

    -- what is known of children whose results are ids is an id
    pub no-other : (ns : List ℕ) → list_all (λ n. is_id_if_known (child_result options steps arrivals place n)) ns ≡ true → state ns ≡ IsNoId → ⊥
    no-other [] ids e = cc
    no-other (n ∷ ns) ids e = by_value (child_result options steps arrivals place n) refl (no-other ns)
      where
        second : (b c : Bool) → (b && c) ≡ true → c ≡ true
        second true c f = f
        second false c f = cc

        first : (b c : Bool) → (b && c) ≡ true → b ≡ true
        first true c f = refl
        first false c f = cc

        here : is_id_if_known (child_result options steps arrivals place n) ≡ true
        here = first (is_id_if_known (child_result options steps arrivals place n)) _ ids

        others : list_all (λ n. is_id_if_known (child_result options steps arrivals place n)) ns ≡ true
        others = second (is_id_if_known (child_result options steps arrivals place n)) _ ids

        by_value : (v : Option Value) → child_result options steps arrivals place n ≡ v → (list_all (λ n. is_id_if_known (child_result options steps arrivals place n)) ns ≡ true → state ns ≡ IsNoId → ⊥) → ⊥
        by_value None f later = let wrong : IsUnknown n ≡ IsNoId = sym (state-next n ns None f) ∙ e in cc
        by_value (Some (Value.InvocationId id)) f later = later others (sym (state-next n ns (Some (Value.InvocationId id)) f) ∙ e)
        by_value (Some Value.Void) f later = let wrong : false ≡ true = sym (ap is_id_if_known f) ∙ here in cc
        by_value (Some (Value.Success bytes)) f later = let wrong : false ≡ true = sym (ap is_id_if_known f) ∙ here in cc
        by_value (Some (Value.Failure failure)) f later = let wrong : false ≡ true = sym (ap is_id_if_known f) ∙ here in cc
        by_value (Some (Value.StateKeys keys)) f later = let wrong : false ≡ true = sym (ap is_id_if_known f) ∙ here in cc

    pub cancels-same : (ns : List ℕ) → cancel_requests_for waiting (map (child_after steps) ns) ≡ cancel_requests options steps arrivals place ns
    cancels-same [] = refl
    cancels-same (n ∷ ns) = ap₂ (λ (v : Option Value) (rs : List Request). cancel_request v ++ rs) (value-same n) (cancels-same ns)

  -- what telling comes to, from a place on
  module _ (table : Slots) (ns : List ℕ) where
    pub record Tells (from : ℕ) (line : List Arrival) (waiting : Ready) : Type 0 where
      pub place : ℕ
      pub above : from ≤ place
      pub known : all_known_at options steps arrivals ns place ≡ true
      pub before : (q : ℕ) → from ≤ q → q < place → all_known_at options steps arrivals ns q ≡ false
      pub stands : TablesStand options steps arrivals place line waiting table

    pub record Misses (from : ℕ) (child : ℕ) (waiting : Ready) : Type 0 where
      pub unknown : (q : ℕ) → from ≤ q → q ≤ length arrivals → all_known_at options steps arrivals ns q ≡ false
      pub first : Some child ≡ first_unknown options steps arrivals ns
      pub stands : TablesStand options steps arrivals (length arrivals) [] waiting table

    abbrev pub TellsFrom : ℕ → ChildrenOutcome → Type 0
    TellsFrom from (AllKnown line waiting) = Tells from line waiting
    TellsFrom from (FirstUnknown child waiting) = Misses from child waiting
    TellsFrom from OneIsNoId = ⊥

    later-tells : (place : ℕ) → all_known_at options steps arrivals ns place ≡ false → (t : ChildrenOutcome) → TellsFrom (suc place) t → TellsFrom place t
    later-tells place unknown (AllKnown line waiting) t = record {
      place = t.place;
      above = (let h : suc place ≤ t.place = t.above in omega (arith, h));
      known = t.known;
      before = λ q low high. from_here (all_known_at options steps arrivals ns) place q unknown (λ above. t.before q above high) low;
      stands = t.stands;
    }
    later-tells place unknown OneIsNoId t = absurd t
    later-tells place unknown (FirstUnknown child waiting) t = record {
      unknown = λ q low high. from_here (all_known_at options steps arrivals ns) place q unknown (λ above. t.unknown q above high) low;
      first = t.first;
      stands = t.stands;
    }

    module _ (ids : (q : ℕ) → q ≤ length arrivals → list_all (λ n. is_id_if_known (child_result options steps arrivals q n)) ns ≡ true) where
      pub tells : (place : ℕ) (line : List Arrival) (waiting : Ready) → TablesStand options steps arrivals place line waiting table
          → TellsFrom place (children_outcome options.signal_delivery (map (child_after steps) ns) line waiting)
      tells place [] waiting stands = by_state (children_state waiting (map (child_after steps) ns)) refl
        where
          over : place ≡ length arrivals
          over = all_read options steps arrivals place waiting table stands

          by_state : (c : ChildrenState) → children_state waiting (map (child_after steps) ns) ≡ c
              → TellsFrom place (outcome_by c (AllKnown [] waiting) (λ n. FirstUnknown n waiting))
          by_state AreIds e = record {
            place = place;
            above = le_refl place;
            known = all-known place [] waiting table stands ns e;
            before = λ q low high. absurd (omega (arith, low, high));
            stands = stands;
          }
          by_state (IsUnknown n) e =
              let u = one-unknown place [] waiting table stands ns n e in
              record {
                unknown = λ q low high. (let same : q ≡ place = omega (arith, low, high, over) in ap (all_known_at options steps arrivals ns) same ∙ u.unknown);
                first = u.first over;
                stands = subst (λ (n : ℕ). TablesStand options steps arrivals n [] waiting table) over stands;
              }
          by_state IsNoId e = no-other place [] waiting table stands ns (ids place stands.within) e
      tells place (arrival ∷ line) waiting stands = by_state (children_state waiting (map (child_after steps) ns)) refl
          (tells (suc place) line (ready_after options.signal_delivery waiting arrival) (arrive options steps arrivals place arrival line waiting table stands))
        where
          by_state : (c : ChildrenState) → children_state waiting (map (child_after steps) ns) ≡ c
              → TellsFrom (suc place) (children_outcome options.signal_delivery (map (child_after steps) ns) line (ready_after options.signal_delivery waiting arrival))
              → TellsFrom place (outcome_by c (AllKnown (arrival ∷ line) waiting) (λ n. children_outcome options.signal_delivery (map (child_after steps) ns) line (ready_after options.signal_delivery waiting arrival)))
          by_state AreIds e later = record {
            place = place;
            above = le_refl place;
            known = all-known place (arrival ∷ line) waiting table stands ns e;
            before = λ q low high. absurd (omega (arith, low, high));
            stands = stands;
          }
          by_state (IsUnknown n) e later =
              let u = one-unknown place (arrival ∷ line) waiting table stands ns n e in
              later-tells place u.unknown (children_outcome options.signal_delivery (map (child_after steps) ns) line (ready_after options.signal_delivery waiting arrival)) later
          by_state IsNoId e later = no-other place (arrival ∷ line) waiting table stands ns (ids place stands.within) e
