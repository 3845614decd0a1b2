-- For a run nothing comes but what its attempt has proposed.
use Rattle.std.proofs.Common.{ℕ, ◌≤◌, ◌==◌, arith, ◌≡◌, refl, sym, ap, subst, ◌∙◌, ◌⊎◌, inl, inr, Bool, true, false, if◌then◌else◌, List, [], ◌∷◌, ◌++◌, append-nil, Option, Some, None, is_some, bytes_eq, eqb-true}
use Rattle.std.specs.List.{list_any}
use Rattle.std.proofs.lemmas.Slice.Eq.{bytes_eq-Decides}
use Rattle.journal_model.specs.declared.notification.NotificationResult.{NotificationResult}
use Rattle.journal_model.specs.Notification.{Text, Arrival}
use Rattle.journal_model.specs.Value.{result_of_value}
use Rattle.journal_model.specs.State.{StateMap, state_after}
use Rattle.journal_model.specs.Request.{Request, completions_asked}
use Rattle.journal_model.specs.declared.notification.SignalKey.{SignalKey}
use Rattle.journal_model.specs.Event.{Event, Frame}
use Rattle.journal_model.specs.Journal.{Entry, completion, begins, adds_to, starting_state, requests_in, arrivals_in, asks_for, open_request, slept, sleep_in, read_answer, entries_of_event, entries_of, recorded_requests, recorded_arrivals}
use Rattle.journal_model.specs.Cause.{may_complete, refuses_kind, own_tests, causes_of}
use Rattle.journal_laws.proofs.ObjectState.{tail_of, holds-head, holds-tail, not-false}
use Rattle.journal_laws.proofs.Leaving.{or-true, or-true_left, or-true_right}
use Rattle.input_laws.proofs.Events.{added_by, requests_now, no_request, one_request}
use Rattle.input_laws.specs.CompletionsOnce.{count_of, numbers_asked, numbers_come, AreOnce}
use Rattle.input_laws.proofs.Once.{count_asked, read_asked, arrivals_arrived, slept_few, recorded_once}
use Rattle.input_laws.proofs.AskedOnce.{kind_count, found_kind, kind_slept}
use Rattle.input_laws.proofs.Results.{count-results}
use Rattle.attempt_laws.proofs.Coming.{any-append}
use Rattle.live_laws.proofs.Recording.{asking_open, or-nothing, own_passes}
use Rattle.body_laws.specs.BodySimulation.{has_arrived}
use Rattle.body_laws.proofs.BodySimulation.{arrived-once}
use Rattle.replay_laws.specs.Outcomes.{asks_run, runs, TakesOutcome, OutcomesAreTaken}

-- ---- what is asked for by a run

run-asks : (n : ℕ) (request : Request) → asks_run n request ≡ true → asks_for n request ≡ true
run-asks n (Request.Run m name) e = or-true_left (m == n) false e
run-asks n _ e = cc

pub runs-asked : (n : ℕ) (requests : List Request) → runs n requests ≡ true → list_any (asks_for n) requests ≡ true
runs-asked n [] e = cc
runs-asked n (request ∷ requests) e = by_either (or-true (asks_run n request) (runs n requests) e) (λ f. runs-asked n requests f)
  where
    by_either : (asks_run n request ≡ true) ⊎ (runs n requests ≡ true) → (runs n requests ≡ true → list_any (asks_for n) requests ≡ true) → list_any (asks_for n) (request ∷ requests) ≡ true
    by_either (inl f) later = or-true_left (asks_for n request) (list_any (asks_for n) requests) (run-asks n request f)
    by_either (inr f) later = or-true_right (asks_for n request) (list_any (asks_for n) requests) (later f)

-- and it is no sleep
run-no_sleep : (n : ℕ) (request : Request) → asks_run n request ≡ true → sleep_in request ≡ []
run-no_sleep n (Request.Sleep moment m name) f = cc
run-no_sleep n _ f = refl

-- ---- what comes for it

pub arrived_count : (n : ℕ) (arrivals : List Arrival) → has_arrived arrivals n ≡ true → 1 ≤ count_of n (numbers_come arrivals)
arrived_count n arrivals come = subst (λ (k : ℕ). 1 ≤ k) (count-results n arrivals) (arrived-once arrivals n come)

-- a run is not completed from outside
run_completes : (n k : ℕ) (request : Request) (result : NotificationResult) → asks_run n request ≡ true → may_complete request k result ≡ true → ⊥
run_completes n k (Request.Run m name) result e f = cc
run_completes n k _ result e f = cc

completed_apart : (entries : List Entry) (k : ℕ) (result : NotificationResult) → count_of k (numbers_asked (requests_in entries)) ≤ 1
    → is_some (open_request entries k) ≡ true → refuses_kind (open_request entries k) k result ≡ false → runs k (requests_in entries) ≡ true → ⊥
completed_apart entries k result once opened kind given = by_open (open_request entries k) refl opened kind
  where
    by_open : (o : Option Request) → open_request entries k ≡ o → is_some o ≡ true → refuses_kind o k result ≡ false → ⊥
    by_open None e f g = cc
    by_open (Some request) e f g =
        run_completes k k request result (found_kind k (asks_run k) (runs-asked k) (requests_in entries) request once (asking_open entries k request e) given) (not-false (may_complete request k result) g)

-- and no read is a run
read_none : (state : StateMap) (n : ℕ) (request : Request) → asks_run n request ≡ true → read_answer state request ≡ []
read_none state n (Request.GetLazyState key m name) e = cc
read_none state n (Request.GetLazyStateKeys m name) e = cc
read_none state n _ e = refl

read_apart : (state : StateMap) (n : ℕ) (requests : List Request) (request : Request) → count_of n (numbers_asked (requests ++ request ∷ [])) ≤ 1 → runs n (requests ++ request ∷ []) ≡ true
    → has_arrived (read_answer state request) n ≡ true → ⊥
read_apart state n requests request once e come = by_either (or-true (runs n requests) (runs n (request ∷ [])) (sym (any-append (asks_run n) requests (request ∷ [])) ∙ e))
  where
    by_one : (asks_run n request ≡ true) ⊎ (false ≡ true) → ⊥
    by_one (inl f) = let wrong : false ≡ true = sym (ap (λ (arrivals : List Arrival). has_arrived arrivals n) (read_none state n request f)) ∙ come in cc
    by_one (inr f) = cc

    by_either : (runs n requests ≡ true) ⊎ (runs n (request ∷ []) ≡ true) → ⊥
    by_either (inl f) =
        let a = count_asked n requests (request ∷ []) in
        let b = kind_count n (asks_run n) (runs-asked n) requests f in
        let c : count_of n (numbers_asked (request ∷ [])) ≡ count_of n (completions_asked request) = ap (count_of n) (append-nil (completions_asked request)) in
        let d = read_asked n state request in
        let k = arrived_count n (read_answer state request) come in
        omega (arith, once, a, b, c, d, k)
    by_either (inr f) = by_one (or-true (asks_run n request) false f)

same_number : (k n : ℕ) (result : NotificationResult) → has_arrived (completion k result ∷ []) n ≡ true → k ≡ n
same_number k n result come = by_either (or-true (k == n) false come)
  where
    by_either : ((k == n) ≡ true) ⊎ (false ≡ true) → k ≡ n
    by_either (inl e) = eqb-true k n e
    by_either (inr e) = cc

module _ (events : List Event) (id : Text) (n : ℕ) where
  runs_before : (event : Event) → begins id event ≡ false → requests_in (added_by events id event) ≡ [] → runs n (recorded_requests (event ∷ events) id) ≡ true → runs n (recorded_requests events id) ≡ true
  runs_before event old none e =
      ap (runs n) (sym (requests_now event events id old ∙ ap (λ (more : List Request). recorded_requests events id ++ more) none ∙ append-nil (recorded_requests events id))) ∙ e

  takes : (event : Event) → causes_of events event ≡ [] → begins id event ≡ false → adds_to events id event ≡ true
      → AreOnce (recorded_requests events id) (recorded_arrivals events id) → AreOnce (recorded_requests (event ∷ events) id) (recorded_arrivals (event ∷ events) id)
      → runs n (recorded_requests (event ∷ events) id) ≡ true → has_arrived (arrivals_in (entries_of_event (starting_state events id) (entries_of events id) event)) n ≡ true → TakesOutcome id n event
  takes (Event.Result other k result) causes old adds once now e come =
      let tests = own_tests events (Event.Result other k result) in
      let passes = own_passes events (Event.Result other k result) other causes in
      let same_id : other ≡ id = (bytes_eq-Decides other id).0 (or-nothing (bytes_eq other id) false refl adds) in
      completed_apart (entries_of events id) k result (once.asked k)
      (subst (λ (x : Text). is_some (open_request (entries_of events x) k) ≡ true) same_id (not-false (is_some (open_request (entries_of events other) k)) (holds-head tests passes)))
      (subst (λ (x : Text). refuses_kind (open_request (entries_of events x) k) k result ≡ false) same_id (holds-head (tail_of tests) (holds-tail tests passes)))
      (subst (λ (m : ℕ). runs m (recorded_requests events id) ≡ true) (sym (same_number k n result come)) (runs_before (Event.Result other k result) old (no_request events id (Event.Result other k result) refl) e))
  takes (Event.Signal other (SignalKey.ByIndex k) result) causes old adds once now e come = cc
  takes (Event.Signal other (SignalKey.ByName name) result) causes old adds once now e come = cc
  takes (Event.Cancel other) causes old adds once now e come = cc
  takes (Event.Tick moment) causes old adds once now e come =
      let a = slept_few (entries_of events id) moment n in
      let b = kind_slept n (asks_run n) (runs-asked n) (run-no_sleep n) (recorded_requests events id) (runs_before (Event.Tick moment) old (no_request events id (Event.Tick moment) refl) e) in
      let c = once.asked n in
      let d : 1 ≤ count_of n (numbers_come (slept (entries_of events id) moment)) =
      arrived_count n (slept (entries_of events id) moment) (ap (λ (arrivals : List Arrival). has_arrived arrivals n) (sym (arrivals_arrived (slept (entries_of events id) moment))) ∙ come) in
      absurd (omega (arith, a, b, c, d))
  takes (Event.Move other attempt (Frame.Command request)) causes old adds once now e come =
      let state = state_after (recorded_requests events id) (starting_state events id) in
      absurd (read_apart state n (recorded_requests events id) request
      (subst (λ (requests : List Request). count_of n (numbers_asked requests) ≤ 1) recorded (now.asked n)) (ap (runs n) (sym recorded) ∙ e)
      (ap (λ (arrivals : List Arrival). has_arrived arrivals n) (sym (arrivals_arrived (read_answer state request))) ∙ come))
    where
      recorded : recorded_requests (Event.Move other attempt (Frame.Command request) ∷ events) id ≡ recorded_requests events id ++ request ∷ []
      recorded =
          requests_now (Event.Move other attempt (Frame.Command request)) events id old
          ∙ ap (λ (more : List Request). recorded_requests events id ++ more)
          (one_request events id (Event.Move other attempt (Frame.Command request)) request (or-nothing (bytes_eq other id) false refl adds) refl)
  takes (Event.Move other attempt (Frame.RunOutcome k value told)) causes old adds once now e come = (or-nothing (bytes_eq other id) false refl adds, same_number k n (result_of_value value) come)
  takes (Event.Move other attempt frame) causes old adds once now e come = cc
  takes event causes old adds once now e come = cc

pub outcomes_are_taken : OutcomesAreTaken
outcomes_are_taken events id event n accepted old e come = by_adds (adds_to events id event) refl come
  where
    by_adds : (b : Bool) → adds_to events id event ≡ b → has_arrived (arrivals_in (if b then entries_of_event (starting_state events id) (entries_of events id) event else [])) n ≡ true → TakesOutcome id n event
    by_adds true f come = takes events id n event accepted.0 old f (recorded_once events id accepted.1) (recorded_once (event ∷ events) id accepted) e come
    by_adds false f come = cc
