-- What the store lets in for an invocation id.
use Rattle.std.proofs.Common.{ℕ, ◌≤◌, ◌==◌, arith, ◌≡◌, refl, sym, ap, subst, ◌∙◌, ◌⊎◌, inl, inr, Bool, true, false, not, ◌&&◌, ◌||◌, if◌then◌else◌, List, [], ◌∷◌, ◌++◌, append-nil, map, Option, Some, None, is_some, bytes_eq}
use Rattle.std.specs.List.{list_all, find}
use Rattle.std.proofs.lemmas.Bool.{eqb-true}
use Rattle.std.proofs.lemmas.Slice.Eq.{bytes_eq-Decides}
use Rattle.journal_model.specs.declared.notification.NotificationId.TheVariants.{CompletionId}
use Rattle.journal_model.specs.declared.notification.NotificationResult.{NotificationResult}
use Rattle.journal_model.specs.Notification.{Text, Arrival}
use Rattle.journal_model.specs.Value.{result_of_value}
use Rattle.journal_model.specs.State.{StateMap, state_after}
use Rattle.journal_model.specs.Request.{Request, completions_asked}
use Rattle.journal_model.specs.declared.notification.SignalKey.{SignalKey}
use Rattle.journal_model.specs.Delivery.{results_for}
use Rattle.journal_model.specs.Event.{Event, Frame}
use Rattle.journal_model.specs.Journal.{Entry, Recorded, Arrived, completion, begins, is_open, adds_to, invocation_begun, starting_state, requests_in, arrivals_in, is_awaited, asks_for, request_asking, open_request, slept, read_answer, entries_of_event, entries_of, recorded_requests, recorded_arrivals}
use Rattle.journal_model.specs.Cause.{is_invocation_id, may_complete, refuses_kind, is_run, those_that_hold, own_tests, causes_of, IsAccepted}
use Rattle.journal_model.specs.declared.cause.Cause.{Cause}
use Rattle.journal_laws.proofs.ObjectState.{tail_of, holds-head, holds-tail, not-false}
use Rattle.journal_laws.proofs.Leaving.{or-true}
use Rattle.input_laws.proofs.Events.{added_by, entries_first, requests_now, arrivals_now, no_request, one_request}
use Rattle.input_laws.proofs.LiveAttempts.{own_hold}
use Rattle.input_laws.specs.CompletionsOnce.{count_of, numbers_asked, AreOnce}
use Rattle.input_laws.proofs.Once.{count_asked, read_asked, arrivals_arrived, slept_few, recorded_once}
use Rattle.input_laws.proofs.AskedOnce.{kind_count, found_kind, kind_slept}
use Rattle.attempt_model.specs.Attempts.{gives_id}
use Rattle.attempt_laws.proofs.Tables.{results-append}
use Rattle.attempt_laws.proofs.Coming.{gives, any-append, given-asked, all-both}
use Rattle.live_laws.specs.AskedArrivals.{GiveIds}
use Rattle.live_laws.specs.MachineLaws.{RecordsGiveIds}
use Rattle.live_laws.proofs.AskedArrivals.{given_completes, gives_no_sleep, none_come}

-- nothing but invocation ids for this number is among the arrivals of these entries
abbrev FitEntries : ℕ → List Entry → Type 0
FitEntries n entries = list_all is_invocation_id (results_for (arrivals_in entries) (CompletionId n)) ≡ true

fits_none : (n : ℕ) (entries : List Entry) → results_for (arrivals_in entries) (CompletionId n) ≡ [] → FitEntries n entries
fits_none n entries e = ap (list_all is_invocation_id) e

-- ---- one completion

-- the request of an open completion
pub asking_open : (entries : List Entry) (n : ℕ) (request : Request) → open_request entries n ≡ Some request → find (asks_for n) (requests_in entries) ≡ Some request
asking_open entries n request e = by_awaited (is_awaited entries n) e
  where
    by_awaited : (b : Bool) → (if b then request_asking entries n else None) ≡ Some request → find (asks_for n) (requests_in entries) ≡ Some request
    by_awaited true f = f
    by_awaited false f = cc

-- one that may be completed so, where it gives an invocation id
completed_fits : (entries : List Entry) (k : ℕ) (result : NotificationResult) → count_of k (numbers_asked (requests_in entries)) ≤ 1
    → is_some (open_request entries k) ≡ true → refuses_kind (open_request entries k) k result ≡ false → gives k (requests_in entries) ≡ true → is_invocation_id result ≡ true
completed_fits entries k result once opened kind given = by_open (open_request entries k) refl opened kind
  where
    by_open : (o : Option Request) → open_request entries k ≡ o → is_some o ≡ true → refuses_kind o k result ≡ false → is_invocation_id result ≡ true
    by_open None e f g = cc
    by_open (Some request) e f g =
        given_completes k request result (found_kind k (gives_id k) (given-asked k) (requests_in entries) request once (asking_open entries k request e) given) (not-false (may_complete request k result) g)

-- a run's outcome gives none
run_apart : (entries : List Entry) (k : ℕ) → count_of k (numbers_asked (requests_in entries)) ≤ 1 → is_run (open_request entries k) ≡ true → gives k (requests_in entries) ≡ true → ⊥
run_apart entries k once runs given = by_open (open_request entries k) refl runs
  where
    by_open : (o : Option Request) → open_request entries k ≡ o → is_run o ≡ true → ⊥
    by_open None e f = cc
    by_open (Some (Request.Run m name)) e f =
        let wrong : false ≡ true = found_kind k (gives_id k) (given-asked k) (requests_in entries) (Request.Run m name) once (asking_open entries k (Request.Run m name) e) given in
        cc
    by_open (Some _) e f = cc

-- one arrival fits where it is an invocation id under this number
one_fits : (n k : ℕ) (result : NotificationResult) → (k ≡ n → is_invocation_id result ≡ true) → FitEntries n (Arrived (completion k result) ∷ [])
one_fits n k result fits = by_test (k == n) refl
  where
    by_test : (b : Bool) → (k == n) ≡ b
        → list_all is_invocation_id (map (λ (arrival : Arrival). arrival.result) (if b then completion k result ∷ [] else [])) ≡ true
    by_test true e = ap (λ (b : Bool). b && true) (fits (eqb-true k n e))
    by_test false e = refl

-- ---- one more request

read_none : (state : StateMap) (n : ℕ) (request : Request) → gives_id n request ≡ true → read_answer state request ≡ []
read_none state n (Request.GetLazyState key m name) e = cc
read_none state n (Request.GetLazyStateKeys m name) e = cc
read_none state n _ e = refl

read_fits : (state : StateMap) (n : ℕ) (requests : List Request) (request : Request) → count_of n (numbers_asked (requests ++ request ∷ [])) ≤ 1 → gives n (requests ++ request ∷ []) ≡ true
    → results_for (read_answer state request) (CompletionId n) ≡ []
read_fits state n requests request once e = by_either (or-true (gives n requests) (gives n (request ∷ [])) (sym (any-append (gives_id n) requests (request ∷ [])) ∙ e))
  where
    by_one : (gives_id n request ≡ true) ⊎ (false ≡ true) → results_for (read_answer state request) (CompletionId n) ≡ []
    by_one (inl f) = ap (λ (arrivals : List Arrival). results_for arrivals (CompletionId n)) (read_none state n request f)
    by_one (inr f) = cc

    by_either : (gives n requests ≡ true) ⊎ (gives n (request ∷ []) ≡ true) → results_for (read_answer state request) (CompletionId n) ≡ []
    by_either (inl f) =
        none_come n (read_answer state request)
        (let a = count_asked n requests (request ∷ []) in
        let b = kind_count n (gives_id n) (given-asked n) requests f in
        let c : count_of n (numbers_asked (request ∷ [])) ≡ count_of n (completions_asked request) = ap (count_of n) (append-nil (completions_asked request)) in
        let d = read_asked n state request in
        omega (arith, once, a, b, c, d))
    by_either (inr f) = by_one (or-true (gives_id n request) false f)

-- ---- one more event

pub or-nothing : (b c : Bool) → c ≡ false → (b || c) ≡ true → b ≡ true
or-nothing true c e f = refl
or-nothing false c e f = cc

-- the tests of an event's own, where it is one of an invocation and was accepted
pub own_passes : (events : List Event) (event : Event) (other : Text) → those_that_hold ((not (is_some (invocation_begun events other)), Cause.UnknownInvocation)
    ∷ (is_some (invocation_begun events other) && not (is_open events other), Cause.InvocationClosed) ∷ own_tests events event) ≡ [] → those_that_hold (own_tests events event) ≡ []
own_passes events event other causes =
    own_hold (not (is_some (invocation_begun events other))) (is_some (invocation_begun events other) && not (is_open events other)) Cause.UnknownInvocation Cause.InvocationClosed
    (own_tests events event) causes

module _ (events : List Event) (id : Text) where
  -- what the event adds, where the invocation's completions are asked for once
  abbrev Adds : Event → Type 0
  Adds event = (n : ℕ) → AreOnce (recorded_requests events id) (recorded_arrivals events id) → AreOnce (recorded_requests (event ∷ events) id) (recorded_arrivals (event ∷ events) id)
      → gives n (recorded_requests (event ∷ events) id) ≡ true → FitEntries n (entries_of_event (starting_state events id) (entries_of events id) event)

  -- an event that records no request leaves those that give this number
  gives_before : (event : Event) → begins id event ≡ false → requests_in (added_by events id event) ≡ [] → (n : ℕ) → gives n (recorded_requests (event ∷ events) id) ≡ true
      → gives n (recorded_requests events id) ≡ true
  gives_before event old none n e =
      ap (gives n) (sym (requests_now event events id old ∙ ap (λ (more : List Request). recorded_requests events id ++ more) none ∙ append-nil (recorded_requests events id))) ∙ e

  adds_fit : (event : Event) → causes_of events event ≡ [] → begins id event ≡ false → adds_to events id event ≡ true → Adds event
  adds_fit (Event.Result other k result) causes old adds n once now e =
      let tests = own_tests events (Event.Result other k result) in
      let passes = own_passes events (Event.Result other k result) other causes in
      let same_id : other ≡ id = (bytes_eq-Decides other id).0 (or-nothing (bytes_eq other id) false refl adds) in
      one_fits n k result (λ same. completed_fits (entries_of events id) k result (once.asked k)
      (subst (λ (x : Text). is_some (open_request (entries_of events x) k) ≡ true) same_id (not-false (is_some (open_request (entries_of events other) k)) (holds-head tests passes)))
      (subst (λ (x : Text). refuses_kind (open_request (entries_of events x) k) k result ≡ false) same_id (holds-head (tail_of tests) (holds-tail tests passes)))
      (subst (λ (m : ℕ). gives m (recorded_requests events id) ≡ true) (sym same) (gives_before (Event.Result other k result) old (no_request events id (Event.Result other k result) refl) n e)))
  adds_fit (Event.Signal other (SignalKey.ByIndex k) result) causes old adds n once now e = refl
  adds_fit (Event.Signal other (SignalKey.ByName name) result) causes old adds n once now e = refl
  adds_fit (Event.Cancel other) causes old adds n once now e = refl
  adds_fit (Event.Tick moment) causes old adds n once now e =
      fits_none n (map Arrived (slept (entries_of events id) moment))
      (ap (λ (arrivals : List Arrival). results_for arrivals (CompletionId n)) (arrivals_arrived (slept (entries_of events id) moment))
      ∙ none_come n (slept (entries_of events id) moment)
      (let a = slept_few (entries_of events id) moment n in
      let b = kind_slept n (gives_id n) (given-asked n) (gives_no_sleep n) (recorded_requests events id) (gives_before (Event.Tick moment) old (no_request events id (Event.Tick moment) refl) n e) in
      let c = once.asked n in
      omega (arith, a, b, c)))
  adds_fit (Event.Move other attempt (Frame.Command request)) causes old adds n once now e =
      let state = state_after (recorded_requests events id) (starting_state events id) in
      fits_none n (Recorded request ∷ map Arrived (read_answer state request))
      (ap (λ (arrivals : List Arrival). results_for arrivals (CompletionId n)) (arrivals_arrived (read_answer state request))
      ∙ read_fits state n (recorded_requests events id) request
      (subst (λ (requests : List Request). count_of n (numbers_asked requests) ≤ 1) recorded (now.asked n)) (ap (gives n) (sym recorded) ∙ e))
    where
      recorded : recorded_requests (Event.Move other attempt (Frame.Command request) ∷ events) id ≡ recorded_requests events id ++ request ∷ []
      recorded =
          requests_now (Event.Move other attempt (Frame.Command request)) events id old
          ∙ ap (λ (more : List Request). recorded_requests events id ++ more)
          (one_request events id (Event.Move other attempt (Frame.Command request)) request (or-nothing (bytes_eq other id) false refl adds) refl)
  adds_fit (Event.Move other attempt (Frame.RunOutcome k value told)) causes old adds n once now e =
      let event = Event.Move other attempt (Frame.RunOutcome k value told) in
      let tests = own_tests events (Event.Move other attempt (Frame.RunOutcome k value told)) in
      let passes = own_passes events (Event.Move other attempt (Frame.RunOutcome k value told)) other causes in
      let same_id : other ≡ id = (bytes_eq-Decides other id).0 (or-nothing (bytes_eq other id) false refl adds) in
      one_fits n k (result_of_value value) (λ same. absurd (run_apart (entries_of events id) k (once.asked k)
      (subst (λ (x : Text). is_run (open_request (entries_of events x) k) ≡ true) same_id
      (not-false (is_run (open_request (entries_of events other) k)) (holds-head (tail_of tests) (holds-tail tests passes))))
      (subst (λ (m : ℕ). gives m (recorded_requests events id) ≡ true) (sym same) (gives_before event old (no_request events id event refl) n e))))
  adds_fit (Event.Move other attempt frame) causes old adds n once now e = refl
  adds_fit event causes old adds n once now e = refl

  -- what is added fits, so all of it does
  gives_now : (event : Event) → begins id event ≡ false → AreOnce (recorded_requests events id) (recorded_arrivals events id)
      → AreOnce (recorded_requests (event ∷ events) id) (recorded_arrivals (event ∷ events) id) → GiveIds (recorded_requests events id) (recorded_arrivals events id)
      → ((n : ℕ) → gives n (recorded_requests (event ∷ events) id) ≡ true → FitEntries n (added_by events id event))
      → GiveIds (recorded_requests (event ∷ events) id) (recorded_arrivals (event ∷ events) id)
  gives_now event old once now before added n e =
      ap (λ (arrivals : List Arrival). list_all is_invocation_id (results_for arrivals (CompletionId n))) (arrivals_now event events id old)
      ∙ ap (list_all is_invocation_id) (results-append (recorded_arrivals events id) (arrivals_in (added_by events id event)) (CompletionId n))
      ∙ all-both is_invocation_id (results_for (recorded_arrivals events id) (CompletionId n)) (results_for (arrivals_in (added_by events id event)) (CompletionId n))
      (by_either (or-true (gives n (recorded_requests events id)) (gives n (requests_in (added_by events id event)))
      (sym (any-append (gives_id n) (recorded_requests events id) (requests_in (added_by events id event))) ∙ ap (gives n) (sym (requests_now event events id old)) ∙ e)))
      (added n e)
    where
      by_either : (gives n (recorded_requests events id) ≡ true) ⊎ (gives n (requests_in (added_by events id event)) ≡ true)
          → list_all is_invocation_id (results_for (recorded_arrivals events id) (CompletionId n)) ≡ true
      by_either (inl f) = before n f
      by_either (inr f) =
          ap (list_all is_invocation_id) (none_come n (recorded_arrivals events id)
          (let a = count_asked n (recorded_requests events id) (requests_in (added_by events id event)) in
          let b = kind_count n (gives_id n) (given-asked n) (requests_in (added_by events id event)) f in
          let c : count_of n (numbers_asked (recorded_requests events id ++ requests_in (added_by events id event))) ≤ 1 =
          subst (λ (requests : List Request). count_of n (numbers_asked requests) ≤ 1) (requests_now event events id old) (now.asked n) in
          let d = once.come n in
          omega (arith, a, b, c, d)))

  ids_now : (event : Event) → IsAccepted (event ∷ events) → begins id event ≡ false → GiveIds (recorded_requests events id) (recorded_arrivals events id)
      → GiveIds (recorded_requests (event ∷ events) id) (recorded_arrivals (event ∷ events) id)
  ids_now event accepted old before =
      gives_now event old once now before (λ n e. by_adds n e (adds_to events id event) refl)
    where
      once : AreOnce (recorded_requests events id) (recorded_arrivals events id)
      once = recorded_once events id accepted.1

      now : AreOnce (recorded_requests (event ∷ events) id) (recorded_arrivals (event ∷ events) id)
      now = recorded_once (event ∷ events) id accepted

      by_adds : (n : ℕ) → gives n (recorded_requests (event ∷ events) id) ≡ true → (b : Bool) → adds_to events id event ≡ b
          → FitEntries n (if b then entries_of_event (starting_state events id) (entries_of events id) event else [])
      by_adds n e true f = adds_fit event accepted.0 old f n once now e
      by_adds n e false f = refl

pub ids_recorded : RecordsGiveIds
ids_recorded [] id accepted = λ n e. refl
ids_recorded (event ∷ events) id accepted = by_begin (begins id event) refl (ids_recorded events id accepted.1)
  where
    by_begin : (b : Bool) → begins id event ≡ b → GiveIds (recorded_requests events id) (recorded_arrivals events id)
        → GiveIds (recorded_requests (event ∷ events) id) (recorded_arrivals (event ∷ events) id)
    by_begin false old before = ids_now events id event accepted old before
    by_begin true first before = λ n e.
        ap (λ (entries : List Entry). list_all is_invocation_id (results_for (arrivals_in entries) (CompletionId n))) (entries_first event events id accepted first)
