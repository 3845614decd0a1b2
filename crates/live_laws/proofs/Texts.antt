-- The state keys that the store lets in are text.
use Rattle.std.proofs.Common.{ℕ, ◌==◌, ◌≡◌, refl, sym, ap, subst, ◌∙◌, Bool, true, false, ◌&&◌, if◌then◌else◌, List, [], ◌∷◌, ◌++◌, append-nil, filter, map, Option, Some, None, is_some, bytes_eq}
use Rattle.std.specs.List.{list_all}
use Rattle.std.specs.Str.{is_utf8}
use Rattle.journal_model.specs.declared.notification.NotificationResult.{NotificationResult}
use Rattle.journal_model.specs.declared.notification.NotificationResult.TheVariants.{Void}
use Rattle.journal_model.specs.declared.value.NonEmptyValue.{NonEmptyValue}
use Rattle.journal_model.specs.Notification.{Bytes, Text}
use Rattle.journal_model.specs.Value.{result_of_value}
use Rattle.journal_model.specs.State.{StateMap, value_of_key, state_keys, state_change, state_after}
use Rattle.journal_model.specs.Request.{Request}
use Rattle.journal_model.specs.Delivery.{value_or_void}
use Rattle.journal_model.specs.Event.{Event, Frame}
use Rattle.journal_model.specs.Journal.{Entry, completion, begins, adds_to, starting_state, requests_in, arrivals_in, open_request, sleeps_in, sorted_by_moment, is_sleep_over, slept, read_answer, entries_of_event, entries_of, recorded_requests, recorded_arrivals}
use Rattle.journal_model.specs.Cause.{keys_of, may_complete, may_signal, refuses_kind, own_tests, causes_of, IsAccepted}
use Rattle.journal_laws.proofs.ObjectState.{tail_of, holds-head, holds-tail, not-false}
use Rattle.input_laws.proofs.Events.{added_by, entries_first, requests_now, arrivals_now, no_request, one_request}
use Rattle.input_laws.proofs.Once.{arrivals_arrived}
use Rattle.run_laws.specs.Keys.{HasTextKeys}
use Rattle.run_laws.proofs.States.{text_change, text_asked, starts_text}
use Rattle.attempt_model.specs.Results.{are_keys_text}
use Rattle.attempt_laws.proofs.Coming.{all-both}
use Rattle.live_laws.specs.AskedArrivals.{keys_are_text}
use Rattle.live_laws.specs.MachineLaws.{RecordsHaveTextKeys}
use Rattle.live_laws.proofs.Recording.{or-nothing, own_passes}

-- ---- recorded requests

abbrev HaveText : List Request → Type 0
HaveText requests = list_all (λ request. list_all is_utf8 (keys_of request)) requests ≡ true

pub text_after : (requests : List Request) (entries : StateMap) → HaveText requests → HasTextKeys entries → HasTextKeys (state_after requests entries)
text_after [] entries e all = all
text_after (request ∷ requests) entries e all = by_first (list_all is_utf8 (keys_of request)) refl e (λ f. text_after requests (state_change request entries) f)
  where
    by_first : (b : Bool) → list_all is_utf8 (keys_of request) ≡ b → (b && list_all (λ request. list_all is_utf8 (keys_of request)) requests) ≡ true
        → (HaveText requests → HasTextKeys (state_change request entries) → HasTextKeys (state_after requests (state_change request entries))) → HasTextKeys (state_after requests (state_change request entries))
    by_first true f g later = later g (text_change request entries f all)
    by_first false f g later = cc

module _ (events : List Event) (id : Text) where
  requests_same : (event : Event) → begins id event ≡ false → requests_in (added_by events id event) ≡ [] → HaveText (recorded_requests events id) → HaveText (recorded_requests (event ∷ events) id)
  requests_same event old none all =
      subst HaveText
      (sym (requests_now event events id old ∙ ap (λ (more : List Request). recorded_requests events id ++ more) none ∙ append-nil (recorded_requests events id))) all

  requests_text_on : (event : Event) → causes_of events event ≡ [] → begins id event ≡ false → HaveText (recorded_requests events id) → HaveText (recorded_requests (event ∷ events) id)
  requests_text_on (Event.Move other attempt (Frame.Command request)) causes old all = by_adds (adds_to events id (Event.Move other attempt (Frame.Command request))) refl
    where
      by_adds : (b : Bool) → adds_to events id (Event.Move other attempt (Frame.Command request)) ≡ b → HaveText (recorded_requests (Event.Move other attempt (Frame.Command request) ∷ events) id)
      by_adds true f =
          subst HaveText
          (sym (requests_now (Event.Move other attempt (Frame.Command request)) events id old
          ∙ ap (λ (more : List Request). recorded_requests events id ++ more)
          (one_request events id (Event.Move other attempt (Frame.Command request)) request (or-nothing (bytes_eq other id) false refl f) refl)))
          (all-both (λ request. list_all is_utf8 (keys_of request)) (recorded_requests events id) (request ∷ []) all
          (ap (λ (b : Bool). b && true) (text_asked events other attempt request causes)))
      by_adds false f =
          requests_same (Event.Move other attempt (Frame.Command request)) old
          (ap (λ (b : Bool). requests_in (if b then entries_of_event (starting_state events id) (entries_of events id) (Event.Move other attempt (Frame.Command request)) else [])) f) all
  requests_text_on (Event.Move other attempt frame) causes old all = requests_same (Event.Move other attempt frame) old (no_request events id (Event.Move other attempt frame) refl) all
  requests_text_on event causes old all = requests_same event old (no_request events id event refl) all

pub requests_text : (events : List Event) (id : Text) → IsAccepted events → HaveText (recorded_requests events id)
requests_text [] id accepted = refl
requests_text (event ∷ events) id accepted = by_begin (begins id event) refl (requests_text events id accepted.1)
  where
    by_begin : (b : Bool) → begins id event ≡ b → HaveText (recorded_requests events id) → HaveText (recorded_requests (event ∷ events) id)
    by_begin false old before = requests_text_on events id event accepted.0 old before
    by_begin true first before = subst (λ (entries : List Entry). HaveText (requests_in entries)) (sym (entries_first event events id accepted first)) refl

-- ---- what one event brings

pub keys_text : (entries : StateMap) → HasTextKeys entries → list_all is_utf8 (state_keys entries) ≡ true
keys_text [] all = refl
keys_text (entry ∷ entries) all = ap (λ (b : Bool). b && list_all is_utf8 (state_keys entries)) all.0 ∙ keys_text entries all.1

read_text : (state : StateMap) (request : Request) → HasTextKeys state → keys_are_text (read_answer state request) ≡ true
read_text state (Request.GetLazyState key n name) all = by_value (value_of_key state key)
  where
    by_value : (o : Option Bytes) → (are_keys_text (value_or_void o) && true) ≡ true
    by_value None = refl
    by_value (Some value) = refl
read_text state (Request.GetLazyStateKeys n name) all = ap (λ (b : Bool). b && true) (keys_text state all)
read_text state _ all = refl

outcome_text : (value : NonEmptyValue) → are_keys_text (result_of_value value) ≡ true
outcome_text (NonEmptyValue.Success bytes) = refl
outcome_text (NonEmptyValue.Failure failure) = refl

slept_text : (sleeps : List (ℕ × ℕ)) → keys_are_text (map (λ sleep. completion sleep.1 Void) sleeps) ≡ true
slept_text [] = refl
slept_text (sleep ∷ sleeps) = slept_text sleeps

signal_text : (result : NotificationResult) → may_signal result ≡ true → are_keys_text result ≡ true
signal_text (NotificationResult.StateKeys keys) e = cc
signal_text _ e = refl

-- no request is completed by state keys from outside
no_keys : (request : Request) (n : ℕ) (keys : List Bytes) → may_complete request n (NotificationResult.StateKeys keys) ≡ true → ⊥
no_keys (Request.CallService call m r name) n keys e = by_number (n == m) e
  where
    by_number : (b : Bool) → (if b then false else false) ≡ true → ⊥
    by_number true e = cc
    by_number false e = cc
no_keys _ n keys e = cc

completed_text : (o : Option Request) (n : ℕ) (result : NotificationResult) → is_some o ≡ true → refuses_kind o n result ≡ false → are_keys_text result ≡ true
completed_text None n result e f = cc
completed_text (Some request) n (NotificationResult.StateKeys keys) e f = absurd (no_keys request n keys (not-false (may_complete request n (NotificationResult.StateKeys keys)) f))
completed_text (Some request) n _ e f = refl

one_text : (b : Bool) → b ≡ true → (b && true) ≡ true
one_text b e = ap (λ (a : Bool). a && true) e

module _ (events : List Event) (id : Text) (accepted : IsAccepted events) where
  text_added : (event : Event) → causes_of events event ≡ [] → adds_to events id event ≡ true → keys_are_text (arrivals_in (entries_of_event (starting_state events id) (entries_of events id) event)) ≡ true
  text_added (Event.Result other n result) causes adds =
      let tests = own_tests events (Event.Result other n result) in
      let passes = own_passes events (Event.Result other n result) other causes in
      one_text (are_keys_text result)
      (completed_text (open_request (entries_of events other) n) n result (not-false (is_some (open_request (entries_of events other) n)) (holds-head tests passes))
      (holds-head (tail_of tests) (holds-tail tests passes)))
  text_added (Event.Signal other key result) causes adds =
      let tests = own_tests events (Event.Signal other key result) in
      one_text (are_keys_text result) (signal_text result (not-false (may_signal result) (holds-head tests (own_passes events (Event.Signal other key result) other causes))))
  text_added (Event.Tick now) causes adds = ap keys_are_text (arrivals_arrived (slept (entries_of events id) now)) ∙ slept_text (filter (is_sleep_over (entries_of events id) now) (sorted_by_moment (sleeps_in (recorded_requests events id))))
  text_added (Event.Move other attempt (Frame.Command request)) causes adds =
      let state = state_after (recorded_requests events id) (starting_state events id) in
      ap keys_are_text (arrivals_arrived (read_answer state request))
      ∙ read_text state request (text_after (recorded_requests events id) (starting_state events id) (requests_text events id accepted) (starts_text events id accepted))
  text_added (Event.Move other attempt (Frame.RunOutcome n value told)) causes adds = one_text (are_keys_text (result_of_value value)) (outcome_text value)
  text_added (Event.Move other attempt frame) causes adds = refl
  text_added event causes adds = refl

  text_on : (event : Event) → causes_of events event ≡ [] → begins id event ≡ false → keys_are_text (recorded_arrivals events id) ≡ true → keys_are_text (recorded_arrivals (event ∷ events) id) ≡ true
  text_on event causes old before =
      ap keys_are_text (arrivals_now event events id old)
      ∙ all-both (λ arrival. are_keys_text arrival.result) (recorded_arrivals events id) (arrivals_in (added_by events id event)) before (by_adds (adds_to events id event) refl)
    where
      by_adds : (b : Bool) → adds_to events id event ≡ b → keys_are_text (arrivals_in (if b then entries_of_event (starting_state events id) (entries_of events id) event else [])) ≡ true
      by_adds true f = text_added event causes f
      by_adds false f = refl

pub records_text : RecordsHaveTextKeys
records_text [] id accepted = refl
records_text (event ∷ events) id accepted = by_begin (begins id event) refl (records_text events id accepted.1)
  where
    by_begin : (b : Bool) → begins id event ≡ b → keys_are_text (recorded_arrivals events id) ≡ true → keys_are_text (recorded_arrivals (event ∷ events) id) ≡ true
    by_begin false old before = text_on events id accepted.1 event accepted.0 old before
    by_begin true first before = ap (λ (entries : List Entry). keys_are_text (arrivals_in entries)) (entries_first event events id accepted first)
