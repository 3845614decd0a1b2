-- Which sleeps are open among more entries: which of them ends, and what a request opens.
use Rattle.std.proofs.Common.{ℕ, max, arith, ◌==◌, nat_lt, ◌≡◌, refl, sym, ap, ◌∙◌, true≢false, Bool, true, false, ◌||◌, ◌&&◌, not, if◌then◌else◌, List, [], ◌∷◌, ◌++◌, append-nil, append_assoc, length, map, filter, Option, Some, None, is_some}
use Rattle.std.specs.List.{AllByRecursion, find, list_any}
use Rattle.std.proofs.lemmas.Bool.{eqb-true, eq-eqb, ltb-true}
use Rattle.std.proofs.lemmas.List.Elements.{filter-append}
use Rattle.std.proofs.lemmas.List.Folds.{list_any-append}
use Rattle.sqlite_keyed.proofs.ListLemmas.{all_weaker, none_from_any}
use Rattle.journal_model.specs.Notification.{Text, Arrival}
use Rattle.journal_model.specs.declared.notification.NotificationResult.{NotificationResult}
use Rattle.journal_model.specs.declared.value.NonEmptyValue.{NonEmptyValue}
use Rattle.journal_model.specs.Request.{Request, completions_asked}
use Rattle.journal_model.specs.declared.notification.SignalKey.{SignalKey}
use Rattle.journal_model.specs.State.{StateMap}
use Rattle.journal_model.specs.Event.{Frame, Event}
use Rattle.journal_model.specs.Journal.{Entry, Recorded, Arrived, asks_for, id_of_signal, requests_in, arrivals_in, completes, completion, is_awaited, request_asking, open_request, read_answer, sleep_in, sleeps_in, can_be_due, entries_of}
use Rattle.journal_model.specs.Cause.{IsAccepted, causes_of, tests_of, do_ascend, greatest, last_completion, is_run, refuses_kind}
use Rattle.journal_laws.proofs.ObjectState.{holds-head, holds-tail, tail_of, not-false, requests_in-append}
use Rattle.store_model.specs.Lookups.{is_open_sleep, open_among}
use Rattle.store_model.proofs.Opening.{both_parts, filter_on, or_nothing}
use Rattle.store_model.proofs.Asking.{ascend_from, ascends, below_greatest}
use Rattle.store_model.proofs.Sleeping.{asked_by_sleeps, ends_at, no_sleep}
use Rattle.store_model.proofs.Answering.{arrivals_in-append, asked_below, completed_open, has_come, is_asked, not_yet}

-- ---- lists

pub each : {A : Type 0} (P : A → Type 0) → ((x : A) → P x) → (xs : List A) → AllByRecursion P xs
each P h [] = tt
each P h (x ∷ xs) = (h x, each P h xs)

pub no_less : (a : Bool) → (a && true) ≡ a
no_less true = refl
no_less false = refl

sleeps_in-append : (xs ys : List Request) → sleeps_in (xs ++ ys) ≡ sleeps_in xs ++ sleeps_in ys
sleeps_in-append [] ys = refl
sleeps_in-append (request ∷ xs) ys =
    ap (λ (rest : List (ℕ × ℕ)). sleep_in request ++ rest) (sleeps_in-append xs ys) ∙ sym (append_assoc (sleep_in request) (sleeps_in xs) (sleeps_in ys))

pub requests_in-arrived : (arrivals : List Arrival) → requests_in (map Arrived arrivals) ≡ []
requests_in-arrived [] = refl
requests_in-arrived (arrival ∷ arrivals) = requests_in-arrived arrivals

-- ---- what is awaited among more entries

neither : (a b : Bool) → not (a || b) ≡ (not a && not b)
neither true b = refl
neither false b = refl

pub awaited-append : (entries more : List Entry) (n : ℕ) → is_awaited (entries ++ more) n ≡ (is_awaited entries n && not (has_come n more))
awaited-append entries more n =
    ap not (ap (list_any (completes n)) (arrivals_in-append entries more) ∙ list_any-append (completes n) (arrivals_in entries) (arrivals_in more))
    ∙ neither (has_come n entries) (has_come n more)

abbrev pub sleeps_of : List Entry → List (ℕ × ℕ)
sleeps_of entries = sleeps_in (requests_in entries)

-- none of these completions comes by these entries
abbrev pub NoneComes : List Entry → List (ℕ × ℕ) → Type 0
NoneComes more sleeps = AllByRecursion (λ (sleep : ℕ × ℕ). has_come sleep.1 more ≡ false) sleeps

still_open : (entries more : List Entry) (sleep : ℕ × ℕ) → has_come sleep.1 more ≡ false → is_open_sleep (entries ++ more) sleep ≡ is_open_sleep entries sleep
still_open entries more sleep e =
    ap (λ (b : Bool). can_be_due sleep && b)
    (awaited-append entries more sleep.1 ∙ ap (λ (b : Bool). is_awaited entries sleep.1 && not b) e ∙ no_less (is_awaited entries sleep.1))

-- sleeps that are asked for by more entries stand behind the others
opens_with : (entries more : List Entry) → NoneComes more (sleeps_of entries)
    → open_among (entries ++ more) ≡ open_among entries ++ filter (is_open_sleep (entries ++ more)) (sleeps_of more)
opens_with entries more none =
    let test = is_open_sleep (entries ++ more) in
    ap (λ (requests : List Request). filter test (sleeps_in requests)) (requests_in-append entries more)
    ∙ ap (filter test) (sleeps_in-append (requests_in entries) (requests_in more))
    ∙ filter-append test (sleeps_of entries) (sleeps_of more)
    ∙ ap (λ (sleeps : List (ℕ × ℕ)). sleeps ++ filter test (sleeps_of more))
    (filter_on test (is_open_sleep entries) (sleeps_of entries)
    (all_weaker (λ (sleep : ℕ × ℕ). has_come sleep.1 more ≡ false) (λ sleep. test sleep ≡ is_open_sleep entries sleep) (still_open entries more) (sleeps_of entries) none))

opens_none : (entries more : List Entry) → sleeps_of more ≡ [] → NoneComes more (sleeps_of entries) → open_among (entries ++ more) ≡ open_among entries
opens_none entries more nothing none =
    opens_with entries more none
    ∙ ap (λ (sleeps : List (ℕ × ℕ)). open_among entries ++ filter (is_open_sleep (entries ++ more)) sleeps) nothing
    ∙ append-nil (open_among entries)

pub opens_if : (entries more : List Entry) (b : Bool) → sleeps_of more ≡ [] → (b ≡ true → NoneComes more (sleeps_of entries))
    → open_among (entries ++ (if b then more else [])) ≡ open_among entries
opens_if entries more true nothing none = opens_none entries more nothing (none refl)
opens_if entries more false nothing none = ap open_among (append-nil entries)

-- ---- a completion that no sleep asks for

other_number : (k n : ℕ) → (n == k) ≡ false → ((k == n) || false) ≡ false
other_number k n e = or_nothing (k == n) ∙ by_test (k == n) refl
  where
    by_test : (b : Bool) → (k == n) ≡ b → b ≡ false
    by_test true f = absurd (true≢false (sym (eq-eqb n k (sym (eqb-true k n f))) ∙ e))
    by_test false f = refl

pub none_by : (k : ℕ) (entries : List Entry) (result : NotificationResult) → list_any (ends_at k) (sleeps_of entries) ≡ false
    → NoneComes (Arrived (completion k result) ∷ []) (sleeps_of entries)
none_by k entries result e =
    all_weaker (λ (sleep : ℕ × ℕ). ends_at k sleep ≡ false) (λ (sleep : ℕ × ℕ). ((k == sleep.1) || false) ≡ false) (λ sleep other. other_number k sleep.1 other)
    (sleeps_of entries) (none_from_any (ends_at k) (sleeps_of entries) e)

pub none_by_signal : (entries : List Entry) (key : SignalKey) (result : NotificationResult)
    → NoneComes (Arrived (record { id = id_of_signal key; result = result }) ∷ []) (sleeps_of entries)
none_by_signal entries (SignalKey.ByIndex n) result = each (λ (sleep : ℕ × ℕ). false ≡ false) (λ sleep. refl) (sleeps_of entries)
none_by_signal entries (SignalKey.ByName name) result = each (λ (sleep : ℕ × ℕ). false ≡ false) (λ sleep. refl) (sleeps_of entries)

abbrev pub is_sleep : Option Request → Bool
is_sleep None = false
is_sleep (Some (Request.Sleep moment n name)) = true
is_sleep (Some _) = false

some_counted : {A : Type 0} (p : A → Bool) (xs : List A) → list_any p xs ≡ true → length (filter p xs) ≡ 0 → ⊥
some_counted p [] e f = true≢false (sym e)
some_counted {A} p (x ∷ xs) e f = by_test (p x) e f (some_counted p xs)
  where
    by_test : (b : Bool) → (b || list_any p xs) ≡ true → length (if b then x ∷ filter p xs else filter p xs) ≡ 0 → (list_any p xs ≡ true → length (filter p xs) ≡ 0 → ⊥) → ⊥
    by_test true e f later = omega (arith, f)
    by_test false e f later = later e f

-- what a sleep asks for is asked for by a sleep alone
pub asked_asleep : (k last : ℕ) (requests : List Request) → ascend_from last requests ≡ true → list_any (ends_at k) (sleeps_in requests) ≡ true
    → is_sleep (find (asks_for k) requests) ≡ true
asked_asleep k last [] up e = cc
asked_asleep k last (Request.Sleep moment n name ∷ requests) up e =
    let (here, rest) = both_parts (do_ascend last (n ∷ [])) (ascend_from (max last (greatest (n ∷ []))) requests) up in
    by_test (n == k) e (asked_asleep k (max last (greatest (n ∷ []))) requests rest)
  where
    by_test : (b : Bool) → (b || list_any (ends_at k) (sleeps_in requests)) ≡ true → (list_any (ends_at k) (sleeps_in requests) ≡ true → is_sleep (find (asks_for k) requests) ≡ true)
        → is_sleep (if b || false then Some (Request.Sleep moment n name) else find (asks_for k) requests) ≡ true
    by_test true e later = refl
    by_test false e later = later e
asked_asleep k last (request ∷ requests) up e =
    let (here, rest) = both_parts (do_ascend last (completions_asked request)) (ascend_from (max last (greatest (completions_asked request))) requests) up in
    by_test (asks_for k request) refl rest (asked_asleep k (max last (greatest (completions_asked request))) requests rest e)
  where
    by_test : (b : Bool) → asks_for k request ≡ b → ascend_from (max last (greatest (completions_asked request))) requests ≡ true
        → is_sleep (find (asks_for k) requests) ≡ true → is_sleep (if b then Some request else find (asks_for k) requests) ≡ true
    by_test true f rest later =
        let under = below_greatest k (completions_asked request) f in
        absurd (some_counted (ends_at k) (sleeps_in requests) e (no_sleep k (max last (greatest (completions_asked request))) requests (omega arith) rest))
    by_test false f rest later = later

pub no_sleep_asks : (events : List Event) (id : Text) (k : ℕ) → IsAccepted events → is_sleep (request_asking (entries_of events id) k) ≡ false
    → list_any (ends_at k) (sleeps_of (entries_of events id)) ≡ false
no_sleep_asks events id k accepted other = by_test (list_any (ends_at k) (sleeps_of (entries_of events id))) refl
  where
    by_test : (b : Bool) → list_any (ends_at k) (sleeps_of (entries_of events id)) ≡ b → b ≡ false
    by_test true e = absurd (true≢false (sym (asked_asleep k 0 (requests_in (entries_of events id)) (ascends id events accepted) e) ∙ other))
    by_test false e = refl

-- a result is refused of a sleep
given_awake : (b : Bool) (o : Option Request) (k : ℕ) (result : NotificationResult) → is_some (if b then o else None) ≡ true → refuses_kind (if b then o else None) k result ≡ false
    → is_sleep o ≡ false
given_awake true None k result e f = cc
given_awake true (Some (Request.Sleep moment n name)) k result e f = cc
given_awake true (Some _) k result e f = refl
given_awake false o k result e f = cc

pub completed_awake : (events : List Event) (x : Text) (k : ℕ) (result : NotificationResult) → causes_of events (Event.Result x k result) ≡ []
    → is_sleep (request_asking (entries_of events x) k) ≡ false
completed_awake events x k result accepted =
    let tests = tests_of events (Event.Result x k result) in
    given_awake (is_awaited (entries_of events x) k) (request_asking (entries_of events x) k) k result (completed_open events x k result accepted)
    (holds-head (tail_of (tail_of (tail_of tests))) (holds-tail (tail_of (tail_of tests)) (holds-tail (tail_of tests) (holds-tail tests accepted))))

run_awake : (b : Bool) (o : Option Request) → is_run (if b then o else None) ≡ true → is_sleep o ≡ false
run_awake true None e = cc
run_awake true (Some (Request.Sleep moment n name)) e = cc
run_awake true (Some _) e = refl
run_awake false o e = cc

pub outcome_awake : (events : List Event) (x : Text) (attempt k : ℕ) (value : NonEmptyValue) (is_acknowledged : Bool)
    → causes_of events (Event.Move x attempt (Frame.RunOutcome k value is_acknowledged)) ≡ [] → is_sleep (request_asking (entries_of events x) k) ≡ false
outcome_awake events x attempt k value is_acknowledged accepted =
    let tests = tests_of events (Event.Move x attempt (Frame.RunOutcome k value is_acknowledged)) in
    run_awake (is_awaited (entries_of events x) k) (request_asking (entries_of events x) k)
    (not-false (is_run (open_request (entries_of events x) k))
    (holds-head (tail_of (tail_of (tail_of tests))) (holds-tail (tail_of (tail_of tests)) (holds-tail (tail_of tests) (holds-tail tests accepted)))))

-- ---- what a request opens

new_number : (entries : List Entry) (k : ℕ) → do_ascend (last_completion (requests_in entries)) (k ∷ []) ≡ true → list_any (ends_at k) (sleeps_of entries) ≡ false
new_number entries k up = by_test (list_any (ends_at k) (sleeps_of entries)) refl
  where
    by_test : (b : Bool) → list_any (ends_at k) (sleeps_of entries) ≡ b → b ≡ false
    by_test true e =
        let above = ltb-true (last_completion (requests_in entries)) k ((both_parts (nat_lt (last_completion (requests_in entries)) k) true up).0) in
        let under = asked_below k (requests_in entries) (asked_by_sleeps k (requests_in entries) e) in
        absurd (omega (arith, above, under))
    by_test false e = refl

-- the sleep that it asks for is open then
abbrev Opens : List Entry → StateMap → Request → Type 0
Opens entries state request =
    open_among (entries ++ Recorded request ∷ map Arrived (read_answer state request)) ≡ open_among entries ++ filter can_be_due (sleep_in request)

opens_nothing : (entries : List Entry) (more : List Entry) → sleeps_of more ≡ [] → NoneComes more (sleeps_of entries) → open_among (entries ++ more) ≡ open_among entries ++ []
opens_nothing entries more nothing none = opens_none entries more nothing none ∙ sym (append-nil (open_among entries))

pub command_opens : (entries : List Entry) (state : StateMap) (request : Request) → ((n : ℕ) → has_come n entries ≡ true → is_asked n entries ≡ true)
    → do_ascend (last_completion (requests_in entries)) (completions_asked request) ≡ true → Opens entries state request
command_opens entries state (Request.Sleep moment k name) known up =
    opens_with entries (Recorded (Request.Sleep moment k name) ∷ []) (each (λ (sleep : ℕ × ℕ). false ≡ false) (λ sleep. refl) (sleeps_of entries))
    ∙ ap (λ (b : Bool). open_among entries ++ (if can_be_due (moment, k) && b then (moment, k) ∷ [] else [])) awaited
    ∙ ap (λ (b : Bool). open_among entries ++ (if b then (moment, k) ∷ [] else [])) (no_less (can_be_due (moment, k)))
  where
    awaited : is_awaited (entries ++ Recorded (Request.Sleep moment k name) ∷ []) k ≡ true
    awaited =
        awaited-append entries (Recorded (Request.Sleep moment k name) ∷ []) k
        ∙ no_less (is_awaited entries k)
        ∙ ap not (not_yet k k entries (known k) up (eq-eqb k k refl))
command_opens entries state (Request.GetLazyState key k name) known up =
    opens_nothing entries (Recorded (Request.GetLazyState key k name) ∷ map Arrived (read_answer state (Request.GetLazyState key k name))) refl
    (none_by k entries NotificationResult.Void (new_number entries k up))
command_opens entries state (Request.GetLazyStateKeys k name) known up =
    opens_nothing entries (Recorded (Request.GetLazyStateKeys k name) ∷ map Arrived (read_answer state (Request.GetLazyStateKeys k name))) refl
    (none_by k entries NotificationResult.Void (new_number entries k up))
command_opens entries state request known up =
    opens_nothing entries (Recorded request ∷ []) refl (each (λ (sleep : ℕ × ℕ). false ≡ false) (λ sleep. refl) (sleeps_of entries))
