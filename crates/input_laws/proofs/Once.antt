-- Each completion is asked for once and comes once.
use Rattle.std.proofs.Common.{ℕ, zero, suc, ◌+◌, ◌≤◌, ◌<◌, ◌==◌, max, nat_lt, nat_le, arith, ◌≡◌, refl, sym, ap, subst, ◌∙◌, Bool, true, false, true≢false, not, ◌||◌, ◌&&◌, if◌then◌else◌, List, [], ◌∷◌, ◌++◌, append-nil, append_assoc, map, filter, Option, Some, None, is_some, bytes_eq}
use Rattle.std.specs.List.{list_any, find}
use Rattle.std.proofs.lemmas.Bool.{eqb-true, ltb-true}
use Rattle.std.proofs.lemmas.Slice.Eq.{bytes_eq-Decides}
use Rattle.journal_model.specs.declared.notification.NotificationId.{NotificationId}
use Rattle.journal_model.specs.declared.notification.NotificationId.TheVariants.{CompletionId, SignalId, SignalName}
use Rattle.journal_model.specs.declared.notification.NotificationResult.TheVariants.{Void}
use Rattle.journal_model.specs.Notification.{Text, Arrival, same_id}
use Rattle.journal_model.specs.State.{StateMap, state_after}
use Rattle.journal_model.specs.Request.{Request, completions_asked}
use Rattle.journal_model.specs.declared.notification.SignalKey.{SignalKey}
use Rattle.journal_model.specs.Event.{Event, Frame}
use Rattle.journal_model.specs.Journal.{Entry, Recorded, Arrived, completion, begins, is_of, is_tick, is_open, invocation_begun, starting_state, requests_in, arrivals_in, completes, is_awaited, asks_for, request_asking, open_request, sleep_in, sleeps_in, by_moment, sorted_by_moment, can_be_due, is_sleep_over, slept, read_answer, entries_of_event, entries_of, recorded_requests, recorded_arrivals}
use Rattle.journal_model.specs.Cause.{do_ascend, greatest, last_completion, is_run, own_tests, causes_of, IsAccepted}
use Rattle.journal_model.specs.declared.cause.Cause.{Cause}
use Rattle.journal_model.specs.Value.{result_of_value}
use Rattle.journal_laws.proofs.ObjectState.{tail_of, holds-head, holds-tail, not-false}
use Rattle.journal_laws.proofs.Leaving.{and-true}
use Rattle.input_laws.specs.CompletionsOnce.{count_of, numbers_asked, completion_numbers_of, numbers_come, AreOnce}
use Rattle.input_laws.proofs.Events.{added_by, entries_first, requests_now, arrivals_now}
use Rattle.input_laws.proofs.LiveAttempts.{own_hold}

pub count-append : (n : ℕ) (xs ys : List ℕ) → count_of n (xs ++ ys) ≡ count_of n xs + count_of n ys
count-append n [] ys = omega arith
count-append n (x ∷ xs) ys = let later = count-append n xs ys in omega arith

pub asked-append : (xs ys : List Request) → numbers_asked (xs ++ ys) ≡ numbers_asked xs ++ numbers_asked ys
asked-append [] ys = refl
asked-append (x ∷ xs) ys = ap (λ (rest : List ℕ). completions_asked x ++ rest) (asked-append xs ys) ∙ sym (append_assoc (completions_asked x) (numbers_asked xs) (numbers_asked ys))

pub count_asked : (n : ℕ) (requests more : List Request) → count_of n (numbers_asked (requests ++ more)) ≡ count_of n (numbers_asked requests) + count_of n (numbers_asked more)
count_asked n requests more = ap (count_of n) (asked-append requests more) ∙ count-append n (numbers_asked requests) (numbers_asked more)

come-append : (xs ys : List Arrival) → numbers_come (xs ++ ys) ≡ numbers_come xs ++ numbers_come ys
come-append [] ys = refl
come-append (x ∷ xs) ys = ap (λ (rest : List ℕ). completion_numbers_of x.id ++ rest) (come-append xs ys) ∙ sym (append_assoc (completion_numbers_of x.id) (numbers_come xs) (numbers_come ys))

-- ---- numbers that ascend

pub ascend-above : (n last : ℕ) (ns : List ℕ) → do_ascend last ns ≡ true → n ≤ last → count_of n ns ≡ 0
ascend-above n last [] e low = refl
ascend-above n last (m ∷ ns) e low =
    let (here, rest) = and-true (nat_lt last m) (do_ascend m ns) e in
    let above : last < m = ltb-true last m here in
    let later : count_of n ns ≡ 0 = ascend-above n m ns rest (omega arith) in
    by_test (m == n) refl above later
  where
    by_test : (b : Bool) → (m == n) ≡ b → last < m → count_of n ns ≡ 0 → (if b then 1 else 0) + count_of n ns ≡ 0
    by_test true f above later = let same : m ≡ n = eqb-true m n f in absurd (omega arith)
    by_test false f above later = omega arith

pub ascend-once : (n last : ℕ) (ns : List ℕ) → do_ascend last ns ≡ true → count_of n ns ≤ 1
ascend-once n last [] e = omega arith
ascend-once n last (m ∷ ns) e =
    let (here, rest) = and-true (nat_lt last m) (do_ascend m ns) e in
    by_test (m == n) refl rest (ascend-once n m ns rest)
  where
    by_test : (b : Bool) → (m == n) ≡ b → do_ascend m ns ≡ true → count_of n ns ≤ 1 → (if b then 1 else 0) + count_of n ns ≤ 1
    by_test true f rest low =
        let same : m ≡ n = eqb-true m n f in
        let none : count_of n ns ≡ 0 = ascend-above n m ns rest (omega arith) in
        omega arith
    by_test false f rest low = omega arith

pub below-greatest : (n : ℕ) (ns : List ℕ) → 0 < count_of n ns → n ≤ greatest ns
below-greatest n [] some = absurd (omega arith)
below-greatest n (m ∷ ns) some = by_test (m == n) refl some (below-greatest n ns)
  where
    by_test : (b : Bool) → (m == n) ≡ b → 0 < (if b then 1 else 0) + count_of n ns → (0 < count_of n ns → n ≤ greatest ns) → n ≤ max m (greatest ns)
    by_test true f some later = let same : m ≡ n = eqb-true m n f in omega arith
    by_test false f some later = let low : n ≤ greatest ns = later (omega arith) in omega arith

below-last : (n : ℕ) (requests : List Request) → 0 < count_of n (numbers_asked requests) → n ≤ last_completion requests
below-last n [] some = absurd (omega arith)
below-last n (request ∷ requests) some =
    let sum = count-append n (completions_asked request) (numbers_asked requests) in
    by_count (count_of n (completions_asked request)) refl (omega (arith, sum, some)) (below-last n requests)
  where
    by_count : (k : ℕ) → count_of n (completions_asked request) ≡ k → 0 < k + count_of n (numbers_asked requests)
        → (0 < count_of n (numbers_asked requests) → n ≤ last_completion requests) → n ≤ max (greatest (completions_asked request)) (last_completion requests)
    by_count zero e some later = let low : n ≤ last_completion requests = later (omega arith) in omega arith
    by_count (suc k) e some later = let low : n ≤ greatest (completions_asked request) = below-greatest n (completions_asked request) (omega arith) in omega arith

-- ---- what is awaited, and what was asked

awaited-none : (n : ℕ) (arrivals : List Arrival) → list_any (completes n) arrivals ≡ false → count_of n (numbers_come arrivals) ≡ 0
awaited-none n [] e = refl
awaited-none n (arrival ∷ arrivals) e = by_id arrival.id (λ f. awaited-none n arrivals f) e
  where
    by_id : (id : NotificationId) → (list_any (completes n) arrivals ≡ false → count_of n (numbers_come arrivals) ≡ 0)
        → (same_id id (CompletionId n) || list_any (completes n) arrivals) ≡ false → count_of n (completion_numbers_of id ++ numbers_come arrivals) ≡ 0
    by_id (CompletionId m) later e = by_test (m == n) e
      where
        by_test : (b : Bool) → (b || list_any (completes n) arrivals) ≡ false → (if b then 1 else 0) + count_of n (numbers_come arrivals) ≡ 0
        by_test true e = absurd (true≢false e)
        by_test false e = let rest = later e in omega arith
    by_id (SignalId m) later e = later e
    by_id (SignalName name) later e = later e

pub asked-any : (n : ℕ) (ns : List ℕ) → list_any (λ m. m == n) ns ≡ true → 1 ≤ count_of n ns
asked-any n [] e = absurd (true≢false (sym e))
asked-any n (m ∷ ns) e = by_test (m == n) e (asked-any n ns)
  where
    by_test : (b : Bool) → (b || list_any (λ m. m == n) ns) ≡ true → (list_any (λ m. m == n) ns ≡ true → 1 ≤ count_of n ns) → 1 ≤ (if b then 1 else 0) + count_of n ns
    by_test true e later = omega arith
    by_test false e later = let rest = later e in omega arith

pub asked-some : (n : ℕ) (requests : List Request) → list_any (asks_for n) requests ≡ true → 1 ≤ count_of n (numbers_asked requests)
asked-some n [] e = absurd (true≢false (sym e))
asked-some n (request ∷ requests) e = by_test (asks_for n request) refl e (asked-some n requests)
  where
    sum : count_of n (completions_asked request ++ numbers_asked requests) ≡ count_of n (completions_asked request) + count_of n (numbers_asked requests)
    sum = count-append n (completions_asked request) (numbers_asked requests)

    by_test : (b : Bool) → asks_for n request ≡ b → (b || list_any (asks_for n) requests) ≡ true
        → (list_any (asks_for n) requests ≡ true → 1 ≤ count_of n (numbers_asked requests)) → 1 ≤ count_of n (completions_asked request ++ numbers_asked requests)
    by_test true f e later = let own = asked-any n (completions_asked request) f in let all = sum in omega arith
    by_test false f e later = let rest = later e in let all = sum in omega arith

found-any : (test : Request → Bool) (requests : List Request) → is_some (find test requests) ≡ list_any test requests
found-any test [] = refl
found-any test (request ∷ requests) = by_test (test request) (found-any test requests)
  where
    by_test : (b : Bool) → is_some (find test requests) ≡ list_any test requests → is_some (if b then Some request else find test requests) ≡ (b || list_any test requests)
    by_test true later = refl
    by_test false later = later

open_parts : (entries : List Entry) (n : ℕ) → is_some (open_request entries n) ≡ true
    → (count_of n (numbers_come (arrivals_in entries)) ≡ 0) × (1 ≤ count_of n (numbers_asked (requests_in entries)))
open_parts entries n e = by_test (list_any (completes n) (arrivals_in entries)) refl e
  where
    by_test : (b : Bool) → list_any (completes n) (arrivals_in entries) ≡ b → is_some (if not b then request_asking entries n else None) ≡ true
        → (count_of n (numbers_come (arrivals_in entries)) ≡ 0) × (1 ≤ count_of n (numbers_asked (requests_in entries)))
    by_test true f e = absurd (true≢false (sym e))
    by_test false f e =
        (awaited-none n (arrivals_in entries) f, asked-some n (requests_in entries) (sym (found-any (asks_for n) (requests_in entries)) ∙ e))

-- ---- more entries

once_more : (requests more : List Request) (arrivals later : List Arrival) → AreOnce requests arrivals
    → ((n : ℕ) → count_of n (numbers_asked requests) + count_of n (numbers_asked more) ≤ 1)
    → ((n : ℕ) → count_of n (numbers_come arrivals) + count_of n (numbers_come later) ≤ count_of n (numbers_asked requests) + count_of n (numbers_asked more))
    → AreOnce (requests ++ more) (arrivals ++ later)
once_more requests more arrivals later once asks comes = record {
  asked = λ n. subst (λ (k : ℕ). k ≤ 1) (sym (count_asked n requests more)) (asks n);
  come = λ n.
      let a = count_asked n requests more in
      let c = ap (count_of n) (come-append arrivals later) ∙ count-append n (numbers_come arrivals) (numbers_come later) in
      let low = comes n in
      omega arith;
}

-- arrivals alone
once_come : (requests : List Request) (arrivals later : List Arrival) → AreOnce requests arrivals
    → ((n : ℕ) → count_of n (numbers_come arrivals) + count_of n (numbers_come later) ≤ count_of n (numbers_asked requests)) → AreOnce requests (arrivals ++ later)
once_come requests arrivals later once comes = record {
  asked = once.asked;
  come = λ n.
      let c = ap (count_of n) (come-append arrivals later) ∙ count-append n (numbers_come arrivals) (numbers_come later) in
      let low = comes n in
      omega arith;
}

-- one completion that was open
once_one : (entries : List Entry) (n : ℕ) → AreOnce (requests_in entries) (arrivals_in entries) → is_some (open_request entries n) ≡ true → (m : ℕ)
    → count_of m (numbers_come (arrivals_in entries)) + count_of m (n ∷ []) ≤ count_of m (numbers_asked (requests_in entries))
once_one entries n once e m =
    let (none, some) = open_parts entries n e in
    by_test (n == m) refl none some (once.come m)
  where
    by_test : (b : Bool) → (n == m) ≡ b → count_of n (numbers_come (arrivals_in entries)) ≡ 0 → 1 ≤ count_of n (numbers_asked (requests_in entries))
        → count_of m (numbers_come (arrivals_in entries)) ≤ count_of m (numbers_asked (requests_in entries))
        → count_of m (numbers_come (arrivals_in entries)) + ((if b then 1 else 0) + 0) ≤ count_of m (numbers_asked (requests_in entries))
    by_test false f none some low = omega arith
    by_test true f none some low =
        let same : n ≡ m = eqb-true n m f in
        let none_m : count_of m (numbers_come (arrivals_in entries)) ≡ 0 = subst (λ (k : ℕ). count_of k (numbers_come (arrivals_in entries)) ≡ 0) same none in
        let some_m : 1 ≤ count_of m (numbers_asked (requests_in entries)) = subst (λ (k : ℕ). 1 ≤ count_of k (numbers_asked (requests_in entries))) same some in
        omega arith

-- ---- a tick

abbrev pub numbers_of : List (ℕ × ℕ) → List ℕ
numbers_of [] = []
numbers_of (sleep ∷ sleeps) = sleep.1 ∷ numbers_of sleeps

come_of : (m : ℕ) (sleeps : List (ℕ × ℕ)) → count_of m (numbers_come (map (λ sleep. completion sleep.1 Void) sleeps)) ≡ count_of m (numbers_of sleeps)
come_of m [] = refl
come_of m (sleep ∷ sleeps) = ap (λ (k : ℕ). (if sleep.1 == m then 1 else 0) + k) (come_of m sleeps)

placed : (m : ℕ) (sleep : ℕ × ℕ) (sleeps : List (ℕ × ℕ)) → count_of m (numbers_of (by_moment sleep sleeps)) ≡ count_of m (numbers_of (sleep ∷ sleeps))
placed m sleep [] = refl
placed m sleep (next ∷ sleeps) = by_test (nat_lt next.0 sleep.0) (placed m sleep sleeps)
  where
    by_test : (b : Bool) → count_of m (numbers_of (by_moment sleep sleeps)) ≡ count_of m (numbers_of (sleep ∷ sleeps))
        → count_of m (numbers_of (if b then next ∷ by_moment sleep sleeps else sleep ∷ next ∷ sleeps)) ≡ count_of m (numbers_of (sleep ∷ next ∷ sleeps))
    by_test true later = omega (arith, later)
    by_test false later = refl

sorted : (m : ℕ) (sleeps : List (ℕ × ℕ)) → count_of m (numbers_of (sorted_by_moment sleeps)) ≡ count_of m (numbers_of sleeps)
sorted m [] = refl
sorted m (sleep ∷ sleeps) = placed m sleep (sorted_by_moment sleeps) ∙ ap (λ (k : ℕ). (if sleep.1 == m then 1 else 0) + k) (sorted m sleeps)

filtered : (m : ℕ) (p : ℕ × ℕ → Bool) (sleeps : List (ℕ × ℕ)) → count_of m (numbers_of (filter p sleeps)) ≤ count_of m (numbers_of sleeps)
filtered m p [] = omega arith
filtered m p (sleep ∷ sleeps) = by_test (p sleep) (filtered m p sleeps)
  where
    by_test : (b : Bool) → count_of m (numbers_of (filter p sleeps)) ≤ count_of m (numbers_of sleeps)
        → count_of m (numbers_of (if b then sleep ∷ filter p sleeps else filter p sleeps)) ≤ count_of m (numbers_of (sleep ∷ sleeps))
    by_test true low = omega arith
    by_test false low = omega arith

-- what is over is awaited
over_awaited : (entries : List Entry) (now m : ℕ) (sleeps : List (ℕ × ℕ)) → is_awaited entries m ≡ false → count_of m (numbers_of (filter (is_sleep_over entries now) sleeps)) ≡ 0
over_awaited entries now m [] e = refl
over_awaited entries now m (sleep ∷ sleeps) e = by_test (is_sleep_over entries now sleep) refl (over_awaited entries now m sleeps e)
  where
    by_number : (b : Bool) → (sleep.1 == m) ≡ b → is_sleep_over entries now sleep ≡ true → count_of m (numbers_of (filter (is_sleep_over entries now) sleeps)) ≡ 0
        → (if b then 1 else 0) + count_of m (numbers_of (filter (is_sleep_over entries now) sleeps)) ≡ 0
    by_number false g f later = omega arith
    by_number true g f later =
        let same : sleep.1 ≡ m = eqb-true sleep.1 m g in
        let parts = and-true (nat_le sleep.0 now) (can_be_due sleep && is_awaited entries sleep.1) f in
        let more = and-true (can_be_due sleep) (is_awaited entries sleep.1) parts.1 in
        absurd (true≢false (sym more.1 ∙ ap (is_awaited entries) same ∙ e))

    by_test : (b : Bool) → is_sleep_over entries now sleep ≡ b → count_of m (numbers_of (filter (is_sleep_over entries now) sleeps)) ≡ 0
        → count_of m (numbers_of (if b then sleep ∷ filter (is_sleep_over entries now) sleeps else filter (is_sleep_over entries now) sleeps)) ≡ 0
    by_test false f later = later
    by_test true f later = by_number (sleep.1 == m) refl f later

pub numbers-append : (m : ℕ) (xs ys : List (ℕ × ℕ)) → count_of m (numbers_of (xs ++ ys)) ≡ count_of m (numbers_of xs) + count_of m (numbers_of ys)
numbers-append m [] ys = omega arith
numbers-append m (x ∷ xs) ys = let later = numbers-append m xs ys in omega arith

pub slept_one : (m : ℕ) (request : Request) → count_of m (numbers_of (sleep_in request)) ≤ count_of m (completions_asked request)
slept_one m (Request.Sleep moment n name) = omega arith
slept_one m request = omega arith

pub slept_asked : (m : ℕ) (requests : List Request) → count_of m (numbers_of (sleeps_in requests)) ≤ count_of m (numbers_asked requests)
slept_asked m [] = omega arith
slept_asked m (request ∷ requests) =
    let a = numbers-append m (sleep_in request) (sleeps_in requests) in
    let b = count-append m (completions_asked request) (numbers_asked requests) in
    let later = slept_asked m requests in
    let own = slept_one m request in
    omega arith

-- a tick ends sleeps that were asked for
pub slept_few : (entries : List Entry) (now m : ℕ) → count_of m (numbers_come (slept entries now)) ≤ count_of m (numbers_of (sleeps_in (requests_in entries)))
slept_few entries now m =
    let all = sorted_by_moment (sleeps_in (requests_in entries)) in
    let a = come_of m (filter (is_sleep_over entries now) all) in
    let b = filtered m (is_sleep_over entries now) all in
    let c = sorted m (sleeps_in (requests_in entries)) in
    omega (arith, a, b, c)

once_slept : (entries : List Entry) (now : ℕ) → AreOnce (requests_in entries) (arrivals_in entries) → (m : ℕ)
    → count_of m (numbers_come (arrivals_in entries)) + count_of m (numbers_come (slept entries now)) ≤ count_of m (numbers_asked (requests_in entries))
once_slept entries now once m =
    let all = sorted_by_moment (sleeps_in (requests_in entries)) in
    let a = come_of m (filter (is_sleep_over entries now) all) in
    let b = slept_few entries now m in
    let c = slept_asked m (requests_in entries) in
    by_awaited (list_any (completes m) (arrivals_in entries)) refl (omega (arith, b, c)) (λ e. a ∙ over_awaited entries now m all e) (once.come m)
  where
    by_awaited : (b : Bool) → list_any (completes m) (arrivals_in entries) ≡ b
        → count_of m (numbers_come (slept entries now)) ≤ count_of m (numbers_asked (requests_in entries))
        → (is_awaited entries m ≡ false → count_of m (numbers_come (slept entries now)) ≡ 0)
        → count_of m (numbers_come (arrivals_in entries)) ≤ count_of m (numbers_asked (requests_in entries))
        → count_of m (numbers_come (arrivals_in entries)) + count_of m (numbers_come (slept entries now)) ≤ count_of m (numbers_asked (requests_in entries))
    by_awaited true e low none come = let nothing = none (ap not e) in omega arith
    by_awaited false e low none come = let nothing = awaited-none m (arrivals_in entries) e in omega arith

-- ---- one more event

pub arrivals_arrived : (arrivals : List Arrival) → arrivals_in (map Arrived arrivals) ≡ arrivals
arrivals_arrived [] = refl
arrivals_arrived (arrival ∷ arrivals) = ap (λ (rest : List Arrival). arrival ∷ rest) (arrivals_arrived arrivals)

requests_arrived : (arrivals : List Arrival) → requests_in (map Arrived arrivals) ≡ []
requests_arrived [] = refl
requests_arrived (arrival ∷ arrivals) = requests_arrived arrivals

-- a read that the store answers is answered under the number that it asked for
pub read_asked : (m : ℕ) (state : StateMap) (request : Request) → count_of m (numbers_come (read_answer state request)) ≤ count_of m (completions_asked request)
read_asked m state (Request.GetLazyState key n name) = omega arith
read_asked m state (Request.GetLazyStateKeys n name) = omega arith
read_asked m state request = omega arith

some_run : (o : Option Request) → is_run o ≡ true → is_some o ≡ true
some_run None e = absurd (true≢false (sym e))
some_run (Some request) e = refl

own_added : (events : List Event) (id : Text) (event : Event) → is_of id event ≡ true → added_by events id event ≡ entries_of_event (starting_state events id) (entries_of events id) event
own_added events id event f = rw f refl

other_added : (events : List Event) (id : Text) (event : Event) → is_of id event ≡ false → is_tick event ≡ false → added_by events id event ≡ []
other_added events id event f g = rw (f, g) refl

module _ (events : List Event) (id : Text) (once : AreOnce (recorded_requests events id) (recorded_arrivals events id)) where
  now_once : (event : Event) → begins id event ≡ false → (added : List Entry) → added_by events id event ≡ added
      → AreOnce (recorded_requests events id ++ requests_in added) (recorded_arrivals events id ++ arrivals_in added)
      → AreOnce (recorded_requests (event ∷ events) id) (recorded_arrivals (event ∷ events) id)
  now_once event old added is more =
      subst (λ (requests : List Request). AreOnce requests (recorded_arrivals (event ∷ events) id)) (sym (requests_now event events id old ∙ ap (λ (e : List Entry). recorded_requests events id ++ requests_in e) is))
      (subst (λ (arrivals : List Arrival). AreOnce (recorded_requests events id ++ requests_in added) arrivals)
      (sym (arrivals_now event events id old ∙ ap (λ (e : List Entry). recorded_arrivals events id ++ arrivals_in e) is)) more)

  still_once : (event : Event) → begins id event ≡ false → added_by events id event ≡ [] → AreOnce (recorded_requests (event ∷ events) id) (recorded_arrivals (event ∷ events) id)
  still_once event old is =
      now_once event old [] is
      (subst (λ (requests : List Request). AreOnce requests (recorded_arrivals events id ++ [])) (sym (append-nil (recorded_requests events id)))
      (subst (λ (arrivals : List Arrival). AreOnce (recorded_requests events id) arrivals) (sym (append-nil (recorded_arrivals events id))) once))

  come_once : (event : Event) → begins id event ≡ false → (added : List Entry) → added_by events id event ≡ added → requests_in added ≡ []
      → ((m : ℕ) → count_of m (numbers_come (recorded_arrivals events id)) + count_of m (numbers_come (arrivals_in added)) ≤ count_of m (numbers_asked (recorded_requests events id)))
      → AreOnce (recorded_requests (event ∷ events) id) (recorded_arrivals (event ∷ events) id)
  come_once event old added is none comes =
      now_once event old added is
      (subst (λ (requests : List Request). AreOnce requests (recorded_arrivals events id ++ arrivals_in added))
      (sym (ap (λ (more : List Request). recorded_requests events id ++ more) none ∙ append-nil (recorded_requests events id)))
      (once_come (recorded_requests events id) (recorded_arrivals events id) (arrivals_in added) once comes))

  asked_once : (attempt : ℕ) (request : Request) → do_ascend (last_completion (recorded_requests events id)) (completions_asked request) ≡ true
      → AreOnce (recorded_requests (Event.Move id attempt (Frame.Command request) ∷ events) id) (recorded_arrivals (Event.Move id attempt (Frame.Command request) ∷ events) id)
  asked_once attempt request ascend =
      let state = state_after (recorded_requests events id) (starting_state events id) in
      now_once (Event.Move id attempt (Frame.Command request)) refl (Recorded request ∷ map Arrived (read_answer state request))
      (own_added events id (Event.Move id attempt (Frame.Command request)) ((bytes_eq-Decides id id).1 refl))
      (subst (λ (more : List Request). AreOnce (recorded_requests events id ++ request ∷ more) (recorded_arrivals events id ++ arrivals_in (map Arrived (read_answer state request)))) (sym (requests_arrived (read_answer state request)))
      (subst (λ (later : List Arrival). AreOnce (recorded_requests events id ++ request ∷ []) (recorded_arrivals events id ++ later)) (sym (arrivals_arrived (read_answer state request)))
      (once_more (recorded_requests events id) (request ∷ []) (recorded_arrivals events id) (read_answer state request) once asks (comes state))))
    where
      alone : (m : ℕ) → count_of m (numbers_asked (request ∷ [])) ≡ count_of m (completions_asked request)
      alone m = ap (count_of m) (append-nil (completions_asked request))

      asks : (m : ℕ) → count_of m (numbers_asked (recorded_requests events id)) + count_of m (numbers_asked (request ∷ [])) ≤ 1
      asks m = by_count (count_of m (numbers_asked (recorded_requests events id))) refl
        where
          by_count : (k : ℕ) → count_of m (numbers_asked (recorded_requests events id)) ≡ k → k + count_of m (numbers_asked (request ∷ [])) ≤ 1
          by_count zero e =
              let one = ascend-once m (last_completion (recorded_requests events id)) (completions_asked request) ascend in
              let same = alone m in
              omega arith
          by_count (suc k) e =
              let low : m ≤ last_completion (recorded_requests events id) = below-last m (recorded_requests events id) (omega arith) in
              let none = ascend-above m (last_completion (recorded_requests events id)) (completions_asked request) ascend low in
              let same = alone m in
              let one = once.asked m in
              omega arith

      comes : (state : StateMap) (m : ℕ) → count_of m (numbers_come (recorded_arrivals events id)) + count_of m (numbers_come (read_answer state request))
          ≤ count_of m (numbers_asked (recorded_requests events id)) + count_of m (numbers_asked (request ∷ []))
      comes state m =
          let a = once.come m in
          let b = read_asked m state request in
          let same = alone m in
          omega arith

  -- a signal, which no request asks for
  signal_once : (event : Event) → begins id event ≡ false → (other : Text) (arrival : Arrival)
      → (bytes_eq other id ≡ false → added_by events id event ≡ []) → (bytes_eq other id ≡ true → added_by events id event ≡ Arrived arrival ∷ [])
      → ((m : ℕ) → count_of m (numbers_come (arrival ∷ [])) ≡ 0)
      → AreOnce (recorded_requests (event ∷ events) id) (recorded_arrivals (event ∷ events) id)
  signal_once event old other arrival elsewhere here unasked = by_id (bytes_eq other id) refl
    where
      by_id : (b : Bool) → bytes_eq other id ≡ b → AreOnce (recorded_requests (event ∷ events) id) (recorded_arrivals (event ∷ events) id)
      by_id false f = still_once event old (elsewhere f)
      by_id true f = come_once event old (Arrived arrival ∷ []) (here f) refl (λ m. let low = once.come m in let none = unasked m in omega arith)

  once_step : (event : Event) → causes_of events event ≡ [] → begins id event ≡ false → AreOnce (recorded_requests (event ∷ events) id) (recorded_arrivals (event ∷ events) id)
  once_step (Event.Tick now) causes old = by_open (is_open events id) refl
    where
      by_open : (b : Bool) → is_open events id ≡ b → AreOnce (recorded_requests (Event.Tick now ∷ events) id) (recorded_arrivals (Event.Tick now ∷ events) id)
      by_open false e = still_once (Event.Tick now) old (rw e refl)
      by_open true e =
          let arrivals = slept (entries_of events id) now in
          come_once (Event.Tick now) old (map Arrived arrivals) (rw e refl) (requests_arrived arrivals)
          (λ m. subst (λ (later : List Arrival). count_of m (numbers_come (recorded_arrivals events id)) + count_of m (numbers_come later) ≤ count_of m (numbers_asked (recorded_requests events id)))
          (sym (arrivals_arrived arrivals)) (once_slept (entries_of events id) now once m))
  once_step (Event.Result other n result) causes old = by_id (bytes_eq other id) refl
    where
      opened : is_some (open_request (entries_of events other) n) ≡ true
      opened =
          not-false (is_some (open_request (entries_of events other) n))
          (holds-head (own_tests events (Event.Result other n result))
          (own_hold (not (is_some (invocation_begun events other))) (is_some (invocation_begun events other) && not (is_open events other)) Cause.UnknownInvocation Cause.InvocationClosed
          (own_tests events (Event.Result other n result)) causes))

      by_id : (b : Bool) → bytes_eq other id ≡ b → AreOnce (recorded_requests (Event.Result other n result ∷ events) id) (recorded_arrivals (Event.Result other n result ∷ events) id)
      by_id false f = still_once (Event.Result other n result) old (other_added events id (Event.Result other n result) f refl)
      by_id true f =
          come_once (Event.Result other n result) old (Arrived (completion n result) ∷ []) (own_added events id (Event.Result other n result) f) refl
          (once_one (entries_of events id) n once (subst (λ (x : Text). is_some (open_request (entries_of events x) n) ≡ true) ((bytes_eq-Decides other id).0 f) opened))
  once_step (Event.Signal other (SignalKey.ByIndex n) result) causes old =
      signal_once (Event.Signal other (SignalKey.ByIndex n) result) old other (record { id = SignalId n; result = result }) (λ f. other_added events id (Event.Signal other (SignalKey.ByIndex n) result) f refl) (own_added events id (Event.Signal other (SignalKey.ByIndex n) result)) (λ m. refl)
  once_step (Event.Signal other (SignalKey.ByName name) result) causes old =
      signal_once (Event.Signal other (SignalKey.ByName name) result) old other (record { id = SignalName name; result = result }) (λ f. other_added events id (Event.Signal other (SignalKey.ByName name) result) f refl) (own_added events id (Event.Signal other (SignalKey.ByName name) result)) (λ m. refl)
  once_step (Event.Cancel other) causes old =
      signal_once (Event.Cancel other) old other (record { id = SignalId 1; result = Void }) (λ f. other_added events id (Event.Cancel other) f refl) (own_added events id (Event.Cancel other)) (λ m. refl)
  once_step (Event.Move other attempt (Frame.Command request)) causes old = by_id (bytes_eq other id) refl
    where
      ascends : do_ascend (last_completion (recorded_requests events other)) (completions_asked request) ≡ true
      ascends =
          not-false (do_ascend (last_completion (recorded_requests events other)) (completions_asked request))
          (holds-head (tail_of (own_tests events (Event.Move other attempt (Frame.Command request))))
          (holds-tail (own_tests events (Event.Move other attempt (Frame.Command request)))
          (own_hold (not (is_some (invocation_begun events other))) (is_some (invocation_begun events other) && not (is_open events other)) Cause.UnknownInvocation Cause.InvocationClosed
          (own_tests events (Event.Move other attempt (Frame.Command request))) causes)))

      by_id : (b : Bool) → bytes_eq other id ≡ b
          → AreOnce (recorded_requests (Event.Move other attempt (Frame.Command request) ∷ events) id) (recorded_arrivals (Event.Move other attempt (Frame.Command request) ∷ events) id)
      by_id false f = still_once (Event.Move other attempt (Frame.Command request)) old (other_added events id (Event.Move other attempt (Frame.Command request)) f refl)
      by_id true f =
          let same : other ≡ id = (bytes_eq-Decides other id).0 f in
          subst (λ (x : Text). AreOnce (recorded_requests (Event.Move x attempt (Frame.Command request) ∷ events) id) (recorded_arrivals (Event.Move x attempt (Frame.Command request) ∷ events) id)) (sym same)
          (asked_once attempt request (subst (λ (x : Text). do_ascend (last_completion (recorded_requests events x)) (completions_asked request) ≡ true) same ascends))
  once_step (Event.Move other attempt (Frame.RunOutcome n value told)) causes old = by_id (bytes_eq other id) refl
    where
      opened : is_some (open_request (entries_of events other) n) ≡ true
      opened =
          some_run (open_request (entries_of events other) n)
          (not-false (is_run (open_request (entries_of events other) n))
          (holds-head (tail_of (own_tests events (Event.Move other attempt (Frame.RunOutcome n value told))))
          (holds-tail (own_tests events (Event.Move other attempt (Frame.RunOutcome n value told)))
          (own_hold (not (is_some (invocation_begun events other))) (is_some (invocation_begun events other) && not (is_open events other)) Cause.UnknownInvocation Cause.InvocationClosed
          (own_tests events (Event.Move other attempt (Frame.RunOutcome n value told))) causes))))

      by_id : (b : Bool) → bytes_eq other id ≡ b
          → AreOnce (recorded_requests (Event.Move other attempt (Frame.RunOutcome n value told) ∷ events) id) (recorded_arrivals (Event.Move other attempt (Frame.RunOutcome n value told) ∷ events) id)
      by_id false f = still_once (Event.Move other attempt (Frame.RunOutcome n value told)) old (other_added events id (Event.Move other attempt (Frame.RunOutcome n value told)) f refl)
      by_id true f =
          come_once (Event.Move other attempt (Frame.RunOutcome n value told)) old (Arrived (completion n (result_of_value value)) ∷ []) (own_added events id (Event.Move other attempt (Frame.RunOutcome n value told)) f) refl
          (once_one (entries_of events id) n once (subst (λ (x : Text). is_some (open_request (entries_of events x) n) ≡ true) ((bytes_eq-Decides other id).0 f) opened))
  once_step (Event.Move other attempt frame) causes old = still_once (Event.Move other attempt frame) old (both (bytes_eq other id || false))
    where
      both : (b : Bool) → ◌≡◌ {A = List Entry} (if b then [] else []) []
      both true = refl
      both false = refl
  once_step event causes old = still_once event old (both (is_of id event || false))
    where
      both : (b : Bool) → ◌≡◌ {A = List Entry} (if b then [] else []) []
      both true = refl
      both false = refl

pub recorded_once : (events : List Event) (id : Text) → IsAccepted events → AreOnce (recorded_requests events id) (recorded_arrivals events id)
recorded_once [] id accepted = record { asked = λ n. omega arith; come = λ n. omega arith }
recorded_once (event ∷ events) id accepted = by_begin (begins id event) refl (recorded_once events id accepted.1)
  where
    by_begin : (b : Bool) → begins id event ≡ b → AreOnce (recorded_requests events id) (recorded_arrivals events id) → AreOnce (recorded_requests (event ∷ events) id) (recorded_arrivals (event ∷ events) id)
    by_begin false e once = once_step events id once event accepted.0 e
    by_begin true e once =
        let none = entries_first event events id accepted e in
        subst (λ (requests : List Request). AreOnce requests (recorded_arrivals (event ∷ events) id)) (sym (ap requests_in none))
        (subst (λ (arrivals : List Arrival). AreOnce [] arrivals) (sym (ap arrivals_in none)) (record { asked = λ n. omega arith; come = λ n. omega arith }))
