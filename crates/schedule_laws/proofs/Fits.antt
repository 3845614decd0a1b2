-- What is recorded of an invocation of which each event fits can be told to its attempts.
use Rattle.std.proofs.Common.{◌≡◌, ◌≢◌, ℕ, zero, suc, ◌+◌, ◌/◌, ◌%◌, ◌^◌, ◌<◌, ◌≤◌, ◌==◌, arith, Bool, true, false, true≢false, not, ◌||◌, nat_le, nat_lt, if◌then◌else◌, List, [], ◌∷◌, ◌++◌, append_assoc, length, length-append, map, filter, filter_map, Option, Some, None, is_some, bytes_eq, refl, sym, ap, subst, ◌∙◌, find}
use Rattle.std.specs.List.{AllByRecursion, list_any}
use Rattle.std.proofs.lemmas.Bool.Decides.{nat_tests, Decides-eqb}
use Rattle.std.proofs.lemmas.Slice.Eq.{bytes_eq-Decides}
use Rattle.journal_model.specs.declared.invocation.NewInvocation.{NewInvocation}
use Rattle.journal_model.specs.declared.notification.NotificationId.{NotificationId}
use Rattle.journal_model.specs.declared.notification.NotificationId.TheVariants.{CompletionId}
use Rattle.journal_model.specs.declared.notification.NotificationResult.{NotificationResult}
use Rattle.journal_model.specs.Notification.{Bytes, Text, Arrival}
use Rattle.journal_model.specs.Request.{Request}
use Rattle.journal_model.specs.declared.notification.SignalKey.{SignalKey}
use Rattle.journal_model.specs.State.{StateMap, value_of_key, state_keys, state_after}
use Rattle.journal_model.specs.Value.{result_of_value}
use Rattle.journal_model.specs.Delivery.{value_or_void}
use Rattle.journal_model.specs.Spelling.{varint, varint_groups, input_payload, request_payload, notification_payload}
use Rattle.journal_model.specs.declared.value.NonEmptyValue.{NonEmptyValue}
use Rattle.journal_model.specs.Event.{Event, Frame}
use Rattle.journal_model.specs.Journal.{Entry, Recorded, Arrived, is_of, is_open, begins, invoked_by, invocation_begun, starting_state, entries_of, requests_in, arrivals_in, recorded_arrivals, completion, id_of_signal, asks_for, request_asking, is_awaited, open_request, sleeps_in, by_moment, sorted_by_moment, is_sleep_over, slept, read_answer}
use Rattle.journal_model.specs.Cause.{causes_of, tests_of, own_tests, is_run, entry_payload, is_too_long, IsAccepted}
use Rattle.journal_laws.proofs.ObjectState.{tail_of, holds-head, holds-tail, begun_before, find-passes, not-false, open_when_accepted, requests_in-append}
use Rattle.input_laws.specs.Message.{InputMessage, CarriesInput, CarriesRequest, CarriesArrival, CarriesOutcome, arrivals_carried, IsBroughtBy}
use Rattle.input_laws.proofs.Events.{added_by, entries_now, entries_first, unborn_open}
use Rattle.input_laws.proofs.Telling.{arrivals_carried-append}
use Rattle.live_laws.proofs.Recording.{own_passes}
use Rattle.vm_request_laws.specs.RequestBounds.{RequestFits}
use Rattle.vm_input_laws.proofs.Arrivals.{of_asked}
use Rattle.vm_input_laws.specs.MessagesBehindJournal.{ArrivalFits, IsCompletionAsked, IsNotificationType, MayCome}
use Rattle.schedule_model.specs.ArgumentBounds.{InvocationFits, ResultFits, signal_arrival, cancellation}
use Rattle.schedule_laws.specs.EventBounds.{AcceptedFits, EventsFit}
use Rattle.schedule_laws.specs.FittingLaws.{MessagesMayCome, UnbornFit}

-- ---- ids

pub apart : (other id : Text) → bytes_eq other id ≡ false → other ≢ id
apart other id e same = true≢false (sym ((bytes_eq-Decides other id).1 same) ∙ e)

pub not_same : (other id : Text) → other ≢ id → bytes_eq other id ≡ false
not_same other id far = by_test (bytes_eq other id) refl
  where
    by_test : (b : Bool) → bytes_eq other id ≡ b → bytes_eq other id ≡ false
    by_test true e = absurd (far ((bytes_eq-Decides other id).0 e))
    by_test false e = e

pub other_fits : (id : Text) (event : Event) → is_of id event ≡ false → AcceptedFits id event
other_fits id (Event.Invoke new) e = λ same. absurd (apart new.id id e same)
other_fits id (Event.Result other n value) e = λ same. absurd (apart other id e same)
other_fits id (Event.Signal other key value) e = λ same. absurd (apart other id e same)
other_fits id (Event.Begin other now) e = λ same. absurd (apart other id e same)
other_fits id (Event.Move other attempt frame) e = λ same. absurd (apart other id e same)
other_fits id event e = tt

-- ---- an invocation that was not begun has no events

closed_fits : (id : Text) (event : Event) (events : List Event) → invoked_by event ≡ None → causes_of events event ≡ [] → invocation_begun events id ≡ None → AcceptedFits id event
closed_fits id event events old causes unborn = by_id (is_of id event) refl
  where
    by_id : (b : Bool) → is_of id event ≡ b → AcceptedFits id event
    by_id true e = absurd (true≢false (sym (open_when_accepted events event id old e causes) ∙ unborn_open events id unborn))
    by_id false e = other_fits id event e

pub unborn_fits : UnbornFit
unborn_fits id [] accepted unborn = tt
unborn_fits id (Event.Invoke new ∷ earlier) accepted unborn = by_id (bytes_eq new.id id) refl unborn (unborn_fits id earlier accepted.1)
  where
    by_id : (b : Bool) → bytes_eq new.id id ≡ b → (if b then Some new else invocation_begun earlier id) ≡ None → (invocation_begun earlier id ≡ None → EventsFit id earlier)
        → EventsFit id (Event.Invoke new ∷ earlier)
    by_id true e is later = cc
    by_id false e is later = (λ same. absurd (apart new.id id e same), later is)
unborn_fits id (event ∷ earlier) accepted unborn =
    let before : invocation_begun earlier id ≡ None = sym (begun_before event earlier id refl) ∙ unborn in
    (closed_fits id event earlier refl accepted.0 before, unborn_fits id earlier accepted.1 before)

-- ---- the invocation itself

pub invocation_fits : (id : Text) (events : List Event) (new : NewInvocation) → EventsFit id events → invocation_begun events id ≡ Some new → InvocationFits new
invocation_fits id [] new fits e = absurd cc
invocation_fits id (Event.Invoke one ∷ earlier) new fits e = by_name (bytes_eq one.id id) refl e (invocation_fits id earlier new fits.1)
  where
    by_name : (b : Bool) → bytes_eq one.id id ≡ b → (if b then Some one else invocation_begun earlier id) ≡ Some new → (invocation_begun earlier id ≡ Some new → InvocationFits new) → InvocationFits new
    by_name true same is later = let it : one ≡ new = cc in subst InvocationFits it (fits.0 ((bytes_eq-Decides one.id id).0 same))
    by_name false far is later = later is
invocation_fits id (event ∷ earlier) new fits e = invocation_fits id earlier new fits.1 (sym (begun_before event earlier id refl) ∙ e)

pub not_long : (n : ℕ) → nat_le (2 ^ 32) n ≡ false → n < 2 ^ 32
not_long n e = grind (arith, nat_tests)

pub has_own_id : (events : List Event) (id : Text) (new : NewInvocation) → invocation_begun events id ≡ Some new → new.id ≡ id
has_own_id events id new e =
    (bytes_eq-Decides new.id id).0 (find-passes (λ (one : NewInvocation). bytes_eq one.id id) (filter_map invoked_by events) new e)

pub input_short : (events : List Event) → IsAccepted events → (id : Text) (new : NewInvocation) → invocation_begun events id ≡ Some new → length (input_payload new.headers new.input) < 2 ^ 32
input_short [] accepted id new e = absurd cc
input_short (Event.Invoke one ∷ earlier) accepted id new e = by_name (bytes_eq one.id id) e (input_short earlier accepted.1 id new)
  where
    short : length (input_payload one.headers one.input) < 2 ^ 32
    short =
        let tests = own_tests earlier (Event.Invoke one) in
        not_long (length (input_payload one.headers one.input))
        (holds-head (tail_of (tail_of (tail_of (tail_of tests))))
        (holds-tail (tail_of (tail_of (tail_of tests))) (holds-tail (tail_of (tail_of tests)) (holds-tail (tail_of tests) (holds-tail tests accepted.0)))))

    by_name : (b : Bool) → (if b then Some one else invocation_begun earlier id) ≡ Some new
        → (invocation_begun earlier id ≡ Some new → length (input_payload new.headers new.input) < 2 ^ 32) → length (input_payload new.headers new.input) < 2 ^ 32
    by_name true is later = let same : one ≡ new = cc in subst (λ (x : NewInvocation). length (input_payload x.headers x.input) < 2 ^ 32) same short
    by_name false is later = later is
input_short (event ∷ earlier) accepted id new e = input_short earlier accepted.1 id new (sym (begun_before event earlier id refl) ∙ e)

-- ---- its entries

-- an arrival that can be told, behind these entries
pub record ArrivalCome (all : List Entry) (arrival : Arrival) : Type 0 where
  pub fits : ArrivalFits arrival
  pub asked : IsCompletionAsked all arrival.id

abbrev pub EntryFits : List Entry → Entry → Type 0
EntryFits all (Recorded request) = RequestFits request
EntryFits all (Arrived arrival) = ArrivalCome all arrival

any_more : (test : Request → Bool) (some more : List Request) → list_any test some ≡ true → list_any test (some ++ more) ≡ true
any_more test [] more e = absurd (true≢false (sym e))
any_more test (request ∷ some) more e = by_test (test request) e (any_more test some more)
  where
    by_test : (b : Bool) → (b || list_any test some) ≡ true → (list_any test some ≡ true → list_any test (some ++ more) ≡ true) → (b || list_any test (some ++ more)) ≡ true
    by_test true e later = refl
    by_test false e later = later e

asked_more : (all more : List Entry) (id : NotificationId) → IsCompletionAsked all id → IsCompletionAsked (all ++ more) id
asked_more all more (CompletionId n) asked =
    ap (λ (requests : List Request). list_any (asks_for n) requests) (requests_in-append all more) ∙ any_more (asks_for n) (requests_in all) (requests_in more) asked
asked_more all more _ asked = tt

entry_more : (all more : List Entry) (entry : Entry) → EntryFits all entry → EntryFits (all ++ more) entry
entry_more all more (Recorded request) fits = fits
entry_more all more (Arrived arrival) fits = record { fits = fits.fits; asked = asked_more all more arrival.id fits.asked }

entries_more : (all more entries : List Entry) → AllByRecursion (EntryFits all) entries → AllByRecursion (EntryFits (all ++ more)) entries
entries_more all more [] fit = tt
entries_more all more (entry ∷ entries) fit = (entry_more all more entry fit.0, entries_more all more entries fit.1)

pub all_both : {A : Type 0} (P : A → Type 0) (xs ys : List A) → AllByRecursion P xs → AllByRecursion P ys → AllByRecursion P (xs ++ ys)
all_both P [] ys a b = b
all_both P (x ∷ xs) ys a b = (a.0, all_both P xs ys a.1 b)

pub all_behind : {A : Type 0} (P : A → Type 0) (xs ys : List A) → AllByRecursion P (xs ++ ys) → AllByRecursion P ys
all_behind P [] ys all = all
all_behind P (x ∷ xs) ys all = all_behind P xs ys all.1

-- ---- a tick

-- a sleep that was asked for
pub record SleepFits (all : List Entry) (sleep : ℕ × ℕ) : Type 0 where
  pub small : sleep.1 < 2 ^ 32
  pub asked : list_any (asks_for sleep.1) (requests_in all) ≡ true

moment_more : (P : ℕ × ℕ → Type 0) (sleep : ℕ × ℕ) (sleeps : List (ℕ × ℕ)) → P sleep → AllByRecursion P sleeps → AllByRecursion P (by_moment sleep sleeps)
moment_more P sleep [] one all = (one, tt)
moment_more P sleep (next ∷ sleeps) one all = by_test (nat_lt next.0 sleep.0) (moment_more P sleep sleeps one all.1)
  where
    by_test : (b : Bool) → AllByRecursion P (by_moment sleep sleeps) → AllByRecursion P (if b then next ∷ by_moment sleep sleeps else sleep ∷ next ∷ sleeps)
    by_test true later = (all.0, later)
    by_test false later = (one, all)

sorted_all : (P : ℕ × ℕ → Type 0) (sleeps : List (ℕ × ℕ)) → AllByRecursion P sleeps → AllByRecursion P (sorted_by_moment sleeps)
sorted_all P [] all = tt
sorted_all P (sleep ∷ sleeps) all = moment_more P sleep (sorted_by_moment sleeps) all.0 (sorted_all P sleeps all.1)

filter_all : (P : ℕ × ℕ → Type 0) (test : ℕ × ℕ → Bool) (sleeps : List (ℕ × ℕ)) → AllByRecursion P sleeps → AllByRecursion P (filter test sleeps)
filter_all P test [] all = tt
filter_all P test (sleep ∷ sleeps) all = by_test (test sleep) (filter_all P test sleeps all.1)
  where
    by_test : (b : Bool) → AllByRecursion P (filter test sleeps) → AllByRecursion P (if b then sleep ∷ filter test sleeps else filter test sleeps)
    by_test true later = (all.0, later)
    by_test false later = later

groups_few : (k n : ℕ) → length (varint_groups k n) ≤ k
groups_few zero n = omega arith
groups_few (suc k) n = by_test (nat_lt n 128) (groups_few k (n / 128))
  where
    by_test : (b : Bool) → length (varint_groups k (n / 128)) ≤ k → length (if b then n ∷ [] else (n % 128 + 128) ∷ varint_groups k (n / 128)) ≤ suc k
    by_test true later = omega arith
    by_test false later = omega (arith, later)

varint_few : (n : ℕ) → length (varint n) ≤ 10
varint_few n = groups_few 10 n

-- a completion without a value is told in a few bytes
void_short : (n : ℕ) → length (notification_payload (completion n NotificationResult.Void)) < 2 ^ 32
void_short n =
    let a = length-append (varint 8 ++ varint n) (varint 34 ++ (varint 0 ++ [])) in
    let b = length-append (varint 8) (varint n) in
    let c = length-append (varint 34) (varint 0 ++ []) in
    let d = length-append (varint 0) [] in
    omega (arith, a, b, c, d, varint_few 8, varint_few n, varint_few 34, varint_few 0)

sleep_over : (all : List Entry) (sleep : ℕ × ℕ) → SleepFits all sleep → ArrivalCome all (completion sleep.1 NotificationResult.Void)
sleep_over all sleep fits = record {
  fits = record { fits = record { level = omega arith; id = fits.small; result = record { level = omega arith } }; short = void_short sleep.1 };
  asked = fits.asked;
}

sleeps_over : (all : List Entry) (sleeps : List (ℕ × ℕ)) → AllByRecursion (SleepFits all) sleeps
    → AllByRecursion (EntryFits all) (map Arrived (map (λ (sleep : ℕ × ℕ). completion sleep.1 NotificationResult.Void) sleeps))
sleeps_over all [] fit = tt
sleeps_over all (sleep ∷ sleeps) fit = (sleep_over all sleep fit.0, sleeps_over all sleeps fit.1)

itself_asked : (n : ℕ) → ((n == n) || false) ≡ true
itself_asked n = ap (λ (b : Bool). b || false) ((Decides-eqb n n).1 refl)

any_behind : (test : Request → Bool) (request : Request) (requests : List Request) → list_any test requests ≡ true → list_any test (request ∷ requests) ≡ true
any_behind test request requests e = by_test (test request)
  where
    by_test : (b : Bool) → (b || list_any test requests) ≡ true
    by_test true = refl
    by_test false = e

any_first : (test : Request → Bool) (request : Request) (requests : List Request) → test request ≡ true → list_any test (request ∷ requests) ≡ true
any_first test request requests e = ap (λ (b : Bool). b || list_any test requests) e

sleeps_fit : (all : List Entry) (requests : List Request) → AllByRecursion RequestFits requests
    → ((n : ℕ) → list_any (asks_for n) requests ≡ true → list_any (asks_for n) (requests_in all) ≡ true) → AllByRecursion (SleepFits all) (sleeps_in requests)
sleeps_fit all [] fit among = tt
sleeps_fit all (Request.Sleep moment n name ∷ requests) fit among = (
  record { small = fit.0.fits.result_completion_id; asked = among n (any_first (asks_for n) (Request.Sleep moment n name) requests (itself_asked n)) },
  sleeps_fit all requests fit.1 (λ m e. among m (any_behind (asks_for m) (Request.Sleep moment n name) requests e)),
)
sleeps_fit all (request ∷ requests) fit among = sleeps_fit all requests fit.1 (λ m e. among m (any_behind (asks_for m) request requests e))

requests_fit : (all entries : List Entry) → AllByRecursion (EntryFits all) entries → AllByRecursion RequestFits (requests_in entries)
requests_fit all [] fit = tt
requests_fit all (Recorded request ∷ entries) fit = (fit.0, requests_fit all entries fit.1)
requests_fit all (Arrived arrival ∷ entries) fit = requests_fit all entries fit.1

slept_fit : (all : List Entry) (now : ℕ) → AllByRecursion (EntryFits all) all → AllByRecursion (EntryFits all) (map Arrived (slept all now))
slept_fit all now fit =
    let sleeps = sleeps_fit all (requests_in all) (requests_fit all all fit) (λ n e. e) in
    sleeps_over all (filter (is_sleep_over all now) (sorted_by_moment (sleeps_in (requests_in all))))
    (filter_all (SleepFits all) (is_sleep_over all now) (sorted_by_moment (sleeps_in (requests_in all))) (sorted_all (SleepFits all) (sleeps_in (requests_in all)) sleeps))

-- ---- what one event adds

if_adds : (P : Entry → Type 0) (b : Bool) (xs : List Entry) → (b ≡ true → AllByRecursion P xs) → AllByRecursion P (if b then xs else [])
if_adds P true xs all = all refl
if_adds P false xs all = tt

or_false : (b : Bool) → (b || false) ≡ true → b ≡ true
or_false true e = refl
or_false false e = e

found_any : (test : Request → Bool) (requests : List Request) → is_some (find test requests) ≡ true → list_any test requests ≡ true
found_any test [] e = e
found_any test (request ∷ requests) e = by_test (test request) e (found_any test requests)
  where
    by_test : (b : Bool) → is_some (if b then Some request else find test requests) ≡ true → (is_some (find test requests) ≡ true → list_any test requests ≡ true) → (b || list_any test requests) ≡ true
    by_test true e later = refl
    by_test false e later = later e

open_asks : (entries : List Entry) (n : ℕ) → is_some (open_request entries n) ≡ true → list_any (asks_for n) (requests_in entries) ≡ true
open_asks entries n e = found_any (asks_for n) (requests_in entries) (by_test (is_awaited entries n) e)
  where
    by_test : (b : Bool) → is_some (if b then request_asking entries n else None) ≡ true → is_some (request_asking entries n) ≡ true
    by_test true e = e
    by_test false e = absurd (true≢false (sym e))

-- ---- the answer of a lazy read, which stands behind its request

any_after : (test : Request → Bool) (some more : List Request) → list_any test more ≡ true → list_any test (some ++ more) ≡ true
any_after test [] more e = e
any_after test (request ∷ some) more e = any_behind test request (some ++ more) (any_after test some more e)

value_fits : (n : ℕ) (found : Option Bytes) → n < 2 ^ 32 → ResultFits (completion n (value_or_void found))
value_fits n None small = record { level = omega arith; id = small; result = record { level = omega arith } }
value_fits n (Some bytes) small = record { level = omega arith; id = small; result = record { level = omega arith } }

-- of what a command adds no payload passes 32 bits
answer_short : (long answer_long : Bool) → (long || (answer_long || false)) ≡ false → answer_long ≡ false
answer_short true answer_long e = absurd (true≢false e)
answer_short false true e = absurd (true≢false e)
answer_short false false e = refl

answer_come : (all : List Entry) (request : Request) (n : ℕ) (value : NotificationResult) → asks_for n request ≡ true → ResultFits (completion n value)
    → (is_too_long (request_payload request) || (is_too_long (notification_payload (completion n value)) || false)) ≡ false
    → ArrivalCome (all ++ Recorded request ∷ Arrived (completion n value) ∷ []) (completion n value)
answer_come all request n value asks fits long = record {
  fits = record {
    fits = fits;
    short = not_long (length (notification_payload (completion n value))) (answer_short (is_too_long (request_payload request)) (is_too_long (notification_payload (completion n value))) long);
  };
  asked =
      ap (λ (requests : List Request). list_any (asks_for n) requests) (requests_in-append all (Recorded request ∷ Arrived (completion n value) ∷ []))
      ∙ any_after (asks_for n) (requests_in all) (request ∷ []) (any_first (asks_for n) request [] asks);
}

command_fits : (all : List Entry) (state : StateMap) (request : Request) → RequestFits request
    → list_any (λ entry. is_too_long (entry_payload entry)) (Recorded request ∷ map Arrived (read_answer state request)) ≡ false
    → AllByRecursion (EntryFits (all ++ Recorded request ∷ map Arrived (read_answer state request))) (Recorded request ∷ map Arrived (read_answer state request))
command_fits all state (Request.GetLazyState key n name) fits long = (
  fits,
  (
    answer_come all (Request.GetLazyState key n name) n (value_or_void (value_of_key state key)) (itself_asked n) (value_fits n (value_of_key state key) fits.fits.result_completion_id) long,
    tt,
  ),
)
command_fits all state (Request.GetLazyStateKeys n name) fits long = (
  fits,
  (
    answer_come all (Request.GetLazyStateKeys n name) n (NotificationResult.StateKeys (state_keys state)) (itself_asked n)
        (record { level = omega arith; id = fits.fits.result_completion_id; result = record { level = omega arith } }) long,
    tt,
  ),
)
command_fits all state request fits long = (fits, tt)

-- a signal is asked for by none
signal_asked : (all : List Entry) (key : SignalKey) → IsCompletionAsked all (id_of_signal key)
signal_asked all (SignalKey.ByIndex n) = tt
signal_asked all (SignalKey.ByName name) = tt

run_some : (o : Option Request) → is_run o ≡ true → is_some o ≡ true
run_some None e = absurd (true≢false (sym e))
run_some (Some request) e = refl

either : (b : Bool) → (b || false) ≡ false → b ≡ false
either true e = e
either false e = refl

module _ (id : Text) (events : List Event) where
  abbrev all : List Entry
  all = entries_of events id

  completed : (n : ℕ) (value : NotificationResult) → causes_of events (Event.Result id n value) ≡ [] → ResultFits (completion n value) → ArrivalCome all (completion n value)
  completed n value causes fits =
      let tests = tests_of events (Event.Result id n value) in
      let one = holds-tail (tail_of tests) (holds-tail tests causes) in
      let opened : not (is_some (open_request all n)) ≡ false = holds-head (tail_of (tail_of tests)) one in
      let long : (is_too_long (notification_payload (completion n value)) || false) ≡ false =
      holds-head (tail_of (tail_of (tail_of (tail_of (tail_of tests)))))
      (holds-tail (tail_of (tail_of (tail_of (tail_of tests)))) (holds-tail (tail_of (tail_of (tail_of tests))) (holds-tail (tail_of (tail_of tests)) one))) in
      record {
        fits = record { fits = fits; short = not_long (length (notification_payload (completion n value))) (either (is_too_long (notification_payload (completion n value))) long) };
        asked = open_asks all n (not-false (is_some (open_request all n)) opened);
      }

  signalled : (key : SignalKey) (value : NotificationResult) → causes_of events (Event.Signal id key value) ≡ [] → ResultFits (signal_arrival key value) → ArrivalCome all (signal_arrival key value)
  signalled key value causes fits =
      let tests = tests_of events (Event.Signal id key value) in
      let long : (is_too_long (notification_payload (signal_arrival key value)) || false) ≡ false =
      holds-head (tail_of (tail_of (tail_of (tail_of (tail_of tests)))))
      (holds-tail (tail_of (tail_of (tail_of (tail_of tests)))) (holds-tail (tail_of (tail_of (tail_of tests))) (holds-tail (tail_of (tail_of tests)) (holds-tail (tail_of tests) (holds-tail tests causes))))) in
      record {
        fits = record { fits = fits; short = not_long (length (notification_payload (signal_arrival key value))) (either (is_too_long (notification_payload (signal_arrival key value))) long) };
        asked = signal_asked all key;
      }

  cancelled : ArrivalCome all cancellation
  cancelled = record { fits = record { fits = record { level = omega arith; id = omega arith; result = record { level = omega arith } }; short = omega arith }; asked = tt }

  -- the outcome of a run that is open
  run_ended : (attempt n : ℕ) (value : NonEmptyValue) (told : Bool) → causes_of events (Event.Move id attempt (Frame.RunOutcome n value told)) ≡ [] → ResultFits (completion n (result_of_value value))
      → ArrivalCome all (completion n (result_of_value value))
  run_ended attempt n value told causes fits =
      let tests = own_tests events (Event.Move id attempt (Frame.RunOutcome n value told)) in
      let own = holds-tail tests (own_passes events (Event.Move id attempt (Frame.RunOutcome n value told)) id causes) in
      let opened : not (is_run (open_request all n)) ≡ false = holds-head (tail_of tests) own in
      let long : (is_too_long (notification_payload (completion n (result_of_value value))) || false) ≡ false =
      holds-head (tail_of (tail_of (tail_of tests))) (holds-tail (tail_of (tail_of tests)) (holds-tail (tail_of tests) own)) in
      record {
        fits = record {
          fits = fits;
          short = not_long (length (notification_payload (completion n (result_of_value value)))) (either (is_too_long (notification_payload (completion n (result_of_value value)))) long);
        };
        asked = open_asks all n (run_some (open_request all n) (not-false (is_run (open_request all n)) opened));
      }

  own_command : (attempt : ℕ) (request : Request) → causes_of events (Event.Move id attempt (Frame.Command request)) ≡ [] → RequestFits request
      → let added = Recorded request ∷ map Arrived (read_answer (state_after (requests_in all) (starting_state events id)) request) in AllByRecursion (EntryFits (all ++ added)) added
  own_command attempt request causes fits =
      let tests = own_tests events (Event.Move id attempt (Frame.Command request)) in
      command_fits all (state_after (requests_in all) (starting_state events id)) request fits
      (holds-head (tail_of (tail_of (tail_of (tail_of tests))))
      (holds-tail (tail_of (tail_of (tail_of tests)))
      (holds-tail (tail_of (tail_of tests)) (holds-tail (tail_of tests) (holds-tail tests (own_passes events (Event.Move id attempt (Frame.Command request)) id causes))))))

  -- it fits over all entries with its own: the answer of a lazy read is asked for by the request in front of it
  added_fit : (event : Event) → causes_of events event ≡ [] → AcceptedFits id event → AllByRecursion (EntryFits all) all → AllByRecursion (EntryFits (all ++ added_by events id event)) (added_by events id event)
  added_fit (Event.Result other n value) causes fits before =
      if_adds (EntryFits (all ++ added_by events id (Event.Result other n value))) (bytes_eq other id || false) (Arrived (completion n value) ∷ [])
      (λ e. let same : other ≡ id = (bytes_eq-Decides other id).0 (or_false (bytes_eq other id) e) in
      entries_more all (added_by events id (Event.Result other n value)) (Arrived (completion n value) ∷ [])
      (completed n value (subst (λ (x : Text). causes_of events (Event.Result x n value) ≡ []) same causes) (fits same), tt))
  added_fit (Event.Signal other key value) causes fits before =
      if_adds (EntryFits (all ++ added_by events id (Event.Signal other key value))) (bytes_eq other id || false) (Arrived (signal_arrival key value) ∷ [])
      (λ e. let same : other ≡ id = (bytes_eq-Decides other id).0 (or_false (bytes_eq other id) e) in
      entries_more all (added_by events id (Event.Signal other key value)) (Arrived (signal_arrival key value) ∷ [])
      (signalled key value (subst (λ (x : Text). causes_of events (Event.Signal x key value) ≡ []) same causes) (fits same), tt))
  added_fit (Event.Cancel other) causes fits before =
      if_adds (EntryFits (all ++ added_by events id (Event.Cancel other))) (bytes_eq other id || false) (Arrived cancellation ∷ [])
      (λ e. entries_more all (added_by events id (Event.Cancel other)) (Arrived cancellation ∷ []) (cancelled, tt))
  added_fit (Event.Tick now) causes fits before =
      if_adds (EntryFits (all ++ added_by events id (Event.Tick now))) (is_open events id) (map Arrived (slept all now))
      (λ e. entries_more all (added_by events id (Event.Tick now)) (map Arrived (slept all now)) (slept_fit all now before))
  added_fit (Event.Move other attempt (Frame.Command request)) causes fits before =
      let added = Recorded request ∷ map Arrived (read_answer (state_after (requests_in all) (starting_state events id)) request) in
      if_adds (EntryFits (all ++ added_by events id (Event.Move other attempt (Frame.Command request)))) (bytes_eq other id || false) added
      (λ e. let same : other ≡ id = (bytes_eq-Decides other id).0 (or_false (bytes_eq other id) e) in
      subst (λ (more : List Entry). AllByRecursion (EntryFits (all ++ more)) added) (sym (ap (λ (b : Bool). if b then added else []) e))
      (own_command attempt request (subst (λ (x : Text). causes_of events (Event.Move x attempt (Frame.Command request)) ≡ []) same causes) (fits same)))
  added_fit (Event.Move other attempt (Frame.RunOutcome n value is_acknowledged)) causes fits before =
      if_adds (EntryFits (all ++ added_by events id (Event.Move other attempt (Frame.RunOutcome n value is_acknowledged)))) (bytes_eq other id || false)
      (Arrived (completion n (result_of_value value)) ∷ [])
      (λ e. let same : other ≡ id = (bytes_eq-Decides other id).0 (or_false (bytes_eq other id) e) in
      entries_more all (added_by events id (Event.Move other attempt (Frame.RunOutcome n value is_acknowledged))) (Arrived (completion n (result_of_value value)) ∷ [])
      (run_ended attempt n value is_acknowledged (subst (λ (x : Text). causes_of events (Event.Move x attempt (Frame.RunOutcome n value is_acknowledged)) ≡ []) same causes) (fits same), tt))
  added_fit (Event.Move other attempt frame) causes fits before = if_adds (EntryFits (all ++ added_by events id (Event.Move other attempt frame))) (bytes_eq other id || false) [] (λ e. tt)
  added_fit event causes fits before = if_adds (EntryFits (all ++ added_by events id event)) (is_of id event || false) [] (λ e. tt)

pub entries_fit : (id : Text) (events : List Event) → IsAccepted events → EventsFit id events → AllByRecursion (EntryFits (entries_of events id)) (entries_of events id)
entries_fit id [] accepted fits = tt
entries_fit id (event ∷ events) accepted fits = by_begins (begins id event) refl (entries_fit id events accepted.1 fits.1)
  where
    by_begins : (b : Bool) → begins id event ≡ b → AllByRecursion (EntryFits (entries_of events id)) (entries_of events id)
        → AllByRecursion (EntryFits (entries_of (event ∷ events) id)) (entries_of (event ∷ events) id)
    by_begins true e before = subst (λ (entries : List Entry). AllByRecursion (EntryFits entries) entries) (sym (entries_first event events id accepted e)) tt
    by_begins false e before =
        let added = added_fit id events event accepted.0 fits.0 before in
        subst (λ (entries : List Entry). AllByRecursion (EntryFits entries) entries) (sym (entries_now event events id e))
        (all_both (EntryFits (entries_of events id ++ added_by events id event)) (entries_of events id) (added_by events id event)
        (entries_more (entries_of events id) (added_by events id event) (entries_of events id) before) added)

-- ---- what comes to the attempt

arrivals_come : (among entries : List Entry) → AllByRecursion (EntryFits among) entries → AllByRecursion (ArrivalCome among) (arrivals_in entries)
arrivals_come among [] fit = tt
arrivals_come among (Recorded request ∷ entries) fit = arrivals_come among entries fit.1
arrivals_come among (Arrived arrival ∷ entries) fit = (fit.0, arrivals_come among entries fit.1)

pub recorded_come : (id : Text) (events : List Event) → IsAccepted events → EventsFit id events → AllByRecursion (ArrivalCome (entries_of events id)) (recorded_arrivals events id)
recorded_come id events accepted fits = arrivals_come (entries_of events id) (entries_of events id) (entries_fit id events accepted fits)

-- an outcome that is acknowledged was taken, so its number can be told
outcome_small : (entries : List Entry) (id : Text) (event : Event) (number : ℕ) (value : NonEmptyValue) → AcceptedFits id event → IsBroughtBy entries id event (CarriesOutcome number value) → number < 2 ^ 32
outcome_small entries id (Event.Move other attempt (Frame.RunOutcome taken outcome true)) number value fits brought =
    subst (λ (n : ℕ). n < 2 ^ 32) brought.1 (fits ((bytes_eq-Decides other id).0 brought.0)).id
outcome_small entries id event number value fits brought = absurd brought

no_request : (entries : List Entry) (id : Text) (event : Event) (request : Request) → IsBroughtBy entries id event (CarriesRequest request) → ⊥
no_request entries id event request brought = absurd brought

no_input : (entries : List Entry) (id : Text) (event : Event) (new : NewInvocation) → IsBroughtBy entries id event (CarriesInput new) → ⊥
no_input entries id event new brought = absurd brought

come : (entries : List Entry) (id : Text) (event : Event) (more : List InputMessage) → AcceptedFits id event → AllByRecursion (IsBroughtBy entries id event) more
    → AllByRecursion (ArrivalCome entries) (arrivals_carried more) → AllByRecursion MayCome more
come entries id event [] fits brought arrivals = tt
come entries id event (CarriesArrival ty arrival ∷ more) fits brought arrivals = (
  (arrivals.0.fits, subst IsNotificationType (sym brought.0) (of_asked entries arrival.id arrivals.0.asked)),
  come entries id event more fits brought.1 arrivals.1,
)
come entries id event (CarriesOutcome number value ∷ more) fits brought arrivals = (outcome_small entries id event number value fits brought.0, come entries id event more fits brought.1 arrivals.1)
come entries id event (CarriesRequest request ∷ more) fits brought arrivals = absurd (no_request entries id event request brought.0)
come entries id event (CarriesInput new ∷ more) fits brought arrivals = absurd (no_input entries id event new brought.0)

pub may_come : MessagesMayCome
may_come next options fallback_seed id event events live unread more parts accepted typed lives brought =
    let entries = entries_of (event ∷ events) id in
    let all_come : AllByRecursion (ArrivalCome entries) (arrivals_carried (live.read ++ live.unread)) =
    subst (λ (arrivals : List Arrival). AllByRecursion (ArrivalCome entries) arrivals) (sym lives.reads.all.arrivals) (recorded_come id (event ∷ events) accepted typed) in
    let parted : arrivals_carried (live.read ++ live.unread) ≡ arrivals_carried (live.read ++ unread) ++ arrivals_carried more =
    ap (λ (some : List InputMessage). arrivals_carried (live.read ++ some)) parts ∙ ap arrivals_carried (sym (append_assoc live.read unread more)) ∙ arrivals_carried-append (live.read ++ unread) more in
    come entries id event more typed.0 brought
    (all_behind (ArrivalCome entries) (arrivals_carried (live.read ++ unread)) (arrivals_carried more)
    (subst (λ (arrivals : List Arrival). AllByRecursion (ArrivalCome entries) arrivals) parted all_come))
