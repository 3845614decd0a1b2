-- While an invocation is open, its object's state is what its recorded requests make of the state at its start.
use Rattle.std.proofs.Common.{true≢false, ◌≡◌, refl, sym, ap, ap₂, subst, ◌∙◌, ℕ, Bool, true, false, not, ◌&&◌, ◌||◌, if◌then◌else◌, List, [], ◌∷◌, ◌++◌, append-nil, map, filter, filter_map, Option, Some, None, is_some, option_map, unwrap_or, bytes_eq}
use Rattle.std.specs.List.{list_any, find, cons_option}
use Rattle.std.proofs.lemmas.Slice.Eq.{bytes_eq-Decides}
use Rattle.journal_model.specs.Notification.{Text, Arrival}
use Rattle.journal_model.specs.Request.{Request}
use Rattle.journal_model.specs.State.{StateMap, state_after}
use Rattle.journal_model.specs.declared.invocation.NewInvocation.{NewInvocation}
use Rattle.journal_model.specs.Event.{Frame, Event}
use Rattle.journal_model.specs.Journal.{Entry, Recorded, Arrived, invocation_of, is_text, is_of, is_tick, invoked_by, invocation_begun, closes, frame_of, frames_of, is_open, is_busy, request_of_frame, object_of, requests_for, edits_of, object_state, starting_state, requests_in, slept, read_answer, entries_of_event, entries_added, entries_from, entries_of, recorded_requests}
use Rattle.journal_model.specs.Cause.{Tests, those_that_hold, open_tests, own_tests, causes_of, IsAccepted}
use Rattle.journal_model.specs.declared.cause.Cause.{Cause}
use Rattle.journal_laws.proofs.Applying.{state_after-append}

-- no cause holds of tests none of which holds
holds-none : (b : Bool) (cause : Cause) (tests : Tests) → those_that_hold ((b, cause) ∷ tests) ≡ [] → (b ≡ false) × (those_that_hold tests ≡ [])
holds-none true cause tests e = cc
holds-none false cause tests e = (refl, e)

abbrev pub tail_of : Tests → Tests
tail_of [] = []
tail_of (test ∷ tests) = tests

abbrev pub head_of : Tests → Bool
head_of [] = false
head_of (test ∷ tests) = test.0

pub holds-head : (tests : Tests) → those_that_hold tests ≡ [] → head_of tests ≡ false
holds-head [] e = refl
holds-head (test ∷ tests) e = (holds-none test.0 test.1 tests e).0

pub holds-tail : (tests : Tests) → those_that_hold tests ≡ [] → those_that_hold (tail_of tests) ≡ []
holds-tail [] e = refl
holds-tail (test ∷ tests) e = (holds-none test.0 test.1 tests e).1

-- an accepted begin is one of an object that is not busy, under an id that is new
pub begin_when_free : (events : List Event) (new : NewInvocation) → causes_of events (Event.Invoke new) ≡ [] → is_busy events new.object ≡ false
begin_when_free events new accepted = holds-head (own_tests events (Event.Invoke new)) accepted

pub begin_when_new : (events : List Event) (new : NewInvocation) → causes_of events (Event.Invoke new) ≡ [] → is_some (invocation_begun events new.id) ≡ false
begin_when_new events new accepted =
    holds-head (tail_of (tail_of (own_tests events (Event.Invoke new))))
    (holds-tail (tail_of (own_tests events (Event.Invoke new))) (holds-tail (own_tests events (Event.Invoke new)) accepted))

pub not-false : (b : Bool) → not b ≡ false → b ≡ true
not-false true e = refl
not-false false e = cc

and-left : (a b : Bool) → (a && b) ≡ true → a ≡ true
and-left true b e = refl
and-left false b e = cc

closed_or_open : (begun : Bool) (opened : Bool) → begun ≡ true → (begun && not opened) ≡ false → opened ≡ true
closed_or_open true true e f = refl
closed_or_open true false e f = cc
closed_or_open false opened e f = cc

open-from_tests : (events : List Event) (id : Text) (more : Tests) → those_that_hold (open_tests events id ++ more) ≡ [] → is_open events id ≡ true
open-from_tests events id more e =
    let (unknown, rest) = holds-none (not (is_some (invocation_begun events id))) Cause.UnknownInvocation
    ((is_some (invocation_begun events id) && not (is_open events id), Cause.InvocationClosed) ∷ more) e in
    let (closed, others) = holds-none (is_some (invocation_begun events id) && not (is_open events id)) Cause.InvocationClosed more rest in
    closed_or_open (is_some (invocation_begun events id)) (is_open events id) (not-false (is_some (invocation_begun events id)) unknown) closed

at_same : (events : List Event) (other id : Text) → bytes_eq other id ≡ true → is_open events other ≡ true → is_open events id ≡ true
at_same events other id e opened = subst (λ (x : Text). is_open events x ≡ true) ((bytes_eq-Decides other id).0 e) opened

-- an accepted event that is no begin is one of an open invocation
pub open_when_accepted : (events : List Event) (event : Event) (id : Text) → invoked_by event ≡ None → is_of id event ≡ true → causes_of events event ≡ [] → is_open events id ≡ true
open_when_accepted events (Event.Invoke new) id e f accepted = cc
open_when_accepted events (Event.Tick now) id e f accepted = cc
open_when_accepted events (Event.Edit object request) id e f accepted = cc
open_when_accepted events (Event.Result other n result) id e f accepted = at_same events other id f (open-from_tests events other (own_tests events (Event.Result other n result)) accepted)
open_when_accepted events (Event.Signal other key result) id e f accepted = at_same events other id f (open-from_tests events other (own_tests events (Event.Signal other key result)) accepted)
open_when_accepted events (Event.Cancel other) id e f accepted = at_same events other id f (open-from_tests events other (own_tests events (Event.Cancel other)) accepted)
open_when_accepted events (Event.Begin other now) id e f accepted = at_same events other id f (open-from_tests events other (own_tests events (Event.Begin other now)) accepted)
open_when_accepted events (Event.Feed other attempt most) id e f accepted = at_same events other id f (open-from_tests events other (own_tests events (Event.Feed other attempt most)) accepted)
open_when_accepted events (Event.Close other attempt) id e f accepted = at_same events other id f (open-from_tests events other (own_tests events (Event.Close other attempt)) accepted)
open_when_accepted events (Event.Move other attempt frame) id e f accepted = at_same events other id f (open-from_tests events other (own_tests events (Event.Move other attempt frame)) accepted)
open_when_accepted events (Event.Stop other attempt) id e f accepted = at_same events other id f (open-from_tests events other (own_tests events (Event.Stop other attempt)) accepted)

both_nothing : {A : Type 0} (b : Bool) → ◌≡◌ {A = List A} (if b then [] else []) []
both_nothing true = refl
both_nothing false = refl

pub find-passes : (p : NewInvocation → Bool) (xs : List NewInvocation) (x : NewInvocation) → find p xs ≡ Some x → p x ≡ true
find-passes p [] x e = cc
find-passes p (y ∷ ys) x e = by_test (p y) refl e (find-passes p ys x)
  where
    by_test : (b : Bool) → p y ≡ b → (if b then Some y else find p ys) ≡ Some x → (find p ys ≡ Some x → p x ≡ true) → p x ≡ true
    by_test true t e later = let same : y ≡ x = cc in rw same at t
    by_test false t e later = later e

find-any : (p q : NewInvocation → Bool) (xs : List NewInvocation) (x : NewInvocation) → find p xs ≡ Some x → q x ≡ true → list_any q xs ≡ true
find-any p q [] x e f = cc
find-any p q (y ∷ ys) x e f = by_test (p y) e (find-any p q ys x)
  where
    or_right : (b : Bool) → list_any q ys ≡ true → (b || list_any q ys) ≡ true
    or_right true h = refl
    or_right false h = h

    by_test : (b : Bool) → (if b then Some y else find p ys) ≡ Some x → (find p ys ≡ Some x → q x ≡ true → list_any q ys ≡ true) → (q y || list_any q ys) ≡ true
    by_test true e later = let same : y ≡ x = cc in let here : q y ≡ true = rw same f in rw here refl
    by_test false e later = or_right (q y) (later e f)

-- the object of an invocation
object_in : List Event → Text → Option Text
object_in events id = option_map (λ (new : NewInvocation). new.object) (invocation_begun events id)

-- an object with an open invocation is busy
busy_when_open : (events : List Event) (id object : Text) → is_open events id ≡ true → object_in events id ≡ Some object → is_busy events object ≡ true
unfolding object_in
busy_when_open events id object opened is = by_cases (invocation_begun events id) refl is
  where
    by_cases : (o : Option NewInvocation) → invocation_begun events id ≡ o → option_map (λ (new : NewInvocation). new.object) o ≡ Some object → is_busy events object ≡ true
    by_cases None e f = cc
    by_cases (Some new) e f =
        let same_object : new.object ≡ object = cc in
        let named : bytes_eq new.id id ≡ true = find-passes (λ other. bytes_eq other.id id) (filter_map invoked_by events) new e in
        let opened_there : is_open events new.id ≡ true = subst (λ (x : Text). is_open events x ≡ true) (sym ((bytes_eq-Decides new.id id).0 named)) opened in
        let same : bytes_eq new.object object ≡ true = (bytes_eq-Decides new.object object).1 same_object in
        find-any (λ other. bytes_eq other.id id) (λ other. bytes_eq other.object object && is_open events other.id) (filter_map invoked_by events) new e
        (ap₂ (λ (a b : Bool). a && b) same opened_there)

-- an event that begins no invocation changes nothing of how one was begun, and opens none
pub begun_before : (event : Event) (events : List Event) (id : Text) → invoked_by event ≡ None → invocation_begun (event ∷ events) id ≡ invocation_begun events id
begun_before event events id e =
    ap (λ (o : Option NewInvocation). find (λ new. bytes_eq new.id id) (cons_option o (filter_map invoked_by events))) e

object_in-before : (event : Event) (events : List Event) (id : Text) → invoked_by event ≡ None → object_in (event ∷ events) id ≡ object_in events id
unfolding object_in
object_in-before event events id e = ap (λ (o : Option NewInvocation). option_map (λ (new : NewInvocation). new.object) o) (begun_before event events id e)

closes_none : (version : ℕ) (o : Option Frame) (frames : List Frame) → not (list_any (closes version) (cons_option o frames)) ≡ true → not (list_any (closes version) frames) ≡ true
closes_none version None frames e = e
closes_none version (Some frame) frames e = by_test (closes version frame) (list_any (closes version) frames) e
  where
    by_test : (a b : Bool) → not (a || b) ≡ true → not b ≡ true
    by_test true b e = cc
    by_test false b e = e

still_open : (o : Option NewInvocation) (version : ℕ) (b : Bool) (event : Event) (events : List Event)
    → (is_some o && not (list_any (closes version) (filter_map frame_of (if b then event ∷ events else events)))) ≡ true
    → (is_some o && not (list_any (closes version) (filter_map frame_of events))) ≡ true
still_open None version b event events e = cc
still_open (Some new) version true event events e = closes_none version (frame_of event) (filter_map frame_of events) e
still_open (Some new) version false event events e = e

open_before : (event : Event) (events : List Event) (id : Text) → invoked_by event ≡ None → is_open (event ∷ events) id ≡ true → is_open events id ≡ true
open_before event events id e opened =
    let same = begun_before event events id e in
    still_open (invocation_begun events id) (unwrap_or (option_map (λ (new : NewInvocation). new.version) (invocation_begun events id)) 0) (is_of id event) event (filter (is_of id) events)
    (sym (ap (λ (o : Option NewInvocation). is_some o
    && not (list_any (closes (unwrap_or (option_map (λ (new : NewInvocation). new.version) o) 0)) (filter_map frame_of (if is_of id event then event ∷ filter (is_of id) events else filter (is_of id) events)))) same)
    ∙ opened)

-- two open invocations of one object are the same
unique : (events : List Event) → IsAccepted events → (id other object : Text) → is_open events id ≡ true → is_open events other ≡ true
    → object_in events id ≡ Some object → object_in events other ≡ Some object → id ≡ other
unfolding object_in
unique [] accepted id other object opened opened' is is' = cc
unique (Event.Invoke new ∷ earlier) accepted id other object opened opened' is is' =
    by_cases (bytes_eq new.id id) refl (bytes_eq new.id other) refl opened opened' is is' (unique earlier accepted.1 id other object)
  where
    not_busy : is_busy earlier new.object ≡ false
    not_busy = begin_when_free earlier new accepted.0

    clashes : (x : Text) → is_open earlier x ≡ true → object_in earlier x ≡ Some object → new.object ≡ object → ⊥
    clashes x o i same =
        let busy : is_busy earlier object ≡ true = busy_when_open earlier x object o i in
        true≢false (sym (ap (is_busy earlier) same ∙ busy) ∙ not_busy)

    object_at : (b : Bool) → option_map (λ (begun : NewInvocation). begun.object) (if b then Some new else invocation_begun earlier id) ≡ Some object → b ≡ true → new.object ≡ object
    object_at true e f = cc
    object_at false e f = cc

    by_cases : (a : Bool) → bytes_eq new.id id ≡ a → (b : Bool) → bytes_eq new.id other ≡ b
        → (is_some (if a then Some new else invocation_begun earlier id)
        && not (list_any (closes (unwrap_or (option_map (λ (begun : NewInvocation). begun.version) (if a then Some new else invocation_begun earlier id)) 0))
        (filter_map frame_of (if a then Event.Invoke new ∷ filter (is_of id) earlier else filter (is_of id) earlier)))) ≡ true
        → (is_some (if b then Some new else invocation_begun earlier other)
        && not (list_any (closes (unwrap_or (option_map (λ (begun : NewInvocation). begun.version) (if b then Some new else invocation_begun earlier other)) 0))
        (filter_map frame_of (if b then Event.Invoke new ∷ filter (is_of other) earlier else filter (is_of other) earlier)))) ≡ true
        → option_map (λ (begun : NewInvocation). begun.object) (if a then Some new else invocation_begun earlier id) ≡ Some object
        → option_map (λ (begun : NewInvocation). begun.object) (if b then Some new else invocation_begun earlier other) ≡ Some object
        → (is_open earlier id ≡ true → is_open earlier other ≡ true → object_in earlier id ≡ Some object → object_in earlier other ≡ Some object → id ≡ other)
        → id ≡ other
    by_cases true e true f o o' i i' later = sym ((bytes_eq-Decides new.id id).0 e) ∙ (bytes_eq-Decides new.id other).0 f
    by_cases true e false f o o' i i' later = let same : new.object ≡ object = cc in absurd (clashes other o' i' same)
    by_cases false e true f o o' i i' later = let same : new.object ≡ object = cc in absurd (clashes id o i same)
    by_cases false e false f o o' i i' later = later o o' i i'
unique (event ∷ earlier) accepted id other object opened opened' is is' =
    unique earlier accepted.1 id other object (open_before event earlier id refl opened) (open_before event earlier other refl opened')
    (sym (object_in-before event earlier id refl) ∙ is) (sym (object_in-before event earlier other refl) ∙ is')

-- two invocations of one object that are both open are one
pub open_alone : (events : List Event) → IsAccepted events → (a b : NewInvocation) → invocation_begun events a.id ≡ Some a → invocation_begun events b.id ≡ Some b
    → is_open events a.id ≡ true → is_open events b.id ≡ true → a.object ≡ b.object → a.id ≡ b.id
unfolding object_in
open_alone events accepted a b is_a is_b opened_a opened_b same =
    unique events accepted a.id b.id b.object opened_a opened_b
    (ap (λ (o : Option NewInvocation). option_map (λ (new : NewInvocation). new.object) o) is_a ∙ ap Some same)
    (ap (λ (o : Option NewInvocation). option_map (λ (new : NewInvocation). new.object) o) is_b)

-- an invocation that was not begun has no entries
pub no_entries : (start : StateMap) (events : List Event) → IsAccepted events → (id : Text) → invocation_begun events id ≡ None → entries_from start events id ≡ []
no_entries start [] accepted id e = refl
no_entries start (Event.Invoke new ∷ earlier) accepted id e =
    by_cases (bytes_eq new.id id) e (no_entries start earlier accepted.1 id)
  where
    by_cases : (b : Bool) → (if b then Some new else invocation_begun earlier id) ≡ None → (invocation_begun earlier id ≡ None → entries_from start earlier id ≡ [])
        → entries_from start earlier id ++ (if b || false then [] else []) ≡ []
    by_cases true e later = cc
    by_cases false e later = append-nil (entries_from start earlier id) ∙ later e
no_entries start (event ∷ earlier) accepted id e =
    by_cases (is_of id event) refl (no_entries start earlier accepted.1 id (sym (begun_before event earlier id refl) ∙ e))
  where
    not_begun : invocation_begun earlier id ≡ None
    not_begun = sym (begun_before event earlier id refl) ∙ e

    not_open : is_open earlier id ≡ false
    not_open = ap (λ (o : Option NewInvocation). is_some o && not (list_any (closes (unwrap_or (option_map (λ (new : NewInvocation). new.version) o) 0)) (frames_of earlier id))) not_begun

    nothing : (b : Bool) → (if b && false then entries_of_event start (entries_from start earlier id) event else []) ≡ []
    nothing true = refl
    nothing false = refl

    by_cases : (b : Bool) → is_of id event ≡ b → entries_from start earlier id ≡ []
        → entries_from start earlier id ++ (if b || (is_tick event && is_open earlier id) then entries_of_event start (entries_from start earlier id) event else []) ≡ []
    by_cases true f h = absurd (true≢false (sym (open_when_accepted earlier event id refl f accepted.0) ∙ not_open))
    by_cases false f h = ap₂ (λ (xs ys : List Entry). xs ++ ys) h
        (ap (λ (o : Bool). if is_tick event && o then entries_of_event start (entries_from start earlier id) event else []) not_open ∙ nothing (is_tick event))

pub requests_in-append : (xs ys : List Entry) → requests_in (xs ++ ys) ≡ requests_in xs ++ requests_in ys
requests_in-append [] ys = refl
requests_in-append (Recorded request ∷ xs) ys = ap (λ (rest : List Request). request ∷ rest) (requests_in-append xs ys)
requests_in-append (Arrived arrival ∷ xs) ys = requests_in-append xs ys

requests_in-arrived : (arrivals : List Arrival) → requests_in (map Arrived arrivals) ≡ []
requests_in-arrived [] = refl
requests_in-arrived (arrival ∷ arrivals) = requests_in-arrived arrivals

-- the requests among the entries that an event of the invocation adds are those of its frame
pub requests_of_event : (start : StateMap) (entries : List Entry) (event : Event) → requests_in (entries_of_event start entries event) ≡ request_of_frame (frame_of event)
requests_of_event start entries (Event.Tick now) = requests_in-arrived (slept entries now)
requests_of_event start entries (Event.Move invocation attempt (Frame.Command request)) =
    ap (λ (rest : List Request). request ∷ rest) (requests_in-arrived (read_answer (state_after (requests_in entries) start) request))
requests_of_event start entries (Event.Move invocation attempt (Frame.RunOutcome n value is_acknowledged)) = refl
requests_of_event start entries (Event.Move invocation attempt _) = refl
requests_of_event start entries _ = refl

is_text_of : (object : Text) (o : Option Text) → is_text object o ≡ true → o ≡ Some object
is_text_of object None e = cc
is_text_of object (Some other) e = ap Some ((bytes_eq-Decides other object).0 e)

-- a frame of an accepted event is one of this invocation exactly where it is one of an invocation of its object
same_test : (earlier : List Event) → IsAccepted earlier → (other id object : Text) → is_open earlier other ≡ true → is_open earlier id ≡ true → object_in earlier id ≡ Some object
    → is_text object (object_in earlier other) ≡ bytes_eq other id
same_test earlier accepted other id object opened opened' is = by_cases (bytes_eq other id) refl (is_text object (object_in earlier other)) refl
  where
    by_cases : (a : Bool) → bytes_eq other id ≡ a → (b : Bool) → is_text object (object_in earlier other) ≡ b → b ≡ a
    by_cases true e true f = refl
    by_cases false e false f = refl
    by_cases true e false f =
        let same : object_in earlier other ≡ Some object = ap (object_in earlier) ((bytes_eq-Decides other id).0 e) ∙ is in
        let there : is_text object (object_in earlier other) ≡ true = ap (is_text object) same ∙ (bytes_eq-Decides object object).1 refl in
        sym f ∙ there
    by_cases false e true f =
        let same : other ≡ id = unique earlier accepted other id object opened opened' (is_text_of object (object_in earlier other) f) is in
        sym ((bytes_eq-Decides other id).1 same) ∙ e

or-false_right : (a b : Bool) → (a || (false && b)) ≡ a
or-false_right true b = refl
or-false_right false b = refl

pub requests_if : (b : Bool) (entries : List Entry) → requests_in (if b then entries else []) ≡ (if b then requests_in entries else [])
requests_if true entries = refl
requests_if false entries = refl

-- what an event records for an object is what it records for an invocation, where a frame is one of the one exactly if it is one of the other
requests_alike : (earlier : List Event) (event : Event) → invoked_by event ≡ None → (id object : Text)
    → ((other : Text) → invocation_of event ≡ Some other → is_text object (object_in earlier other) ≡ bytes_eq other id) → (start : StateMap) (entries : List Entry)
    → requests_for object earlier event ≡ requests_in (entries_added start earlier id event entries)
unfolding object_in
requests_alike earlier (Event.Move other attempt frame) e id object test start entries =
    ap (λ (b : Bool). if b then request_of_frame (Some frame) else []) (test other refl ∙ sym (or-false_right (bytes_eq other id) (is_open earlier id)))
    ∙ sym (requests_if (bytes_eq other id || (false && is_open earlier id)) (entries_of_event start entries (Event.Move other attempt frame))
    ∙ ap (λ (requests : List Request). if bytes_eq other id || (false && is_open earlier id) then requests else []) (requests_of_event start entries (Event.Move other attempt frame)))
requests_alike earlier event e id object test start entries =
    both_nothing (is_text object (object_of earlier event))
    ∙ sym (requests_if (is_of id event || (is_tick event && is_open earlier id)) (entries_of_event start entries event)
    ∙ ap (λ (requests : List Request). if is_of id event || (is_tick event && is_open earlier id) then requests else []) (requests_of_event start entries event)
    ∙ both_nothing (is_of id event || (is_tick event && is_open earlier id)))

of_its_own : (event : Event) (other : Text) → invocation_of event ≡ Some other → is_of other event ≡ true
of_its_own event other is = ap (is_text other) is ∙ (bytes_eq-Decides other other).1 refl

-- so it is of the object's open invocation
same_requests : (earlier : List Event) → IsAccepted earlier → (event : Event) → causes_of earlier event ≡ [] → invoked_by event ≡ None → (id object : Text)
    → is_open earlier id ≡ true → object_in earlier id ≡ Some object → (start : StateMap) (entries : List Entry)
    → requests_for object earlier event ≡ requests_in (entries_added start earlier id event entries)
same_requests earlier accepted event causes e id object opened is =
    requests_alike earlier event e id object
    (λ other of. same_test earlier accepted other id object (open_when_accepted earlier event other e (of_its_own event other of) causes) opened is)

pub none_of : (o : Option NewInvocation) → is_some o ≡ false → o ≡ None
none_of None e = refl
none_of (Some new) e = cc

-- a state is not changed from outside while its object is busy
pub edits_none : (event : Event) (earlier : List Event) (object : Text) → causes_of earlier event ≡ [] → is_busy earlier object ≡ true → edits_of object event ≡ []
edits_none (Event.Edit other request) earlier object accepted busy = by_cases (bytes_eq other object) refl
  where
    by_cases : (b : Bool) → bytes_eq other object ≡ b → (if b then request ∷ [] else []) ≡ []
    by_cases true e =
        let same : other ≡ object = (bytes_eq-Decides other object).0 e in
        absurd (true≢false (sym (ap (is_busy earlier) same ∙ busy) ∙ holds-head (own_tests earlier (Event.Edit other request)) accepted))
    by_cases false e = refl
edits_none event earlier object accepted busy = refl

pub own_edits_none : (event : Event) (id object : Text) → (is_of id event || is_tick event) ≡ true → edits_of object event ≡ []
own_edits_none (Event.Edit other request) id object own = cc
own_edits_none event id object own = refl

-- one more event, which records for the object what it records for the invocation
state_goes_on : (event : Event) (earlier : List Event) → invoked_by event ≡ None → (id object : Text) → edits_of object event ≡ []
    → object_state earlier object ≡ state_after (recorded_requests earlier id) (starting_state earlier id)
    → requests_for object earlier event ≡ requests_in (entries_added (starting_state earlier id) earlier id event (entries_of earlier id))
    → object_state (event ∷ earlier) object ≡ state_after (recorded_requests (event ∷ earlier) id) (starting_state (event ∷ earlier) id)
state_goes_on (Event.Invoke new) earlier e id object none before records = cc
state_goes_on event earlier e id object none before records =
    let start = starting_state earlier id in
    let entries = entries_of earlier id in
    ap (λ (edits : List Request). state_after edits (state_after (requests_for object earlier event) (object_state earlier object))) none
    ∙ ap (state_after (requests_for object earlier event)) before
    ∙ sym (state_after-append (requests_in entries) (requests_for object earlier event) start)
    ∙ ap (λ (added : List Request). state_after (requests_in entries ++ added) start) records
    ∙ ap (λ (all : List Request). state_after all start) (sym (requests_in-append entries (entries_added start earlier id event entries)))

-- while an invocation is open its object's state is what its requests make of the state at its start
state_kept : (events : List Event) → IsAccepted events → (id object : Text) → is_open events id ≡ true → object_in events id ≡ Some object
    → object_state events object ≡ state_after (requests_in (entries_from (starting_state events id) events id)) (starting_state events id)
unfolding object_in
state_kept [] accepted id object opened is = cc
state_kept (Event.Invoke new ∷ earlier) accepted id object opened is =
    ap (λ (requests : List Request). state_after requests (object_state earlier object)) (both_nothing (is_text object (object_of earlier (Event.Invoke new))))
    ∙ by_cases (bytes_eq new.id id) refl opened is (state_kept earlier accepted.1 id object)
  where
    by_cases : (b : Bool) → bytes_eq new.id id ≡ b
        → (is_some (if b then Some new else invocation_begun earlier id)
        && not (list_any (closes (unwrap_or (option_map (λ (begun : NewInvocation). begun.version) (if b then Some new else invocation_begun earlier id)) 0))
        (filter_map frame_of (if b then Event.Invoke new ∷ filter (is_of id) earlier else filter (is_of id) earlier)))) ≡ true
        → option_map (λ (begun : NewInvocation). begun.object) (if b then Some new else invocation_begun earlier id) ≡ Some object
        → (is_open earlier id ≡ true → object_in earlier id ≡ Some object
        → object_state earlier object ≡ state_after (requests_in (entries_from (starting_state earlier id) earlier id)) (starting_state earlier id))
        → object_state earlier object
        ≡ state_after (requests_in (entries_from (if b then object_state earlier new.object else starting_state earlier id) earlier id ++ (if b || false then [] else [])))
        (if b then object_state earlier new.object else starting_state earlier id)
    by_cases true e o i later =
        let same : new.object ≡ object = cc in
        let named : new.id ≡ id = (bytes_eq-Decides new.id id).0 e in
        let not_begun : invocation_begun earlier id ≡ None = ap (invocation_begun earlier) (sym named) ∙ none_of (invocation_begun earlier new.id) (begin_when_new earlier new accepted.0) in
        ap (object_state earlier) (sym same)
        ∙ sym (ap (λ (entries : List Entry). state_after (requests_in (entries ++ [])) (object_state earlier new.object)) (no_entries (object_state earlier new.object) earlier accepted.1 id not_begun))
    by_cases false e o i later =
        later o i
        ∙ ap (λ (entries : List Entry). state_after (requests_in entries) (starting_state earlier id)) (sym (append-nil (entries_from (starting_state earlier id) earlier id)))
state_kept (event ∷ earlier) accepted id object opened is =
    let opened_before : is_open earlier id ≡ true = open_before event earlier id refl opened in
    let is_before : object_in earlier id ≡ Some object = sym (object_in-before event earlier id refl) ∙ is in
    state_goes_on event earlier refl id object (edits_none event earlier object accepted.0 (busy_when_open earlier id object opened_before is_before)) (state_kept earlier accepted.1 id object opened_before is_before)
    (same_requests earlier accepted.1 event accepted.0 refl id object opened_before is_before (starting_state earlier id) (entries_of earlier id))

pub state_of_open : (events : List Event) (new : NewInvocation) → IsAccepted events → invocation_begun events new.id ≡ Some new → is_open events new.id ≡ true
    → object_state events new.object ≡ state_after (recorded_requests events new.id) (starting_state events new.id)
unfolding object_in
state_of_open events new accepted is opened =
    state_kept events accepted new.id new.object opened (ap (λ (o : Option NewInvocation). option_map (λ (begun : NewInvocation). begun.object) o) is)

-- ---- behind which only its own events and ticks come

-- while it is open its object's state is what its recorded requests make of the state at its start
abbrev pub StateFollowed : List Event → Text → Type 0
StateFollowed events id = (new : NewInvocation) → invocation_begun events id ≡ Some new → is_open events id ≡ true
    → object_state events new.object ≡ state_after (recorded_requests events id) (starting_state events id)

pub accepted_followed : (events : List Event) → IsAccepted events → (id : Text) → StateFollowed events id
unfolding object_in
accepted_followed events accepted id new is opened =
    state_kept events accepted id new.object opened (ap (λ (o : Option NewInvocation). option_map (λ (begun : NewInvocation). begun.object) o) is)

named_no_tick : (event : Event) (other : Text) → invocation_of event ≡ Some other → is_tick event ≡ false
named_no_tick (Event.Tick now) other is = cc
named_no_tick event other is = refl

first_holds : (a b : Bool) → b ≡ false → (a || b) ≡ true → a ≡ true
first_holds true b e f = refl
first_holds false b e f = sym e ∙ f

-- one of its own, or a tick
pub own_followed : (event : Event) (events : List Event) (id : Text) → invoked_by event ≡ None → (is_of id event || is_tick event) ≡ true → StateFollowed events id → StateFollowed (event ∷ events) id
unfolding object_in
own_followed event events id e own before new is opened =
    let is_before : invocation_begun events id ≡ Some new = sym (begun_before event events id e) ∙ is in
    let object_is : object_in events id ≡ Some new.object = ap (λ (o : Option NewInvocation). option_map (λ (begun : NewInvocation). begun.object) o) is_before in
    state_goes_on event events e id new.object (own_edits_none event id new.object own) (before new is_before (open_before event events id e opened))
    (requests_alike events event e id new.object (λ other of. of_object other of object_is) (starting_state events id) (entries_of events id))
  where
    of_object : (other : Text) → invocation_of event ≡ Some other → object_in events id ≡ Some new.object → is_text new.object (object_in events other) ≡ bytes_eq other id
    of_object other of object_is =
        let of_id : bytes_eq other id ≡ true = sym (ap (is_text id) of) ∙ first_holds (is_of id event) (is_tick event) (named_no_tick event other of) own in
        ap (is_text new.object) (ap (object_in events) ((bytes_eq-Decides other id).0 of_id) ∙ object_is) ∙ (bytes_eq-Decides new.object new.object).1 refl ∙ sym of_id
