-- Which attempt of an invocation is live, and whether its input is closed, after one more event.
use Rattle.std.proofs.Common.{◌≡◌, refl, sym, ap, ◌∙◌, ℕ, Bool, true, false, true≢false, not, ◌&&◌, ◌||◌, if◌then◌else◌, List, [], ◌∷◌, Option, Some, None, bytes_eq, is_some}
use Rattle.journal_model.specs.Notification.{Text}
use Rattle.journal_model.specs.Event.{Event, Frame}
use Rattle.journal_model.specs.Journal.{is_of, invocation_begun, is_open}
use Rattle.journal_model.specs.Attempt.{begins_attempt, ends_live, live_attempt, is_live, closes_input, is_input_closed}
use Rattle.journal_model.specs.Cause.{Tests, those_that_hold, own_tests, causes_of, IsAccepted}
use Rattle.journal_model.specs.declared.cause.Cause.{Cause}
use Rattle.journal_laws.proofs.ObjectState.{holds-head, holds-tail, not-false, open_when_accepted, begun_before}
use Rattle.input_laws.proofs.Events.{unborn_open}
use Rattle.input_laws.proofs.Handed.{other_begins}

pub numbered : (events : List Event) (id : Text) (attempt : ℕ) → is_live events id attempt ≡ true → is_some (live_attempt events id) ≡ true
numbered events id attempt e = by_live (live_attempt events id) refl
  where
    by_live : (o : Option ℕ) → live_attempt events id ≡ o → is_some o ≡ true
    by_live (Some n) f = refl
    by_live None f = absurd (true≢false (sym (rw f at e)))

pub some_is : (o : Option ℕ) → is_some o ≡ true → (n : ℕ) × (o ≡ Some n)
some_is None e = absurd (true≢false (sym e))
some_is (Some n) e = (n, refl)

-- the tests of an event's own, behind the two of its invocation
pub own_hold : (a b : Bool) (x y : Cause) (own : Tests) → those_that_hold ((a, x) ∷ (b, y) ∷ own) ≡ [] → those_that_hold own ≡ []
own_hold a b x y own e = holds-tail ((b, y) ∷ own) (holds-tail ((a, x) ∷ (b, y) ∷ own) e)

pub taken_live : (events : List Event) (id : Text) (attempt : ℕ) (frame : Frame) → causes_of events (Event.Move id attempt frame) ≡ [] → is_live events id attempt ≡ true
taken_live events id attempt frame causes =
    not-false (is_live events id attempt)
    (holds-head (own_tests events (Event.Move id attempt frame))
    (own_hold (not (is_some (invocation_begun events id))) (is_some (invocation_begun events id) && not (is_open events id)) Cause.UnknownInvocation Cause.InvocationClosed
    (own_tests events (Event.Move id attempt frame)) causes))

pub handed_open : (events : List Event) (id : Text) (attempt most : ℕ) → causes_of events (Event.Feed id attempt most) ≡ [] → is_input_closed events id ≡ false
handed_open events id attempt most causes =
    holds-head ((is_input_closed events id, Cause.InputAlreadyClosed) ∷ [])
    (holds-tail (own_tests events (Event.Feed id attempt most))
    (own_hold (not (is_some (invocation_begun events id))) (is_some (invocation_begun events id) && not (is_open events id)) Cause.UnknownInvocation Cause.InvocationClosed
    (own_tests events (Event.Feed id attempt most)) causes))

pub none_live : (event : Event) (events : List Event) (id : Text) → begins_attempt id event ≡ false → (is_of id event && ends_live event) ≡ true → live_attempt (event ∷ events) id ≡ None
none_live event events id e f = rw (e, f) refl

pub live_now : (event : Event) (events : List Event) (id : Text) → begins_attempt id event ≡ false → (is_of id event && ends_live event) ≡ false
    → live_attempt (event ∷ events) id ≡ live_attempt events id
live_now event events id e f = rw (e, f) refl

pub closed_now : (event : Event) (events : List Event) (id : Text) → begins_attempt id event ≡ false
    → is_input_closed (event ∷ events) id ≡ ((is_of id event && closes_input event) || is_input_closed events id)
closed_now event events id e = rw e refl

still_unborn : (event : Event) (earlier : List Event) (id : Text) → invocation_begun earlier id ≡ None → (is_of id event ≡ true → is_open earlier id ≡ true)
    → live_attempt earlier id ≡ None → live_attempt (event ∷ earlier) id ≡ None
still_unborn event earlier id unborn opened later = by_cases (is_of id event) refl
  where
    by_cases : (b : Bool) → is_of id event ≡ b → live_attempt (event ∷ earlier) id ≡ None
    by_cases true f = absurd (true≢false (sym (opened f) ∙ unborn_open earlier id unborn))
    by_cases false f = live_now event earlier id (other_begins event id f) (ap (λ (b : Bool). b && ends_live event) f) ∙ later

-- no attempt of an invocation is live that was not begun
pub unborn_live : (events : List Event) → IsAccepted events → (id : Text) → invocation_begun events id ≡ None → live_attempt events id ≡ None
unborn_live [] accepted id e = refl
unborn_live (Event.Invoke new ∷ earlier) accepted id e = by_cases (bytes_eq new.id id) e (unborn_live earlier accepted.1 id)
  where
    by_cases : (b : Bool) → (if b then Some new else invocation_begun earlier id) ≡ None → (invocation_begun earlier id ≡ None → live_attempt earlier id ≡ None)
        → (if b && false then None else live_attempt earlier id) ≡ None
    by_cases true e later = cc
    by_cases false e later = later e
unborn_live (event ∷ earlier) accepted id e =
    still_unborn event earlier id (sym (begun_before event earlier id refl) ∙ e) (λ f. open_when_accepted earlier event id refl f accepted.0)
    (unborn_live earlier accepted.1 id (sym (begun_before event earlier id refl) ∙ e))
