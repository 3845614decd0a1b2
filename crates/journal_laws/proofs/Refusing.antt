-- Why an event of an invocation's own is refused is read off what is told of the invocation, and off its object's state while it is open.
use Rattle.std.proofs.Common.{◌≡◌, refl, sym, ap, ap₂, subst, ◌∙◌, ℕ, ◌+◌, ◌-◌, ◌^◌, nat_le, Bool, true, false, not, ◌&&◌, List, [], ◌∷◌, ◌++◌, length, drop, Option, Some, None, is_some}
use Rattle.std.specs.List.{list_all}
use Rattle.std.specs.Str.{is_utf8}
use Rattle.journal_model.specs.Notification.{Bytes, Text}
use Rattle.journal_model.specs.Request.{completions_asked}
use Rattle.journal_model.specs.State.{StateMap}
use Rattle.journal_model.specs.declared.invocation.NewInvocation.{NewInvocation}
use Rattle.journal_model.specs.Event.{Event, Frame}
use Rattle.journal_model.specs.Journal.{Entry, invocation_of, invoked_by, invocation_begun, is_open, object_state, requests_in, open_request, entries_of, entries_of_event}
use Rattle.journal_model.specs.Attempt.{Piece, live_attempt, is_live, input_bytes, input_left}
use Rattle.journal_model.specs.Start.{attempts_since_entry, start_payload, start_payload_for, start_payload_of, since_first}
use Rattle.journal_model.specs.Cause.{Tests, those_that_hold, open_tests, live_tests, frame_tests, adding_tests, entry_tests, own_tests, causes_of, is_empty, is_too_long, is_run, is_reserved, refuses_kind, may_signal, do_ascend, keys_of, last_completion}
use Rattle.journal_model.specs.declared.cause.Cause.{Cause}
use Rattle.journal_laws.proofs.Isolation.{IsToldAlike}

abbrev pub first_cause : List Cause → Option Cause
first_cause [] = None
first_cause (cause ∷ causes) = Some cause

-- where an invocation is not open, that is the first cause
closed_first : (begun opened : Bool) (some others : Tests) → opened ≡ false
    → first_cause (those_that_hold ((not begun, Cause.UnknownInvocation) ∷ (begun && not opened, Cause.InvocationClosed) ∷ some))
    ≡ first_cause (those_that_hold ((not begun, Cause.UnknownInvocation) ∷ (begun && not opened, Cause.InvocationClosed) ∷ others))
closed_first true true some others e = cc
closed_first true false some others e = refl
closed_first false opened some others e = refl

module _ (events others : List Event) (id : Text) (told : IsToldAlike events others id) where
  pub left_alike : input_left events id ≡ input_left others id
  left_alike = ap₂ (λ (n : ℕ) (pieces : List Piece). drop n (input_bytes pieces)) told.handed told.input

  is_live-alike : (n : ℕ) → is_live events id n ≡ is_live others id n
  is_live-alike n = by_option (live_attempt events id) refl
    where
      by_option : (o : Option ℕ) → live_attempt events id ≡ o → is_live events id n ≡ is_live others id n
      by_option None e = let f : live_attempt others id ≡ None = sym told.live ∙ e in rw (e, f) refl
      by_option (Some m) e = let f : live_attempt others id ≡ Some m = sym told.live ∙ e in rw (e, f) refl

  open_tests-alike : open_tests events id ≡ open_tests others id
  open_tests-alike = ap₂ (λ (b o : Bool). (not b, Cause.UnknownInvocation) ∷ (b && not o, Cause.InvocationClosed) ∷ []) (ap (λ (o : Option NewInvocation). is_some o) told.begun) told.openness

  live_tests-alike : (n : ℕ) → live_tests events id n ≡ live_tests others id n
  live_tests-alike n = ap (λ (b : Bool). (not b, Cause.AttemptNotLive) ∷ []) (is_live-alike n)

  adding_tests-alike : (event : Event) → adding_tests events id event ≡ adding_tests others id event
  adding_tests-alike event = ap₂ (λ (start : StateMap) (entries : List Entry). entry_tests entries (entries_of_event start entries event)) told.start told.entries

  frame_tests-alike : (frame : Frame) → frame_tests events id frame ≡ frame_tests others id frame
  frame_tests-alike (Frame.Command request) =
      ap (λ (entries : List Entry). (not (do_ascend (last_completion (requests_in entries)) (completions_asked request)), Cause.BadCompletion) ∷ (not (list_all is_utf8 (keys_of request)), Cause.KeyNotText) ∷ [])
      told.entries
  frame_tests-alike (Frame.RunOutcome n value is_acknowledged) = ap (λ (entries : List Entry). (not (is_run (open_request entries n)), Cause.RunNotOpen) ∷ []) told.entries
  frame_tests-alike (Frame.Suspend suspension) = ap (λ (b : Bool). (not (is_some suspension), Cause.BrokenPayload) ∷ (not b, Cause.InputNotClosed) ∷ []) told.input_closed
  frame_tests-alike _ = refl

  module _ (states : is_open events id ≡ true → (new : NewInvocation) → invocation_begun events id ≡ Some new → object_state events new.object ≡ object_state others new.object) where
    payload_alike : is_open events id ≡ true → (now : ℕ) → start_payload events id now ≡ start_payload others id now
    payload_alike opened now = by_option (invocation_begun events id) refl ∙ ap (λ (o : Option NewInvocation). start_payload_for others o id now) told.begun
      where
        by_option : (o : Option NewInvocation) → invocation_begun events id ≡ o → start_payload_for events o id now ≡ start_payload_for others o id now
        by_option None e = refl
        by_option (Some new) e =
            ap (λ (state : StateMap). start_payload_of new state (1 + length (entries_of events id)) (length (attempts_since_entry events id)) (since_first (attempts_since_entry events id) now)) (states opened new e)
            ∙ ap₂ (λ (entries : List Entry) (moments : List ℕ). start_payload_of new (object_state others new.object) (1 + length entries) (length moments) (since_first moments now)) told.entries told.moments

    -- the same tests, or none of them is asked
    by_tests : (some more : Tests) → (is_open events id ≡ true → some ≡ more)
        → first_cause (those_that_hold (open_tests events id ++ some)) ≡ first_cause (those_that_hold (open_tests others id ++ more))
    by_tests some more same = by_open (is_open events id) refl
      where
        by_open : (b : Bool) → is_open events id ≡ b → first_cause (those_that_hold (open_tests events id ++ some)) ≡ first_cause (those_that_hold (open_tests others id ++ more))
        by_open true e = ap₂ (λ (first rest : Tests). first_cause (those_that_hold (first ++ rest))) open_tests-alike (same e)
        by_open false e =
            closed_first (is_some (invocation_begun events id)) (is_open events id) some more e
            ∙ ap (λ (first : Tests). first_cause (those_that_hold (first ++ more))) open_tests-alike

    at : (made : Text → Event) (other : Text) → other ≡ id → first_cause (causes_of events (made id)) ≡ first_cause (causes_of others (made id))
        → first_cause (causes_of events (made other)) ≡ first_cause (causes_of others (made other))
    at made other same it = subst (λ (x : Text). first_cause (causes_of events (made x)) ≡ first_cause (causes_of others (made x))) (sym same) it

    -- the first cause that holds of an event of its own, but of a begin of the invocation, is the same
    pub refused_alike : (event : Event) → invocation_of event ≡ Some id → invoked_by event ≡ None → first_cause (causes_of events event) ≡ first_cause (causes_of others event)
    refused_alike (Event.Invoke new) own e = cc
    refused_alike (Event.Tick now) own e = cc
    refused_alike (Event.Edit object request) own e = cc
    refused_alike (Event.Result other n result) own e =
        let same : other ≡ id = cc in
        at (λ x. Event.Result x n result) other same
        (by_tests (own_tests events (Event.Result id n result)) (own_tests others (Event.Result id n result))
        (λ opened. ap₂ (λ (entries : List Entry) (more : Tests). (not (is_some (open_request entries n)), Cause.CompletionNotOpen) ∷ (refuses_kind (open_request entries n) n result, Cause.WrongKind) ∷ more)
        told.entries (adding_tests-alike (Event.Result id n result))))
    refused_alike (Event.Signal other key result) own e =
        let same : other ≡ id = cc in
        at (λ x. Event.Signal x key result) other same
        (by_tests (own_tests events (Event.Signal id key result)) (own_tests others (Event.Signal id key result))
        (λ opened. ap (λ (more : Tests). (not (may_signal result), Cause.WrongKind) ∷ (is_reserved key, Cause.ReservedSignal) ∷ more) (adding_tests-alike (Event.Signal id key result))))
    refused_alike (Event.Cancel other) own e =
        let same : other ≡ id = cc in
        at (λ x. Event.Cancel x) other same
        (by_tests (own_tests events (Event.Cancel id)) (own_tests others (Event.Cancel id)) (λ opened. adding_tests-alike (Event.Cancel id)))
    refused_alike (Event.Begin other now) own e =
        let same : other ≡ id = cc in
        at (λ x. Event.Begin x now) other same
        (by_tests (own_tests events (Event.Begin id now)) (own_tests others (Event.Begin id now))
        (λ opened. ap₂ (λ (n : ℕ) (payload : Bytes). (nat_le (2 ^ 32 - 1) n, Cause.NumbersUsedUp) ∷ (is_too_long payload, Cause.PayloadTooLong) ∷ []) told.attempts (payload_alike opened now)))
    refused_alike (Event.Feed other attempt most) own e =
        let same : other ≡ id = cc in
        at (λ x. Event.Feed x attempt most) other same
        (by_tests (own_tests events (Event.Feed id attempt most)) (own_tests others (Event.Feed id attempt most))
        (λ opened. ap₂ (λ (live : Tests) (closed : Bool). live ++ ((closed, Cause.InputAlreadyClosed) ∷ [])) (live_tests-alike attempt) told.input_closed))
    refused_alike (Event.Close other attempt) own e =
        let same : other ≡ id = cc in
        at (λ x. Event.Close x attempt) other same
        (by_tests (own_tests events (Event.Close id attempt)) (own_tests others (Event.Close id attempt))
        (λ opened. ap₂ (λ (live more : Tests). live ++ more) (live_tests-alike attempt)
        (ap₂ (λ (left : Bytes) (closed : Bool). (not (is_empty left), Cause.InputRemains) ∷ (closed, Cause.InputAlreadyClosed) ∷ []) left_alike told.input_closed)))
    refused_alike (Event.Move other attempt frame) own e =
        let same : other ≡ id = cc in
        at (λ x. Event.Move x attempt frame) other same
        (by_tests (own_tests events (Event.Move id attempt frame)) (own_tests others (Event.Move id attempt frame))
        (λ opened. ap₂ (λ (live more : Tests). live ++ more) (live_tests-alike attempt)
        (ap₂ (λ (tests more : Tests). tests ++ more) (frame_tests-alike frame) (adding_tests-alike (Event.Move id attempt frame)))))
    refused_alike (Event.Stop other attempt) own e =
        let same : other ≡ id = cc in
        at (λ x. Event.Stop x attempt) other same
        (by_tests (own_tests events (Event.Stop id attempt)) (own_tests others (Event.Stop id attempt)) (λ opened. live_tests-alike attempt))
