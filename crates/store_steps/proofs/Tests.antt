-- The tests of a frame, by what is kept of its invocation and of the frame, are those by the events.
use Rattle.std.proofs.Common.{◌≡◌, refl, sym, ap, ap₂, ◌∙◌, arith, ℕ, ◌+◌, ◌-◌, ◌^◌, nat_lt, Bool, true, false, not, ◌&&◌, ◌||◌, List, [], ◌∷◌, ◌++◌, length, map, Some, None, is_some}
use Rattle.std.specs.List.{list_any}
use Rattle.journal_model.specs.Notification.{Bytes, Text, Arrival}
use Rattle.journal_model.specs.State.{state_after}
use Rattle.journal_model.specs.Request.{Request, completions_asked}
use Rattle.journal_model.specs.Event.{Frame, Event}
use Rattle.journal_model.specs.Journal.{Entry, Recorded, Arrived, invocation_begun, is_open, starting_state, requests_in, entries_of}
use Rattle.journal_model.specs.Attempt.{is_live, is_input_closed}
use Rattle.journal_model.specs.Cause.{Tests, those_that_hold, do_ascend, last_completion, frame_tests, adding_tests, entry_payload, is_too_long, causes_of}
use Rattle.journal_model.specs.declared.cause.Cause.TheVariants.{UnknownInvocation, InvocationClosed, AttemptNotLive, BadCompletion, KeyNotText, NumbersUsedUp, PayloadTooLong}
use Rattle.store_refusals.specs.RefusalConditions.{refusal_by}
use Rattle.store_frames.specs.declared.frame.RecordedCommand.{RecordedCommand}
use Rattle.store_frames.specs.declared.frame.AttemptFrame.{AttemptFrame}
use Rattle.store_frames.specs.declared.frame.AttemptFrame.TheVariants as told
use Rattle.store_frames.specs.Commands.{first_asked, second_asked}
use Rattle.store_frames.specs.Answer.{IsCommand, IsFrame}
use Rattle.store_model.specs.Progress.{progress_of}
use Rattle.store_steps.specs.FrameAnswers.{answers_told, asked, ids_asked_by, tests_of_told}
use Rattle.store_steps.proofs.LazyReads.{is_lazy_read, IsByRow, no_answer, none_told}

-- ---- completions

asked_twice : (request : Request) → completions_asked request ≡ asked (first_asked (completions_asked request)) (second_asked (completions_asked request))
asked_twice (Request.CallService call m n name) = refl
asked_twice _ = refl

pub asked_same : (request : Request) (command : RecordedCommand) → IsCommand request command → completions_asked request ≡ ids_asked_by command
asked_same request command h = asked_twice request ∙ ap₂ asked (sym h.completion) (sym h.second_completion)

-- ---- tests of a live attempt

-- what is left of the tests where the invocation is open and the attempt live
abbrev pub tests_left : List Event → Text → ℕ → Frame → Tests
tests_left events id number frame = frame_tests events id frame ++ adding_tests events id (Event.Move id number frame)

none_of_first : (begun opened live : Bool) (tests : Tests) → begun ≡ true → opened ≡ true → live ≡ true
    → those_that_hold ((not begun, UnknownInvocation) ∷ (begun && not opened, InvocationClosed) ∷ (not live, AttemptNotLive) ∷ tests) ≡ those_that_hold tests
none_of_first true true true tests e f g = refl
none_of_first false opened live tests e f g = cc
none_of_first true false live tests e f g = cc
none_of_first true true false tests e f g = cc

pub causes_left : (events : List Event) (id : Text) (number : ℕ) (frame : Frame) → is_some (invocation_begun events id) ≡ true → is_open events id ≡ true → is_live events id number ≡ true
    → causes_of events (Event.Move id number frame) ≡ those_that_hold (tests_left events id number frame)
causes_left events id number frame begun opened live =
    none_of_first (is_some (invocation_begun events id)) (is_open events id) (is_live events id number) (tests_left events id number frame) begun opened live

-- ---- commands

-- the tests of a command with keys that are text or are not, and with these answers at once, completions and payload
abbrev pub command_tests : List Entry → Request → ℕ → ℕ → Bool → List Arrival → List ℕ → Bytes → Tests
command_tests entries request last count is_text answers completions payload =
    (not (do_ascend last completions), BadCompletion) ∷ (not is_text, KeyNotText)
    ∷ (nat_lt (2 ^ 32 - 2) (count + length (Recorded request ∷ map Arrived answers)), NumbersUsedUp)
    ∷ (is_too_long payload || list_any (λ entry. is_too_long (entry_payload entry)) (map Arrived answers), PayloadTooLong) ∷ []

or_false : (b : Bool) → (b || false) ≡ b
or_false true = refl
or_false false = refl

one_more : (n : ℕ) → n + 1 ≡ 0 + (1 + n)
one_more n = omega arith

module _ (events : List Event) (id : Text) (number : ℕ) where
  command_same : (request : Request) (command : RecordedCommand) → is_lazy_read request ≡ false → IsCommand request command
      → refusal_by (tests_left events id number (Frame.Command request)) ≡ refusal_by (tests_of_told (progress_of events id) (is_input_closed events id) (told.Command command))
  command_same request command unread h =
      let entries = entries_of events id in
      let last = last_completion (requests_in (entries_of events id)) in
      let state = state_after (requests_in (entries_of events id)) (starting_state events id) in
      let told_tests = tests_of_told (progress_of events id) (is_input_closed events id) (told.Command command) in
      let left : refusal_by (tests_left events id number (Frame.Command request)) ≡ refusal_by (command_tests entries request last (length entries) command.are_keys_text [] (ids_asked_by command) command.payload) =
      (λ i. refusal_by (command_tests entries request last (length entries) (sym h.text i) (no_answer state request unread i) (asked_same request command h i) (sym h.payload i))) in
      let alone : answers_told command.state ≡ 0 = ap answers_told h.state ∙ none_told request unread in
      let right : refusal_by (command_tests entries request last (length entries) command.are_keys_text [] (ids_asked_by command) command.payload) ≡ refusal_by told_tests =
      (λ i. refusal_by ((not (do_ascend last (ids_asked_by command)), BadCompletion) ∷ (not command.are_keys_text, KeyNotText)
      ∷ (nat_lt (2 ^ 32 - 2) ((one_more (length entries) ∙ ap (λ (k : ℕ). k + (1 + length entries)) (sym alone)) i), NumbersUsedUp) ∷ (or_false (is_too_long command.payload) i, PayloadTooLong) ∷ [])) in
      left ∙ right

  pub tests_same : (frame : Frame) (read : AttemptFrame) → IsByRow frame → IsFrame frame read
      → refusal_by (tests_left events id number frame) ≡ refusal_by (tests_of_told (progress_of events id) (is_input_closed events id) read)
  tests_same (Frame.Command request) (told.Command command) unread h = command_same request command unread h
  tests_same (Frame.AwaitingOn awaited) told.AwaitingOn unread h = refl
  tests_same (Frame.Suspend None) told.Broken unread h = refl
  tests_same (Frame.Suspend (Some suspension)) (told.Suspension payload) unread h = refl
  tests_same (Frame.Error code message behavior delay) (told.Error told_code told_message told_behavior told_delay) unread h = refl
  tests_same Frame.End told.End unread h = refl
  tests_same (Frame.RunOutcome n value asks) (told.RunOutcome completion result told_asks) unread h = absurd unread
  tests_same Frame.Broken told.Broken unread h = refl
  tests_same Frame.TooDeep told.TooDeep unread h = refl
  tests_same Frame.NotAccepted told.NotAccepted unread h = refl
  tests_same _ _ unread h = absurd h
