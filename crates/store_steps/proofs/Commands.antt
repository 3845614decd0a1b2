-- A command that is refused, and one that is answered at once, by the row of its invocation.
use Rattle.std.proofs.Common.{◌≡◌, refl, sym, ap, ap₂, subst, ◌∙◌, arith, inl, inr, ℕ, ◌+◌, ◌-◌, ◌^◌, ◌<◌, nat_lt, ltb-false, Bool, true, false, not, ◌||◌, List, [], ◌∷◌, length, map, Option, Some, None, Result, Ok, Err}
use Rattle.std.specs.Prelude.{IfOk, IfSome}
use Rattle.std.specs.List.{list_any}
use Rattle.journal_model.specs.Notification.{Text}
use Rattle.journal_model.specs.State.{StateMap, state_after}
use Rattle.journal_model.specs.Request.{Request, completions_asked}
use Rattle.journal_model.specs.Spelling.{notification_payload}
use Rattle.journal_model.specs.Event.{Frame, Event}
use Rattle.journal_model.specs.Journal.{Recorded, Arrived, is_open, object_state, read_answer, recorded_requests, requests_in, starting_state, entries_of}
use Rattle.journal_model.specs.Cause.{Tests, IsAccepted, causes_of, do_ascend, entry_payload, is_too_long, last_completion, those_that_hold}
use Rattle.journal_model.specs.declared.cause.Cause.TheVariants.{BadCompletion, KeyNotText, NumbersUsedUp, PayloadTooLong}
use Rattle.journal_laws.proofs.ObjectState.{accepted_followed}
use Rattle.store_frames.specs.declared.frame.RecordedCommand.{RecordedCommand}
use Rattle.store_frames.specs.declared.frame.StateUse.{StateUse}
use Rattle.store_frames.specs.declared.frame.AttemptFrame.{AttemptFrame}
use Rattle.store_frames.specs.declared.frame.AttemptFrame.TheVariants as told
use Rattle.store_frames.specs.Commands.{first_asked, state_use}
use Rattle.store_frames.specs.Answer.{IsCommand}
use Rattle.store_tables.specs.declared.row.InvocationRow.{InvocationRow}
use Rattle.store_tables.specs.declared.row.Progress.{Progress}
use Rattle.store_model.specs.Progress.{progress_of}
use Rattle.store_invocations.specs.Rows.{Decides, IsRowOf, payload_tests}
use Rattle.store_invocations.proofs.Refusing.{refused_anyway}
use Rattle.store_refusals.specs.declared.refusal.Refusal.{Refusal}
use Rattle.store_refusals.specs.RefusalConditions.{IsRefused, refusal_of_first_cause, refusal_by}
use Rattle.store_refusals.specs.Preparations.{TellsOrRefuses}
use Rattle.store_refusals.proofs.First.{first_holds, none_holds}
use Rattle.store_steps.specs.declared.frame.LiveFacts.{LiveFacts}
use Rattle.store_steps.specs.declared.frame.PreparedFrame.{PreparedFrame}
use Rattle.store_steps.specs.declared.reads.ReadAnswer.{ReadAnswer}
use Rattle.store_steps.proofs.LazyReads.{is_lazy_read}
use Rattle.store_steps.specs.Reads.{IsReadMade, answer_told}
use Rattle.store_steps.specs.PreparedFrames.{KnowsLive, TakesAttemptFrame}
use Rattle.store_steps.specs.FrameAnswers.{HasRoom, answers_told, ids_asked_by, tests_of_told}
use Rattle.store_steps.proofs.Live.{live_open}
use Rattle.store_steps.proofs.Answered.{answer_of, prepared_read}
use Rattle.store_steps.proofs.Taking.{IsUnread, causes_by_row}
use Rattle.store_steps.proofs.Tests.{asked_same, command_tests, tests_left}

abbrev four : Bool → Bool → Bool → Bool → Tests
four a b c d = (a, BadCompletion) ∷ (b, KeyNotText) ∷ (c, NumbersUsedUp) ∷ (d, PayloadTooLong) ∷ []

none_refused : (tests : Tests) → those_that_hold tests ≡ [] → refusal_by tests ≡ None
none_refused tests e = sym (first_holds tests) ∙ ap refusal_of_first_cause e

-- ---- places

third_none : (a b c d : Bool) → refusal_by (four a b c d) ≡ None → c ≡ false
third_none true b c d e = cc
third_none false true c d e = cc
third_none false false true d e = cc
third_none false false false d e = refl

under : (n : ℕ) → nat_lt (2 ^ 32 - 2) n ≡ false → n < 2 ^ 32 - 1
under n e = let most = ltb-false (2 ^ 32 - 2) n e in omega (arith, most)

places_left : (p : Progress) (command : RecordedCommand) → refusal_by (tests_of_told p true (told.Command command)) ≡ None
    → answers_told command.state + p.entries < 2 ^ 32 - 1
places_left p command e =
    under (answers_told command.state + p.entries)
    (third_none (not (do_ascend p.last_completion (ids_asked_by command))) (not command.are_keys_text) (nat_lt (2 ^ 32 - 2) (answers_told command.state + p.entries)) (is_too_long command.payload) e)

pub has_room : (p : Progress) (is_closed : Bool) (frame : AttemptFrame) → refusal_by (tests_of_told p is_closed frame) ≡ None → HasRoom p frame
has_room p is_closed (told.Command command) e = let left = places_left p command e in omega (arith, left)
has_room p is_closed _ e = tt

-- ---- what is answered at once

pub room_for_answer : (p : Progress) (command : RecordedCommand) (result : Result (Option ReadAnswer) Refusal) → refusal_by (tests_of_told p true (told.Command command)) ≡ None
    → IfOk result (λ answer. IfSome answer (λ (one : ReadAnswer). answers_told command.state ≡ 1)) → IfOk result (λ answer. IfSome answer (λ (one : ReadAnswer). p.entries + 1 < 2 ^ 32 - 1))
room_for_answer p command (Ok (Some answer)) none counted = let left = places_left p command none in omega (arith, left, counted)
room_for_answer p command (Ok None) none counted = tt
room_for_answer p command (Err why) none counted = tt

pub decided_told : {A : Type 0} (tests : Tests) (IsAnswer : A → Type 0) (result : Result A Refusal) → refusal_by tests ≡ None → TellsOrRefuses IsAnswer result → Decides tests IsAnswer result
decided_told tests IsAnswer (Ok answer) none is = (none_holds tests none, is)
decided_told tests IsAnswer (Err why) none is = refused_anyway tests why is

-- a command that is answered nothing is no read that the store answers
pub unread_command : (state : StateMap) (command : RecordedCommand) → None ≡ answer_told state command.state command.completion → IsUnread (told.Command command)
unread_command state command none (Frame.Command request) h = by_request request (none ∙ ap₂ (answer_told state) h.state h.completion)
  where
    by_request : (request : Request) → None ≡ answer_told state (state_use request) (first_asked (completions_asked request)) → is_lazy_read request ≡ false
    by_request (Request.GetLazyState key n name) e = cc
    by_request (Request.GetLazyStateKeys n name) e = cc
    by_request _ e = refl
unread_command state command none (Frame.RunOutcome n value asks) h = absurd h
unread_command state command none _ h = tt

-- ---- a command that is refused

-- what refuses it without its answer refuses it with its answer too
left_first : (a b c d e : Bool) (why : Refusal) → refusal_by (four a b c d) ≡ Some why → refusal_by (four a b c (d || e)) ≡ Some why
left_first true b c d e why first = first
left_first false true c d e why first = first
left_first false false true d e why first = first
left_first false false false true e why first = first
left_first false false false false e why first = cc

answers_counted : (state : StateMap) (request : Request) → 1 + answers_told (state_use request) ≡ length (Recorded request ∷ map Arrived (read_answer state request))
answers_counted state (Request.GetLazyState key n name) = refl
answers_counted state (Request.GetLazyStateKeys n name) = refl
answers_counted state _ = refl

side_by_side : (n k : ℕ) → k + (1 + n) ≡ n + (1 + k)
side_by_side n k = omega arith

module _ (events : List Event) (id : Text) (number : ℕ) (request : Request) (command : RecordedCommand) (h : IsCommand request command) where
  first_left : (why : Refusal) → refusal_by (tests_of_told (progress_of events id) true (told.Command command)) ≡ Some why
      → refusal_by (tests_left events id number (Frame.Command request)) ≡ Some why
  first_left why first =
      let entries = entries_of events id in
      let last = last_completion (requests_in (entries_of events id)) in
      let state = state_after (requests_in (entries_of events id)) (starting_state events id) in
      let answers = read_answer (state_after (requests_in (entries_of events id)) (starting_state events id)) request in
      let counted : answers_told command.state + (1 + length (entries_of events id)) ≡ length (entries_of events id) + length (Recorded request ∷ map Arrived answers) =
      side_by_side (length (entries_of events id)) (answers_told command.state)
      ∙ ap (λ (k : ℕ). length (entries_of events id) + k) (ap (λ (done : StateUse). 1 + answers_told done) h.state ∙ answers_counted state request) in
      (λ i. refusal_by (command_tests entries request last (length entries) (sym h.text i) answers (asked_same request command h i) (sym h.payload i)))
      ∙ left_first (not (do_ascend last (ids_asked_by command))) (not command.are_keys_text) (nat_lt (2 ^ 32 - 2) (length entries + length (Recorded request ∷ map Arrived answers))) (is_too_long command.payload)
      (list_any (λ entry. is_too_long (entry_payload entry)) (map Arrived answers)) why
      (subst (λ (k : ℕ). refusal_by (four (not (do_ascend last (ids_asked_by command))) (not command.are_keys_text) (nat_lt (2 ^ 32 - 2) k) (is_too_long command.payload)) ≡ Some why) counted first)

  refused_so : (why : Refusal) → causes_of events (Event.Move id number (Frame.Command request)) ≡ those_that_hold (tests_left events id number (Frame.Command request))
      → IsRefused (those_that_hold (tests_of_told (progress_of events id) true (told.Command command))) why → IsRefused (causes_of events (Event.Move id number (Frame.Command request))) why
  refused_so why causes (inl e) =
      inl (ap refusal_of_first_cause causes ∙ first_holds (tests_left events id number (Frame.Command request))
      ∙ first_left why (sym (first_holds (tests_of_told (progress_of events id) true (told.Command command))) ∙ e))
  refused_so why causes (inr e) = inr e

-- ---- by the row of its invocation

module _ (events : List Event) (accepted : IsAccepted events) (id : Text) (row : InvocationRow) (of : IsRowOf events id row) (attempt : LiveFacts) (command : RecordedCommand) where
  far : row.progress ≡ progress_of events id
  far = ap (λ (r : InvocationRow). r.progress) of.is ∙ ap (progress_of events) of.named

  named : row.id ≡ id
  named = ap (λ (r : InvocationRow). r.id) of.is ∙ of.named

  opened : (number : ℕ) → KnowsLive events id number attempt → is_open events id ≡ true
  opened number live = live_open events id number accepted live.live

  -- the state of its object is that before the command
  state_is : is_open events id ≡ true → object_state events row.object ≡ state_after (recorded_requests events id) (starting_state events id)
  state_is is = ap (λ (r : InvocationRow). object_state events r.object) of.is ∙ accepted_followed events accepted id of.new of.begun is

  pub command_refused : (why : Refusal) → IsRefused (those_that_hold (tests_of_told row.progress true (told.Command command))) why → TakesAttemptFrame events id attempt (told.Command command) (Err why)
  command_refused why refused number (Frame.Command request) live from h =
      refused_so events id number request command h why (causes_by_row events id row accepted of attempt number (Frame.Command request) live)
      (subst (λ (p : Progress). IsRefused (those_that_hold (tests_of_told p true (told.Command command))) why) far refused)
  command_refused why refused number (Frame.Suspend None) live from h = absurd h
  command_refused why refused number (Frame.Suspend (Some suspension)) live from h = absurd h
  command_refused why refused number _ live from h = absurd h

  pub command_answered : (answer : ReadAnswer) → Some answer ≡ answer_told (object_state events row.object) command.state command.completion
      → those_that_hold (tests_of_told row.progress true (told.Command command)) ≡ []
      → (result : Result PreparedFrame Refusal) → Decides (payload_tests (notification_payload answer.arrival)) (IsReadMade row command answer) result
      → TakesAttemptFrame events id attempt (told.Command command) result
  command_answered answer is none result decided number (Frame.Command request) live from h =
      prepared_read events accepted id number request command h row named far answer
      (answer_of (state_after (recorded_requests events id) (starting_state events id)) request answer
      (sym (is ∙ (λ i. answer_told (state_is (opened number live) i) (h.state i) (h.completion i)))))
      (causes_by_row events id row accepted of attempt number (Frame.Command request) live)
      (subst (λ (p : Progress). refusal_by (tests_of_told p true (told.Command command)) ≡ None) far (none_refused (tests_of_told row.progress true (told.Command command)) none))
      result decided
  command_answered answer is none result decided number (Frame.Suspend None) live from h = absurd h
  command_answered answer is none result decided number (Frame.Suspend (Some suspension)) live from h = absurd h
  command_answered answer is none result decided number _ live from h = absurd h
