-- A read that the store answers: what is made ready of it and of its answer is what its event writes.
use Rattle.std.proofs.Common.{◌≡◌, refl, sym, ap, ◌∙◌, subst, arith, ◌==◌, ℕ, ◌+◌, ◌-◌, ◌^◌, ◌<◌, max, nat_lt, eq-eqb, ltb-true, Bool, true, false, not, ◌&&◌, ◌||◌, if◌then◌else◌, List, [], ◌∷◌, ◌++◌, append-nil, length, map, Option, Some, None, Result, Ok, Err}
use Rattle.std.specs.List.{find, list_any}
use Rattle.journal_model.specs.Notification.{Text, Arrival}
use Rattle.journal_model.specs.declared.notification.NotificationResult.{NotificationResult}
use Rattle.journal_model.specs.declared.notification.NotificationId.TheVariants.{CompletionId}
use Rattle.journal_model.specs.Delivery.{value_or_void}
use Rattle.journal_model.specs.State.{StateMap, value_of_key, state_keys, state_after}
use Rattle.journal_model.specs.Request.{Request, completions_asked}
use Rattle.journal_model.specs.Spelling.{completion_type, notification_payload}
use Rattle.journal_model.specs.Event.{Frame, Event}
use Rattle.journal_model.specs.Journal.{Entry, Recorded, Arrived, asks_for, arrivals_in, completion, entries_of, object_of, read_answer, recorded_requests, requests_in, starting_state}
use Rattle.journal_model.specs.Attempt.{notification_type, type_of_completion}
use Rattle.journal_model.specs.Cause.{do_ascend, greatest, is_too_long, last_completion, those_that_hold, causes_of, IsAccepted}
use Rattle.journal_model.specs.declared.cause.Cause.{Cause}
use Rattle.journal_model.specs.declared.cause.Cause.TheVariants.{BadCompletion, KeyNotText, NumbersUsedUp, PayloadTooLong}
use Rattle.journal_laws.proofs.ObjectState.{requests_in-append}
use Rattle.protocol_types.specs.declared.message_type.MessageType.{MessageType}
use Rattle.protocol_types.specs.declared.message_type.MessageType.TheVariants as types
use Rattle.store_frames.specs.declared.frame.RecordedCommand.{RecordedCommand}
use Rattle.store_frames.specs.declared.frame.AttemptFrame.TheVariants as told
use Rattle.store_frames.specs.Commands.{first_asked, state_use}
use Rattle.store_frames.specs.Answer.{IsCommand}
use Rattle.store_tables.specs.declared.row.InvocationRow.{InvocationRow}
use Rattle.store_tables.specs.declared.row.Progress.{Progress}
use Rattle.store_tables.specs.declared.row.Write.TheVariants.{SetProgress, AddEntry, OpenSleep}
use Rattle.store_model.specs.Progress.{progress_of}
use Rattle.store_model.specs.KeptRecords.{answered_by, entry_row, rows_from}
use Rattle.store_model.specs.Sleeps.{sleeps_opened}
use Rattle.store_model.specs.Writes.{state_writes, writes_of}
use Rattle.store_model.specs.Steps.{after_command, answers_at_once, grown, noted_into, payload_or}
use Rattle.store_model.proofs.Following.{follows}
use Rattle.store_model.proofs.States.{itself}
use Rattle.due_laws.specs.AwakeNotes.{Noted}
use Rattle.due_laws.proofs.Noting.{noted_follows}
use Rattle.store_model.proofs.Answering.{asked_below, arrivals_in-append}
use Rattle.store_invocations.specs.Rows.{Decides, payload_tests}
use Rattle.store_refusals.specs.declared.refusal.Refusal.{Refusal}
use Rattle.store_refusals.specs.RefusalConditions.{refusal_by, IsRefused}
use Rattle.store_refusals.specs.Preparations.{Prepares}
use Rattle.store_arrivals.specs.Arrivals.{HasFewArrivals, entry_of_arrival}
use Rattle.store_arrivals.proofs.Written.{few_arrivals}
use Rattle.store_steps.specs.declared.frame.PreparedFrame.{PreparedFrame}
use Rattle.store_steps.specs.declared.reads.ReadAnswer.{ReadAnswer}
use Rattle.store_steps.specs.Reads.{IsReadMade, answer_told, with_read}
use Rattle.store_steps.specs.PreparedFrames.{IsReply, IsFrameTaken}
use Rattle.store_steps.specs.FrameAnswers.{after_recorded, answers_told, ids_asked_by, command_row, tests_of_told}
use Rattle.store_steps.proofs.Tests.{asked_same, command_tests, tests_left}
use Rattle.store_steps.proofs.Writes.{put_out_same, row_same}

-- ---- the answer

-- a request that is told this answer is a read, and this is its answer by the definitions
pub record IsAnswerOf (state : StateMap) (request : Request) (answer : ReadAnswer) : Type 0 where
  pub number : ℕ
  pub asks : completions_asked request ≡ number ∷ []
  pub named : answer.arrival.id ≡ CompletionId number
  pub answers : read_answer state request ≡ answer.arrival ∷ []
  pub typed : completion_type request number ≡ answer.ty
  pub at_once : answers_at_once request ≡ 1
  pub counted : answers_told (state_use request) ≡ 1
  pub no_sleeps : (id : Text) → sleeps_opened id request ≡ []
  pub no_writes : (object : Option Text) → state_writes object (request ∷ []) ≡ []

same_answer : (one other : ReadAnswer) → Some one ≡ Some other → one ≡ other
same_answer one other e = cc

no_answer_told : {A : Type 0} (answer : ReadAnswer) → None ≡ Some answer → A
no_answer_told answer e = absurd cc

pub answer_of : (state : StateMap) (request : Request) (answer : ReadAnswer) → answer_told state (state_use request) (first_asked (completions_asked request)) ≡ Some answer
    → IsAnswerOf state request answer
answer_of state (Request.GetLazyState key n name) answer e =
    let is = same_answer (record { ty = types.GetLazyStateCompletionNotification; arrival = completion n (value_or_void (value_of_key state key)) }) answer e in
    record {
      number = n;
      asks = refl;
      named = ap (λ (a : ReadAnswer). a.arrival.id) (sym is);
      answers = ap (λ (a : ReadAnswer). a.arrival ∷ []) is;
      typed = ap (λ (a : ReadAnswer). a.ty) is;
      at_once = refl;
      counted = refl;
      no_sleeps = λ id. refl;
      no_writes = unwritten;
    }
  where
    unwritten : (object : Option Text) → state_writes object (Request.GetLazyState key n name ∷ []) ≡ []
    unwritten None = refl
    unwritten (Some object) = refl
answer_of state (Request.GetLazyStateKeys n name) answer e =
    let is = same_answer (record { ty = types.GetLazyStateKeysCompletionNotification; arrival = completion n (NotificationResult.StateKeys (state_keys state)) }) answer e in
    record {
      number = n;
      asks = refl;
      named = ap (λ (a : ReadAnswer). a.arrival.id) (sym is);
      answers = ap (λ (a : ReadAnswer). a.arrival ∷ []) is;
      typed = ap (λ (a : ReadAnswer). a.ty) is;
      at_once = refl;
      counted = refl;
      no_sleeps = λ id. refl;
      no_writes = unwritten;
    }
  where
    unwritten : (object : Option Text) → state_writes object (Request.GetLazyStateKeys n name ∷ []) ≡ []
    unwritten None = refl
    unwritten (Some object) = refl
answer_of state (Request.SetState key value name) answer e = no_answer_told answer e
answer_of state (Request.ClearState key name) answer e = no_answer_told answer e
answer_of state (Request.ClearAllState name) answer e = no_answer_told answer e
answer_of state _ answer e = no_answer_told answer e

-- ---- its type

find_last : {A : Type 0} (p : A → Bool) (xs : List A) (x : A) → list_any p xs ≡ false → p x ≡ true → find p (xs ++ x ∷ []) ≡ Some x
find_last p [] x none here = ap (λ (b : Bool). if b then Some x else None) here
find_last {A} p (y ∷ xs) x none here = by_test (p y) none (λ later. find_last p xs x later here)
  where
    by_test : (b : Bool) → (b || list_any p xs) ≡ false → (list_any p xs ≡ false → find p (xs ++ x ∷ []) ≡ Some x) → (if b then Some y else find p (xs ++ x ∷ [])) ≡ Some x
    by_test true e later = cc
    by_test false e later = later e

ascends : (last n : ℕ) → do_ascend last (n ∷ []) ≡ true → last < n
ascends last n up = ltb-true last n (by_test (nat_lt last n) up)
  where
    by_test : (b : Bool) → (b && true) ≡ true → b ≡ true
    by_test true e = refl
    by_test false e = cc

-- no earlier request asks for a completion above all of theirs
not_asked : (entries : List Entry) (n : ℕ) → do_ascend (last_completion (requests_in entries)) (n ∷ []) ≡ true → list_any (asks_for n) (requests_in entries) ≡ false
not_asked entries n up = by_any (list_any (asks_for n) (requests_in entries)) refl
  where
    by_any : (b : Bool) → list_any (asks_for n) (requests_in entries) ≡ b → b ≡ false
    by_any true e = let under = asked_below n (requests_in entries) e in let above = ascends (last_completion (requests_in entries)) n up in absurd (omega (arith, under, above))
    by_any false e = refl

typed_last : (entries : List Entry) (request : Request) (n : ℕ) (ty : MessageType) → completions_asked request ≡ n ∷ []
    → do_ascend (last_completion (requests_in entries)) (n ∷ []) ≡ true → completion_type request n ≡ ty
    → notification_type (entries ++ Recorded request ∷ []) (CompletionId n) ≡ ty
typed_last entries request n ty asks up typed =
    ap (λ (found : Option Request). type_of_completion found n)
    (ap (find (asks_for n)) (requests_in-append entries (Recorded request ∷ []))
    ∙ find_last (asks_for n) (requests_in entries) request (not_asked entries n up)
    (ap (λ (ns : List ℕ). list_any (λ (m : ℕ). m == n) ns) asks ∙ ap (λ (b : Bool). b || false) (eq-eqb n n refl)))
    ∙ typed

-- ---- its tests

-- where none holds of the read alone, what is left is whether its answer is too long
left_over : (a b c d e : Bool) → refusal_by ((a, BadCompletion) ∷ (b, KeyNotText) ∷ (c, NumbersUsedUp) ∷ (d, PayloadTooLong) ∷ []) ≡ None
    → those_that_hold ((a, BadCompletion) ∷ (b, KeyNotText) ∷ (c, NumbersUsedUp) ∷ (d || (e || false), PayloadTooLong) ∷ []) ≡ those_that_hold ((e, PayloadTooLong) ∷ [])
left_over false false false false true none = refl
left_over false false false false false none = refl
left_over true b c d e none = cc
left_over false true c d e none = cc
left_over false false true d e none = cc
left_over false false false true e none = cc

behind_all : (n : ℕ) → n + 2 ≡ 1 + (1 + n)
behind_all n = omega arith

-- ---- what is made ready

module _ (events : List Event) (accepted : IsAccepted events) (id : Text) (number : ℕ) (request : Request) (command : RecordedCommand) (h : IsCommand request command) (row : InvocationRow) (named : row.id ≡ id)
    (far : row.progress ≡ progress_of events id) (answer : ReadAnswer) (is : IsAnswerOf (state_after (recorded_requests events id) (starting_state events id)) request answer) where
  abbrev event : Event
  event = Event.Move id number (Frame.Command request)

  abbrev entries : List Entry
  entries = entries_of events id

  abbrev place : ℕ
  place = 1 + length (entries_of events id)

  -- the row of the answer, behind that of the read
  answer_row_is : do_ascend (last_completion (requests_in (entries_of events id))) (is.number ∷ []) ≡ true
      → entry_row id (entries ++ Recorded request ∷ []) (place + 1) (Arrived answer.arrival)
      ≡ entry_of_arrival (with_read command row) answer.ty (answered_by answer.arrival.id) (notification_payload answer.arrival)
  answer_row_is up = λ i. record {
    invocation = sym named i;
    place = (sym (ap (λ (p : Progress). p.entries + 1) far)) i;
    kind = (ap (notification_type (entries ++ Recorded request ∷ [])) is.named ∙ typed_last entries request is.number answer.ty is.asks up is.typed) i;
    payload = notification_payload answer.arrival;
    completion = None;
    second_completion = None;
    answered = answered_by answer.arrival.id;
    moment = 0;
    arrival = Some (1 + counted i);
  }
    where
      counted : length (arrivals_in (entries ++ Recorded request ∷ [])) ≡ row.progress.arrivals
      counted = ap (λ (arrivals : List Arrival). length arrivals) (arrivals_in-append entries (Recorded request ∷ []) ∙ append-nil (arrivals_in entries)) ∙ sym (ap (λ (p : Progress). p.arrivals) far)

  -- how far the invocation is with both
  both_recorded : causes_of events event ≡ [] → progress_of (event ∷ events) id ≡ grown 1 1 (after_recorded command row.progress)
  both_recorded taken =
      follows events event id refl refl
      ∙ ap (λ (n : Noted). after_command request (noted_into n (progress_of events id))) (noted_follows events event id (taken, accepted) (itself id) refl)
      ∙ (λ i. record (grown (1 + is.at_once i) (is.at_once i) (progress_of events id)) {
        last_completion = max (progress_of events id).last_completion (greatest (asked_same request command h i));
        answer = payload_or (put_out_same request command h i) (progress_of events id).answer;
      })
      ∙ (λ i. record (grown 1 1 (after_recorded command (progress_of events id))) { entries = twice (progress_of events id).entries i })
      ∙ ap (λ (p : Progress). grown 1 1 (after_recorded command p)) (sym far)
    where
      twice : (n : ℕ) → n + 2 ≡ (n + 1) + 1
      twice n = omega arith

  read_written : causes_of events event ≡ [] → do_ascend (last_completion (requests_in (entries_of events id))) (is.number ∷ []) ≡ true
      → writes_of events event
      ≡ AddEntry (command_row row.id row.progress.entries command)
      ∷ AddEntry (entry_of_arrival (with_read command row) answer.ty (answered_by answer.arrival.id) (notification_payload answer.arrival))
      ∷ SetProgress row.id (grown 1 1 (after_recorded command row.progress)) ∷ []
  read_written taken up =
      (λ i. ((AddEntry (entry_row id entries place (Recorded request)) ∷ map AddEntry (rows_from id (entries ++ Recorded request ∷ []) (place + 1) (map Arrived (is.answers i))))
      ++ SetProgress id (progress_of (event ∷ events) id) ∷ []) ++ [] ++ (map OpenSleep (is.no_sleeps id i) ++ is.no_writes (object_of events event) i))
      ∙ (λ i. AddEntry (row_same id entries place request command h i) ∷ AddEntry (answer_row_is up i) ∷ SetProgress (sym named i) (both_recorded taken i) ∷ [])
      ∙ (λ i. AddEntry (command_row (sym named i) (sym (ap (λ (p : Progress). p.entries) far) i) command)
      ∷ AddEntry (entry_of_arrival (with_read command row) answer.ty (answered_by answer.arrival.id) (notification_payload answer.arrival))
      ∷ SetProgress row.id (grown 1 1 (after_recorded command row.progress)) ∷ [])

  -- no test holds but that its answer is too long, where no other one holds by what is kept
  pub causes_left_over : refusal_by (tests_of_told (progress_of events id) true (told.Command command)) ≡ None
      → those_that_hold (tests_left events id number (Frame.Command request)) ≡ those_that_hold (payload_tests (notification_payload answer.arrival))
  causes_left_over none =
      let last = last_completion (requests_in (entries_of events id)) in
      let room : nat_lt (2 ^ 32 - 2) (answers_told command.state + (1 + length entries)) ≡ nat_lt (2 ^ 32 - 2) (length entries + 2) =
      ap (λ (k : ℕ). nat_lt (2 ^ 32 - 2) k) (ap (λ (k : ℕ). k + (1 + length entries)) (ap answers_told h.state ∙ is.counted) ∙ sym (behind_all (length entries))) in
      (λ i. those_that_hold (command_tests entries request last (length entries) (sym h.text i) (is.answers i) (asked_same request command h i) (sym h.payload i)))
      ∙ left_over (not (do_ascend last (ids_asked_by command))) (not command.are_keys_text) (nat_lt (2 ^ 32 - 2) (length entries + 2)) (is_too_long command.payload)
      (is_too_long (notification_payload answer.arrival))
      (sym (ap (λ (b : Bool). refusal_by ((not (do_ascend last (ids_asked_by command)), BadCompletion) ∷ (not command.are_keys_text, KeyNotText) ∷ (b, NumbersUsedUp)
      ∷ (is_too_long command.payload, PayloadTooLong) ∷ [])) room) ∙ none)

  -- the completion ascends then
  up_then : refusal_by (tests_of_told (progress_of events id) true (told.Command command)) ≡ None → do_ascend (last_completion (requests_in (entries_of events id))) (is.number ∷ []) ≡ true
  up_then none =
      ap (do_ascend (last_completion (requests_in (entries_of events id)))) (sym is.asks ∙ asked_same request command h)
      ∙ by_first (do_ascend (last_completion (requests_in (entries_of events id))) (ids_asked_by command)) none
    where
      by_first : (b : Bool) → refusal_by ((not b, BadCompletion) ∷ (not command.are_keys_text, KeyNotText) ∷ (nat_lt (2 ^ 32 - 2) (answers_told command.state + (1 + length entries)), NumbersUsedUp)
          ∷ (is_too_long command.payload, PayloadTooLong) ∷ []) ≡ None → b ≡ true
      by_first true e = refl
      by_first false e = cc

  pub prepared_read : causes_of events event ≡ those_that_hold (tests_left events id number (Frame.Command request))
      → refusal_by (tests_of_told (progress_of events id) true (told.Command command)) ≡ None
      → (result : Result PreparedFrame Refusal) → Decides (payload_tests (notification_payload answer.arrival)) (IsReadMade row command answer) result
      → Prepares events event (IsFrameTaken events id number (Frame.Command request)) result
  prepared_read causes none (Ok made) decided = (
    causes ∙ causes_left_over none ∙ decided.0,
    record {
      writes = decided.1.writes (subst HasFewArrivals (sym far) (few_arrivals events id)) ∙ sym (read_written (causes ∙ causes_left_over none ∙ decided.0) (up_then none));
      reply = subst (IsReply events id (Frame.Command request)) (sym decided.1.reply) (ap (λ (p : Progress). p.entries) far);
      acknowledged = decided.1.acknowledged;
    },
  )
  prepared_read causes none (Err why) decided = subst (λ (all : List Cause). IsRefused all why) (sym (causes ∙ causes_left_over none)) decided
