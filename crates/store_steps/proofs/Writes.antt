-- What is written of a frame, by what is kept of its invocation and of the frame, is what the event writes.
use Rattle.std.proofs.Common.{arith, ◌≡◌, refl, sym, ap, ap₂, ◌∙◌, ℕ, ◌+◌, max, nat_lt, Bool, true, false, ◌&&◌, if◌then◌else◌, List, [], ◌∷◌, ◌++◌, append-nil, length, map, Option, Some, None, option_map}
use Rattle.journal_model.specs.Notification.{Text, Arrival}
use Rattle.journal_model.specs.State.{state_after}
use Rattle.journal_model.specs.declared.invocation.NewInvocation.{NewInvocation}
use Rattle.journal_model.specs.Request.{Request, completions_asked}
use Rattle.journal_model.specs.Spelling.{request_type, request_payload}
use Rattle.journal_model.specs.Event.{Behavior, Frame, Event}
use Rattle.journal_model.specs.Journal.{Entry, Recorded, Arrived, invocation_begun, version_of, object_of, closes, sleep_in, never, starting_state, requests_in, entries_of}
use Rattle.journal_model.specs.Cause.{greatest, causes_of, IsAccepted}
use Rattle.due_laws.specs.AwakeNotes.{Noted, noted_of}
use Rattle.due_laws.specs.Awake.{noted_after_frame}
use Rattle.due_laws.proofs.Noting.{noted_follows}
use Rattle.store_frames.specs.declared.frame.RecordedCommand.{RecordedCommand}
use Rattle.store_frames.specs.declared.frame.ErrorBehavior.{ErrorBehavior}
use Rattle.store_frames.specs.declared.frame.ErrorBehavior.TheVariants as behaviors
use Rattle.store_frames.specs.declared.frame.AttemptFrame.{AttemptFrame}
use Rattle.store_frames.specs.declared.frame.AttemptFrame.TheVariants as told
use Rattle.store_frames.specs.Commands.{first_asked, second_asked, moment_of as moment_told, state_use}
use Rattle.store_frames.specs.Answer.{behavior_meant, IsCommand, IsError, IsFrame}
use Rattle.store_refusals.specs.RefusalConditions.{refusal_by}
use Rattle.store_tables.specs.declared.row.Closing.TheVariants.{Ended, Failed}
use Rattle.store_tables.specs.declared.row.Progress.{Progress}
use Rattle.store_tables.specs.declared.row.EntryRow.{EntryRow}
use Rattle.store_tables.specs.declared.row.SleepRow.{SleepRow}
use Rattle.store_tables.specs.declared.row.Write.{Write}
use Rattle.store_tables.specs.declared.row.Write.TheVariants.{SetProgress, AddEntry, OpenSleep}
use Rattle.store_model.specs.Places.{handed_place}
use Rattle.store_model.specs.Progress.{first_item, second_of, output_payload, behavior_number, progress_of}
use Rattle.store_model.specs.KeptRecords.{moment_of, entry_row, rows_from}
use Rattle.store_model.specs.Sleeps.{sleep_row, sleeps_opened}
use Rattle.store_model.specs.Writes.{state_write, state_writes, writes_of}
use Rattle.store_model.specs.Steps.{noted_into, grown, payload_or, after_command, progress_after_frame}
use Rattle.store_model.proofs.Following.{follows}
use Rattle.store_model.proofs.States.{itself}
use Rattle.store_steps.specs.declared.frame.LiveFacts.{LiveFacts}
use Rattle.store_steps.specs.PreparedFrames.{IsAwakeAtOnce, KnowsLive, IsReply}
use Rattle.protocol_stream.specs.CommandFacts.{facts_of}
use Rattle.store_steps.specs.FrameAnswers.{puts_out, value_put_out, command_row, keeps_moment, sleep_if, sleep_told, state_told, closing_writes, tests_of_told, reply_to_told, after_recorded, number_of_behavior, does_fail, after_suspension, after_error, after_end, error_told, writes_of_told}
use Rattle.store_steps.proofs.LazyReads.{is_lazy_read, IsByRow, no_answer, none_at_once}
use Rattle.store_steps.proofs.Tests.{asked_same}
use Rattle.store_steps.proofs.Lists.{payload_kept}

-- ---- commands

first_same : (ns : List ℕ) → first_item ns ≡ first_asked ns
first_same [] = refl
first_same (n ∷ ns) = refl

second_same : (ns : List ℕ) → second_of ns ≡ second_asked ns
second_same [] = refl
second_same (n ∷ ns) = first_same ns

moment_same : (request : Request) → moment_of (sleep_in request) ≡ moment_told request
moment_same (Request.Sleep moment n name) = refl
moment_same _ = refl

pub row_same : (id : Text) (before : List Entry) (place : ℕ) (request : Request) (command : RecordedCommand) → IsCommand request command
    → entry_row id before place (Recorded request) ≡ command_row id place command
row_same id before place request command h = λ i. record {
  invocation = id;
  place = place;
  kind = kind i;
  payload = sym h.payload i;
  completion = first i;
  second_completion = second i;
  answered = None;
  moment = moment i;
  arrival = None;
}
  where
    kind : request_type request ≡ command.kind
    kind = sym h.kind

    first : first_item (completions_asked request) ≡ command.completion
    first = first_same (completions_asked request) ∙ sym h.completion

    second : second_of (completions_asked request) ≡ command.second_completion
    second = second_same (completions_asked request) ∙ sym h.second_completion

    moment : moment_of (sleep_in request) ≡ command.moment
    moment = moment_same request ∙ sym h.moment

-- the sleep that a request asks for is told by the type, the moment and the completion of its command
sleep_told_so : (id : Text) (request : Request)
    → sleeps_opened id request ≡ sleep_if (keeps_moment (facts_of (request_type request)) && nat_lt (moment_told request) never) id (moment_told request) (first_asked (completions_asked request))
sleep_told_so id (Request.Sleep moment n name) = by_test (nat_lt moment never)
  where
    by_test : (b : Bool) → map (sleep_row id) (if b then (moment, n) ∷ [] else []) ≡ sleep_if b id moment (Some n)
    by_test true = refl
    by_test false = refl
sleep_told_so id _ = refl

sleep_same : (id : Text) (request : Request) (command : RecordedCommand) → IsCommand request command → sleeps_opened id request ≡ sleep_told id command
sleep_same id request command h =
    sleep_told_so id request
    ∙ (λ i. sleep_if (keeps_moment (facts_of (sym h.kind i)) && nat_lt (sym h.moment i) never) id (sym h.moment i) (sym h.completion i))

output_same : (request : Request) → output_payload request ≡ (if puts_out (facts_of (request_type request)) then Some (request_payload request) else None)
output_same (Request.Output value name) = refl
output_same _ = refl

pub put_out_same : (request : Request) (command : RecordedCommand) → IsCommand request command → output_payload request ≡ value_put_out command
put_out_same request command h = output_same request ∙ (λ i. if puts_out (facts_of (sym h.kind i)) then Some (sym h.payload i) else None)

command_progress : (request : Request) (command : RecordedCommand) (p : Progress) → is_lazy_read request ≡ false → IsCommand request command
    → after_command request p ≡ after_recorded command p
command_progress request command p unread h =
    (λ i. record (grown (1 + none_at_once request unread i) (none_at_once request unread i) p) {
      last_completion = max p.last_completion (greatest (asked_same request command h i));
      answer = payload_or (put_out_same request command h i) p.answer;
    })
    ∙ (λ i. record (after_recorded command p) { arrivals = no_more p.arrivals i })
  where
    no_more : (n : ℕ) → n + 0 ≡ n
    no_more n = omega arith

-- what a request writes of the state of its object
state_same : (object : Text) (found : Option Text) (request : Request) (command : RecordedCommand) → IsCommand request command → found ≡ Some object
    → state_writes found (request ∷ []) ≡ state_told object command.state
state_same object found request command h is =
    ap (λ (o : Option Text). state_writes o (request ∷ [])) is ∙ by_request request ∙ ap (state_told object) (sym h.state)
  where
    by_request : (request : Request) → state_write object request ++ [] ≡ state_told object (state_use request)
    by_request (Request.SetState key value name) = refl
    by_request (Request.ClearState key name) = refl
    by_request (Request.ClearAllState name) = refl
    by_request _ = refl

nothing_written : (object : Option Text) → state_writes object [] ≡ []
nothing_written None = refl
nothing_written (Some object) = refl

-- ---- errors

behavior_same : (told_behavior : ErrorBehavior) → behavior_number (behavior_meant told_behavior) ≡ number_of_behavior told_behavior
behavior_same behaviors.Retry = refl
behavior_same behaviors.Pause = refl
behavior_same behaviors.Fail = refl

closes_same : (version code : ℕ) (message : Text) (delay : Option ℕ) (told_behavior : ErrorBehavior)
    → closes version (Frame.Error code message (behavior_meant told_behavior) delay) ≡ does_fail version told_behavior
closes_same version code message delay behaviors.Retry = refl
closes_same version code message delay behaviors.Pause = refl
closes_same version code message delay behaviors.Fail = refl

fails_same : (version code : ℕ) (message : Text) (behavior : Behavior) (delay : Option ℕ) (told_behavior : ErrorBehavior) → behavior_meant told_behavior ≡ behavior
    → closes version (Frame.Error code message behavior delay) ≡ does_fail version told_behavior
fails_same version code message behavior delay told_behavior meant =
    ap (λ (b : Behavior). closes version (Frame.Error code message b delay)) (sym meant) ∙ closes_same version code message delay told_behavior

error_progress : (version place code : ℕ) (message : Text) (behavior : Behavior) (delay : Option ℕ) (told_code : ℕ) (told_message : Text) (told_behavior : ErrorBehavior) (told_delay : Option ℕ) (p : Progress)
    → IsError code message behavior delay told_code told_message told_behavior told_delay
    → progress_after_frame version place (Frame.Error code message behavior delay) (record p { is_awake = if closes version (Frame.Error code message behavior delay) then false else p.is_awake })
    ≡ after_error (error_told told_code told_message told_behavior told_delay) (does_fail version told_behavior) p
error_progress version place code message behavior delay told_code told_message told_behavior told_delay p h = λ i. record p {
  last_error = Some (record { code = sym h.code_is i; behavior = number i; delay = sym h.delay_is i; message = sym h.message_is i });
  open_object = if fails i then None else p.open_object;
  closing = if fails i then Some Failed else p.closing;
  is_awake = if fails i then false else p.is_awake;
}
  where
    number : behavior_number behavior ≡ number_of_behavior told_behavior
    number = ap behavior_number (sym h.behavior_is) ∙ behavior_same told_behavior

    fails : closes version (Frame.Error code message behavior delay) ≡ does_fail version told_behavior
    fails = fails_same version code message behavior delay told_behavior h.behavior_is

-- ---- all frames

module _ (events : List Event) (accepted : IsAccepted events) (id : Text) (number : ℕ) where
  abbrev object : Frame → Option Text
  object frame = object_of events (Event.Move id number frame)

  abbrev after : Frame → Progress
  after frame = progress_of (Event.Move id number frame ∷ events) id

  -- what is noted after a frame that is accepted
  abbrev noted : Frame → Noted
  noted frame = noted_after_frame events id frame (noted_of events id)

  abbrev IsTakenIn : Frame → Type 0
  IsTakenIn frame = causes_of events (Event.Move id number frame) ≡ []

  -- the progress then, as it is told
  progress_is : (frame : Frame) (p : Progress) → IsTakenIn frame
      → progress_after_frame (version_of events id) (handed_place events id) frame (noted_into (noted frame) (progress_of events id)) ≡ p → after frame ≡ p
  progress_is frame p none e =
      follows events (Event.Move id number frame) id refl refl
      ∙ ap (λ (n : Noted). progress_after_frame (version_of events id) (handed_place events id) frame (noted_into n (progress_of events id)))
      (noted_follows events (Event.Move id number frame) id (none, accepted) (itself id) refl)
      ∙ e

  only_progress : (frame : Frame) (p : Progress) (is_closed : Bool) → IsTakenIn frame
      → writes_of events (Event.Move id number frame) ≡ SetProgress id (after frame) ∷ (closing_writes (closes (version_of events id) frame) id ++ state_writes (object frame) [])
      → progress_after_frame (version_of events id) (handed_place events id) frame (noted_into (noted frame) (progress_of events id)) ≡ p → closes (version_of events id) frame ≡ is_closed
      → writes_of events (Event.Move id number frame) ≡ SetProgress id p ∷ closing_writes is_closed id
  only_progress frame p is_closed none shape e f =
      shape ∙ ap₂ (λ (q : Progress) (writes : List Write). SetProgress id q ∷ writes) (progress_is frame p none e)
      (ap₂ (λ (c : Bool) (writes : List Write). closing_writes c id ++ writes) f (nothing_written (object frame)) ∙ append-nil (closing_writes is_closed id))

  command_written : (kept : Text) (request : Request) (command : RecordedCommand) → object (Frame.Command request) ≡ Some kept → IsTakenIn (Frame.Command request) → is_lazy_read request ≡ false → IsCommand request command
      → writes_of events (Event.Move id number (Frame.Command request))
      ≡ AddEntry (command_row id (1 + length (entries_of events id)) command) ∷ SetProgress id (after_recorded command (progress_of events id))
      ∷ (map OpenSleep (sleep_told id command) ++ state_told kept command.state)
  command_written kept request command is none unread h =
      let entries = entries_of events id in
      let place = 1 + length (entries_of events id) in
      let state = state_after (requests_in (entries_of events id)) (starting_state events id) in
      ap₂ (λ (answers : List Arrival) (writes : List Write).
      ((AddEntry (entry_row id entries place (Recorded request)) ∷ map AddEntry (rows_from id (entries ++ Recorded request ∷ []) (place + 1) (map Arrived answers)))
      ++ SetProgress id (after (Frame.Command request)) ∷ []) ++ [] ++ (map OpenSleep (sleeps_opened id request) ++ writes))
      (no_answer state request unread) (state_same kept (object (Frame.Command request)) request command h is)
      ∙ ap (λ (sleeps : List SleepRow). AddEntry (entry_row id entries place (Recorded request)) ∷ SetProgress id (after (Frame.Command request)) ∷ (map OpenSleep sleeps ++ state_told kept command.state))
      (sleep_same id request command h)
      ∙ ap₂ (λ (row : EntryRow) (p : Progress). AddEntry row ∷ SetProgress id p ∷ (map OpenSleep (sleep_told id command) ++ state_told kept command.state)) (row_same id entries place request command h)
      (progress_is (Frame.Command request) (after_recorded command (progress_of events id)) none (command_progress request command (progress_of events id) unread h))

  -- of a frame that is accepted
  pub written : (kept : Text) (attempt : LiveFacts) (is_awake : Bool) (frame : Frame) (read : AttemptFrame)
      → option_map (λ (new : NewInvocation). new.object) (invocation_begun events id) ≡ Some kept → KnowsLive events id number attempt → IsAwakeAtOnce events id frame is_awake
      → IsTakenIn frame → IsByRow frame → IsFrame frame read → refusal_by (tests_of_told (progress_of events id) attempt.is_input_closed read) ≡ None
      → writes_of events (Event.Move id number frame) ≡ writes_of_told id kept (version_of events id) attempt is_awake (progress_of events id) read
  written kept attempt is_awake (Frame.Command request) (told.Command command) of live awake none unread h e = command_written kept request command of none unread h
  written kept attempt is_awake (Frame.AwaitingOn awaited) told.AwaitingOn of live awake none unread h e = nothing_written (object (Frame.AwaitingOn awaited))
  written kept attempt is_awake (Frame.Suspend None) told.Broken of live awake none unread h e = cc
  written kept attempt is_awake (Frame.Suspend (Some suspension)) (told.Suspension payload) of live awake none unread h e =
      only_progress (Frame.Suspend (Some suspension)) (after_suspension payload attempt is_awake (progress_of events id)) false none refl
      (λ i. record (progress_of events id) {
        suspension = Some (payload_kept suspension payload h i);
        handed = Some (sym live.handed i);
        heard = Some (sym live.heard i);
        is_awake = sym awake i;
      })
      refl
  written kept attempt is_awake (Frame.Error code message behavior delay) (told.Error told_code told_message told_behavior told_delay) of live awake none unread h e =
      only_progress (Frame.Error code message behavior delay) (after_error (error_told told_code told_message told_behavior told_delay) (does_fail (version_of events id) told_behavior) (progress_of events id)) (does_fail (version_of events id) told_behavior) none refl
      (error_progress (version_of events id) (handed_place events id) code message behavior delay told_code told_message told_behavior told_delay (progress_of events id) h)
      (fails_same (version_of events id) code message behavior delay told_behavior h.behavior_is)
  written kept attempt is_awake Frame.End told.End of live awake none unread h e =
      only_progress Frame.End (after_end attempt (progress_of events id)) true none refl
      (λ i. record (progress_of events id) {
        open_object = None;
        closing = Some Ended;
        handed = Some (sym live.handed i);
        heard = Some (sym live.heard i);
        is_awake = false;
      })
      refl
  written kept attempt is_awake (Frame.RunOutcome n value asks) (told.RunOutcome completion result told_asks) of live awake none unread h e = absurd unread
  written kept attempt is_awake Frame.Broken told.Broken of live awake none unread h e = cc
  written kept attempt is_awake Frame.TooDeep told.TooDeep of live awake none unread h e = cc
  written kept attempt is_awake Frame.NotAccepted told.NotAccepted of live awake none unread h e = cc
  written kept attempt is_awake _ _ of live awake none unread h e = absurd h

  pub replied : (is_closed : Bool) (frame : Frame) (read : AttemptFrame) → IsByRow frame → IsFrame frame read → refusal_by (tests_of_told (progress_of events id) is_closed read) ≡ None
      → IsReply events id frame (reply_to_told (progress_of events id) read)
  replied is_closed (Frame.Command request) (told.Command command) unread h e = refl
  replied is_closed (Frame.AwaitingOn awaited) told.AwaitingOn unread h e = tt
  replied is_closed (Frame.Suspend None) told.Broken unread h e = absurd cc
  replied is_closed (Frame.Suspend (Some suspension)) (told.Suspension payload) unread h e = tt
  replied is_closed (Frame.Error code message behavior delay) (told.Error told_code told_message told_behavior told_delay) unread h e = tt
  replied is_closed Frame.End told.End unread h e = tt
  replied is_closed (Frame.RunOutcome n value asks) (told.RunOutcome completion result told_asks) unread h e = absurd unread
  replied is_closed Frame.Broken told.Broken unread h e = absurd cc
  replied is_closed Frame.TooDeep told.TooDeep unread h e = absurd cc
  replied is_closed Frame.NotAccepted told.NotAccepted unread h e = absurd cc
  replied is_closed _ _ unread h e = absurd h
