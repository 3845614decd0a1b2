-- No frame that an attempt has sent is refused for a cause that lies in it.
use Rattle.std.proofs.Common.{◌≡◌, ◌⊎◌, inl, inr, true≢false, ℕ, Bool, true, false, not, ◌||◌, List, [], ◌∷◌, Some, Result, Ok, Err, refl, sym, ap, ◌∙◌, subst}
use Rattle.std.specs.Prelude.{if◌then◌else◌, IfErr, IsTrue}
use Rattle.std.specs.List.{AllByRecursion, list_any, list_all}
use Rattle.std.specs.Str.{is_utf8}
use Rattle.protocol_types.specs.declared.version.Version.{Version}
use Rattle.journal_model.specs.Notification.{Text, Arrival}
use Rattle.journal_model.specs.Run.{Handler, Invocation}
use Rattle.journal_model.specs.Request.{Request, completions_asked}
use Rattle.journal_model.specs.Event.{Event, Frame}
use Rattle.journal_model.specs.Journal.{entries_of, open_request, recorded_requests, version_of}
use Rattle.journal_model.specs.Attempt.{is_input_closed}
use Rattle.journal_model.specs.Cause.{Tests, those_that_hold, is_of_frame, causes_of, open_tests, live_tests, frame_tests, adding_tests, entry_tests, tests_of, do_ascend, last_completion, is_run, keys_of}
use Rattle.journal_model.specs.declared.cause.Cause.{Cause}
use Rattle.journal_model.specs.declared.cause.Cause.TheVariants.{UnknownInvocation, InvocationClosed, AttemptNotLive, BadCompletion, KeyNotText, InputNotClosed, BrokenPayload, NumbersUsedUp, PayloadTooLong}
use Rattle.run_laws.proofs.Ascending.{next_ascends}
use Rattle.live_laws.specs.RequestsInFlight.{SendsOneOfRun}
use Rattle.store_frames.specs.declared.frame.AttemptFrame.{AttemptFrame}
use Rattle.store_frames.specs.Answer.{IsFrame}
use Rattle.store_frames.specs.ReadFrames.{IsFrameRead}
use Rattle.store_refusals.specs.declared.refusal.Refusal.{Refusal}
use Rattle.store_refusals.specs.declared.refusal.Refusal.TheVariants as refusal
use Rattle.store_refusals.specs.RefusalConditions.{is_circumstance, IsRefused}
use Rattle.store_steps.specs.declared.frame.LiveFacts.{LiveFacts}
use Rattle.store_steps.specs.declared.frame.PreparedFrame.{PreparedFrame}
use Rattle.store_steps.specs.PreparedFrames.{KnowsLive, TakesAttemptFrame, lies_in_frame}
use Rattle.vm_output_laws.specs.SentFrames.{Sent, Asks, Proposes, Awaits, Suspends, Fails, Ends, is_recorded, frame_meant}
use Rattle.schedule_laws.specs.FrameSoundness.{IsSentOfRun, NoneLieInFrames}

-- ---- tests

abbrev NoneInFrame : Tests → Type 0
NoneInFrame tests = list_any is_of_frame (those_that_hold tests) ≡ false

-- a test that does not hold, or of a cause that does not lie in the frame
abbrev IsElsewhere : Bool × Cause → Type 0
IsElsewhere test = (test.0 ≡ false) ⊎ (is_of_frame test.1 ≡ false)

one_more : (b : Bool) (c : Cause) (tests : Tests) → IsElsewhere (b, c) → NoneInFrame tests → NoneInFrame ((b, c) ∷ tests)
one_more true c tests (inl fails) h = absurd (true≢false fails)
one_more true c tests (inr other) h = ap (λ (x : Bool). x || list_any is_of_frame (those_that_hold tests)) other ∙ h
one_more false c tests is h = h

none_of : (tests : Tests) → AllByRecursion IsElsewhere tests → NoneInFrame tests
none_of [] h = refl
none_of ((b, c) ∷ tests) h = one_more b c tests h.0 (none_of tests h.1)

-- ---- frames

not_true : (b : Bool) → b ≡ true → not b ≡ false
not_true b is = ap not is

command_none : (events : List Event) (id : Text) (number : ℕ) (request : Request) → list_all is_utf8 (keys_of request) ≡ true → do_ascend (last_completion (recorded_requests events id)) (completions_asked request) ≡ true
    → list_any is_of_frame (causes_of events (Event.Move id number (Frame.Command request))) ≡ false
command_none events id number request text ascends =
    none_of (tests_of events (Event.Move id number (Frame.Command request)))
    (inr refl, (inr refl, (inr refl, (inl (not_true (do_ascend (last_completion (recorded_requests events id)) (completions_asked request)) ascends), (inl (not_true (list_all is_utf8 (keys_of request)) text), (inr refl, (inr refl, tt)))))))

pub meant_command : (version : Version) (request : Request) → is_recorded request ≡ true → frame_meant version (Asks request) ≡ Frame.Command request
meant_command version request is = ap (λ (b : Bool). if b then Frame.Command request else Frame.NotAccepted) is

causes_none : (next : Handler) (given : Invocation) (arrivals : List Arrival) (version : Version) (sent : Sent) (id : Text) (events : List Event) → IsSentOfRun next given arrivals version sent id events
    → (number : ℕ) → list_any is_of_frame (causes_of events (Event.Move id number (frame_meant version sent))) ≡ false
causes_none next given arrivals version (Asks request) id events h number =
    let same : frame_meant version (Asks request) ≡ Frame.Command request = meant_command version request h.of_store.0 in
    let of_run = subst (λ (frame : Frame). SendsOneOfRun next given arrivals (is_input_closed events id) (recorded_requests events id) frame) same h.of_run in
    subst (λ (frame : Frame). list_any is_of_frame (causes_of events (Event.Move id number frame)) ≡ false) (sym same)
    (command_none events id number request h.of_store.1 (next_ascends next given arrivals (recorded_requests events id) request of_run))
causes_none next given arrivals version (Proposes n value) id events h number =
    none_of (tests_of events (Event.Move id number (frame_meant version (Proposes n value))))
    (inr refl, (inr refl, (inr refl, (inl (not_true (is_run (open_request (entries_of events id) n)) h.opened), (inr refl, (inr refl, tt))))))
causes_none next given arrivals version (Awaits tree) id events h number =
    none_of (tests_of events (Event.Move id number (frame_meant version (Awaits tree)))) (inr refl, (inr refl, (inr refl, (inr refl, (inr refl, tt)))))
causes_none next given arrivals version (Suspends tree) id events h number =
    none_of (tests_of events (Event.Move id number (frame_meant version (Suspends tree))))
    (inr refl, (inr refl, (inr refl, (inl refl, (inl (not_true (is_input_closed events id) h.of_run.0), (inr refl, (inr refl, tt)))))))
causes_none next given arrivals version (Fails error) id events h number =
    none_of (tests_of events (Event.Move id number (frame_meant version (Fails error)))) (inr refl, (inr refl, (inr refl, (inr refl, (inr refl, tt)))))
causes_none next given arrivals version Ends id events h number =
    none_of (tests_of events (Event.Move id number Frame.End)) (inr refl, (inr refl, (inr refl, (inr refl, (inr refl, tt)))))

-- ---- refusals

pub lies_as : (c : Cause) → lies_in_frame (refusal.Cause c) ≡ is_of_frame c
lies_as c = refl

head_none : (b c : Bool) → (b || c) ≡ false → b ≡ false
head_none true c e = absurd (true≢false e)
head_none false c e = refl

why_is : (c : Cause) (why : Refusal) → Some (refusal.Cause c) ≡ Some why → refusal.Cause c ≡ why
why_is c why e = cc

circumstance : (why : Refusal) → IsTrue (is_circumstance why) → lies_in_frame why ≡ false
circumstance (refusal.StatementRefused reason) h = refl
circumstance refusal.OutOfMemory h = refl
circumstance _ h = absurd cc

refused_elsewhere : (causes : List Cause) (why : Refusal) → list_any is_of_frame causes ≡ false → IsRefused causes why → lies_in_frame why ≡ false
refused_elsewhere [] why none (inl first) = absurd cc
refused_elsewhere (c ∷ causes) why none (inl first) =
    ap lies_in_frame (sym (why_is c why first)) ∙ lies_as c ∙ head_none (is_of_frame c) (list_any is_of_frame causes) none
refused_elsewhere causes why none (inr met) = circumstance why met

refusals_none : (events : List Event) (id : Text) (number : ℕ) (attempt : LiveFacts) (read : AttemptFrame) (frame : Frame) (result : Result PreparedFrame Refusal)
    → list_any is_of_frame (causes_of events (Event.Move id number frame)) ≡ false → KnowsLive events id number attempt → IsFrameRead (version_of events id) frame → IsFrame frame read
    → TakesAttemptFrame events id attempt read result → IfErr result (λ why. lies_in_frame why ≡ false)
refusals_none events id number attempt read frame (Ok made) none live from is takes = tt
refusals_none events id number attempt read frame (Err why) none live from is takes =
    refused_elsewhere (causes_of events (Event.Move id number frame)) why none (takes number frame live from is)

pub none_lie_in_frames : NoneLieInFrames
none_lie_in_frames next given arrivals version sent id events h = record {
  causes = causes_none next given arrivals version sent id events h;
  refusals = λ number attempt read result live from is takes. refusals_none events id number attempt read (frame_meant version sent) result (causes_none next given arrivals version sent id events h number) live from is takes;
}
