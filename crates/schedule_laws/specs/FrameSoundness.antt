-- No frame that an attempt has sent is refused for a cause that lies in it.
use Rattle.std.specs.Prelude.{◌≡◌, ℕ, true, false, List, Result, IfErr}
use Rattle.std.specs.List.{list_any}
use Rattle.protocol_types.specs.declared.version.Version.{Version}
use Rattle.journal_model.specs.Notification.{Text, Arrival}
use Rattle.journal_model.specs.Run.{Handler, Invocation}
use Rattle.journal_model.specs.Event.{Event, Frame}
use Rattle.journal_model.specs.Journal.{Entry, entries_of, open_request, recorded_requests, version_of}
use Rattle.journal_model.specs.Attempt.{is_input_closed}
use Rattle.journal_model.specs.Cause.{causes_of, is_of_frame, is_run}
use Rattle.live_laws.specs.RequestsInFlight.{SendsOneOfRun}
use Rattle.store_frames.specs.declared.frame.AttemptFrame.{AttemptFrame}
use Rattle.store_frames.specs.Answer.{IsFrame}
use Rattle.store_frames.specs.ReadFrames.{IsFrameRead}
use Rattle.store_refusals.specs.declared.refusal.Refusal.{Refusal}
use Rattle.store_steps.specs.declared.frame.LiveFacts.{LiveFacts}
use Rattle.store_steps.specs.declared.frame.PreparedFrame.{PreparedFrame}
use Rattle.store_steps.specs.PreparedFrames.{KnowsLive, TakesAttemptFrame, lies_in_frame}
use Rattle.vm_output_laws.specs.SentFrames.{Sent, frame_meant, IsOfStore}

-- an outcome is proposed for a run whose outcome is not recorded
abbrev pub IsOpenOutcome : List Entry → Frame → Type 0
IsOpenOutcome entries (Frame.RunOutcome n value told) = is_run (open_request entries n) ≡ true
IsOpenOutcome entries _ = Unit {0}

-- It was sent, it asks for what a store records, and it is of the run over what was handed out, behind what is recorded; and where it
-- proposes an outcome, that is open.
pub record IsSentOfRun (next : Handler) (given : Invocation) (arrivals : List Arrival) (version : Version) (sent : Sent) (id : Text) (events : List Event) : Type 0 where
  pub of_store : IsOfStore sent
  pub of_run : SendsOneOfRun next given arrivals (is_input_closed events id) (recorded_requests events id) (frame_meant version sent)
  pub opened : IsOpenOutcome (entries_of events id) (frame_meant version sent)

-- no cause that lies in the frame holds of its event; and so no refusal of it, as a store prepares it, is of such a cause
pub record LiesNotIn (version : Version) (sent : Sent) (id : Text) (events : List Event) : Type 0 where
  pub causes : (number : ℕ) → list_any is_of_frame (causes_of events (Event.Move id number (frame_meant version sent))) ≡ false
  pub refusals : (number : ℕ) (attempt : LiveFacts) (read : AttemptFrame) (result : Result PreparedFrame Refusal) → KnowsLive events id number attempt
      → IsFrameRead (version_of events id) (frame_meant version sent) → IsFrame (frame_meant version sent) read → TakesAttemptFrame events id attempt read result → IfErr result (λ why. lies_in_frame why ≡ false)

abbrev pub NoneLieInFrames : Type 0
NoneLieInFrames = (next : Handler) (given : Invocation) (arrivals : List Arrival) (version : Version) (sent : Sent) (id : Text) (events : List Event)
    → IsSentOfRun next given arrivals version sent id events → LiesNotIn version sent id events
