-- Whether a suspension is awake at once is told by what its attempt was not handed; of other frames nothing is asked.
use Rattle.std.proofs.Common.{◌≡◌, refl, sym, ap, subst, ◌∙◌, inl, inr, ℕ, Bool, false, List, [], ◌++◌, append-nil, drop, Some, None, Result, Ok, Err}
use Rattle.journal_model.specs.Notification.{Bytes, Text, Arrival}
use Rattle.journal_model.specs.declared.notification.NotificationResult.{NotificationResult}
use Rattle.journal_model.specs.Event.{Suspension, Frame, Event}
use Rattle.journal_model.specs.Journal.{version_of, recorded_arrivals}
use Rattle.journal_model.specs.Attempt.{is_woken}
use Rattle.journal_model.specs.Cause.{causes_of, IsAccepted}
use Rattle.protocol_types.specs.Version.{version_number}
use Rattle.store_frames.specs.declared.frame.RecordedCommand.{RecordedCommand}
use Rattle.store_frames.specs.declared.frame.AttemptFrame.{AttemptFrame}
use Rattle.store_frames.specs.declared.frame.AttemptFrame.TheVariants as told
use Rattle.store_frames.specs.Answer.{IsFrame, KeepsSuspension}
use Rattle.store_frames.specs.ReadFrames.{IsFrameRead}
use Rattle.store_tables.specs.declared.row.InvocationRow.{InvocationRow}
use Rattle.store_model.specs.Progress.{progress_of}
use Rattle.store_model.proofs.Versions.{kept_number}
use Rattle.store_invocations.specs.Rows.{IsRowOf}
use Rattle.store_refusals.specs.declared.refusal.Refusal.{Refusal}
use Rattle.store_refusals.specs.RefusalConditions.{IsRefused}
use Rattle.store_refusals.specs.Preparations.{TellsOrRefuses}
use Rattle.store_steps.specs.declared.frame.LiveFacts.{LiveFacts}
use Rattle.store_steps.specs.PreparedFrames.{IsAwakeAtOnce, IsOtherFrame, TakesAttemptFrame, WakesAtOnce}
use Rattle.store_steps.proofs.Taking.{IsUnread}

-- a command is no suspension
pub other_frames : (events : List Event) (id : Text) (attempt : LiveFacts) (command : RecordedCommand) → WakesAtOnce events id attempt (told.Command command) (Ok false)
other_frames events id attempt command number (Frame.Command request) live from h = tt
other_frames events id attempt command number (Frame.Suspend None) live from h = absurd h
other_frames events id attempt command number (Frame.Suspend (Some suspension)) live from h = absurd h
other_frames events id attempt command number _ live from h = tt

-- nor is any frame but one that is told as one
pub not_suspended : (events : List Event) (id : Text) (attempt : LiveFacts) (read : AttemptFrame) → ((payload : Bytes) → read ≡ told.Suspension payload → ⊥)
    → WakesAtOnce events id attempt read (Ok false)
not_suspended events id attempt read other number (Frame.Suspend (Some suspension)) live from h = by_read read other h
  where
    by_read : (read : AttemptFrame) → ((payload : Bytes) → read ≡ told.Suspension payload → ⊥) → IsFrame (Frame.Suspend (Some suspension)) read
        → TellsOrRefuses (IsAwakeAtOnce events id (Frame.Suspend (Some suspension))) (Ok false)
    by_read (told.Suspension payload) other h = absurd (other payload refl)
    by_read _ other h = absurd h
not_suspended events id attempt read other number (Frame.Suspend None) live from h = tt
not_suspended events id attempt read other number _ live from h = tt

-- a suspension, by its payload and by how many arrivals its attempt was handed whole
module _ (events : List Event) (accepted : IsAccepted events) (id : Text) (row : InvocationRow) (of : IsRowOf events id row) (attempt : LiveFacts) where
  far : row.progress ≡ progress_of events id
  far = ap (λ (r : InvocationRow). r.progress) of.is ∙ ap (progress_of events) of.named

  spoken : version_number row.version ≡ version_of events id
  spoken = ap (λ (r : InvocationRow). version_number r.version) of.is ∙ kept_number events id of.new accepted of.begun

  pub wakes_by : (payload slice : Bytes) (heard : ℕ) (result : Result Bool Refusal) → slice ≡ payload → heard ≡ attempt.heard
      → ((suspended : Suspension) → IsFrameRead (version_number row.version) (Frame.Suspend (Some suspended)) → KeepsSuspension suspended slice
      → TellsOrRefuses (λ woken. woken ≡ is_woken (drop heard (recorded_arrivals events id) ++ []) (Some suspended)) result)
      → WakesAtOnce events id attempt (told.Suspension payload) result
  wakes_by payload slice heard result same is tells number (Frame.Suspend (Some suspension)) live from h =
      subst (λ (arrivals : List Arrival). TellsOrRefuses (λ woken. woken ≡ is_woken arrivals (Some suspension)) result)
      (append-nil (drop heard (recorded_arrivals events id))
      ∙ ap (λ (n : ℕ). drop n (recorded_arrivals events id)) (is ∙ live.heard))
      (tells suspension (subst (λ (version : ℕ). IsFrameRead version (Frame.Suspend (Some suspension))) (sym spoken) from) (subst (KeepsSuspension suspension) (sym same) h))
  wakes_by payload slice heard result same is tells number (Frame.Suspend None) live from h = absurd h
  wakes_by payload slice heard result same is tells number (Frame.Command request) live from h = absurd h
  wakes_by payload slice heard result same is tells number _ live from h = absurd h

  -- what the test refuses, for a circumstance, is refused
  pub test_refused : (read : AttemptFrame) (why : Refusal) → WakesAtOnce events id attempt read (Err why) → TakesAttemptFrame events id attempt read (Err why)
  test_refused read why refused number frame live from h = by_reason (refused number frame live from h)
    where
      by_reason : IsRefused [] why → IsRefused (causes_of events (Event.Move id number frame)) why
      by_reason (inl e) = cc
      by_reason (inr e) = inr e

-- of a frame that is neither a command nor an outcome the row decides
pub unread_here : (read : AttemptFrame) → IsOtherFrame read → IsUnread read
unread_here (told.Command command) none frame h = absurd none
unread_here (told.RunOutcome completion result asks) none frame h = absurd none
unread_here _ none (Frame.Command request) h = absurd h
unread_here _ none (Frame.RunOutcome n value asks) h = absurd h
unread_here _ none _ h = tt

pub no_other : (read : AttemptFrame) → ((command : RecordedCommand) → read ≡ told.Command command → ⊥)
    → ((completion : ℕ) (result : NotificationResult) (asks : Bool) → read ≡ told.RunOutcome completion result asks → ⊥) → IsOtherFrame read
no_other (told.Command command) other no_outcome = absurd (other command refl)
no_other (told.RunOutcome completion result asks) other no_outcome = absurd (no_outcome completion result asks refl)
no_other _ other no_outcome = tt
