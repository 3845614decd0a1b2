-- The outcome of a run, by the row of its invocation.
use Rattle.std.proofs.Common.{◌≡◌, refl, sym, ap, subst, subst₂, ◌∙◌, ℕ, Bool, true, false, ◌&&◌, if◌then◌else◌, List, Some, None, bytes_eq, Ok, Err}
use Rattle.journal_model.specs.Notification.{Text}
use Rattle.journal_model.specs.declared.notification.NotificationResult.{NotificationResult}
use Rattle.journal_model.specs.declared.value.NonEmptyValue.{NonEmptyValue}
use Rattle.journal_model.specs.Value.{result_of_value}
use Rattle.journal_model.specs.Event.{Frame, Event}
use Rattle.journal_model.specs.Journal.{version_of}
use Rattle.journal_model.specs.Attempt.{acknowledged}
use Rattle.journal_model.specs.Cause.{IsAccepted}
use Rattle.journal_model.specs.declared.cause.Cause.{Cause}
use Rattle.protocol_types.specs.Feature.{has_feature}
use Rattle.protocol_types.specs.Version.{version_number}
use Rattle.protocol_types.specs.declared.feature.Feature.TheVariants.{Acknowledgement}
use Rattle.store_model.proofs.States.{itself}
use Rattle.store_frames.specs.declared.frame.AttemptFrame.TheVariants as told
use Rattle.store_tables.specs.declared.row.InvocationRow.{InvocationRow}
use Rattle.store_invocations.specs.Rows.{IsRowOf}
use Rattle.store_arrivals.specs.Arrivals.{DecidesOutcome}
use Rattle.store_arrivals.specs.declared.arrival.PreparedArrival.{PreparedArrival}
use Rattle.store_refusals.specs.declared.refusal.Refusal.{Refusal}
use Rattle.store_refusals.specs.Preparations.{Prepares}
use Rattle.store_refusals.specs.RefusalConditions.{IsRefused}
use Rattle.store_steps.specs.declared.frame.FrameReply.TheVariants as replies
use Rattle.store_steps.specs.declared.frame.LiveFacts.{LiveFacts}
use Rattle.store_steps.specs.declared.frame.PreparedFrame.{PreparedFrame}
use Rattle.store_steps.specs.Reads.{acknowledged_if}
use Rattle.store_steps.specs.PreparedFrames.{KnowsLive, IsReply, IsFrameTaken, TakesAttemptFrame}
use Rattle.store_steps.proofs.Live.{live_open}
use Rattle.store_steps.proofs.Taking.{causes_by_row, version_by_row}

acknowledged_is : (version : ℕ) (id : Text) (number n : ℕ) (value : NonEmptyValue) (asks : Bool)
    → acknowledged_if version n asks ≡ acknowledged version id (Event.Move id number (Frame.RunOutcome n value asks))
acknowledged_is version id number n value true = by_both (has_feature version Acknowledgement) (bytes_eq id id) (itself id)
  where
    by_both : (a b : Bool) → b ≡ true → (if a then Some n else None) ≡ (if a && b then Some n else None)
    by_both true true e = refl
    by_both false true e = refl
    by_both a false e = cc
acknowledged_is version id number n value false = refl

module _ (events : List Event) (accepted : IsAccepted events) (id : Text) (row : InvocationRow) (of : IsRowOf events id row) (completion : ℕ) (brought : NotificationResult) (asks : Bool)
    (attempt : LiveFacts) where
  own_recorded : (arrival : PreparedArrival) → DecidesOutcome events id completion brought (Ok arrival) → (made : PreparedFrame) → made.writes.items ≡ arrival.writes.items
      → made.reply ≡ replies.Recorded arrival.place
      → made.acknowledged ≡ acknowledged_if (version_number row.version) completion asks
      → (number : ℕ) (value : NonEmptyValue) → KnowsLive events id number attempt → brought ≡ result_of_value value
      → Prepares events (Event.Move id number (Frame.RunOutcome completion value asks)) (IsFrameTaken events id number (Frame.RunOutcome completion value asks)) (Ok made)
  own_recorded arrival decided made writes_are reply_is acknowledged_are number value live same =
      let frame = Frame.RunOutcome completion value asks in
      let ready = decided number value asks (live_open events id number accepted live.live) live.live same in (
        causes_by_row events id row accepted of attempt number frame live ∙ ready.0,
        record {
          writes = writes_are ∙ ready.1.writes;
          reply = subst (IsReply events id frame) (sym reply_is) ready.1.place;
          acknowledged =
              acknowledged_are ∙ ap (λ (version : ℕ). acknowledged_if version completion asks) (version_by_row events id row accepted of)
              ∙ acknowledged_is (version_of events id) id number completion value asks;
        },
      )

  pub outcome_recorded : (arrival : PreparedArrival) → DecidesOutcome events id completion brought (Ok arrival) → (made : PreparedFrame) → made.writes.items ≡ arrival.writes.items
      → made.reply ≡ replies.Recorded arrival.place
      → made.acknowledged ≡ acknowledged_if (version_number row.version) completion asks
      → TakesAttemptFrame events id attempt (told.RunOutcome completion brought asks) (Ok made)
  outcome_recorded arrival decided made writes_are reply_is acknowledged_are number (Frame.RunOutcome n value asked) live from h =
      subst₂ (λ (k : ℕ) (b : Bool). Prepares events (Event.Move id number (Frame.RunOutcome k value b)) (IsFrameTaken events id number (Frame.RunOutcome k value b)) (Ok made))
      h.completion_is h.acknowledged_is (own_recorded arrival decided made writes_are reply_is acknowledged_are number value live h.result_is)
  outcome_recorded arrival decided made writes_are reply_is acknowledged_are number (Frame.Suspend None) live from h = absurd h
  outcome_recorded arrival decided made writes_are reply_is acknowledged_are number (Frame.Suspend (Some suspension)) live from h = absurd h
  outcome_recorded arrival decided made writes_are reply_is acknowledged_are number _ live from h = absurd h

  own_refused : (why : Refusal) → DecidesOutcome events id completion brought (Err why) → (number : ℕ) (value : NonEmptyValue) → KnowsLive events id number attempt → brought ≡ result_of_value value
      → Prepares events (Event.Move id number (Frame.RunOutcome completion value asks)) (IsFrameTaken events id number (Frame.RunOutcome completion value asks)) (Err why)
  own_refused why decided number value live same =
      subst (λ (causes : List Cause). IsRefused causes why) (sym (causes_by_row events id row accepted of attempt number (Frame.RunOutcome completion value asks) live)) (decided number value asks (live_open events id number accepted live.live) live.live same)

  pub outcome_refused : (why : Refusal) → DecidesOutcome events id completion brought (Err why) → TakesAttemptFrame events id attempt (told.RunOutcome completion brought asks) (Err why)
  outcome_refused why decided number (Frame.RunOutcome n value asked) live from h =
      subst₂ (λ (k : ℕ) (b : Bool). Prepares events (Event.Move id number (Frame.RunOutcome k value b)) (IsFrameTaken events id number (Frame.RunOutcome k value b)) (Err why))
      h.completion_is h.acknowledged_is (own_refused why decided number value live h.result_is)
  outcome_refused why decided number (Frame.Suspend None) live from h = absurd h
  outcome_refused why decided number (Frame.Suspend (Some suspension)) live from h = absurd h
  outcome_refused why decided number _ live from h = absurd h
