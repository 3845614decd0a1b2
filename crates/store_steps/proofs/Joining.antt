-- A frame that is decided on behind others that are not written yet: the row decides, and of a suspension the arrivals.
use Rattle.std.proofs.Common.{◌≡◌, refl, sym, ◌∙◌, ap, ◌==◌, Bool, true, false, List, Ok}
use Rattle.journal_model.specs.Notification.{Text}
use Rattle.journal_model.specs.Request.{Request}
use Rattle.journal_model.specs.Event.{Frame, Event}
use Rattle.journal_model.specs.Cause.{IsAccepted}
use Rattle.protocol_types.specs.Version.{version_number}
use Rattle.store_frames.specs.declared.frame.AttemptFrame.{AttemptFrame}
use Rattle.store_frames.specs.declared.frame.AttemptFrame.TheVariants as told
use Rattle.store_frames.specs.declared.frame.StateUse.{StateUse}
use Rattle.store_frames.specs.Commands.{state_use}
use Rattle.store_tables.specs.declared.row.InvocationRow.{InvocationRow}
use Rattle.store_invocations.specs.Rows.{IsRowOf}
use Rattle.store_steps.specs.declared.frame.LiveFacts.{LiveFacts}
use Rattle.store_steps.specs.declared.frame.PreparedFrame.{PreparedFrame}
use Rattle.store_steps.specs.FrameAnswers.{answers_told}
use Rattle.store_steps.specs.PreparedFrames.{IsFrameMade, WakesAtOnce}
use Rattle.store_steps.specs.JoinedFrames.{IsMadeBehind, can_join}
use Rattle.store_steps.proofs.LazyReads.{is_lazy_read}
use Rattle.store_steps.proofs.Taking.{IsUnread, taken_by_row}

-- a command that the store answers nothing is no read
no_read : (request : Request) → (answers_told (state_use request) == 0) ≡ true → is_lazy_read request ≡ false
no_read (Request.GetLazyState key n name) e = cc
no_read (Request.GetLazyStateKeys n name) e = cc
no_read _ e = refl

pub joins_unread : (read : AttemptFrame) → can_join read ≡ true → IsUnread read
joins_unread (told.Command command) e (Frame.Command request) h = no_read request (ap (λ (state : StateUse). answers_told state == 0) (sym h.state) ∙ e)
joins_unread (told.RunOutcome completion result asks) e frame h = cc
joins_unread (told.Command command) e (Frame.RunOutcome n value asks) h = absurd h
joins_unread _ e (Frame.Command request) h = absurd h
joins_unread _ e (Frame.RunOutcome n value asks) h = absurd h
joins_unread _ e _ h = tt

pub made_behind : (later : List Event) → IsAccepted later → (id : Text) (row : InvocationRow) → IsRowOf later id row → (attempt : LiveFacts) (is_awake : Bool) (read : AttemptFrame) (made : PreparedFrame) → can_join read ≡ true
    → WakesAtOnce later id attempt read (Ok is_awake) → IsFrameMade id row.object (version_number row.version) row.progress attempt is_awake read made → IsMadeBehind later id attempt read made
made_behind later accepted id row of attempt is_awake read made joins awake ok = record {
  joins = joins;
  taken = taken_by_row later accepted id row of attempt is_awake read (Ok made) (joins_unread read joins) awake ok tt;
  acknowledged = ok.acknowledged;
}
