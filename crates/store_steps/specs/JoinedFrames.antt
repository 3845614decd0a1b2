-- Frames of an attempt that are decided on while others before them are not written yet.
use Rattle.std.specs.Prelude.{◌≡◌, ◌==◌, Bool, true, false, List, None, Ok}
use Rattle.journal_model.specs.Notification.{Text}
use Rattle.journal_model.specs.Event.{Event}
use Rattle.journal_model.specs.Journal.{recorded_arrivals}
use Rattle.store_frames.specs.declared.frame.AttemptFrame.{AttemptFrame}
use Rattle.store_frames.specs.declared.frame.AttemptFrame.TheVariants as told
use Rattle.store_steps.specs.declared.frame.LiveFacts.{LiveFacts}
use Rattle.store_steps.specs.declared.frame.PreparedFrame.{PreparedFrame}
use Rattle.store_steps.specs.FrameAnswers.{answers_told}
use Rattle.store_steps.specs.PreparedFrames.{TakesAttemptFrame}

-- something is written of the frame, and the store is to answer no read
abbrev pub can_join : AttemptFrame → Bool
can_join (told.Command command) = answers_told command.state == 0
can_join (told.Suspension payload) = true
can_join (told.Error code message behavior delay) = true
can_join told.End = true
can_join _ = false

-- later events have brought no arrival to the invocation
abbrev pub HasArrivalsOf : (events later : List Event) → Text → Type 0
HasArrivalsOf events later id = recorded_arrivals later id ≡ recorded_arrivals events id

-- it is what the frame writes behind these events, of which it is accepted
pub record IsMadeBehind (later : List Event) (id : Text) (attempt : LiveFacts) (read : AttemptFrame) (made : PreparedFrame) : Type 0 where
  pub joins : can_join read ≡ true
  pub taken : TakesAttemptFrame later id attempt read (Ok made)
  pub acknowledged : made.acknowledged ≡ None
