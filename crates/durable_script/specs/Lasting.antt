-- What lasts of a line that was done: of one that prints another text than that it is refused, what it did.
use Rattle.std.specs.Prelude.{◌≡◌, ◌⊎◌, ℕ, List, [], ◌∷◌, ◌++◌, Option, IsSome}
use Rattle.built_in_handlers.specs.declared.built_in.BuiltIn.{BuiltIn}
use Rattle.journal_model.specs.Notification.{Text}
use Rattle.durable_schedule.specs.Schedules.event
use Rattle.durable_schedule.specs.Schedules.reply
use Rattle.durable_schedule.specs.Schedules.{Event, Scheduled}
use Rattle.store_refusals.specs.declared.refusal.Refusal.{Refusal}
use Rattle.store_calls.specs.AbstractStore.{Standing, StaysStanding}
use Rattle.store_calls.specs.Frames.{Rests, TakesOne}
use Rattle.script_lines.specs.Text.{refused_text}
use Rattle.script_lines.specs.declared.line.Line.{Line}
use Rattle.script_lines.specs.declared.line.Line.TheVariants.{Invoke, Result, Signal, Cancel, Tick, Begin, Move}
use Rattle.durable_script.specs.Line.{AppliesOne, DoesEvent, DoesLine}
use Rattle.durable_script.specs.ReplyTexts.{printed}

abbrev pub IsRefusalText : List ℕ → Type 0
IsRefusalText text = (name : List ℕ) × (text ≡ refused_text name ++ 10 ∷ [])

abbrev pub TellsNoFrame : List ℕ → Type 0
TellsNoFrame text = (bytes : ℕ) × (why : Option Refusal) × (text ≡ printed 1 (reply.Moved bytes 0 why) ++ 10 ∷ [])

-- By its text nothing of an event was written: it is refused; no frame was taken; or it is none that writes.
abbrev pub IsUnwrittenEvent : Event BuiltIn → List ℕ → Type 0
IsUnwrittenEvent (event.Invoke one) text = IsRefusalText text
IsUnwrittenEvent (event.Result id completion value) text = IsRefusalText text
IsUnwrittenEvent (event.Signal id key value) text = IsRefusalText text
IsUnwrittenEvent (event.Cancel id) text = IsRefusalText text
IsUnwrittenEvent (event.Tick now) text = IsRefusalText text
IsUnwrittenEvent (event.Begin id handler now) text = IsRefusalText text
IsUnwrittenEvent (event.Move id attempt count) text = IsRefusalText text ⊎ TellsNoFrame text
IsUnwrittenEvent _ text = Unit {0}

-- and so of a line
abbrev pub IsUnwritten : Line → List ℕ → Type 0
IsUnwritten (Invoke id object version state seed input) text = IsRefusalText text
IsUnwritten (Result id completion value) text = IsRefusalText text
IsUnwritten (Signal id target value) text = IsRefusalText text
IsUnwritten (Cancel id) text = IsRefusalText text
IsUnwritten (Tick now) text = IsRefusalText text
IsUnwritten (Begin id name now) text = IsRefusalText text
IsUnwritten (Move id attempt count) text = IsRefusalText text ⊎ TellsNoFrame text
IsUnwritten _ text = Unit {0}

-- of a move the frames that its text tells, and perhaps the next one, where that is told as refused
pub record KeepsMove (id : Text) (attempt count : ℕ) (text : List ℕ) (old kept : Scheduled BuiltIn) : Type 0 where
  pub bytes : ℕ
  pub frames : ℕ
  pub why : Option Refusal
  pub text_is : text ≡ printed 1 (reply.Moved bytes frames why) ++ 10 ∷ []
  pub new : Scheduled BuiltIn
  pub applies : AppliesOne (event.Move id attempt count) (reply.Moved bytes frames why) old new
  pub between : Standing
  pub rests : Rests id attempt why between new.standing
  pub rest : StaysStanding between kept.standing ⊎ (IsSome why × TakesOne id attempt between kept.standing)

-- What tables keep of an event that was answered so, and of its line. What a refused move leaves of its attempt is in memory alone.
abbrev pub KeepsEvent : Event BuiltIn → List ℕ → Scheduled BuiltIn → Scheduled BuiltIn → Type 0
KeepsEvent (event.Move id attempt count) text = KeepsMove id attempt count text
KeepsEvent one text = DoesEvent one text

abbrev pub KeepsLine : Line → List ℕ → Scheduled BuiltIn → Scheduled BuiltIn → Type 0
KeepsLine (Move id attempt count) text = KeepsMove id attempt count text
KeepsLine line text = DoesLine line text
