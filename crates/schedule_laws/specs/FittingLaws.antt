-- The laws of this crate.
use Rattle.std.specs.Prelude.{◌≡◌, ◌<◌, ◌^◌, ℕ, List, ◌∷◌, ◌++◌, Some, None}
use Rattle.std.specs.List.{AllByRecursion}
use Rattle.journal_model.specs.declared.invocation.NewInvocation.{NewInvocation}
use Rattle.journal_model.specs.declared.options.RunOptions.{RunOptions}
use Rattle.journal_model.specs.Notification.{Text}
use Rattle.journal_model.specs.Event.{Event}
use Rattle.journal_model.specs.Journal.{invocation_begun, entries_of}
use Rattle.journal_model.specs.Cause.{IsAccepted}
use Rattle.journal_model.specs.Run.{Handler}
use Rattle.input_laws.specs.Message.{InputMessage, CarriesInput, IsBroughtBy}
use Rattle.live_laws.specs.StartFrame.{AttemptStart, ShowsStart, IsBegunAs, start_after}
use Rattle.live_laws.specs.AttemptWithMachine.{AttemptInRun, IsLiveMachine}
use Rattle.vm_input_laws.specs.MessagesBehindJournal.{MayCome}
use Rattle.vm_input_laws.specs.InputPhases.{IsInputOf, CanBegin}
use Rattle.schedule_laws.specs.EventBounds.{EventsFit}

-- what an event brings to the live attempt may come behind its journal
abbrev pub MessagesMayCome : Type 0
MessagesMayCome = (next : Handler) (options : RunOptions) (fallback_seed : ℕ) (id : Text) (event : Event) (events : List Event) (live : AttemptInRun) (unread more : List InputMessage)
    → live.unread ≡ unread ++ more → IsAccepted (event ∷ events) → EventsFit id (event ∷ events) → IsLiveMachine next options fallback_seed id (event ∷ events) live
    → AllByRecursion (IsBroughtBy (entries_of (event ∷ events) id) id event) more → AllByRecursion MayCome more

-- the messages that an attempt is begun with are such as the protocol can carry
abbrev pub IsFedWell : AttemptStart → Type 0
IsFedWell start = IsInputOf start (CarriesInput start.new ∷ start.journal)

abbrev pub AttemptsAreFedWell : Type 0
AttemptsAreFedWell = (options : RunOptions) (fallback_seed : ℕ) (id : Text) (now : ℕ) (events : List Event) (new : NewInvocation) → IsAccepted (Event.Begin id now ∷ events)
    → invocation_begun events id ≡ Some new → EventsFit id events → IsFedWell (start_after options fallback_seed events id now new)

-- and it can begin with its start frame
pub record CanStart (start : AttemptStart) : Type 0 where
  pub shows : ShowsStart start
  pub can : CanBegin start shows

abbrev pub AttemptsCanStart : Type 0
AttemptsCanStart = (next : Handler) (options : RunOptions) (fallback_seed : ℕ) (id : Text) (now : ℕ) (events : List Event) (new : NewInvocation) → IsAccepted (Event.Begin id now ∷ events)
    → invocation_begun events id ≡ Some new → EventsFit id events → now < 2 ^ 64
    → IsBegunAs next options fallback_seed (Event.Begin id now ∷ events) id (start_after options fallback_seed events id now new) → CanStart (start_after options fallback_seed events id now new)

-- an invocation that was not begun has no event that does not fit
abbrev pub UnbornFit : Type 0
UnbornFit = (id : Text) (events : List Event) → IsAccepted events → invocation_begun events id ≡ None → EventsFit id events
