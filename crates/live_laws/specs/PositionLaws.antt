-- The laws of this crate.
use Rattle.std.specs.Prelude.{ℕ, Bool, List}
use Rattle.journal_model.specs.declared.call.Call.{Call}
use Rattle.journal_model.specs.declared.options.RunOptions.{RunOptions}
use Rattle.journal_model.specs.Notification.{Bytes, Text}
use Rattle.journal_model.specs.Request.{Request}
use Rattle.journal_model.specs.State.{StartState}
use Rattle.journal_model.specs.Run.{Handler, Invocation}
use Rattle.journal_model.specs.Event.{Event}
use Rattle.input_laws.specs.Message.{InputMessage, arrivals_carried, requests_carried}
use Rattle.attempt_model.specs.Machine.{Machine}
use Rattle.attempt_model.specs.Simulation.{AreOfKind, Fits, AreReflexive}
use Rattle.live_laws.specs.MachinePosition.{IsInRun, IsMachineAt}
use Rattle.live_laws.specs.MachineTurn.{HasPosition, MakesTurns}
use Rattle.live_laws.specs.StartFrame.{AttemptStart, IsBegunAs, ShowsStart}

-- where a machine stands is the position of its attempt
abbrev pub MachinesHavePositions : Type 0
MachinesHavePositions = (next : Handler) (given : Invocation) (shown : StartState) (read unread : List InputMessage) (calls : ℕ) (m : Machine)
    → IsMachineAt next given shown read unread calls m → HasPosition next given shown read unread calls m

-- one that stands in the run, and was fed what fits and is of its kind, makes turns of the run
abbrev pub MachinesTurn : Type 0
MachinesTurn = (same_header : Call → Request → Request → Bool) (next : Handler) (given : Invocation) (is_closed : Bool) (held : Bytes) (read unread : List InputMessage) (calls : ℕ) (m : Machine)
    → AreReflexive same_header → Fits next given (requests_carried read) (arrivals_carried read) → AreOfKind next given (arrivals_carried read) calls → (at : IsInRun next given read unread calls m)
    → MakesTurns same_header next given is_closed held read unread calls m at

-- the start frame shows what the machine begins with, and the machine's start is one that its run knows
abbrev pub StartsShow : Type 0
StartsShow = (next : Handler) (options : RunOptions) (fallback_seed : ℕ) (events : List Event) (id : Text) (start : AttemptStart) → IsBegunAs next options fallback_seed events id start
    → ShowsStart start
