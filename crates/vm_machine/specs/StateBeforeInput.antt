-- Before the input is read, what is kept is what the abstract machine keeps.
use Rattle.std.specs.Prelude.{◌≡◌, ◌++◌, ◌∷◌, true, false, List, [], Option, None, Ok}
use Rattle.journal_model.specs.Notification.{Arrival}
use Rattle.journal_model.specs.Request.{Request}
use Rattle.journal_model.specs.Run.{Invocation}
use Rattle.journal_model.specs.State.{StartState}
use Rattle.attempt_model.specs.Machine.{Machine, machine_at_start, with_arrival}
use Rattle.protocol_stream.specs.declared.decoder.RawMessage.{RawMessage}
use Rattle.protocol_types.specs.declared.version.Version.{Version}
use Rattle.vm_awaits.specs.Calls.{with_queued}
use Rattle.vm_awaits.specs.Views.{results_of}
use Rattle.vm_calls.specs.declared.active.Active.{Active}
use Rattle.vm_calls.specs.Active.{Sees, left_of}
use Rattle.vm_commands.specs.RecordedCommands.{command_of}
use Rattle.vm_awaits.specs.Children.{AreMade}
use Rattle.vm_context.specs.StateKnowledge.{KnowsState}
use Rattle.vm_types.specs.declared.options.JournalReplay.TheVariants.{Enabled}
use Rattle.vm_machine.specs.Entries.{Pushes}
use Rattle.vm_machine.specs.Input.{LeavesReplayed}
use Rattle.vm_machine.specs.StartReceipt.{IsFresh}

-- as `Sees`, of an attempt that replays whether something is left or not
pub record Gathers (given : Invocation) (active : Active) (m : Machine) : Type 0 where
  pub left : left_of active ≡ m.left
  pub replaying : active.is_replaying ≡ true
  pub results : results_of active.results ≡ record { delivery = given.options.signal_delivery; queue = m.queue; ready = m.ready; slots = m.slots }
  pub state : KnowsState active.state m.start m.done
  pub completions : active.journal.completions ≡ m.completions
  pub signals : active.journal.signals ≡ m.signals
  pub opened : active.output.is_closed ≡ false
  pub children : active.children ≡ m.children
  pub made : AreMade m.completions m.children

-- a command is left to match behind those that are
abbrev pub with_command : Machine → Option Request → Machine
with_command m command = record m { left = m.left ++ command ∷ [] }

-- the input is the first that was recorded, and no call makes it
abbrev pub without_input : List (Option Request) → Machine → Machine
without_input left m = record m { left = left }

-- ---- laws

-- what was kept before the start is with it what the abstract machine begins with
abbrev pub BeginsGathering : Type 0
BeginsGathering = (version : Version) (given : Invocation) (start : StartState) (fresh active : Active)
    → IsFresh version given.options.signal_delivery fresh → active ≡ record fresh { state = active.state } → KnowsState active.state start []
    → Gathers given active (machine_at_start start [] [])

-- a recorded command that comes is left to match
abbrev pub GathersCommands : Type 0
GathersCommands = (given : Invocation) (m : Machine) (message : RawMessage) (old new : Active)
    → Pushes message old (Ok tt) new → Gathers given old m → Gathers given new (with_command m (command_of message))

-- a notification that comes waits in line, before the input is read and behind it
abbrev pub GathersNotifications : Type 0
GathersNotifications = (given : Invocation) (m : Machine) (arrival : Arrival) (old new : Active)
    → results_of new.results ≡ with_queued arrival (results_of old.results) → new ≡ record old { results = new.results }
    → (Gathers given old m → Gathers given new (with_arrival m arrival)) × (Sees given old m → Sees given new (with_arrival m arrival))

-- behind the input, calls match what was recorded behind it
abbrev pub SeesBehindInput : Type 0
SeesBehindInput = (given : Invocation) (m : Machine) (left : List (Option Request)) (old new : Active)
    → LeavesReplayed Enabled old new → m.left ≡ None ∷ left → Gathers given old m → Sees given new (without_input left m)
