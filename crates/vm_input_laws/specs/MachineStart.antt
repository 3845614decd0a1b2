-- What a machine makes of the start of its attempt.
use Rattle.std.specs.Prelude.{◌≡◌, ◌⊎◌, ◌<◌, ℕ, [], Some, Ok}
use Rattle.protocol_types.specs.declared.message_type.MessageType.TheVariants as types
use Rattle.protocol_records.specs.declared.start.StartMessage.{StartMessage}
use Rattle.protocol_stream.specs.Decoder.{ConsumesNext}
use Rattle.protocol_stream.specs.Frame.{message_of}
use Rattle.protocol_stream.specs.Records.{start_record}
use Rattle.journal_model.specs.declared.invocation.NewInvocation.{NewInvocation}
use Rattle.journal_model.specs.Notification.{Bytes}
use Rattle.journal_model.specs.State.{StateMap, StartState, IsOrdered}
use Rattle.journal_model.specs.Start.{start_payload_of}
use Rattle.journal_model.specs.Headline.{shown_state}
use Rattle.journal_model.specs.Run.{Invocation}
use Rattle.attempt_model.specs.Machine.{machine_at_start}
use Rattle.vm_start.specs.Starts.{AreText, without_state}
use Rattle.vm_start.specs.declared.phase.Phase.TheVariants as phases
use Rattle.vm_machine.specs.StartReceipt.{IsFresh}
use Rattle.vm_machine.specs.StateBeforeInput.{Gathers}
use Rattle.vm_feeding.specs.InputBytes.{TakesNext}
use Rattle.vm_machine.specs.declared.machine_state.MachineState.{MachineState}
use Rattle.vm_input_laws.specs.FirstFrames.{StartsFit}
use Rattle.vm_input_laws.specs.Memory.{FailsForMemory}

-- nothing but bytes of its start has come
pub record WaitsForStart (given : Invocation) (vm : MachineState) : Type 0 where
  pub phase : vm.phase ≡ phases.WaitingStart
  pub active : IsFresh vm.version given.options.signal_delivery vm.active

-- an attempt begins with this start: the protocol can carry it, each key of the state that it shows is text, and it announces an entry
pub record BeginsWell (start : StartMessage) (payload : Bytes) : Type 0 where
  pub fits : StartsFit start payload
  pub text : AreText start.state_map
  pub announced : 0 < start.known_entries

-- the machine stands as the abstract machine stands that is shown this state, and waits for the entries that the start announces
pub record HasAttemptBegun (given : Invocation) (shown : StartState) (told : StartMessage) (payload : Bytes) (old new : MachineState) : Type 0 where
  -- the frame's bytes leave, and those behind it stay
  pub bytes : ConsumesNext old.decoder (Ok (Some (message_of types.Start payload))) new.decoder
  pub phase : new.phase ≡ phases.WaitingReplayEntries told.known_entries
  pub start : new.start ≡ Some (without_state told)
  pub output : new.active.output ≡ old.active.output
  pub commands : new.active.commands.items ≡ []
  pub gathers : Gathers given new.active (machine_at_start shown [] [])
  pub others : new ≡ record old { decoder = new.decoder; phase = new.phase; active = new.active; start = new.start }

abbrev pub StartsAreKept : Type 0
StartsAreKept = (given : Invocation) (begun : NewInvocation) (state : StateMap) (known_entries retry_count duration : ℕ) (old new : MachineState)
    → IsOrdered state → BeginsWell (start_record begun state known_entries retry_count duration) (start_payload_of begun state known_entries retry_count duration)
    → WaitsForStart given old → TakesNext (message_of types.Start (start_payload_of begun state known_entries retry_count duration)) old new
    → HasAttemptBegun given (shown_state begun.state state) (start_record begun state known_entries retry_count duration) (start_payload_of begun state known_entries retry_count duration) old new ⊎ FailsForMemory old new
