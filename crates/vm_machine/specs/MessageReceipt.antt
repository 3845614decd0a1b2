-- What becomes of messages that come.
use Rattle.std.specs.Prelude.{◌≡◌, Some, Result, Ok, Err}
use Rattle.std.specs.declared.alloc.AllocError.{AllocError}
use Rattle.protocol_errors.specs.declared.error.Error.{Error}
use Rattle.protocol_errors.specs.declared.fixed.FixedError.TheVariants as fixed
use Rattle.protocol_records.specs.declared.start.StartMessage.{StartMessage}
use Rattle.protocol_stream.specs.declared.decoder.RawMessage.{RawMessage}
use Rattle.protocol_stream.specs.Header.{message_type}
use Rattle.vm_machine.specs.Causes.{EntryCauses}
use Rattle.vm_machine.specs.declared.incoming.Incoming.TheVariants as incoming
use Rattle.vm_machine.specs.Answers.{stage_of, ComesAnswer}
use Rattle.vm_machine.specs.AcknowledgementReceipt.{ComesAcknowledgement}
use Rattle.vm_machine.specs.Entries.{ComesCommand, ComesNotification}
use Rattle.vm_machine.specs.MessageKinds.{incoming_of}
use Rattle.vm_machine.specs.StartReceipt.{ComesStart}
use Rattle.vm_machine.specs.declared.entry_error.EntryError.{EntryError}
use Rattle.vm_machine.specs.declared.entry_error.EntryError.TheVariants.{Fixed}
use Rattle.vm_machine.specs.declared.incoming.Incoming.{Incoming}
use Rattle.vm_machine.specs.MachineFailure.{MachineFails}
use Rattle.vm_machine.specs.declared.machine_state.MachineState.{MachineState}

-- a start is kept
pub record KeepsStart (message : RawMessage) (old new : MachineState) : Type 0 where
  pub start : StartMessage
  pub comes : ComesStart message old.phase old.active (Ok start) new.phase new.active
  pub others : new ≡ record old { phase = new.phase; active = new.active; start = Some start }

-- it is not
pub record RefusesStart (message : RawMessage) (error : EntryError) (old new : MachineState) : Type 0 where
  pub comes : ComesStart message old.phase old.active (Err error) new.phase new.active
  pub others : new ≡ record old { phase = new.phase; active = new.active }

abbrev pub ReceivesStart : RawMessage → (old : MachineState) → Result (Unit {0}) EntryError → (new : MachineState) → Type 0
ReceivesStart message old (Ok done) new = KeepsStart message old new
ReceivesStart message old (Err error) new = RefusesStart message error old new

-- an entry changes how far the machine has come, and what is kept for the calls
pub record ReceivesCommand (message : RawMessage) (old : MachineState) (result : Result (Unit {0}) EntryError) (new : MachineState) : Type 0 where
  pub comes : ComesCommand message old.phase old.active result new.phase new.active
  pub others : new ≡ record old { phase = new.phase; active = new.active }

pub record ReceivesNotification (message : RawMessage) (old : MachineState) (result : Result (Unit {0}) EntryError) (new : MachineState) : Type 0 where
  pub comes : ComesNotification message old.phase old.active result new.phase new.active
  pub others : new ≡ record old { phase = new.phase; active = new.active }

pub record ReceivesAnswer (message : RawMessage) (old : MachineState) (result : Result (Unit {0}) EntryError) (new : MachineState) : Type 0 where
  pub comes : ComesAnswer message (stage_of old.phase old.active.is_replaying) old.reads result new.reads
  pub others : new ≡ record old { reads = new.reads }

-- an acknowledgement changes what has come, and what is kept of runs
pub record ReceivesAcknowledgement (message : RawMessage) (old : MachineState) (result : Result (Unit {0}) EntryError) (new : MachineState) : Type 0 where
  pub comes : ComesAcknowledgement message (stage_of old.phase old.active.is_replaying) old.runs old.active result new.runs new.active
  pub others : new ≡ record old { active = new.active; runs = new.runs }

-- what a message of this kind tells is kept, or the message is none for the machine
abbrev pub Receives : RawMessage → Incoming → (old : MachineState) → Result (Unit {0}) EntryError → (new : MachineState) → Type 0
Receives message incoming.Start old result new = ReceivesStart message old result new
Receives message incoming.Command old result new = ReceivesCommand message old result new
Receives message incoming.Notification old result new = ReceivesNotification message old result new
Receives message incoming.EphemeralAnswer old result new = ReceivesAnswer message old result new
Receives message incoming.RunAcknowledgement old result new = ReceivesAcknowledgement message old result new
Receives message incoming.Other old result new = (result ≡ Err (Fixed fixed.UnexpectedInputMessage)) × (new ≡ old)

-- the machine fails with why it takes no such message
pub record TakesNot (old : MachineState) (error : EntryError) (new : MachineState) : Type 0 where
  pub cause : Result Error AllocError
  pub causes : EntryCauses old.phase old.active.is_replaying error cause
  pub answer : Error
  pub fails : MachineFails cause old answer new

abbrev pub TakesAs : (between : MachineState) → Result (Unit {0}) EntryError → (new : MachineState) → Type 0
TakesAs between (Ok done) new = new ≡ between
TakesAs between (Err error) new = TakesNot between error new

-- What a message tells is kept, or the machine fails; one that has failed stays so.
pub record TakesMessage (message : RawMessage) (old new : MachineState) : Type 0 where
  pub received : Result (Unit {0}) EntryError
  pub between : MachineState
  pub receives : Receives message (incoming_of (message_type message.header)) old received between
  pub takes : TakesAs between received new
