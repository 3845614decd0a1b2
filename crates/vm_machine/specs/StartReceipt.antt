-- What is kept before anything has come, and what a start makes of it.
use Rattle.std.specs.Prelude.{◌≡◌, ◌≢◌, pos, true, false, [], Result, Ok, Err}
use Rattle.journal_model.specs.declared.options.SignalDelivery.{SignalDelivery}
use Rattle.protocol_errors.specs.declared.fixed.FixedError.TheVariants as fixed
use Rattle.protocol_messages.specs.Decodings.{DecodesTo}
use Rattle.protocol_records.specs.Start.{start_message_of}
use Rattle.protocol_records.specs.declared.start.StartMessage.{StartMessage}
use Rattle.protocol_stream.specs.declared.decoder.DecodingError.TheVariants as unread
use Rattle.protocol_stream.specs.declared.decoder.RawMessage.{RawMessage}
use Rattle.protocol_table.specs.declared.table.RecordType.TheVariants as records
use Rattle.protocol_types.specs.declared.version.Version.{Version}
use Rattle.vm_awaits.specs.Calls.{no_results}
use Rattle.vm_awaits.specs.Views.{results_of}
use Rattle.vm_calls.specs.declared.active.Active.{Active}
use Rattle.vm_context.specs.Eager.{known_from}
use Rattle.vm_context.specs.Journal.{no_commands}
use Rattle.vm_start.specs.declared.phase.Phase.{Phase}
use Rattle.vm_start.specs.declared.phase.Phase.TheVariants as phases
use Rattle.vm_start.specs.Starts.{BeginsStarted, StartFails}
use Rattle.vm_start.specs.declared.error.StartError.{StartError}
use Rattle.vm_start.specs.declared.start.Started.{Started}
use Rattle.vm_machine.specs.Entries.{StaysUnchanged}
use Rattle.vm_machine.specs.declared.entry_error.EntryError.{EntryError}
use Rattle.vm_machine.specs.declared.entry_error.EntryError.TheVariants.{Fixed, Decoding, Start, OutOfMemory}

-- nothing has come, was asked for or written
pub record IsFresh (version : Version) (delivery : SignalDelivery) (active : Active) : Type 0 where
  pub replaying : active.is_replaying ≡ true
  pub commands : active.commands.items ≡ []
  pub results : results_of active.results ≡ no_results delivery
  -- nothing is known of the object's state
  pub state : active.state ≡ known_from true []
  pub journal : active.journal ≡ no_commands
  pub output : active.output ≡ record { version = version; bytes = []; is_closed = false; has_commands = false }
  pub children : active.children ≡ []

-- the message is a start, with which an attempt begins
pub record ReadsStart (message : RawMessage) (started : Started) : Type 0 where
  pub whole : StartMessage
  pub decoded : DecodesTo records.Start start_message_of (pos 0) message (Ok whole)
  pub begins : BeginsStarted whole started

-- the message is a start, with which no attempt begins
pub record FailsStart (message : RawMessage) (error : StartError) : Type 0 where
  pub whole : StartMessage
  pub decoded : DecodesTo records.Start start_message_of (pos 0) message (Ok whole)
  pub fails : StartFails whole error

abbrev pub ReadsStartMessage : RawMessage → Result Started EntryError → Type 0
ReadsStartMessage message (Ok started) = ReadsStart message started
ReadsStartMessage message (Err (Decoding error)) = DecodesTo {R = StartMessage} records.Start start_message_of (pos 0) message (Err error) × (error ≢ unread.OutOfMemory)
ReadsStartMessage message (Err (Start error)) = FailsStart message error
ReadsStartMessage message (Err OutOfMemory) = Unit {0}
ReadsStartMessage message (Err _) = ⊥

-- what a start shows of the state is known, and its entries are waited for
pub record BeginsWith (message : RawMessage) (old : Active) (start : StartMessage) (phase : Phase) (new : Active) : Type 0 where
  pub started : Started
  pub reads : ReadsStart message started
  pub rest : start ≡ started.start
  pub waits : phase ≡ phases.WaitingReplayEntries start.known_entries
  pub others : new ≡ record old { state = started.state }

abbrev pub BeginsAs : RawMessage → (old : Active) → Result StartMessage EntryError → (phase : Phase) → (new : Active) → Type 0
BeginsAs message old (Ok start) phase new = BeginsWith message old start phase new
BeginsAs message old (Err error) phase new = ReadsStartMessage message (Err error) × StaysUnchanged phases.WaitingStart old phase new

-- A start, which comes first and once.
abbrev pub ComesStart : RawMessage → (phase : Phase) → Active → Result StartMessage EntryError → (phase' : Phase) → Active → Type 0
ComesStart message phases.WaitingStart old result phase' new = BeginsAs message old result phase' new
ComesStart message phase old result phase' new = (result ≡ Err (Fixed fixed.UnexpectedInputMessage)) × StaysUnchanged phase old phase' new
