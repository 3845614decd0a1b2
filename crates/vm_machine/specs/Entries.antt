-- What is kept of the entries that come, and why one is not taken.
use Rattle.std.specs.Prelude.{◌≡◌, ◌≢◌, ℕ, [], ◌∷◌, ◌++◌, Result, Ok, Err}
use Rattle.journal_model.specs.declared.notification.Notification.{Notification}
use Rattle.protocol_errors.specs.declared.fixed.FixedError.{FixedError}
use Rattle.protocol_errors.specs.declared.fixed.FixedError.TheVariants as fixed
use Rattle.protocol_messages.specs.Decodings.{DecodesNotification}
use Rattle.protocol_stream.specs.declared.decoder.DecodingError.{DecodingError}
use Rattle.protocol_stream.specs.declared.decoder.DecodingError.TheVariants as unread
use Rattle.protocol_stream.specs.declared.decoder.RawMessage.{RawMessage}
use Rattle.vm_awaits.specs.Calls.{with_queued}
use Rattle.vm_awaits.specs.Views.{AsyncResults, results_of}
use Rattle.vm_calls.specs.declared.active.Active.{Active}
use Rattle.vm_start.specs.declared.phase.Phase.{Phase}
use Rattle.vm_start.specs.declared.phase.Phase.TheVariants as phases
use Rattle.vm_start.specs.Phases.{phase_after_entry}
use Rattle.vm_machine.specs.declared.incoming.Incoming.{Incoming}
use Rattle.vm_machine.specs.declared.incoming.Incoming.TheVariants as incoming
use Rattle.vm_machine.specs.declared.entry_error.EntryError.{EntryError}
use Rattle.vm_machine.specs.declared.entry_error.EntryError.TheVariants.{Fixed, Unexpected, Decoding, OutOfMemory}

-- want of memory has a name of its own
abbrev pub unread_as : DecodingError → EntryError
unread_as unread.OutOfMemory = OutOfMemory
unread_as error = Decoding error

-- ---- notifications

-- what the message notifies waits in line, and nothing else has changed
pub record Queued (message : RawMessage) (old new : AsyncResults) : Type 0 where
  pub notification : Notification
  pub told : DecodesNotification message (Ok notification)
  pub queued : new ≡ with_queued notification old

-- or it notifies nothing, or memory was refused
abbrev pub Queues : RawMessage → (old : AsyncResults) → Result (Unit {0}) EntryError → (new : AsyncResults) → Type 0
Queues message old (Ok done) new = Queued message old new
Queues message old (Err (Decoding error)) new = DecodesNotification message (Err error) × (error ≢ unread.OutOfMemory) × (new ≡ old)
Queues message old (Err OutOfMemory) new = new ≡ old
Queues message old (Err _) new = ⊥

-- the attempt's results alone change
pub record QueuesIn (message : RawMessage) (old : Active) (result : Result (Unit {0}) EntryError) (new : Active) : Type 0 where
  pub queues : Queues message (results_of old.results) result (results_of new.results)
  pub others : new ≡ record old { results = new.results }

-- where it was taken, one entry less is left
abbrev pub after_entry : ℕ → Result (Unit {0}) EntryError → Phase
after_entry left (Ok done) = phase_after_entry left
after_entry left (Err error) = phases.WaitingReplayEntries left

-- nothing is changed
abbrev pub StaysUnchanged : (old : Phase) → Active → (new : Phase) → Active → Type 0
StaysUnchanged phase active phase' active' = (phase' ≡ phase) × (active' ≡ active)

-- the machine is not in a state for such a message, and stays as it is
abbrev pub IsUnexpected : Incoming → (phase : Phase) → Active → Result (Unit {0}) EntryError → (phase' : Phase) → Active → Type 0
IsUnexpected kind phase old result phase' new = (result ≡ Err (Unexpected kind)) × StaysUnchanged phase old phase' new

-- A notification: in line until an await looks at it; behind the end it is ignored, and before the start no machine is told one.
abbrev pub ComesNotification : RawMessage → (phase : Phase) → Active → Result (Unit {0}) EntryError → (phase' : Phase) → Active → Type 0
ComesNotification message (phases.WaitingReplayEntries left) old result phase' new = (phase' ≡ after_entry left result) × QueuesIn message old result new
ComesNotification message phases.Active old result phase' new = (phase' ≡ phases.Active) × QueuesIn message old result new
ComesNotification message phases.Closed old result phase' new = (result ≡ Ok tt) × StaysUnchanged phases.Closed old phase' new
ComesNotification message phase old result phase' new = IsUnexpected incoming.Notification phase old result phase' new

-- ---- commands

-- it is the last that is left to match; or memory was refused
abbrev pub Pushes : RawMessage → (old : Active) → Result (Unit {0}) EntryError → (new : Active) → Type 0
Pushes message old (Ok done) new = (new.commands.items ≡ old.commands.items ++ message ∷ []) × (new ≡ record old { commands = new.commands })
Pushes message old (Err OutOfMemory) new = (new.commands.items ≡ old.commands.items) × (new ≡ record old { commands = new.commands })
Pushes message old (Err _) new = ⊥

-- it is refused by this fixed error, and nothing is changed
abbrev pub IsRefused : FixedError → (phase : Phase) → Active → Result (Unit {0}) EntryError → (phase' : Phase) → Active → Type 0
IsRefused error phase old result phase' new = (result ≡ Err (Fixed error)) × StaysUnchanged phase old phase' new

-- A command, which comes among the entries that were recorded before alone.
abbrev pub ComesCommand : RawMessage → (phase : Phase) → Active → Result (Unit {0}) EntryError → (phase' : Phase) → Active → Type 0
ComesCommand message (phases.WaitingReplayEntries left) old result phase' new = (phase' ≡ after_entry left result) × Pushes message old result new
ComesCommand message phase old result phase' new = IsRefused fixed.UnexpectedEntryMessage phase old result phase' new
