-- An arrival as its row keeps it: the completion that it answers, and its payload, of which the first field names it and the second is
-- what it carries.
use Rattle.std.specs.Prelude.{◌≡◌, ◌<◌, ◌^◌, ◌==◌, ℕ, Option, Some, None, Result, Ok, Err, if◌then◌else◌}
use Rattle.journal_model.specs.declared.notification.NotificationId.{NotificationId}
use Rattle.journal_model.specs.declared.notification.NotificationId.TheVariants.{CompletionId, SignalId, SignalName}
use Rattle.protocol_table.specs.declared.table.notification.TheConstants.{FAILURE}
use Rattle.protocol_wire.specs.Wire.{Field}
use Rattle.protocol_wire.specs.CodeFields.{field}
use Rattle.protocol_wire.specs.declared.field.Scanned.{Scanned}
use Rattle.protocol_wire.specs.declared.field.Scanned.TheVariants.{Varint, Bytes, Fixed}
use Rattle.protocol_wire.specs.declared.field.ScannedField.{ScannedField}
use Rattle.protocol_trees.specs.declared.tree.AwaitState.{AwaitState}
use Rattle.protocol_trees.specs.declared.tree.AwaitState.TheVariants as states
use Rattle.store_frames.specs.declared.kept_fault.KeptFault.{KeptFault}
use Rattle.store_frames.specs.declared.kept_fault.KeptFault.TheVariants.{OutOfMemory, Foreign}

-- what is kept is read, unless memory lacks
abbrev pub IsWantOfMemory : KeptFault → Type 0
IsWantOfMemory OutOfMemory = Unit {0}
IsWantOfMemory Foreign = ⊥

abbrev pub ReadsKept : {A : Type 0} → (A → Type 0) → Result A KeptFault → Type 0
ReadsKept Is (Ok x) = Is x
ReadsKept Is (Err fault) = IsWantOfMemory fault

abbrev pub completion_in : NotificationId → Option ℕ
completion_in (CompletionId n) = Some n
completion_in _ = None

-- the number of a signal has 32 bits
abbrev pub SignalFits : NotificationId → Type 0
SignalFits (SignalId n) = n < 2 ^ 32
SignalFits _ = Unit {0}

abbrev pub AreBoth : Field → Field → ScannedField × ScannedField → Type 0
AreBoth one two both = (field both.0 ≡ one) × (field both.1 ≡ two)

abbrev pub state_by : ℕ → AwaitState
state_by number = if number == FAILURE.number then states.Failed else states.Succeeded

-- what a signal is named by
abbrev pub Names : Scanned → NotificationId → Type 0
Names (Varint number) (SignalId n) = number ≡ n
Names (Bytes name) (SignalName text) = name.now ≡ text
Names _ _ = ⊥
