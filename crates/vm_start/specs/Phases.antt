-- What is told of a machine's phase.
use Rattle.std.specs.Prelude.{ℕ, ◌-◌, Bool, true, false, nat_lt, if◌then◌else◌, List, ◌++◌, Option, Some, None, codes}
use Rattle.protocol_errors.specs.Code.{protocol_violation, closed}
use Rattle.protocol_errors.specs.Error.{plain_error}
use Rattle.protocol_errors.specs.Texts.{closed_text, unexpected_state_text, invoking_text}
use Rattle.protocol_errors.specs.declared.error.Error.{Error}
use Rattle.vm_start.specs.declared.phase.Phase.{Phase}
use Rattle.vm_start.specs.declared.phase.Phase.TheVariants.{WaitingStart, WaitingReplayEntries, Active, Closed, Failed}

abbrev pub active_name : Bool → List ℕ
active_name true = codes "Replaying"
active_name false = codes "Processing"

-- the names that errors have for states
abbrev pub state_name : Phase → (is_replaying : Bool) → List ℕ
state_name WaitingStart is_replaying = codes "WaitingStart"
state_name (WaitingReplayEntries left) is_replaying = codes "WaitingReplayEntries"
state_name Active is_replaying = active_name is_replaying
state_name Closed is_replaying = codes "Closed"
state_name (Failed error) is_replaying = codes "Failed"

abbrev pub state_error : (state event : List ℕ) → Error
state_error state event = plain_error protocol_violation (unexpected_state_text state ++ invoking_text event)

abbrev pub closed_error : (event : List ℕ) → Error
closed_error event = plain_error closed (closed_text event)

-- whether it has ended, or was suspended
abbrev pub is_closed : Phase → Bool
is_closed Closed = true
is_closed phase = false

-- behind the end a call is told that it is behind the end, elsewhere in which state the machine is
abbrev pub unexpected_error : Phase → (is_replaying : Bool) → (event : List ℕ) → Error
unexpected_error phase is_replaying event = if is_closed phase then closed_error event else state_error (state_name phase is_replaying) event

-- what a machine that has failed answers
abbrev pub kept_error : Phase → Option Error
kept_error (Failed error) = Some error
kept_error phase = None

-- one entry more has come, where so many were left: with the last one calls are made
abbrev pub phase_after_entry : ℕ → Phase
phase_after_entry left = if nat_lt 1 left then WaitingReplayEntries (left - 1) else Active
