-- What a read does where nothing recorded is left, although the attempt still replays.
use Rattle.std.specs.Prelude.{◌≡◌, ℕ, Result, Ok, Err}
use Rattle.vm_commands.specs.declared.replay_error.ReplayError.TheVariants.{Unavailable}
use Rattle.vm_commands.specs.declared.state_read.StateRead.{StateRead}
use Rattle.vm_commands.specs.declared.state_read.StateReadError.{StateReadError}
use Rattle.vm_commands.specs.declared.state_read.StateReadError.TheVariants.{Lazy}
use Rattle.vm_calls.specs.declared.active.Active.{Active}
use Rattle.vm_calls.specs.declared.call_error.NumberError.TheVariants as numbers
use Rattle.vm_calls.specs.Active.{LacksCompletions, HasCompletions}
use Rattle.vm_state_reads.specs.declared.read_error.ReadError.{ReadError}
use Rattle.vm_state_reads.specs.declared.read_error.ReadError.TheVariants.{Number, Replay, Encoding, OutOfMemory}

-- the entry is not there
abbrev pub MatchFindsNone : {K L E : Type 0} → Result (StateRead K) (StateReadError L E) → Type 0
MatchFindsNone (Err (Lazy (Unavailable error))) = Unit {0}
MatchFindsNone _ = ⊥

-- a number is lacking; or none is, and the entry is not there; or memory was refused
abbrev pub ReadSpentAs : {L E : Type 0} → (old : Active) → ReadError L E → Type 0
ReadSpentAs old (Number numbers.IdsExhausted) = LacksCompletions 1 old
ReadSpentAs old (Number numbers.OutOfMemory) = Unit {0}
ReadSpentAs old (Replay (Lazy (Unavailable error))) = HasCompletions 1 old
ReadSpentAs old (Replay _) = ⊥
ReadSpentAs old (Encoding error) = ⊥
ReadSpentAs old OutOfMemory = Unit {0}

-- the read fails, and nothing is written
abbrev pub ReadFailsSpent : {L E : Type 0} → (old : Active) → Result ℕ (ReadError L E) → (new : Active) → Type 0
ReadFailsSpent old (Ok handle) new = ⊥
ReadFailsSpent old (Err error) new = ReadSpentAs old error × (new.output ≡ old.output)
