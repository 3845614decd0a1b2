-- What a call that puts a command does where nothing recorded is left, although the attempt still replays.
use Rattle.std.specs.Prelude.{◌≡◌, ℕ, true, [], Result, Ok, Err}
use Rattle.vm_commands.specs.declared.replay_error.ReplayError.TheVariants.{Unavailable}
use Rattle.vm_calls.specs.declared.active.Active.{Active}
use Rattle.vm_calls.specs.declared.call_error.CallError.{CallError}
use Rattle.vm_calls.specs.declared.call_error.CallError.TheVariants.{Number, Put, OutOfMemory}
use Rattle.vm_calls.specs.declared.call_error.NumberError.TheVariants as numbers
use Rattle.vm_calls.specs.declared.put_error.PutError.{PutError}
use Rattle.vm_calls.specs.declared.put_error.PutError.TheVariants.{Replay}
use Rattle.vm_calls.specs.Active.{LacksCompletions, HasCompletions}

-- It replays, and nothing is left: the start has announced notifications alone, and the input, which is the first command, was
-- not recorded.
pub record IsSpent (active : Active) : Type 0 where
  pub replaying : active.is_replaying ≡ true
  pub none : active.commands.items ≡ []

-- the entry is not there
abbrev pub FindsNone : {M T : Type 0} → Result T (PutError M) → Type 0
FindsNone (Err (Replay (Unavailable error))) = Unit {0}
FindsNone _ = ⊥

-- a number is lacking; or none is, and the entry is not there; or memory was refused
abbrev pub SpentAs : {M : Type 0} → (taken : ℕ) → (old : Active) → CallError M → Type 0
SpentAs taken old (Number numbers.IdsExhausted) = LacksCompletions taken old
SpentAs taken old (Number numbers.OutOfMemory) = Unit {0}
SpentAs taken old (Put (Replay (Unavailable error))) = HasCompletions taken old
SpentAs taken old (Put _) = ⊥
SpentAs taken old OutOfMemory = Unit {0}

-- a call that takes so many completions fails, and nothing is written
abbrev pub FailsSpent : {M Taken : Type 0} → (taken : ℕ) → (old : Active) → Result Taken (CallError M) → (new : Active) → Type 0
FailsSpent taken old (Ok made) new = ⊥
FailsSpent taken old (Err error) new = SpentAs taken old error × (new.output ≡ old.output)

-- what is left to replay, and what was written, is as before
pub record KeepsRest (old new : Active) : Type 0 where
  pub replaying : new.is_replaying ≡ old.is_replaying
  pub commands : new.commands.items ≡ old.commands.items
  pub output : new.output ≡ old.output
