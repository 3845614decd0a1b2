-- What an await has come to, and how it goes on.
use Rattle.std.proofs.Common.{◌≡◌, ℕ, Bool, refl, subst, Result}
use Rattle.journal_model.specs.AwaitTree.{AwaitTree}
use Rattle.protocol_errors.specs.declared.error.Error.{Error}
use Rattle.vm_calls.specs.declared.active.Active.{Active}
use Rattle.vm_machine.specs.Calls.{checks_off}
use Rattle.vm_machine.specs.declared.machine_state.MachineState.{MachineState}
use Rattle.vm_types.specs.declared.answers.AwaitResponse.{AwaitResponse}
use Rattle.vm_waiting.specs.AwaitSteps.{AwaitsSeen, AwaitComesTo}
use Rattle.vm_waiting.specs.declared.awaiting.Awaited.{Awaited}
use Rattle.vm_waiting.specs.declared.awaiting.AwaitError.{AwaitError}
use Rattle.vm_progress.specs.AwaitEffects.{GoesOnAs, IsAwaited}

-- an await changes what is kept for calls alone, and goes on from there
pub awaited_by : (tree : AwaitTree ℕ) (old : MachineState) (ignoring : Bool) (awaited : Result Awaited AwaitError) (active : Active) (result : Result AwaitResponse Error) (new : MachineState)
    → ignoring ≡ checks_off old.options.non_determinism_checks → AwaitComesTo old.options.implicit_cancellation ignoring tree old.active awaited active
    → AwaitsSeen old.options.implicit_cancellation ignoring tree old.active awaited active
    → GoesOnAs awaited (record old { active = active }) result new → IsAwaited tree old result new
awaited_by tree old ignoring awaited active result new is held awaits goes_on = record {
  awaited = awaited;
  between = record old { active = active };
  others = refl;
  held = subst (λ (b : Bool). AwaitComesTo old.options.implicit_cancellation b tree old.active awaited active) is held;
  awaits = subst (λ (b : Bool). AwaitsSeen old.options.implicit_cancellation b tree old.active awaited active) is awaits;
  goes_on = goes_on;
}
