-- What memory has of an attempt that is held.
use Rattle.std.specs.Prelude.{◌≡◌, Bool, true, false, [], Some, None}
use Rattle.protocol_errors.specs.declared.error.Error.{Error}
use Rattle.vm_start.specs.FailureReport.{IsCopy}
use Rattle.vm_start.specs.declared.phase.Phase.TheVariants as phases
use Rattle.vm_attempt.specs.MachineInput.{input_closed}
use Rattle.vm_attempt.specs.Output.{output_of}
use Rattle.vm_attempt.specs.declared.attempt.Attempt.{Attempt}
use Rattle.vm_attempt.specs.declared.turn.Finish.{Finish}
use Rattle.vm_attempt.specs.declared.turn.Turn.{Turn}
use Rattle.schedule_model.specs.declared.kept.Kept.{Kept}
use Rattle.schedule_model.specs.declared.kept.Kept.TheVariants.{Whole, Over, Failed}

-- one that has failed with this answers a copy of it, or that there is no memory for one
abbrev pub FailsAgain : Error → Turn → Type 0
FailsAgain error turn = (answer : Error) × IsCopy error answer × (turn ≡ Turn.Failed answer)

module _ {H : Type 0} where
  -- its input was closed, or not
  abbrev pub closed_if : (is_closed : Bool) → Attempt H → Attempt H
  closed_if true attempt = record attempt { vm = record attempt.vm { state = input_closed attempt.vm.state } }
  closed_if false attempt = attempt

  -- the attempt of which it has this
  abbrev pub attempt_kept : Kept H → Attempt H
  attempt_kept (Whole attempt) = attempt.value
  attempt_kept (Over finish seen) = seen.value
  attempt_kept (Failed error is_closed seen) = closed_if is_closed seen.value

  -- it is over so, and no byte waits
  pub record IsFinished (finish : Finish) (attempt : Attempt H) : Type 0 where
    pub over : attempt.over ≡ Some finish
    pub taken : output_of attempt ≡ []

  -- its machine has failed with this, and no byte waits
  pub record IsFailed (error : Error) (attempt : Attempt H) : Type 0 where
    pub going : attempt.over ≡ None
    pub failed : attempt.vm.state.phase ≡ phases.Failed error
    pub taken : output_of attempt ≡ []

  -- how it is over, or what it has failed with, is enough
  abbrev pub IsKept : Kept H → Type 0
  IsKept (Whole attempt) = Unit {0}
  IsKept (Over finish seen) = IsFinished finish seen.value
  IsKept (Failed error is_closed seen) = IsFailed error.value seen.value
