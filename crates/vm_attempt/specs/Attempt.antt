-- How an attempt is begun, and what becomes of its input.
use Rattle.std.specs.Prelude.{◌≡◌, Bool, true, false, [], Option, Some, None, Result, Ok, Err, IfOk}
use Rattle.std.specs.declared.convert.Infallible.{Infallible}
use Rattle.journal_model.specs.Notification.{Bytes}
use Rattle.protocol_errors.specs.declared.error.Error.{Error}
use Rattle.protocol_types.specs.Version.{version_content_type}
use Rattle.protocol_types.specs.declared.version.Version.{Version}
use Rattle.vm_feeding.specs.NewMachine.{BeginsMachine}
use Rattle.vm_core.specs.MadeMachine.{state_made}
use Rattle.vm_core.specs.declared.core_vm.CoreVM.{CoreVM}
use Rattle.vm_start.specs.declared.phase.Phase.{Phase}
use Rattle.vm_start.specs.declared.phase.Phase.TheVariants as phases
use Rattle.vm_feeding.specs.EndOfInput as closing
use Rattle.vm_feeding.specs.InputBytes.{IsFed}
use Rattle.vm_types.specs.declared.options.VMOptions.{VMOptions}
use Rattle.vm_attempt.specs.declared.attempt.Attempt.{Attempt}
use Rattle.vm_attempt.specs.declared.turn.Finish.{Finish}

-- whether a machine in this phase has failed, or was closed
abbrev pub has_stopped : Phase → Bool
has_stopped (phases.Failed error) = true
has_stopped phases.Closed = true
has_stopped _ = false

module _ {H : Type 0} where
  -- ---- its begin

  abbrev pub machine_made : Result (Attempt H) Error → Result CoreVM Error
  machine_made (Ok a) = Ok a.vm
  machine_made (Err error) = Err error

  -- its handler was asked nothing, and nothing waits to be handed out
  pub record IsUnasked (options : VMOptions) (handler : H) (a : Attempt H) : Type 0 where
    pub handler_is : a.handler ≡ handler
    pub input : a.input ≡ None
    pub answers : a.answers ≡ []
    pub over : a.over ≡ None
    pub front : a.front ≡ []
    pub behind : a.behind ≡ []

  -- its machine begins as that of a request in this version does, or none is made
  pub record IsBegun (version : Version) (options : VMOptions) (handler : H) (result : Result (Attempt H) Error) : Type 0 where
    pub begins : BeginsMachine Infallible (λ error. ⊥) (Some (version_content_type version)) options (state_made (machine_made result))
    pub unasked : IfOk result (IsUnasked options handler)

  -- ---- its input, which its machine takes; an attempt that is over stays as it is

  abbrev pub FeedsUnless : Option Finish → Bytes → (before after : Attempt H) → Type 0
  FeedsUnless (Some finish) bytes before after = after ≡ before
  FeedsUnless None bytes before after = IsFed bytes before.vm.state after.vm.state × (after ≡ record before { vm = after.vm })

  -- bytes come
  abbrev pub Feeds : Bytes → (before after : Attempt H) → Type 0
  Feeds bytes before after = FeedsUnless before.over bytes before after

  -- it was made, and fed these bytes
  pub record IsMadeAndFed (version : Version) (options : VMOptions) (handler : H) (bytes : Bytes) (attempt : Attempt H) : Type 0 where
    pub made : Attempt H
    pub begun : IsBegun version options handler (Ok made)
    pub fed : Feeds bytes made attempt

  abbrev pub ClosesUnless : Option Finish → (before after : Attempt H) → Type 0
  ClosesUnless (Some finish) before after = after ≡ before
  ClosesUnless None before after = closing.ClosesInput before.vm.state after.vm.state × (after ≡ record before { vm = after.vm })

  -- no more come
  abbrev pub ClosesInput : (before after : Attempt H) → Type 0
  ClosesInput before after = ClosesUnless before.over before after
