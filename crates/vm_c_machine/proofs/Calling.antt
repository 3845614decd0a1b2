-- A call and a send, of equal arguments.
use Rattle.std.proofs.Common.{◌≡◌, subst, Option, Ok}
use Rattle.journal_model.specs.Notification.{Bytes, Text}
use Rattle.journal_model.specs.declared.call.Moment.{Moment}
use Rattle.journal_model.specs.declared.call.PayloadOptions.{PayloadOptions}
use Rattle.vm_core.specs.Calls.{SysCall, SysSend}
use Rattle.vm_machine.specs.declared.machine_state.MachineState.{MachineState}
use Rattle.vm_types.specs.declared.handles.CallHandle.{CallHandle}
use Rattle.vm_types.specs.declared.handles.SendHandle.{SendHandle}
use Rattle.vm_c_values.specs.declared.records.NamedTarget.{NamedTarget}

pub called : (named told : NamedTarget) (parameter given : Bytes) (options wanted : PayloadOptions) (made answer : CallHandle) (old new : MachineState)
    → named ≡ told → parameter ≡ given → options ≡ wanted → made ≡ answer → SysCall named.target parameter named.name options old (Ok made) new → SysCall told.target given told.name wanted old (Ok answer) new
called named told parameter given options wanted made answer old new same_target same_parameter same_options same_answer does =
    subst (λ (it : NamedTarget). SysCall it.target given it.name wanted old (Ok answer) new) same_target
    (subst (λ (it : Bytes). SysCall named.target it named.name wanted old (Ok answer) new) same_parameter
    (subst (λ (it : PayloadOptions). SysCall named.target parameter named.name it old (Ok answer) new) same_options
    (subst (λ (it : CallHandle). SysCall named.target parameter named.name options old (Ok it) new) same_answer does)))

pub sent : (named told : NamedTarget) (parameter given : Bytes) (at moment : Option Moment) (options wanted : PayloadOptions) (made answer : SendHandle) (old new : MachineState)
    → named ≡ told → parameter ≡ given → at ≡ moment → options ≡ wanted → made ≡ answer → SysSend named.target parameter at named.name options old (Ok made) new
    → SysSend told.target given moment told.name wanted old (Ok answer) new
sent named told parameter given at moment options wanted made answer old new same_target same_parameter same_moment same_options same_answer does =
    subst (λ (it : NamedTarget). SysSend it.target given moment it.name wanted old (Ok answer) new) same_target
    (subst (λ (it : Bytes). SysSend named.target it moment named.name wanted old (Ok answer) new) same_parameter
    (subst (λ (it : Option Moment). SysSend named.target parameter it named.name wanted old (Ok answer) new) same_moment
    (subst (λ (it : PayloadOptions). SysSend named.target parameter at named.name it old (Ok answer) new) same_options
    (subst (λ (it : SendHandle). SysSend named.target parameter at named.name options old (Ok it) new) same_answer does))))
