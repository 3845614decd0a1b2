-- A send that is not refused.
use Rattle.std.proofs.Common.{◌≡◌, ℕ, Bool, true, false, List, [], ◌∷◌, ◌++◌, Option, None, Result, Ok, Err, subst, sym}
use Rattle.journal_model.specs.Refusal.{Refusal, first_refusal, send_tests, target_tests}
use Rattle.journal_model.specs.Run.{Invocation}
use Rattle.journal_model.specs.declared.call.Answer.{Answer}
use Rattle.journal_model.specs.declared.call.Call.{Call}
use Rattle.journal_model.specs.declared.call.Moment.{Moment}
use Rattle.journal_model.specs.declared.call.Target.{Target}
use Rattle.vm_calls.specs.Words.{Machine}
use Rattle.vm_calls.specs.CommandCalls.{MakesCommand}
use Rattle.vm_calls.specs.SpentReplay.{FailsSpent}
use Rattle.vm_calls.specs.MismatchedCommands.{FindsAs}
use Rattle.protocol_types.specs.declared.message_type.MessageType.{MessageType}
use Rattle.vm_calls.specs.declared.active.Active.{Active}
use Rattle.vm_calls.specs.declared.call_error.CallError.{CallError}
use Rattle.vm_calls.specs.declared.call_error.CallError.TheVariants.{Number, Put, OutOfMemory}
use Rattle.vm_types.specs.declared.handles.SendHandle.{SendHandle}
use Rattle.vm_syscalls.specs.SendAnswer.{sent}

-- where no test holds, none of the last ones does
passed : (tests more : List (Bool × Refusal)) → first_refusal (tests ++ more) ≡ None → first_refusal more ≡ None
passed [] more h = h
passed ((true, refusal) ∷ tests) more h = cc
passed ((false, refusal) ∷ tests) more h = passed tests more h

-- so its moment is not refused
pub moment_passes : (version : ℕ) (target : Target) (execution_time : Option Moment) → first_refusal (target_tests version target (send_tests execution_time)) ≡ None
    → first_refusal (send_tests execution_time) ≡ None
moment_passes version target execution_time h = passed (target_tests version target []) (send_tests execution_time) h

-- the handle alone is answered
makes_put : {M : Type 0} (checks_off : Bool) (given : Invocation) (m : Machine) (call : Call) (old new : Active) (put : Result ℕ (CallError M)) → MakesCommand checks_off given m call (λ (handle : ℕ). Answer.Handle handle) old put new
    → MakesCommand checks_off given m call (λ (made : SendHandle). Answer.Handle made.invocation_id_notification_handle) old (sent put) new
makes_put checks_off given m call old new (Ok handle) makes = makes
makes_put checks_off given m call old new (Err error) makes = makes

pub makes_sent : {M : Type 0} (checks_off : Bool) (given : Invocation) (m : Machine) (call : Call) (old new : Active) (put : Result ℕ (CallError M)) (made : Result SendHandle (CallError M)) → made ≡ sent put
    → MakesCommand checks_off given m call (λ (handle : ℕ). Answer.Handle handle) old put new → MakesCommand checks_off given m call (λ (made : SendHandle). Answer.Handle made.invocation_id_notification_handle) old made new
makes_sent {M} checks_off given m call old new put made is makes =
    subst (λ (r : Result SendHandle (CallError M)). MakesCommand checks_off given m call (λ (made : SendHandle). Answer.Handle made.invocation_id_notification_handle) old r new) (sym is)
    (makes_put checks_off given m call old new put makes)

spent_put : {M : Type 0} (old new : Active) (put : Result ℕ (CallError M)) → FailsSpent 1 old put new → FailsSpent 1 old (sent put) new
spent_put old new (Ok handle) fails = fails
spent_put old new (Err error) fails = fails

pub spent_sent : {M : Type 0} (old new : Active) (put : Result ℕ (CallError M)) (made : Result SendHandle (CallError M)) → made ≡ sent put → FailsSpent 1 old put new → FailsSpent 1 old made new
spent_sent {M} old new put made is fails = subst (λ (r : Result SendHandle (CallError M)). FailsSpent 1 old r new) (sym is) (spent_put old new put fails)

found_put : {M : Type 0} (ty : MessageType) (old new : Active) (put : Result ℕ (CallError M)) → FindsAs ty old put new → FindsAs ty old (sent put) new
found_put ty old new (Ok handle) found = tt
found_put ty old new (Err (Number error)) found = tt
found_put ty old new (Err (Put error)) found = found
found_put ty old new (Err OutOfMemory) found = tt

pub found_sent : {M : Type 0} (ty : MessageType) (old new : Active) (put : Result ℕ (CallError M)) (made : Result SendHandle (CallError M)) → made ≡ sent put → FindsAs ty old put new
    → FindsAs ty old made new
found_sent {M} ty old new put made is found = subst (λ (r : Result SendHandle (CallError M)). FindsAs ty old r new) (sym is) (found_put ty old new put found)
