-- An await that waits executes a run first, or goes on as it is said.
use Rattle.std.proofs.Common.{◌≡◌, ℕ, Bool, false, Option, Some, None, option_map, Result, Ok, refl, sym, subst}
use Rattle.journal_model.specs.Future.{tree_of}
use Rattle.journal_model.specs.declared.future.UnresolvedFuture.{UnresolvedFuture}
use Rattle.body_laws.specs.Bodies.{Executor, body_awaited, executes_or_awaits}
use Rattle.protocol_errors.specs.declared.error.Error.{Error}
use Rattle.vm_calls.specs.declared.active.Active.{Active}
use Rattle.vm_machine.specs.declared.machine_state.MachineState.{MachineState}
use Rattle.vm_runs.specs.KeptBodies.{HandsOut, KeepsBodies}
use Rattle.vm_runs.specs.Runs.{Runs, bodies_in, run_handed_out}
use Rattle.vm_types.specs.declared.answers.AwaitResponse.{AwaitResponse}
use Rattle.vm_types.specs.declared.answers.AwaitResponse.TheVariants.{ExecuteRun}
use Rattle.vm_waiting.specs.SuspensionFrames.{tells_awaiting, TellsIf}
use Rattle.vm_waiting.specs.WaitsFor.{awaited_ids, waits_for_any}
use Rattle.vm_waiting.specs.declared.suspending.TellError.{TellError}
use Rattle.vm_waiting.specs.declared.waits_for.WaitsFor.{WaitsFor}
use Rattle.vm_waiting.specs.declared.waits_for.WaitsFor.TheVariants.{Future, Child}
use Rattle.vm_progress.specs.SleepingAwaits.{SettlesStay, RemainsAsleep, SleepsOn, SleepsWhere}
use Rattle.vm_progress.specs.AwaitedRuns.{run_for, is_executing_for, executes_any, LooksForRun}

-- ---- looking for a run

pub looks_in : (waits : WaitsFor) (left : UnresolvedFuture) (old : Runs) (found : Option ℕ) (new : Runs) → waits ≡ Future left
    → found ≡ option_map (λ body. body.handle) (body_awaited (tree_of left) (bodies_in false old.table))
    → new ≡ run_handed_out found old
    → ((e : Executor) → KeepsBodies old e → HandsOut (executes_or_awaits (tree_of left) e (body_awaited (tree_of left) e.left)) found new) → LooksForRun waits old found new
looks_in waits left old found new is least runs bodies = subst (λ (w : WaitsFor). LooksForRun w old found new) (sym is) (record { least = least; left = runs; bodies = bodies })

pub looks_for_child : (waits : WaitsFor) (completion : ℕ) (old : Runs) → waits ≡ Child completion → LooksForRun waits old None old
looks_for_child waits completion old is = subst (λ (w : WaitsFor). LooksForRun w old None old) (sym is) (record { least = refl; left = refl; bodies = tt })

-- ---- how it goes on

pub hands_out : (waits : WaitsFor) (handle : ℕ) (old : MachineState) (runs : Runs) → LooksForRun waits old.runs (Some handle) runs
    → SleepsWhere (run_for waits old.runs) waits old (Ok (ExecuteRun handle)) (record old { runs = runs })
hands_out waits handle old runs looks =
    subst (λ (found : Option ℕ). SleepsWhere found waits old (Ok (ExecuteRun handle)) (record old { runs = runs })) looks.least (refl, record { looks = looks; others = refl })

pub executes_none : (waits : WaitsFor) (old : MachineState) (runs : Runs) (result : Result AwaitResponse Error) (new : MachineState) → LooksForRun waits old.runs None runs
    → SleepsOn waits (record old { runs = runs }) result new → SleepsWhere (run_for waits old.runs) waits old result new
executes_none waits old runs result new looks on =
    subst (λ (found : Option ℕ). SleepsWhere found waits old result new) looks.least
    (subst (λ (after : Runs). SleepsOn waits (record old { runs = after }) result new) looks.left on)

pub stays_by : (waits : WaitsFor) (old : MachineState) (executing any : Bool) (told : Result (Unit {0}) TellError) (active : Active) (result : Result AwaitResponse Error) (new : MachineState)
    → executing ≡ is_executing_for waits old.runs → any ≡ executes_any old.runs
    → TellsIf (tells_awaiting old.version old.options.awaiting_on_policy any (waits_for_any waits)) (awaited_ids old.active waits) old.active told active
    → SettlesStay executing told (record old { active = active }) result new → RemainsAsleep waits old result new
stays_by waits old executing any told active result new is all tells settles = record {
  told = told;
  active = active;
  tells = subst (λ (b : Bool). TellsIf (tells_awaiting old.version old.options.awaiting_on_policy b (waits_for_any waits)) (awaited_ids old.active waits) old.active told active) all tells;
  settles = subst (λ (b : Bool). SettlesStay b told (record old { active = active }) result new) is settles;
}
