-- The runs of what an await waits for.
use Rattle.std.specs.Prelude.{◌≡◌, ℕ, Bool, true, false, Option, None, option_map}
use Rattle.std.specs.List.{list_any}
use Rattle.journal_model.specs.Future.{tree_of}
use Rattle.body_laws.specs.Bodies.{Executor, body_awaited, executes_or_awaits, has_handle}
use Rattle.vm_runs.specs.KeptBodies.{HandsOut, KeepsBodies}
use Rattle.vm_runs.specs.Runs.{Runs, bodies_in, run_handed_out}
use Rattle.vm_waiting.specs.declared.waits_for.WaitsFor.{WaitsFor}
use Rattle.vm_waiting.specs.declared.waits_for.WaitsFor.TheVariants.{Future, Child}

-- the run that is to be executed first, that of the least handle: for a child none is
abbrev pub run_for : WaitsFor → Runs → Option ℕ
run_for (Future left) runs = option_map (λ body. body.handle) (body_awaited (tree_of left) (bodies_in false runs.table))
run_for (Child completion) runs = None

-- whether one is being executed
abbrev pub is_executing_for : WaitsFor → Runs → Bool
is_executing_for (Future left) runs = list_any (λ body. has_handle body.handle (tree_of left)) (bodies_in true runs.table)
is_executing_for (Child completion) runs = false

-- whether any run is, waited for or not
abbrev pub executes_any : Runs → Bool
executes_any runs = list_any (λ body. true) (bodies_in true runs.table)

-- the bodies of the attempt are those behind the body that is handed out
abbrev pub HandsOutFor : WaitsFor → (old : Runs) → Option ℕ → (new : Runs) → Type 0
HandsOutFor (Future left) old found new = (e : Executor) → KeepsBodies old e → HandsOut (executes_or_awaits (tree_of left) e (body_awaited (tree_of left) e.left)) found new
HandsOutFor (Child completion) old found new = Unit {0}

-- the run that is to be executed first is handed out, if there is one
pub record LooksForRun (waits : WaitsFor) (old : Runs) (found : Option ℕ) (new : Runs) : Type 0 where
  pub least : found ≡ run_for waits old
  pub left : new ≡ run_handed_out found old
  pub bodies : HandsOutFor waits old found new
