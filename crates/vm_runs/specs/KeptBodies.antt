-- How what is kept stands to the bodies of an attempt.
use Rattle.std.specs.Prelude.{◌≡◌, ◌<◌, ◌⊎◌, ℕ, ◌+◌, true, false, if◌then◌else◌, List, [], ◌∷◌, ◌++◌, Option, Some, None}
use Rattle.journal_model.specs.declared.value.NonEmptyValue.{NonEmptyValue}
use Rattle.body_laws.specs.Bodies.{Body, Executor, is_body, ExecutorReply, Executes, AwaitsTreeOf, reads_outcome, acknowledges, proposing}
use Rattle.body_laws.specs.BodySimulation.{Among}
use Rattle.vm_runs.specs.declared.run.Run.{Run}
use Rattle.vm_runs.specs.Runs.{Runs, outcome_at, body_of, bodies_in}

-- how often a body stands in a list
abbrev pub times : Body → List Body → ℕ
times body [] = 0
times body (other ∷ bodies) = (if is_body body other then 1 else 0) + times body bodies

-- the same bodies, in any order
abbrev pub SameBodies : List Body → List Body → Type 0
SameBodies bodies others = (body : Body) → times body bodies ≡ times body others

-- the bodies that are to be executed, those that are being executed, and the outcomes that are to be acknowledged
pub record KeepsBodies (runs : Runs) (e : Executor) : Type 0 where
  pub left : bodies_in false runs.table ≡ e.left
  pub executing : SameBodies (bodies_in true runs.table) e.executing
  pub cached : (completion : ℕ) → outcome_at runs.cached completion ≡ e.cached completion

-- one more body is to be executed, of a call with a new handle
abbrev pub with_body : Executor → Body → Executor
with_body e body = record { machine = e.machine; left = e.left ++ body ∷ []; executing = e.executing; cached = e.cached }

abbrev pub IsNew : ℕ → Executor → Type 0
IsNew handle e = (body : Body) → Among body e.left ⊎ Among body e.executing → body.handle < handle

-- the body that is awaited first is handed out, by its handle
abbrev pub HandsOut : ExecutorReply → Option ℕ → Runs → Type 0
HandsOut (Executes body e) (Some handle) runs = (body.handle ≡ handle) × KeepsBodies runs e
HandsOut (AwaitsTreeOf tree e) None runs = KeepsBodies runs e
HandsOut reply handle runs = ⊥

-- the outcome of a run was proposed, of which a copy was kept, where outcomes are acknowledged
abbrev pub copy_of : (version : ℕ) → NonEmptyValue → Option NonEmptyValue
copy_of version value = if acknowledges version then Some value else None

abbrev pub ProposesOutcome : ℕ → Option NonEmptyValue → Option Run → Runs → Runs → Type 0
ProposesOutcome handle outcome None old new = new ≡ old
ProposesOutcome handle outcome (Some run) old new = (version : ℕ) (e : Executor) (value : NonEmptyValue) → outcome ≡ copy_of version value → KeepsBodies old e → KeepsBodies new (proposing version e (body_of handle run) value)

-- an outcome that is acknowledged is the one that was kept
abbrev pub Acknowledges : ℕ → Option NonEmptyValue → Runs → Runs → Type 0
Acknowledges completion found old new = (e : Executor) → KeepsBodies old e → (found ≡ e.cached completion) × ((value : NonEmptyValue) → KeepsBodies new (reads_outcome e completion value))
