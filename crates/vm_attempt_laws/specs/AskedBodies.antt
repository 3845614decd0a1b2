-- When an attempt asks for the body of a run: only where the run waits for it, was asked for, and nothing has come of it.
use Rattle.std.specs.Prelude.{◌≡◌, ℕ, Bool, false, List, [], ◌++◌}
use Rattle.journal_model.specs.Event.{Event}
use Rattle.journal_model.specs.Journal.{recorded_arrivals, recorded_requests}
use Rattle.replay_laws.specs.AttemptWithBodies.{IsLiveExecutor}
use Rattle.vm_attempt.specs.RunNames.{run_name}
use Rattle.vm_attempt_laws.specs.AttemptSimulation.{HasBodies, Serves}
use Rattle.vm_attempt_laws.specs.Attempts.{AsksForBody, Attempt}
use Rattle.vm_attempt_laws.specs.Bodies.{Among, Body, Executor, has_arrived, NonEmptyValue, requests_asked_by}
use Rattle.vm_attempt_laws.specs.BodyExecution.{ExecutesFirst}
use Rattle.vm_attempt_laws.specs.Words.{arrivals_carried, AttemptInRun, Handler, HasReadJournal, Queued, Request, requests_carried, RunOptions, Text, Version, VMOptions}

-- its run was asked for by this name, and nothing has come for it, read or not
pub record IsOpenBody (live : AttemptInRun) (body : Body) (name : Text) : Type 0 where
  pub asked : Among (Request.Run body.completion name) (requests_asked_by live)
  pub none_come : has_arrived (arrivals_carried (live.read ++ live.unread)) body.completion ≡ false

-- of the bodies that are to be executed it is the one that the run waits for first, and it is that of this handle, by this name
pub record AsksForFirst (next : Handler) (live : AttemptInRun) (proposed : List (ℕ × NonEmptyValue)) (handle : ℕ) (name : Text) : Type 0 where
  pub body : Body
  pub handle_is : body.handle ≡ handle
  pub journal : HasReadJournal live
  pub first : ExecutesFirst next live.start.given (arrivals_carried live.read) live.calls (requests_carried live.read ++ live.machine.written) proposed body
  pub is_open : IsOpenBody live body name

-- an attempt in its run asks for no other, by the name that its handler has given
abbrev pub AsksForOpen : {H : Type 0} → (function : H → Handler) → Handler → Version → VMOptions → Type 0
AsksForOpen {H} function next version options =
    (is_closed : Bool) (live : AttemptInRun) (before : Attempt H) (proposed : List (ℕ × NonEmptyValue)) (handle : ℕ) (between : Attempt H)
    → options.signal_delivery ≡ Queued → HasBodies next live proposed before → Serves function next version options live is_closed before
    → AsksForBody function handle before between → AsksForFirst next live proposed handle (run_name function handle before)

-- Of the live attempt of a store, of which no frame is on its way, such a body's request is recorded, and no outcome of it is.
abbrev pub OpenIsRecorded : Type 0
OpenIsRecorded = (next : Handler) (options : RunOptions) (fallback_seed : ℕ) (id : Text) (events : List Event) (live : AttemptInRun) (proposed : List (ℕ × NonEmptyValue)) (e : Executor) (body : Body) (name : Text)
    → IsLiveExecutor next options fallback_seed id events live proposed e → live.coming ≡ [] → IsOpenBody live body name
    → Among (Request.Run body.completion name) (recorded_requests events id) × (has_arrived (recorded_arrivals events id) body.completion ≡ false)
