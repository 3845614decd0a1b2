-- How a machine with its bodies stands to the run, and what each reply says of it.
use Rattle.std.specs.Prelude.{◌≡◌, ◌≤◌, ◌<◌, ◌⊎◌, ℕ, suc, ◌+◌, ◌==◌, Bool, true, false, if◌then◌else◌, List, [], ◌∷◌, Some}
use Rattle.std.specs.List.{list_any}
use Rattle.journal_model.specs.declared.value.NonEmptyValue.{NonEmptyValue}
use Rattle.journal_model.specs.Notification.{Arrival}
use Rattle.journal_model.specs.AwaitTree.{AwaitTree}
use Rattle.journal_model.specs.declared.call.Answer.{Answer}
use Rattle.journal_model.specs.Request.{Request}
use Rattle.journal_model.specs.History.{Step, next_completion}
use Rattle.journal_model.specs.Journal.{completes}
use Rattle.journal_model.specs.Run.{Handler, Invocation, RefusedCall, run}
use Rattle.attempt_model.specs.Machine.{Mismatch, UncompletedInReplay, EndInReplay, KeysNotText, ChildNotId, Refused}
use Rattle.attempt_model.specs.Simulation.{Stands, AnswersNext, WaitsWithRun, WaitsForChild, EndsWithRun}
use Rattle.body_laws.specs.Bodies.{Body, Executor, has_handle, ExecutorReply, Answers, Executes, AwaitsTreeOf, AwaitsChildOf, Finishes, Fails, acknowledges, bodies_of}

-- one of a list
abbrev pub Among : {A : Type 0} → A → List A → Type 0
Among x [] = ⊥
Among x (y ∷ ys) = (x ≡ y) ⊎ Among x ys

-- whether an outcome has come for a completion
abbrev pub has_arrived : List Arrival → ℕ → Bool
has_arrived arrivals n = list_any (completes n) arrivals

-- how many of these bodies ask for a completion, and how many outcomes were proposed for it
abbrev pub count_bodies : ℕ → List Body → ℕ
count_bodies n [] = 0
count_bodies n (body ∷ bodies) = (if body.completion == n then 1 else 0) + count_bodies n bodies

abbrev pub count_proposed : ℕ → List (ℕ × NonEmptyValue) → ℕ
count_proposed n [] = 0
count_proposed n (outcome ∷ outcomes) = (if outcome.0 == n then 1 else 0) + count_proposed n outcomes

-- a body was executed, or is being executed
abbrev pub WasExecuted : List (ℕ × NonEmptyValue) → Executor → Body → Type 0
WasExecuted proposed e body = Among body e.executing ⊎ (1 ≤ count_proposed body.completion proposed)

-- the handles of bodies ascend
abbrev pub Ascends : List Body → Type 0
Ascends [] = Unit {0}
Ascends (body ∷ bodies) = ((other : Body) → Among other bodies → body.handle < other.handle) × Ascends bodies

-- the bodies of an attempt, where its run has made these steps over these arrivals, and it has proposed these outcomes
pub record BodiesStand (version : ℕ) (steps : List Step) (arrivals : List Arrival) (proposed : List (ℕ × NonEmptyValue)) (e : Executor) : Type 0 where
  -- for a completion there is one body at most, to be executed, being executed, or executed
  pub once : (n : ℕ) → count_bodies n e.left + count_bodies n e.executing + count_proposed n proposed ≤ 1
  pub none_above : (n : ℕ) → next_completion steps ≤ n → count_bodies n e.left + count_bodies n e.executing + count_proposed n proposed ≡ 0
  -- what is to be executed are bodies of the run's, whose outcomes have not come
  pub called : (body : Body) → Among body e.left → Among body (bodies_of steps)
  pub not_come : (body : Body) → Among body e.left → has_arrived arrivals body.completion ≡ false
  pub ascending : Ascends e.left
  -- what is being executed, and what was, are bodies of the run's
  pub executing_called : (body : Body) → Among body e.executing → Among body (bodies_of steps)
  pub proposed_called : (n : ℕ) (value : NonEmptyValue) → Among (n, value) proposed → (body : Body) × Among body (bodies_of steps) × (body.completion ≡ n)
  -- and all of the run's bodies are to be executed whose outcomes have not come, and that were not executed
  pub kept : (body : Body) → Among body (bodies_of steps) → (has_arrived arrivals body.completion ≡ true) ⊎ (Among body e.left ⊎ WasExecuted proposed e body)
  -- an outcome that was proposed, and is to be acknowledged, is cached until it comes
  pub cached : acknowledges version ≡ true → (n : ℕ) (value : NonEmptyValue) → Among (n, value) proposed → (e.cached n ≡ Some value) ⊎ (has_arrived arrivals n ≡ true)
  -- and no other is
  pub cached_alone : (n : ℕ) (value : NonEmptyValue) → e.cached n ≡ Some value → (acknowledges version ≡ true) × Among (n, value) proposed

-- the machine stands in the run, with its bodies
pub record StandsWithBodies (handler : Handler) (given : Invocation) (journal : List Request) (arrivals : List Arrival) (calls : ℕ) (proposed : List (ℕ × NonEmptyValue)) (e : Executor) : Type 0 where
  pub stands : Stands handler given journal arrivals calls e.machine
  pub bodies : BodiesStand given.version stands.steps arrivals proposed e

module _ (handler : Handler) (given : Invocation) (journal : List Request) (arrivals : List Arrival) (calls : ℕ) (proposed : List (ℕ × NonEmptyValue)) where
  -- an answer that is the run's next one
  pub record AnswersWithBodies (answer : Answer) (e : Executor) : Type 0 where
    pub answers : AnswersNext handler given journal arrivals calls answer e.machine
    pub bodies : BodiesStand given.version answers.stands.steps arrivals proposed e

  -- the run waits with all its requests, and among what is left of the tree is this body of a run that it has called, whose outcome has
  -- not come and was not proposed; it is being executed now
  pub record ExecutesBody (body : Body) (e : Executor) : Type 0 where
    pub tree : AwaitTree ℕ
    pub waits : WaitsWithRun handler given journal arrivals calls tree e.machine
    pub awaited : has_handle body.handle tree ≡ true
    pub called : Among body (bodies_of waits.stands.steps)
    pub not_come : has_arrived arrivals body.completion ≡ false
    pub not_proposed : count_proposed body.completion proposed ≡ 0
    pub executing : Among body e.executing
    -- of the bodies that are left the tree has none with a lesser handle
    pub least : (other : Body) → Among other e.left → has_handle other.handle tree ≡ true → body.handle < other.handle
    pub bodies : BodiesStand given.version waits.stands.steps arrivals proposed e

  -- the run waits with all its requests, and of what is left of the tree no body is to be executed: the outcome of each has come, or the
  -- body was executed in this attempt
  pub record WaitsWithBodies (tree : AwaitTree ℕ) (e : Executor) : Type 0 where
    pub waits : WaitsWithRun handler given journal arrivals calls tree e.machine
    pub bodies : BodiesStand given.version waits.stands.steps arrivals proposed e
    pub none_left : (body : Body) → Among body (bodies_of waits.stands.steps) → has_handle body.handle tree ≡ true
        → (has_arrived arrivals body.completion ≡ true) ⊎ WasExecuted proposed e body

  pub record WaitsForChildWithBodies (child : ℕ) (e : Executor) : Type 0 where
    pub waits : WaitsForChild handler given journal arrivals calls child e.machine
    pub bodies : BodiesStand given.version waits.stands.steps arrivals proposed e
    pub no_body : (body : Body) → Among body (bodies_of waits.stands.steps) → body.completion ≡ child → ⊥

  -- what a reply says
  abbrev pub RepliesWithBodies : ExecutorReply → Type 0
  RepliesWithBodies (Answers answer e) = AnswersWithBodies answer e
  RepliesWithBodies (Executes body e) = ExecutesBody body e
  RepliesWithBodies (AwaitsTreeOf tree e) = WaitsWithBodies tree e
  RepliesWithBodies (AwaitsChildOf child e) = WaitsForChildWithBodies child e
  RepliesWithBodies (Finishes e) = EndsWithRun handler given journal arrivals calls e.machine
  RepliesWithBodies (Fails Mismatch) = ⊥
  RepliesWithBodies (Fails UncompletedInReplay) = ⊥
  RepliesWithBodies (Fails EndInReplay) = ⊥
  RepliesWithBodies (Fails KeysNotText) = ⊥
  RepliesWithBodies (Fails ChildNotId) = ⊥
  RepliesWithBodies (Fails (Refused refusal)) = (run handler given arrivals (suc calls)).ending ≡ RefusedCall refusal
