-- What a turn of an attempt comes to.
use Rattle.std.specs.Prelude.{◌≡◌, ◌⊎◌, ℕ, Bool, true, false, [], ◌∷◌, ◌++◌, Option, Some, None, Result, Ok, Err}
use Rattle.journal_model.specs.Run.{Handler}
use Rattle.journal_model.specs.declared.call.Answer.{Answer}
use Rattle.journal_model.specs.declared.call.Call.{Call}
use Rattle.journal_model.specs.declared.handler.Input.{Input}
use Rattle.protocol_errors.specs.declared.error.Error.{Error}
use Rattle.vm_request_laws.specs.Calls.{IsTypedCall}
use Rattle.vm_feeding.specs.InputAnswer.{IsInputRead}
use Rattle.vm_start.specs.FailureReport.{out_of_memory}
use Rattle.vm_feeding.specs.MachineQueries.{TellsReady}
use Rattle.vm_proposals.specs.ProposalEffects.{ProposesRun}
use Rattle.vm_core.specs.Outcomes.outcomes
use Rattle.vm_core.specs.Outcomes.{CarriesOut, CallOutcome}
use Rattle.vm_core.specs.declared.core_vm.CoreVM.{CoreVM}
use Rattle.vm_attempt.specs.Bodies.{by_policy}
use Rattle.vm_attempt.specs.ExitTypes.{IsTypedOutcome}
use Rattle.vm_attempt.specs.declared.attempt.Attempt.{Attempt}
use Rattle.vm_attempt.specs.declared.run_outcome.RunOutcome.{RunOutcome}
use Rattle.vm_attempt.specs.declared.turn.Finish.{Finish}
use Rattle.vm_attempt.specs.declared.turn.Finish.TheVariants as finishes
use Rattle.vm_attempt.specs.declared.turn.Step.{Step}
use Rattle.vm_attempt.specs.declared.turn.Step.TheVariants as steps
use Rattle.vm_attempt.specs.declared.turn.Turn.{Turn}
use Rattle.vm_attempt.specs.declared.turn.Turn.TheVariants as turns

-- what each turn comes to of an attempt that is over
abbrev pub again : Finish → Turn
again finishes.Suspended = Turn.Suspended
again finishes.Ended = Turn.Ended
again finishes.OutOfMemory = Turn.Failed out_of_memory

-- what a turn comes to that has proposed how a body has ended
abbrev pub ran_or_failed : Result (Unit {0}) Error → Turn
ran_or_failed (Ok done) = Turn.RanBody
ran_or_failed (Err error) = Turn.Failed error

-- a turn that has ended no body
abbrev pub RanNone : Turn → Type 0
RanNone turns.RanBody = ⊥
RanNone _ = Unit {0}

-- a turn that is over without a body has ended none
abbrev pub EndsNone : Step → Type 0
EndsNone (steps.Turned turn) = RanNone turn
EndsNone (steps.Asks handle) = Unit {0}

module _ {H : Type 0} where
  -- the attempt is over, and answers that in each turn
  abbrev pub FinishesBy : Finish → (between : Attempt H) → Turn → (after : Attempt H) → Type 0
  FinishesBy finish between turn after = (turn ≡ again finish) × (after ≡ record between { over = Some finish })

  -- ---- a call of the handler

  -- the handler is told the answer the next time, or there is no memory for it
  abbrev pub TakesAnswer : Answer → (between : Attempt H) → Turn → (after : Attempt H) → Type 0
  TakesAnswer answer between turn after =
      ((turn ≡ Turn.Answered) × (after ≡ record between { answers = between.answers ++ answer ∷ [] })) ⊎ FinishesBy finishes.OutOfMemory between turn after

  -- How the body of a run has ended is proposed to the machine, which fails with it where it is no outcome. What then becomes of the
  -- invocation its policy alone says, and not its error.
  pub record RunsBody (ran : RunOutcome) (handle : ℕ) (between : Attempt H) (turn : Turn) (after : Attempt H) : Type 0 where
    pub typed : IsTypedOutcome (by_policy ran)
    pub proposed : Result (Unit {0}) Error
    pub proposes : ProposesRun handle (by_policy ran).result ran.policy between.vm.state proposed after.vm.state
    pub turn_is : turn ≡ ran_or_failed proposed
    pub others : after ≡ record between { vm = after.vm }

  -- how the attempt goes on by what the call has come to; what its machine has failed with this keeps
  abbrev pub TakesOutcome : RunOutcome → CallOutcome → (between : Attempt H) → Turn → (after : Attempt H) → Type 0
  TakesOutcome ran (outcomes.Answered answer) between turn after = TakesAnswer answer between turn after
  TakesOutcome ran outcomes.Waiting between turn after = (turn ≡ Turn.Waiting) × (after ≡ between)
  TakesOutcome ran (outcomes.Executes handle) between turn after = RunsBody ran handle between turn after
  TakesOutcome ran outcomes.Suspended between turn after = FinishesBy finishes.Suspended between turn after
  TakesOutcome ran outcomes.Ended between turn after = FinishesBy finishes.Ended between turn after
  TakesOutcome ran (outcomes.Failed error) between turn after = (turn ≡ Turn.Failed error) × (after ≡ between)

  -- the machine carries the call out, which is of its type, and stands between then
  pub record CarriesCall (ran : RunOutcome) (call : Call) (before : Attempt H) (turn : Turn) (after : Attempt H) : Type 0 where
    pub typed : IsTypedCall call
    pub outcome : CallOutcome
    pub between : CoreVM
    pub carries : CarriesOut call before.vm.state outcome between.state
    pub comes : TakesOutcome ran outcome (record before { vm = between }) turn after

  -- ---- the input

  abbrev pub GivesInput : Result Input Error → (between : Attempt H) → Turn → (after : Attempt H) → Type 0
  GivesInput (Ok input) between turn after = (turn ≡ Turn.Answered) × (after ≡ record between { input = Some input })
  GivesInput (Err error) between turn after = (turn ≡ Turn.Failed error) × (after ≡ between)

  -- the machine reads it
  pub record ReadsInput (before : Attempt H) (turn : Turn) (after : Attempt H) : Type 0 where
    pub read : Result Input Error
    pub reads : IsInputRead before.vm.state read after.vm.state
    pub gives : GivesInput read (record before { vm = after.vm }) turn after

  -- ---- a turn

  -- the body of a run is executed in a turn where the machine asks for that, and then it has ended so; else that is not looked at
  module _ (function : H → Handler) (ran : RunOutcome) where
    -- the input is read first, which no call is; then the handler's next call is carried out, if there is memory for it
    abbrev pub ReadsOrAsks : Option Input → (before : Attempt H) → Turn → (after : Attempt H) → Type 0
    ReadsOrAsks None before turn after = ReadsInput before turn after
    ReadsOrAsks (Some input) before turn after = CarriesCall ran (function before.handler input before.answers) before turn after ⊎ FinishesBy finishes.OutOfMemory before turn after

    -- calls are made of the machine, or more has to come, or it has failed
    abbrev pub TurnsWhere : Result Bool Error → (before : Attempt H) → Turn → (after : Attempt H) → Type 0
    TurnsWhere (Ok true) before turn after = ReadsOrAsks before.input before turn after
    TurnsWhere (Ok false) before turn after = (turn ≡ Turn.Waiting) × (after ≡ before)
    TurnsWhere (Err error) before turn after = (turn ≡ Turn.Failed error) × (after ≡ before)

    pub record TurnsOn (before : Attempt H) (turn : Turn) (after : Attempt H) : Type 0 where
      pub ready : Result Bool Error
      pub is_ready : TellsReady before.vm.state.phase ready
      pub turns : TurnsWhere ready before turn after

    abbrev pub TurnsUnless : Option Finish → (before : Attempt H) → Turn → (after : Attempt H) → Type 0
    TurnsUnless (Some finish) before turn after = (turn ≡ again finish) × (after ≡ before)
    TurnsUnless None before turn after = TurnsOn before turn after

    -- an attempt that is over answers the same again, and nothing changes; another makes a turn of its machine
    abbrev pub Turns : (before : Attempt H) → Turn → (after : Attempt H) → Type 0
    Turns before turn after = TurnsUnless before.over before turn after

  -- ---- a turn in two halves, with the body of a run between them

  -- What it has come to: a turn, whatever the end of a body would be, or one that the end of this body ends.
  abbrev pub StepIs : (Does : RunOutcome → Turn → Attempt H → Type 0) → Step → (after : Attempt H) → Type 0
  StepIs Does (steps.Turned turn) after = (ran : RunOutcome) → Does ran turn after
  StepIs Does (steps.Asks handle) between = (ran : RunOutcome) (turn : Turn) (after : Attempt H) → RunsBody ran handle between turn after → Does ran turn after

  -- where a body is asked for, nothing but the machine has changed
  abbrev pub StaysAsked : Step → (before after : Attempt H) → Type 0
  StaysAsked (steps.Turned turn) before after = Unit {0}
  StaysAsked (steps.Asks handle) before after = after ≡ record before { vm = after.vm }

  -- ---- whether a call is made

  -- it is not over, and calls are made of its machine
  pub record MakesCalls (a : Attempt H) : Type 0 where
    pub going : a.over ≡ None
    pub ready : TellsReady a.vm.state.phase (Ok true)

  -- where none is, this is the turn of every handler, and nothing changes
  abbrev pub IsAtOnce : Option Turn → Attempt H → Type 0
  IsAtOnce (Some turn) a = (function : H → Handler) (ran : RunOutcome) → Turns function ran a turn a
  IsAtOnce None a = MakesCalls a

  -- ---- when a body is asked for

  -- what a call has come to says so, and nothing more is done then
  abbrev pub AsksAs : CallOutcome → Step → (before after : Attempt H) → Type 0
  AsksAs outcome (steps.Turned turn) before after = Unit {0}
  AsksAs outcome (steps.Asks handle) before after = (outcome ≡ outcomes.Executes handle) × (after ≡ before)

  -- the call has come to that: it is of its type, and the machine has handed out the body of this run
  pub record ComesToBody (call : Call) (handle : ℕ) (before between : Attempt H) : Type 0 where
    pub typed : IsTypedCall call
    pub carries : CarriesOut call before.vm.state (outcomes.Executes handle) between.vm.state

  abbrev pub AsksBy : Call → Step → (before after : Attempt H) → Type 0
  AsksBy call (steps.Turned turn) before after = Unit {0}
  AsksBy call (steps.Asks handle) before after = ComesToBody call handle before after

  module _ (function : H → Handler) where
    -- the handler's next call has come to that, behind what was read and answered
    pub record AsksForBody (handle : ℕ) (before between : Attempt H) : Type 0 where
      pub input : Input
      pub has_read : before.input ≡ Some input
      pub comes : ComesToBody (function before.handler input before.answers) handle before between

    abbrev pub AsksWhere : Step → (before after : Attempt H) → Type 0
    AsksWhere (steps.Turned turn) before after = Unit {0}
    AsksWhere (steps.Asks handle) before after = AsksForBody handle before after

    -- ---- a call that comes from outside

    -- this is the call that the handler makes next, if it is asked for one
    abbrev pub IsNextCall : Call → (before : Attempt H) → Type 0
    IsNextCall call before = (input : Input) → before.input ≡ Some input → function before.handler input before.answers ≡ call
