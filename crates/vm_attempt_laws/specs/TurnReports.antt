-- What each turn of an attempt tells of the run, by what its turns have told before.
use Rattle.std.specs.Prelude.{◌≡◌, ◌<◌, ◌+◌, ◌^◌, ◌⊎◌, ℕ, suc, pred, Bool, true, false, List, [], ◌∷◌, ◌++◌, length, map, Option, Some, None}
use Rattle.journal_model.specs.History.{completions_of, ids_of, next_completion, next_handle, next_signal, signals_of, Step}
use Rattle.journal_model.specs.Run.{GoesOn, RefusedCall, Ended, run, run_requests}
use Rattle.protocol_stream.specs.ErrorText.{too_long_text}
use Rattle.vm_context.specs.Journal.{no_id_text}
use Rattle.vm_machine.specs.Causes.{TellsPlainError}
use Rattle.vm_outcomes.specs.Causes.{moment_event}
use Rattle.vm_progress.specs.SleepingAwaits.{too_deep_error}
use Rattle.vm_refusals.specs.Refusals.{refusal_code, refusal_meant, text_of_refusal}
use Rattle.vm_refusals.specs.declared.refusal.CallRefusal.{CallRefusal}
use Rattle.vm_attempt_laws.specs.Attempts.{Attempt, Turn, Turns}
use Rattle.vm_attempt_laws.specs.Machine.{IsCopy, out_of_memory, Written}
use Rattle.vm_attempt_laws.specs.Bodies.{Among, Body, by_policy, NonEmptyValue, RunOutcome}
use Rattle.vm_attempt_laws.specs.ArrivalsCome.{arrivals_come, HasJournal}
use Rattle.vm_attempt_laws.specs.AttemptInvariants.{early_error, error_told, FailsWith, IsNoError, IsNoFailure, TellsErrorBy}
use Rattle.vm_attempt_laws.specs.BodyExecution.{BodyCause, BodyFailsWhen, BodySays, RunWaitsFor, WaitsForOthers, ExecutesFirst, OutcomeIs, tried_of}
use Rattle.vm_attempt_laws.specs.AttemptSimulation.{HasBodies, IsOver, Serves}
use Rattle.vm_attempt_laws.specs.TurnsInRun.{turns_answered}
use Rattle.vm_attempt_laws.specs.Words.{answers_of, Arrival, AttemptStart, Bytes, Call, Error, Frame, Handler, input_bytes, internal, AttemptInRun, piece_of, Queued, Refusal, Request, requests_carried, ShowsStart, Version, version_number, VMOptions}

-- What was told of one attempt by the replies so far: the version by which it was begun, the bytes that it was handed, whether its input was closed, how many of its turns have
-- answered, the first of which reads the input, which outcomes it has proposed, and the turn by which it is over.
pub record Told : Type 0 where
  pub version : ℕ
  pub bytes : Bytes
  pub is_closed : Bool
  pub answered : ℕ
  pub proposed : List (ℕ × NonEmptyValue)
  pub over : Option Turn

abbrev pub told_nothing : (version : ℕ) → Told
told_nothing version = record { version = version; bytes = []; is_closed = false; answered = 0; proposed = []; over = None }

-- an attempt that is to fail with an error answers it, or, where its frame would be too long, one that says so
abbrev pub AnswersError : (told error : Error) → Type 0
AnswersError told error = (output : Written) × FailsWith told output error

-- these numbers are next, and one that a call takes of them is too large to be told
abbrev pub LacksNumbers : (completion signal handle : ℕ) → Call → Type 0
LacksNumbers completion signal handle call =
    (2 ^ 32 < completion + completions_of call) ⊎ ((2 ^ 32 < signal + signals_of call) ⊎ (2 ^ 32 < handle + length (ids_of completion signal call)))

-- a call that is refused is told so, in this version
pub record TellsRefusal (version : Version) (call : Call) (refusal : Refusal) (told : Error) : Type 0 where
  pub refused : CallRefusal
  pub meant : refusal_meant refused ≡ refusal
  pub says : TellsPlainError (refusal_code refused) (Some (text_of_refusal refused version (moment_event call))) told

-- while no turn has told that it is over, it has written no error
abbrev pub TellsErrorAt : (version : ℕ) → Option Turn → Frame → Type 0
TellsErrorAt version None = IsNoError
TellsErrorAt version (Some turn) = TellsErrorBy version turn

-- an attempt whose input is closed too early fails with this error, or for want of memory
abbrev pub FailsEarly : Error → Type 0
FailsEarly error = AnswersError early_error error ⊎ (error ≡ out_of_memory)

-- its input was closed too early, which the frame tells
abbrev pub IsEarly : Told → Frame → Type 0
IsEarly told frame = (told.is_closed ≡ true) × ((error : Error) × FailsEarly error × (frame ≡ error_told told.version error))

-- A frame that it has written says what was told: an outcome is one that it has proposed; an error ends no invocation, and is the one by which a
-- turn has failed, with what is to be done of it, or it tells that its input was closed before its journal had come.
abbrev pub IsFrameTold : Told → Frame → Type 0
IsFrameTold told (Frame.RunOutcome completion value is_acknowledged) = Among (completion, value) told.proposed
IsFrameTold told (Frame.Error code message behavior delay) =
    IsNoFailure (Frame.Error code message behavior delay)
    × (TellsErrorAt told.version told.over (Frame.Error code message behavior delay) ⊎ IsEarly told (Frame.Error code message behavior delay))
IsFrameTold told frame = Unit {0}

-- By these arrivals, which have come whole to it.
module _ (next : Handler) (start : AttemptStart) (told : Told) (arrivals : List Arrival) where
  -- how many calls were answered, and what the run over the arrivals that have come asks for with one more
  abbrev pub calls : ℕ
  calls = pred told.answered

  abbrev pub requests : List Request
  requests = run_requests next start.given arrivals (suc calls)

  abbrev pub Waits : Type 0
  Waits = WaitsForOthers next start.given arrivals calls requests told.proposed

  -- the body that the run waits for first, which its attempt executes
  abbrev pub First : Body → Type 0
  First body = ExecutesFirst next start.given arrivals calls requests told.proposed body

  -- The body has ended with this outcome: the journal had come whole, it is the body that the run waits for first, and the policy says so of how
  -- it has ended, by what was tried before by an attempt that has asked for these requests behind its journal.
  pub record ProposesOutcomeOf (ran : RunOutcome) (body : Body) (value : NonEmptyValue) : Type 0 where
    pub journal : HasJournal start told.bytes
    pub first : First body
    pub written : List Request
    pub behind : requests ≡ requests_carried start.journal ++ written
    pub shows : ShowsStart start
    pub outcome : OutcomeIs ran (tried_of start shows written) value

  -- the calls that were made, and the one that its handler makes next
  abbrev pub made : List Step
  made = (run next start.given arrivals calls).steps

  abbrev pub next_call : Call
  next_call = next start.given.input (answers_of made)

  -- of that a completion, a signal or a handle has no number
  abbrev pub HasNoNumber : Type 0
  HasNoNumber = LacksNumbers (next_completion made) (next_signal made) (next_handle made) next_call

  -- what an attempt lacks that has failed so, as its error says
  pub data IsLacking (error : Error) : Type 0 where
    -- a number for what the call makes
    numbers : HasNoNumber → (tells : Error) → tells.code.0 ≡ internal → tells.message ≡ no_id_text → AnswersError tells error → IsLacking error
    -- room in a frame, for what it asks or waits for
    room : (tells : Error) → tells.code.0 ≡ internal → tells.message ≡ too_long_text → AnswersError tells error → IsLacking error
    memory : error ≡ out_of_memory → IsLacking error

  -- the run refuses that, which is told
  pub record IsRefused (refusal : Refusal) (error : Error) : Type 0 where
    pub refuses : (run next start.given arrivals (suc calls)).ending ≡ RefusedCall refusal
    pub version : Version
    pub of_version : start.given.version ≡ version_number version
    pub tells : Error
    pub is_told : TellsRefusal version next_call refusal tells
    pub answers : AnswersError tells error

  -- The body that it executes has ended without an outcome that is written: it is the body that the run waits for first, and the policy says so of
  -- how it has ended, by what was tried before by an attempt that has asked for these requests behind its journal.
  pub record EndsWithout (ran : RunOutcome) (body : Body) (error : Error) : Type 0 where
    pub first : First body
    pub written : List Request
    pub behind : requests ≡ requests_carried start.journal ++ written
    pub shows : ShowsStart start
    pub version : Version
    pub of_version : start.given.version ≡ version_number version
    pub cause : BodyCause
    pub when : BodyFailsWhen version (by_policy ran) (tried_of start shows written) body.completion cause
    pub tells : Error
    pub says : BodySays version cause tells
    pub answers : AnswersError tells error

  -- why an attempt has failed
  pub data FailsSo (ran : RunOutcome) (error : Error) : Type 0 where
    -- the run refuses the call that its handler makes next
    refused : (refusal : Refusal) → IsRefused refusal error → FailsSo ran error
    -- the body that it has executed has ended without an outcome
    of_body : (body : Body) → EndsWithout ran body error → FailsSo ran error
    -- its input was closed before its journal had come
    early : (HasJournal start told.bytes → ⊥) → told.is_closed ≡ true → AnswersError early_error error → FailsSo ran error
    -- there was no number or no room for what it makes, or no memory
    lacks : IsLacking error → FailsSo ran error
    -- the run waits, for what is nested too deep to be told
    too_deep : RunWaitsFor next start.given arrivals calls → AnswersError too_deep_error error → FailsSo ran error

  -- by what a reply tells of a turn, and of what was told then
  abbrev pub TurnTellsOver : RunOutcome → Turn → (now : Told) → Type 0
  TurnTellsOver ran Turn.Answered now = (now ≡ record told { answered = suc told.answered }) × ((told.answered ≡ 0) ⊎ ((run next start.given arrivals told.answered).ending ≡ GoesOn))
  TurnTellsOver ran Turn.RanBody now =
      (body : Body) × (value : NonEmptyValue) × ProposesOutcomeOf ran body value × (now ≡ record told { proposed = told.proposed ++ (body.completion, value) ∷ [] })
  TurnTellsOver ran Turn.Waiting now = (now ≡ told) × ((HasJournal start told.bytes → ⊥) ⊎ ((told.is_closed ≡ false) × Waits))
  TurnTellsOver ran Turn.Suspended now = (now ≡ record told { over = Some Turn.Suspended }) × (told.is_closed ≡ true) × Waits
  TurnTellsOver ran Turn.Ended now = (now ≡ record told { over = Some Turn.Ended }) × ((run next start.given arrivals (suc calls)).ending ≡ Ended)
  TurnTellsOver ran (Turn.Failed error) now = (now ≡ record told { over = Some (Turn.Failed error) }) × FailsSo ran error

-- By what was told of it: what it has read is a function of the bytes that it was handed and of the outcomes that it has proposed.
abbrev pub arrivals_told : AttemptStart → Told → List Arrival
arrivals_told start told = arrivals_come start told.bytes told.proposed

abbrev pub TurnTells : Handler → AttemptStart → Told → RunOutcome → Turn → (now : Told) → Type 0
TurnTells next start told ran turn now = TurnTellsOver next start told (arrivals_told start told) ran turn now

-- One that was suspended or has ended says that again. One that has failed keeps an error: what it has answered and what it answers are copies
-- of that, or say that there was no memory for one.
abbrev pub IsAgain : (last turn : Turn) → Type 0
IsAgain (Turn.Failed error) turn = (kept : Error) × (told : Error) × IsCopy kept error × IsCopy kept told × (turn ≡ Turn.Failed told)
IsAgain last turn = turn ≡ last

-- Memory was refused as its input came: it has failed for that.
abbrev pub TellsNoMemory : Told → Turn → (now : Told) → Type 0
TellsNoMemory told turn now = (turn ≡ Turn.Failed out_of_memory) × (now ≡ record told { over = Some (Turn.Failed out_of_memory) })

-- a turn of an attempt that is over, or is not
abbrev pub TurnTellsNow : Handler → AttemptStart → (told : Told) → (over : Option Turn) → RunOutcome → Turn → (now : Told) → Type 0
TurnTellsNow next start told (Some last) ran turn now = IsAgain last turn × (now ≡ told)
TurnTellsNow next start told None ran turn now = TellsNoMemory told turn now ⊎ TurnTells next start told ran turn now

-- what was told of an attempt is so: it was handed its start frame, and the messages that it has read and the bytes that it holds
pub record IsAttemptTold {H : Type 0} (live : AttemptInRun) (a : Attempt H) (is_closed : Bool) (proposed : List (ℕ × NonEmptyValue)) (told : Told) : Type 0 where
  pub version : told.version ≡ live.start.new.version
  pub bytes : told.bytes ≡ live.start.frame ++ (input_bytes (map piece_of live.read) ++ live.held)
  pub closed : told.is_closed ≡ is_closed
  pub answered : told.answered ≡ turns_answered a.input live.calls
  pub outcomes : told.proposed ≡ proposed

module _ {H : Type 0} (function : H → Handler) (next : Handler) (version : Version) (options : VMOptions) where
  -- an attempt that was begun so serves on, by what is told now
  pub record GoesOnTold (start : AttemptStart) (is_closed : Bool) (now : Told) (after : Attempt H) : Type 0 where
    pub live : AttemptInRun
    pub proposed : List (ℕ × NonEmptyValue)
    pub start_is : live.start ≡ start
    pub bodies : HasBodies next live proposed after
    pub serves : Serves function next version options live is_closed after
    pub is_told : IsAttemptTold live after is_closed proposed now

  -- its turn tells this, of the run over the arrivals that have come to it, and it goes on so, or is over
  pub record TellsOne (start : AttemptStart) (is_closed : Bool) (told : Told) (ran : RunOutcome) (turn : Turn) (after : Attempt H) : Type 0 where
    pub now : Told
    pub tells : TurnTells next start told ran turn now
    pub goes_on : IsOver after ⊎ GoesOnTold start is_closed now after

  abbrev pub TurnsTell : Type 0
  TurnsTell = (is_closed : Bool) (live : AttemptInRun) (before : Attempt H) (proposed : List (ℕ × NonEmptyValue)) (ran : RunOutcome) (turn : Turn) (after : Attempt H) (told : Told) → options.signal_delivery ≡ Queued
      → HasBodies next live proposed before → Serves function next version options live is_closed before → IsAttemptTold live before is_closed proposed told → Turns function ran before turn after
      → TellsOne live.start is_closed told ran turn after
