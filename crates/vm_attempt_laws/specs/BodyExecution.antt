-- The bodies of an attempt's runs: which the run waits for, which of these is executed first, and for which cause one fails its attempt.
use Rattle.std.specs.Prelude.{◌≡◌, ◌≢◌, ◌≤◌, ◌⊎◌, ◌*◌, ◌^◌, ℕ, suc, true, false, List, [], ◌∷◌, ◌++◌, length, Option, Some, None, option_map}
use Rattle.std.specs.Duration.{as_nanos}
use Rattle.std.specs.declared.time.Duration.{Duration}
use Rattle.journal_model.specs.AwaitTree.{Single, map_leaves}
use Rattle.journal_model.specs.History.{stands_for}
use Rattle.journal_model.specs.Run.{Handler, Invocation, Ending, Waits, run, run_requests}
use Rattle.journal_model.specs.declared.notification.NotificationId.TheVariants.{CompletionId}
use Rattle.protocol_errors.specs.Texts.{feature_text}
use Rattle.protocol_stream.specs.ErrorText.{too_long_text}
use Rattle.protocol_types.specs.Feature.{first_version}
use Rattle.protocol_types.specs.declared.feature.Feature.{Feature}
use Rattle.vm_machine.specs.CallAdmission.{IsAbout}
use Rattle.vm_machine.specs.Causes.{TellsPlainError}
use Rattle.vm_start.specs.Failure.{failed_with}
use Rattle.vm_types.specs.declared.options.JournalMismatchRetryBehavior.TheVariants.{FailTerminally}
use Rattle.run_laws.specs.SuspensionContent.{left_of}
use Rattle.vm_attempt_laws.specs.Bodies.{NonEmptyValue, Body, has_handle, bodies_of, Among, has_arrived, count_proposed, RunOutcome, by_policy, RunExitResult, feature_name_of, run_told, with_delay, about, pausing, Tried, inherits, proposal, proposal_message, ending, Outcome, Retry, Pause, feature_lacked, Run, run_at}
use Rattle.vm_attempt_laws.specs.AttemptInvariants.{FailsWith}
use Rattle.vm_attempt_laws.specs.Machine.{are_any, MachineState, out_of_memory, told_error}
use Rattle.vm_attempt_laws.specs.OutputOfAttempt.{Sent, Fails}
use Rattle.vm_attempt_laws.specs.Words.{internal, unsupported_feature, journal_mismatch, AttemptStart, Error, Version, version_number, NotificationId, AwaitTree, Arrival, arrivals_carried, Request, requests_carried, AttemptInRun, ShowsStart, VMOptions}

-- with one more call the run over these arrivals waits
abbrev pub RunWaitsFor : (next : Handler) (given : Invocation) (arrivals : List Arrival) (calls : ℕ) → Type 0
RunWaitsFor next given arrivals calls = (awaited : AwaitTree (Option NotificationId)) × ((run next given arrivals (suc calls)).ending ≡ Waits awaited)

-- the run over these arrivals comes to this with one more call, with exactly these requests
pub record RunComesTo (next : Handler) (given : Invocation) (arrivals : List Arrival) (calls : ℕ) (requests : List Request) (ending : Ending) : Type 0 where
  pub over : (run next given arrivals (suc calls)).ending ≡ ending
  pub exactly : run_requests next given arrivals (suc calls) ≡ requests

-- ---- the bodies that the run waits for

module _ (next : Handler) (given : Invocation) (arrivals : List Arrival) (calls : ℕ) where
  -- of what is awaited the leaves of this tree, by their handles, are left to wait for
  abbrev pub IsLeft : AwaitTree (Option NotificationId) → AwaitTree ℕ → Type 0
  IsLeft awaited left = map_leaves (stands_for (run next given arrivals calls).steps) left ≡ left_of given arrivals (run next given arrivals calls) awaited

  -- the body of a run that the run has called, whose outcome has not come, in an attempt that has not proposed it
  pub record IsToExecute (proposed : List (ℕ × NonEmptyValue)) (body : Body) : Type 0 where
    pub called : Among body (bodies_of (run next given arrivals calls).steps)
    pub not_come : has_arrived arrivals body.completion ≡ false
    pub not_proposed : count_proposed body.completion proposed ≡ 0

  -- none is to be executed of the leaves that are left; or a child's invocation id is waited for, which no body brings
  abbrev pub NoneLeft : List (ℕ × NonEmptyValue) → AwaitTree (Option NotificationId) → Type 0
  NoneLeft proposed awaited =
      ((left : AwaitTree ℕ) × IsLeft awaited left × ((body : Body) → IsToExecute proposed body → has_handle body.handle left ≡ false))
      ⊎ ((child : ℕ) × (awaited ≡ Single (Some (CompletionId child))) × ((body : Body) → Among body (bodies_of (run next given arrivals calls).steps) → body.completion ≡ child → ⊥))

  module _ (requests : List Request) (proposed : List (ℕ × NonEmptyValue)) where
    -- the run waits, and for the outcome of no body that is to be executed
    pub record WaitsForOthers : Type 0 where
      pub awaited : AwaitTree (Option NotificationId)
      pub waits : RunComesTo next given arrivals calls requests (Waits awaited)
      pub none : NoneLeft proposed awaited

    -- the run waits, and of the bodies that are to be executed this one is first among the leaves that are left: that of the least handle
    pub record ExecutesFirst (body : Body) : Type 0 where
      pub awaited : AwaitTree (Option NotificationId)
      pub waits : RunComesTo next given arrivals calls requests (Waits awaited)
      pub left : AwaitTree ℕ
      pub is_left : IsLeft awaited left
      pub to_execute : IsToExecute proposed body
      pub has : has_handle body.handle left ≡ true
      pub least : (other : Body) → IsToExecute proposed other → has_handle other.handle left ≡ true → body.handle ≤ other.handle

-- ---- what it ends as

-- what was tried before by an attempt that has written these requests: while that is none, what the start frame tells of attempts since the
-- last entry, in milliseconds
abbrev pub tried_of : (start : AttemptStart) → ShowsStart start → (written : List Request) → Tried
tried_of start shows written = inherits (are_any written) (record { count = shows.shows.retry_count; nanos = shows.shows.duration * 1000000 })

abbrev pub tried_by : (live : AttemptInRun) → ShowsStart live.start → Tried
tried_by live shows = tried_of live.start shows live.machine.written

-- the outcome is this one, by the policy, and by what was tried before
abbrev pub OutcomeIs : RunOutcome → Tried → NonEmptyValue → Type 0
OutcomeIs ran tried value = ending ran.policy tried ran.result ≡ Outcome value

-- why a body fails its attempt
pub data BodyCause : Type 0 where
  -- the version lacks this feature, which the outcome has, or the policy may ask for
  Lacks : Feature → BodyCause
  -- it has failed: it is tried again, after this delay or after one that the runtime chooses
  TriedAgain : Error → Option Duration → BodyCause
  -- it has failed: its invocation is to be paused
  Pauses : Error → BodyCause
  -- the frame of its outcome would be longer than one can be
  IsLong : NonEmptyValue → BodyCause
  LacksMemory : BodyCause

-- by how it has ended, what was tried before, and the completion by which its outcome would come
module _ (version : Version) (ran : RunOutcome) (tried : Tried) (completion : ℕ) where
  abbrev pub LacksFeature : Option Feature → Type 0
  LacksFeature feature = feature_lacked (version_number version) ran.policy ran.result ≡ feature

  abbrev pub BodyFailsWhen : BodyCause → Type 0
  BodyFailsWhen (Lacks feature) = LacksFeature (Some feature)
  BodyFailsWhen (TriedAgain error delay) = LacksFeature None × (ending ran.policy tried ran.result ≡ Retry (option_map as_nanos delay) error)
  BodyFailsWhen (Pauses error) = LacksFeature None × (ending ran.policy tried ran.result ≡ Pause error)
  BodyFailsWhen (IsLong value) = LacksFeature None × OutcomeIs ran tried value × (2 ^ 32 ≤ length (proposal_message version (proposal completion value)).payload)
  BodyFailsWhen LacksMemory = Unit {0}

module _ (version : Version) (options : VMOptions) (ran : RunOutcome) (tried : Tried) (vm : MachineState) (run : Run) where
  -- the error that it is told by; the body's own error is told about its run, and where that is of a journal which does not match, it takes the
  -- behaviour that is asked for
  abbrev pub BodyTells : BodyCause → Error → Type 0
  BodyTells (Lacks feature) told = TellsPlainError unsupported_feature (Some (feature_text (feature_name_of feature) version (first_version feature))) told
  BodyTells (TriedAgain error delay) told = told ≡ failed_with (version_number version) options.journal_mismatch_retry_behavior (about (run_told run) (with_delay delay error))
  BodyTells (Pauses error) told = told ≡ failed_with (version_number version) options.journal_mismatch_retry_behavior (about (run_told run) (pausing error))
  BodyTells (IsLong value) told = IsAbout (run_told run) (TellsPlainError internal (Some too_long_text)) told
  -- no error is made where memory is refused
  BodyTells LacksMemory told = ⊥

  -- want of memory is told as that, each other cause by its error, whose frame alone is sent
  abbrev pub BodyToldAs : BodyCause → Error → List Sent → Type 0
  BodyToldAs LacksMemory error sent = error ≡ out_of_memory
  BodyToldAs cause error sent = (told : Error) × BodyTells cause told × FailsWith told vm.active.output error × (sent ≡ Fails (told_error error) ∷ [])

-- a body is to be executed first, of which this is kept, and has no outcome that is written; what becomes of the invocation its policy alone
-- says
pub record FailsByBody (next : Handler) (live : AttemptInRun) (proposed : List (ℕ × NonEmptyValue)) (version : Version) (options : VMOptions) (ran : RunOutcome) (vm : MachineState) (error : Error) (sent : List Sent) : Type 0 where
  pub body : Body
  pub first : ExecutesFirst next live.start.given (arrivals_carried live.read) live.calls (requests_carried live.read ++ live.machine.written) proposed body
  pub run : Run
  pub kept : run_at vm.runs.table body.handle ≡ Some run
  pub completion : run.completion ≡ body.completion
  pub shows : ShowsStart live.start
  pub cause : BodyCause
  pub when : BodyFailsWhen version (by_policy ran) (tried_by live shows) run.completion cause
  pub told : BodyToldAs version options (by_policy ran) (tried_by live shows) vm run cause error sent

-- what the error of a body that fails its attempt says in this version; of its own error the code and the text
abbrev pub BodySays : Version → BodyCause → Error → Type 0
BodySays version (Lacks feature) told = (told.code.0 ≡ unsupported_feature) × (told.message ≡ feature_text (feature_name_of feature) version (first_version feature))
BodySays version (TriedAgain error delay) told = (told.code.0 ≡ error.code.0) × (told.message ≡ error.message)
BodySays version (Pauses error) told = (told.code.0 ≡ error.code.0) × (told.message ≡ error.message)
BodySays version (IsLong value) told = (told.code.0 ≡ internal) × (told.message ≡ too_long_text)
BodySays version LacksMemory told = ⊥

-- the code of the error by which a body has failed
abbrev pub IsBodyCode : RunExitResult → ℕ → Type 0
IsBodyCode (RunExitResult.RetryableFailure duration error) code = code ≡ error.code.0
IsBodyCode exit code = ⊥

-- the options do not ask for the end of an invocation whose body has failed as a journal that does not match
abbrev pub MayNotEnd : VMOptions → RunOutcome → Type 0
MayNotEnd options ran = IsBodyCode ran.result journal_mismatch → options.journal_mismatch_retry_behavior ≢ FailTerminally
