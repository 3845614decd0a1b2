-- A turn that fails tells an internal error, or what is not supported, or what the body says that it has executed.
use Rattle.std.proofs.Common.{◌≡◌, ◌⊎◌, inl, inr, ◌∙◌, ℕ, ◌==◌, ◌&&◌, if◌then◌else◌, Bool, true, false, List, refl, sym, ap, subst}
use Rattle.std.specs.Duration.{as_nanos}
use Rattle.protocol_types.specs.Feature.{has_feature}
use Rattle.protocol_types.specs.declared.feature.Feature.TheVariants as features
use Rattle.attempt_model.specs.Machine.{Mismatch, UncompletedInReplay, EndInReplay, KeysNotText, ChildNotId, Refused}
use Rattle.vm_refusals.specs.Refusals.{refusal_code}
use Rattle.vm_refusals.specs.declared.retries.RetryPolicy.{RetryPolicy}
use Rattle.vm_refusals.specs.BodyExits.{Ending, ending_by}
use Rattle.vm_refusals.specs.RetryDecisions.{AfterFailure, after_failure, FailsAsTerminal, one_more, Pauses as PausesThen, Tried, TriedAgain as TriesAgain}
use Rattle.vm_start.specs.Failure.{asked_behavior, failed_with}
use Rattle.vm_types.specs.declared.options.JournalMismatchRetryBehavior.{JournalMismatchRetryBehavior}
use Rattle.vm_attempt_laws.specs.Attempts.{Turn}
use Rattle.vm_attempt_laws.specs.Bodies.{about, ending, NonEmptyValue, Outcome, Pause, pausing, Retry, Run, run_told, RunExitResult, RunOutcome, exit_by_policy, by_policy, with_delay}
use Rattle.vm_attempt_laws.specs.AttemptInvariants.{FailsWith}
use Rattle.vm_attempt_laws.specs.Machine.{MachineState, Written, Cause, ByFault, NoNumber, TooLong, TooDeep, NoReplay, NoMemory}
use Rattle.vm_attempt_laws.specs.BodyExecution.{BodyCause, BodyFailsWhen, BodySays, BodyTells, BodyToldAs, IsLong, Lacks, LacksMemory, Pauses, TriedAgain}
use Rattle.vm_attempt_laws.specs.OutputOfAttempt.{Sent}
use Rattle.vm_attempt_laws.specs.Words.{internal, unsupported_feature, journal_mismatch, Error, Version, version_number, Call, Request, Handler, arrivals_carried, AttemptInRun, VMOptions}
use Rattle.vm_attempt_laws.specs.TurnsInRun.{FailsByBody, tried_by, IsBodyCode, IsOwnCause, IsToldAs, FailsBy, TurnServes, TurnsMatch}
use Rattle.vm_attempt_laws.proofs.Failing.{either_code}
use Rattle.vm_attempt_laws.proofs.Unfailed.{refused_code}

-- the behaviour that is asked for changes no code
failed_code : (version : Version) (asked : JournalMismatchRetryBehavior) (error : Error) → (failed_with (version_number version) asked error).code.0 ≡ error.code.0
failed_code version asked error = by_test ((error.code.0 == journal_mismatch) && has_feature (version_number version) features.ErrorBehavior)
  where
    by_test : (b : Bool) → (if b then record error { behavior = asked_behavior asked } else error).code.0 ≡ error.code.0
    by_test true = refl
    by_test false = refl

failed_text : (version : Version) (asked : JournalMismatchRetryBehavior) (error : Error) → (failed_with (version_number version) asked error).message ≡ error.message
failed_text version asked error = by_test ((error.code.0 == journal_mismatch) && has_feature (version_number version) features.ErrorBehavior)
  where
    by_test : (b : Bool) → (if b then record error { behavior = asked_behavior asked } else error).message ≡ error.message
    by_test true = refl
    by_test false = refl

-- the code and the text of what a body that fails its attempt is told as
pub body_says : (version : Version) (options : VMOptions) (ran : RunOutcome) (tried : Tried) (vm : MachineState) (run : Run) (cause : BodyCause) (told : Error) → BodyTells version options ran tried vm run cause told
    → BodySays version cause told
body_says version options ran tried vm run (Lacks feature) told tells = (ap (λ (e : Error). e.code.0) tells.plain, tells.message)
body_says version options ran tried vm run (TriedAgain error delay) told tells = (
  ap (λ (e : Error). e.code.0) tells ∙ failed_code version options.journal_mismatch_retry_behavior (about (run_told run) (with_delay delay error)),
  ap (λ (e : Error). e.message) tells ∙ failed_text version options.journal_mismatch_retry_behavior (about (run_told run) (with_delay delay error)),
)
body_says version options ran tried vm run (Pauses error) told tells = (
  ap (λ (e : Error). e.code.0) tells ∙ failed_code version options.journal_mismatch_retry_behavior (about (run_told run) (pausing error)),
  ap (λ (e : Error). e.message) tells ∙ failed_text version options.journal_mismatch_retry_behavior (about (run_told run) (pausing error)),
)
body_says version options ran tried vm run (IsLong value) told tells = (
  ap (λ (e : Error). e.code.0) tells.about ∙ ap (λ (e : Error). e.code.0) tells.causes.plain,
  ap (λ (e : Error). e.message) tells.about ∙ tells.causes.message,
)
body_says version options ran tried vm run LacksMemory told tells = absurd tells

-- the error of a body that has ended without an outcome is its own
abbrev HasError : Error → Ending → Type 0
HasError own (Outcome value) = ⊥
HasError own (Retry delay error) = own ≡ error
HasError own (Pause error) = own ≡ error

of_failure : (error own : Error) (after : AfterFailure) → HasError own (ending_by error after) → own ≡ error
of_failure error own (TriesAgain interval) has = has
of_failure error own FailsAsTerminal has = absurd has
of_failure error own PausesThen has = has

ended_code : (policy : RetryPolicy) (before : Tried) (exit : RunExitResult) (own : Error) → HasError own (ending policy before exit) → IsBodyCode exit own.code.0
ended_code policy before (RunExitResult.Success bytes) own has = absurd has
ended_code policy before (RunExitResult.TerminalFailure failure) own has = absurd has
ended_code policy before (RunExitResult.RetryableFailure duration error) own has =
    ap (λ (e : Error). e.code.0) (of_failure error own (after_failure policy (one_more (as_nanos duration) before)) has)

abbrev pub IsOwnCode : Error → Type 0
IsOwnCode error = (error.code.0 ≡ internal) ⊎ (error.code.0 ≡ unsupported_feature)

-- an error that stands for one of these is one, also where that is too long
as_told : (told : Error) (old : Written) (error : Error) → IsOwnCode told → FailsWith told old error → IsOwnCode error
as_told told old error own (inr long) = inl (ap (λ (e : Error). e.code.0) long.1)
as_told told old error (inl is) (inl same) = inl (ap (λ (e : Error). e.code.0) same ∙ is)
as_told told old error (inr is) (inl same) = inr (ap (λ (e : Error). e.code.0) same ∙ is)

as_internal : (told : Error) (old : Written) (error : Error) → told.code.0 ≡ internal → FailsWith told old error → error.code.0 ≡ internal
as_internal told old error is (inr long) = ap (λ (e : Error). e.code.0) long.1
as_internal told old error is (inl same) = ap (λ (e : Error). e.code.0) same ∙ is

-- only a call that is refused, and what is nested too deep, are told as what is not supported
abbrev pub IsCodeOf : Cause → Error → Type 0
IsCodeOf (ByFault fault) error = IsOwnCode error
IsCodeOf TooDeep error = IsOwnCode error
IsCodeOf cause error = error.code.0 ≡ internal

any_code : (cause : Cause) (error : Error) → IsCodeOf cause error → IsOwnCode error
any_code (ByFault fault) error is = is
any_code TooDeep error is = is
any_code NoNumber error is = inl is
any_code TooLong error is = inl is
any_code NoReplay error is = inl is
any_code NoMemory error is = inl is

module _ (next : Handler) (version : Version) (live : AttemptInRun) (call : Call) (old new : MachineState) (more : List Request) (error : Error) (sent : List Sent) where
  by_cause : (cause : Cause) → IsOwnCause next live.start.given (arrivals_carried live.read) live.calls cause → IsToldAs version live call old new more cause error sent → IsCodeOf cause error
  by_cause (ByFault (Refused refusal)) own tells =
      let code : tells.0.code.0 ≡ refusal_code tells.1.0 = ap (λ (e : Error). e.code.0) tells.1.1.1.plain in
      as_told tells.0 old.active.output error (elim (refused_code tells.1.0) [ inl is ↦ inl (code ∙ is) | inr is ↦ inr (code ∙ is) ]) tells.2
  by_cause (ByFault Mismatch) own tells = absurd own
  by_cause (ByFault UncompletedInReplay) own tells = absurd own
  by_cause (ByFault EndInReplay) own tells = absurd own
  by_cause (ByFault KeysNotText) own tells = absurd own
  by_cause (ByFault ChildNotId) own tells = absurd own
  by_cause NoNumber own tells = as_internal tells.0 old.active.output error (either_code new _ tells.0 tells.1) tells.2
  by_cause TooLong own tells = as_internal tells.0 old.active.output error (either_code new _ tells.0 tells.1) tells.2
  by_cause TooDeep own tells = as_told tells.0 old.active.output error (inr (ap (λ (e : Error). e.code.0) tells.1)) tells.2
  by_cause NoReplay own tells = absurd own
  by_cause NoMemory own tells = ap (λ (e : Error). e.code.0) tells

-- what a cause that is the call's own is told as
pub code_of_cause : (next : Handler) (version : Version) (live : AttemptInRun) (call : Call) (old new : MachineState) (error : Error) (sent : List Sent) (by : FailsBy next version live call old new error sent) → IsCodeOf by.cause error
code_of_cause next version live call old new error sent by = by_cause next version live call old new by.far.more error sent by.cause by.own by.told

pub own_code : (next : Handler) (version : Version) (live : AttemptInRun) (call : Call) (old new : MachineState) (error : Error) (sent : List Sent) → FailsBy next version live call old new error sent → IsOwnCode error
own_code next version live call old new error sent by = any_code by.cause error (code_of_cause next version live call old new error sent by)

-- what becomes of the invocation changes no code
policy_code : (exit : RunExitResult) (code : ℕ) → IsBodyCode (exit_by_policy exit) code → IsBodyCode exit code
policy_code (RunExitResult.Success bytes) code is = is
policy_code (RunExitResult.TerminalFailure failure) code is = is
policy_code (RunExitResult.RetryableFailure duration error) code is = is

-- what a body that fails its attempt may tell
abbrev pub IsCode : RunOutcome → ℕ → Type 0
IsCode ran code = (code ≡ internal) ⊎ ((code ≡ unsupported_feature) ⊎ IsBodyCode ran.result code)

-- a body that fails its attempt tells its own code, what is not supported, or an internal error
pub body_code : (next : Handler) (live : AttemptInRun) (proposed : List (ℕ × NonEmptyValue)) (version : Version) (options : VMOptions) (ran : RunOutcome) (vm : MachineState) (error : Error) (sent : List Sent)
    → FailsByBody next live proposed version options ran vm error sent → IsCode ran error.code.0
body_code next live proposed version options ran vm error sent by = by_why by.cause by.when by.told
  where
    by_told : (told : Error) → IsCode ran told.code.0 → FailsWith told vm.active.output error → IsCode ran error.code.0
    by_told told own (inl same) = subst (λ (e : Error). IsCode ran e.code.0) (sym same) own
    by_told told own (inr long) = inl (ap (λ (e : Error). e.code.0) long.1)

    of_body : (own told : Error) → told.code.0 ≡ own.code.0 → HasError own (ending ran.policy (tried_by live by.shows) (by_policy ran).result) → IsBodyCode ran.result told.code.0
    of_body own told same has =
        subst (λ (code : ℕ). IsBodyCode ran.result code) (sym same)
        (policy_code ran.result own.code.0 (ended_code ran.policy (tried_by live by.shows) (by_policy ran).result own has))

    by_why : (why : BodyCause) → BodyFailsWhen version (by_policy ran) (tried_by live by.shows) by.run.completion why
        → BodyToldAs version options (by_policy ran) (tried_by live by.shows) vm by.run why error sent → IsCode ran error.code.0
    by_why (Lacks feature) when told = by_told told.0 (inr (inl (ap (λ (e : Error). e.code.0) told.1.plain))) told.2
    by_why (TriedAgain own delay) when told =
        by_told told.0 (inr (inr (of_body own told.0 (ap (λ (e : Error). e.code.0) told.1 ∙ failed_code version options.journal_mismatch_retry_behavior (about (run_told by.run) (with_delay delay own)))
        (subst (HasError own) (sym when.1) refl)))) told.2
    by_why (Pauses own) when told =
        by_told told.0 (inr (inr (of_body own told.0 (ap (λ (e : Error). e.code.0) told.1 ∙ failed_code version options.journal_mismatch_retry_behavior (about (run_told by.run) (pausing own)))
        (subst (HasError own) (sym when.1) refl)))) told.2
    by_why (IsLong value) when told = by_told told.0 (inl (ap (λ (e : Error). e.code.0) told.1.about ∙ ap (λ (e : Error). e.code.0) told.1.causes.plain)) told.2
    by_why LacksMemory when told = inl (ap (λ (e : Error). e.code.0) told)

pub turns_match : {H : Type 0} (function : H → Handler) (next : Handler) (version : Version) (options : VMOptions) → TurnServes function next version options → TurnsMatch function next version options
turns_match function next version options keeps is_closed live before proposed ran error after queued b s turns =
    elim (keeps is_closed live before proposed ran (Turn.Failed error) after queued b s turns).behind.0 [
      | inl by ↦ elim (own_code next version live _ before.vm.state after.vm.state error _ by) [ inl is ↦ inl is | inr is ↦ inr (inl is) ]
      | inr by ↦ body_code next live proposed version options ran before.vm.state error _ by
    ]
