-- No error that an attempt tells ends its invocation, unless its body has failed as a journal that does not match, and the options ask for that.
use Rattle.std.proofs.Common.{◌≡◌, ◌≢◌, ◌⊎◌, inl, inr, ◌∙◌, ℕ, ◌==◌, ◌&&◌, if◌then◌else◌, eqb-true, eq-eqb, Bool, true, false, true≢false, List, map, Option, Result, Ok, Err, IfOk, refl, sym, ap, subst}
use Rattle.std.specs.Duration.{as_nanos}
use Rattle.std.specs.List.{AllByRecursion}
use Rattle.std.specs.declared.alloc.AllocError.{AllocError}
use Rattle.attempt_model.specs.Machine.{Mismatch, UncompletedInReplay, EndInReplay, KeysNotText, ChildNotId, Refused}
use Rattle.attempt_model.specs.Requests.{Commands}
use Rattle.journal_model.specs.Event.{Retry as Retries}
use Rattle.journal_model.specs.Notification.{Bytes}
use Rattle.protocol_errors.specs.Error.{plain_error}
use Rattle.protocol_errors.specs.declared.error.ErrorBehavior.{ErrorBehavior}
use Rattle.protocol_types.specs.Feature.{has_feature, lacks_feature}
use Rattle.protocol_types.specs.declared.feature.Feature.TheVariants as features
use Rattle.store_frames.specs.FrameMeanings.{error_frame}
use Rattle.store_frames.specs.Requests.{behavior_numbered}
use Rattle.vm_awaits.specs.Views.{slots_of}
use Rattle.vm_outcomes.specs.Causes.{TellsEither, CauseTells}
use Rattle.vm_refusals.specs.Refusals.{refusal_code}
use Rattle.vm_refusals.specs.BodyExits.{Ending, ending_by}
use Rattle.vm_refusals.specs.RetryDecisions.{AfterFailure, after_failure, FailsAsTerminal, one_more, Pauses as PausesThen, Tried, TriedAgain as TriesAgain}
use Rattle.vm_refusals.specs.declared.refusal.CallRefusal.{CallRefusal}
use Rattle.vm_refusals.specs.declared.retries.RetryPolicy.{RetryPolicy}
use Rattle.vm_start.specs.Failure.{asked_behavior, behavior_number, failed_with}
use Rattle.vm_types.specs.declared.options.JournalMismatchRetryBehavior.{JournalMismatchRetryBehavior}
use Rattle.vm_types.specs.declared.options.JournalMismatchRetryBehavior.TheVariants.{FailTerminally}
use Rattle.vm_attempt_laws.specs.AttemptInvariants.{IsNoFailure, TellsBy}
use Rattle.vm_attempt_laws.specs.Bodies.{about, by_policy, ending, exit_by_policy, Pause, pausing, Outcome, retried, Retry, Run, run_told, RunExitResult, RunOutcome, with_delay}
use Rattle.vm_attempt_laws.specs.BodyExecution.{BodyCause, BodyFailsWhen, BodyTells, IsLong, Lacks, LacksMemory, MayNotEnd, Pauses, TriedAgain}
use Rattle.vm_attempt_laws.specs.Machine.{Cause, ByFault, MachineState, NoMemory, NoNumber, NoReplay, out_of_memory, TellsError, TellsFailureCause, told_error, TooDeep, TooLong, Written}
use Rattle.vm_attempt_laws.specs.OutputOfAttempt.{Sent, frame_meant}
use Rattle.vm_attempt_laws.specs.TurnsInRun.{IsBodyCode, IsOwnCause}
use Rattle.vm_attempt_laws.specs.Words.{Call, Error, Frame, Handler, internal, journal_mismatch, AttemptInRun, arrivals_carried, unsupported_feature, Version, version_number, VMOptions}

-- ---- an error that asks for no end

abbrev pub AsksNoEnd : Error → Type 0
AsksNoEnd error = error.behavior ≢ ErrorBehavior.Fail

behaves_open : (lacks : Bool) (behavior : ErrorBehavior) (code : ℕ) (message : Bytes) (delay : Option ℕ) → behavior ≢ ErrorBehavior.Fail
    → IsNoFailure (Frame.Error code message (if lacks then Retries else behavior_numbered (behavior_number behavior)) delay)
behaves_open true behavior code message delay unended = tt
behaves_open false ErrorBehavior.Retry code message delay unended = tt
behaves_open false ErrorBehavior.Pause code message delay unended = tt
behaves_open false ErrorBehavior.Fail code message delay unended = absurd (unended refl)

frame_open : (version : ℕ) (error : Error) → AsksNoEnd error → IsNoFailure (error_frame version (told_error error))
frame_open version error unended = behaves_open (lacks_feature version features.ErrorBehavior) error.behavior error.code.0 error.message _ unended

-- what is sent of it
pub sent_open : (version : Version) (told : Error) (coming : List Sent) → AsksNoEnd told → TellsBy told coming → AllByRecursion IsNoFailure (map (frame_meant version) coming)
sent_open version told coming unended (inl one) =
    subst (λ (some : List Sent). AllByRecursion IsNoFailure (map (frame_meant version) some)) (sym one) (frame_open (version_number version) told unended, tt)
sent_open version told coming unended (inr none) = subst (λ (some : List Sent). AllByRecursion IsNoFailure (map (frame_meant version) some)) (sym none.1) tt

plain_open : (error : Error) (code : ℕ) (text : Bytes) → error ≡ plain_error code text → AsksNoEnd error
plain_open error code text same fails = clash (sym (ap (λ (e : Error). e.behavior) same) ∙ fails)
  where
    clash : ErrorBehavior.Retry ≡ ErrorBehavior.Fail → ⊥
    clash e = cc

-- the behaviour that is asked for a journal that does not match is taken by an error of that alone
pub failed_open : (version : ℕ) (asked : JournalMismatchRetryBehavior) (error : Error) → AsksNoEnd error → (error.code.0 ≡ journal_mismatch → asked ≢ FailTerminally) → AsksNoEnd (failed_with version asked error)
failed_open version asked error unended unless = by_test (error.code.0 == journal_mismatch) refl (has_feature version features.ErrorBehavior)
  where
    asked_open : (some : JournalMismatchRetryBehavior) → some ≢ FailTerminally → asked_behavior some ≢ ErrorBehavior.Fail
    asked_open JournalMismatchRetryBehavior.Pause other e = cc
    asked_open JournalMismatchRetryBehavior.FailTerminally other e = other refl
    asked_open JournalMismatchRetryBehavior.FollowRetryPolicy other e = cc

    by_test : (b : Bool) → (error.code.0 == journal_mismatch) ≡ b → (f : Bool) → AsksNoEnd (if b && f then record error { behavior = asked_behavior asked } else error)
    by_test true e true = asked_open asked (unless (eqb-true error.code.0 journal_mismatch e))
    by_test true e false = unended
    by_test false e f = unended

-- what came up asks for no end, as the machine takes it
abbrev pub CauseAsksNoEnd : Version → JournalMismatchRetryBehavior → Result Error AllocError → Type 0
CauseAsksNoEnd version asked cause = IfOk cause (λ error. AsksNoEnd (failed_with (version_number version) asked error))

-- so what the machine fails with asks for none
pub told_open : (version : Version) (asked : JournalMismatchRetryBehavior) (cause : Result Error AllocError) (old : Written) (told : Error) (new : Written) → CauseAsksNoEnd version asked cause
    → TellsFailureCause version asked cause old told new → AsksNoEnd told
told_open version asked (Ok error) old told new unended tells = go tells
  where
    go : TellsError (failed_with (version_number version) asked error) old told new → AsksNoEnd told
    go (inl same) = subst AsksNoEnd (sym same.0) unended
    go (inr (inl long)) = plain_open told internal told.message long.1
    go (inr (inr lacks)) = plain_open told internal out_of_memory.message lacks.0
told_open version asked (Err refused) old told new unended tells = plain_open told internal out_of_memory.message tells.0

-- ---- of a call

pub refused_code : (refused : CallRefusal) → (refusal_code refused ≡ internal) ⊎ (refusal_code refused ≡ unsupported_feature)
refused_code CallRefusal.EmptyIdempotencyKey = inl refl
refused_code CallRefusal.EmptyScope = inl refl
refused_code CallRefusal.EmptyLimitKey = inl refl
refused_code CallRefusal.UnsupportedScope = inr refl
refused_code CallRefusal.UnsupportedLimitKey = inr refl
refused_code CallRefusal.UnsupportedFailureMetadata = inr refl
refused_code CallRefusal.UnsupportedAtLeast = inr refl
refused_code CallRefusal.AwaitTooDeep = inr refl
refused_code CallRefusal.OutOfBoundsDuration = inl refl

own_open : (version : ℕ) (asked : JournalMismatchRetryBehavior) (error : Error) → AsksNoEnd error → (error.code.0 ≡ internal) ⊎ (error.code.0 ≡ unsupported_feature) → AsksNoEnd (failed_with version asked error)
own_open version asked error unended code = failed_open version asked error unended (λ mismatch. absurd (no_mismatch code mismatch))
  where
    tested : (error.code.0 ≡ internal) ⊎ (error.code.0 ≡ unsupported_feature) → (error.code.0 == journal_mismatch) ≡ false
    tested (inl is) = ap (λ (n : ℕ). n == journal_mismatch) is
    tested (inr is) = ap (λ (n : ℕ). n == journal_mismatch) is

    no_mismatch : (error.code.0 ≡ internal) ⊎ (error.code.0 ≡ unsupported_feature) → error.code.0 ≡ journal_mismatch → ⊥
    no_mismatch is mismatch = true≢false (sym (eq-eqb error.code.0 journal_mismatch mismatch) ∙ tested is)

module _ (version : Version) (asked : JournalMismatchRetryBehavior) (new : MachineState) (error : Error) where
  either_open : (text : Option Bytes) → TellsEither new.active.journal internal text error → AsksNoEnd (failed_with (version_number version) asked error)
  either_open text (inl plain) =
      own_open (version_number version) asked error (plain_open error internal error.message plain.plain) (inl (ap (λ (e : Error). e.code.0) plain.plain))
  either_open text (inr last) =
      own_open (version_number version) asked error (λ fails. clash (sym (ap (λ (e : Error). e.behavior) last.about) ∙ fails)) (inl (ap (λ (e : Error). e.code.0) last.about))
    where
      clash : ErrorBehavior.Retry ≡ ErrorBehavior.Fail → ⊥
      clash e = cc

  plain_own : (code : ℕ) (text : Bytes) → (code ≡ internal) ⊎ (code ≡ unsupported_feature) → error ≡ plain_error code text → AsksNoEnd (failed_with (version_number version) asked error)
  plain_own code text is plain =
      own_open (version_number version) asked error (plain_open error code text plain)
      (elim is [ inl same ↦ inl (ap (λ (e : Error). e.code.0) plain ∙ same) | inr same ↦ inr (ap (λ (e : Error). e.code.0) plain ∙ same) ])

  -- each cause that is the call's own
  pub cause_open : (next : Handler) (live : AttemptInRun) (call : Call) (old : MachineState) (left : Commands) (invocation : Bytes) (cause : Cause)
      → IsOwnCause next live.start.given (arrivals_carried live.read) live.calls cause → CauseTells version invocation left new.active.journal (slots_of new.active.results) old.runs call cause error
      → AsksNoEnd (failed_with (version_number version) asked error)
  cause_open next live call old left invocation (ByFault (Refused refusal)) own told = plain_own (refusal_code told.0) error.message (refused_code told.0) told.1.1.plain
  cause_open next live call old left invocation (ByFault Mismatch) own told = absurd own
  cause_open next live call old left invocation (ByFault UncompletedInReplay) own told = absurd own
  cause_open next live call old left invocation (ByFault EndInReplay) own told = absurd own
  cause_open next live call old left invocation (ByFault KeysNotText) own told = absurd own
  cause_open next live call old left invocation (ByFault ChildNotId) own told = absurd own
  cause_open next live call old left invocation NoNumber own told = either_open _ told
  cause_open next live call old left invocation TooLong own told = either_open _ told
  cause_open next live call old left invocation TooDeep own told = plain_own unsupported_feature _ (inr refl) told
  cause_open next live call old left invocation NoReplay own told = absurd own
  cause_open next live call old left invocation NoMemory own told = absurd told

-- ---- of a body

-- the error with which a body ends without an outcome is its own, and says nothing of what becomes of the invocation
pub record EndsOpen (exit : RunExitResult) (own : Error) : Type 0 where
  pub code : IsBodyCode exit own.code.0
  pub behavior : own.behavior ≡ ErrorBehavior.Retry

-- it is the error of an ending without an outcome
abbrev IsErrorOf : Error → Ending → Type 0
IsErrorOf own (Outcome value) = ⊥
IsErrorOf own (Retry delay error) = own ≡ error
IsErrorOf own (Pause error) = own ≡ error

of_failure : (error own : Error) (after : AfterFailure) → IsErrorOf own (ending_by error after) → own ≡ error
of_failure error own (TriesAgain interval) has = has
of_failure error own FailsAsTerminal has = absurd has
of_failure error own PausesThen has = has

ends_open : (policy : RetryPolicy) (before : Tried) (exit : RunExitResult) (own : Error) → IsErrorOf own (ending policy before (exit_by_policy exit)) → EndsOpen exit own
ends_open policy before (RunExitResult.Success bytes) own has = absurd has
ends_open policy before (RunExitResult.TerminalFailure failure) own has = absurd has
ends_open policy before (RunExitResult.RetryableFailure duration error) own has =
    let same : own ≡ retried error = of_failure (retried error) own (after_failure policy (one_more (as_nanos duration) before)) has in
    record { code = ap (λ (e : Error). e.code.0) same; behavior = ap (λ (e : Error). e.behavior) same }

module _ (version : Version) (options : VMOptions) (ran : RunOutcome) (before : Tried) (vm : MachineState) (run : Run) (may : MayNotEnd options ran) where
  of_body : (own : Error) → EndsOpen ran.result own → own.code.0 ≡ journal_mismatch → options.journal_mismatch_retry_behavior ≢ FailTerminally
  of_body own ends mismatch = may (subst (IsBodyCode ran.result) mismatch ends.code)

  -- each cause for which a body fails its attempt
  pub body_open : (why : BodyCause) → BodyFailsWhen version (by_policy ran) before run.completion why → (told : Error) → BodyTells version options (by_policy ran) before vm run why told → AsksNoEnd told
  body_open (Lacks feature) when told tells = plain_open told unsupported_feature told.message tells.plain
  body_open (TriedAgain own delay) when told tells =
      let ends : EndsOpen ran.result own = ends_open ran.policy before ran.result own (subst (IsErrorOf own) (sym when.1) refl) in
      subst AsksNoEnd (sym tells)
      (failed_open (version_number version) options.journal_mismatch_retry_behavior (about (run_told run) (with_delay delay own)) (λ fails. retried_not (sym ends.behavior ∙ fails)) (of_body own ends))
    where
      retried_not : ErrorBehavior.Retry ≡ ErrorBehavior.Fail → ⊥
      retried_not e = cc
  body_open (Pauses own) when told tells =
      let ends : EndsOpen ran.result own = ends_open ran.policy before ran.result own (subst (IsErrorOf own) (sym when.1) refl) in
      subst AsksNoEnd (sym tells)
      (failed_open (version_number version) options.journal_mismatch_retry_behavior (about (run_told run) (pausing own)) paused_not (of_body own ends))
    where
      paused_not : ErrorBehavior.Pause ≡ ErrorBehavior.Fail → ⊥
      paused_not e = cc
  body_open (IsLong value) when told tells = λ fails. clash (sym (ap (λ (e : Error). e.behavior) tells.about ∙ ap (λ (e : Error). e.behavior) tells.causes.plain) ∙ fails)
    where
      clash : ErrorBehavior.Retry ≡ ErrorBehavior.Fail → ⊥
      clash e = cc
  body_open LacksMemory when told tells = absurd tells
