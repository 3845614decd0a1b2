-- A call fails: for which cause, and what is told of it.
use Rattle.std.proofs.Common.{Bool, ◌≡◌, ◌⊎◌, inl, inr, ◌∙◌, ℕ, ◌==◌, false, List, [], ◌∷◌, ◌++◌, map, Option, Some, Result, Ok, Err, IfOk, sym, ap, subst}
use Rattle.std.specs.List.{AllByRecursion}
use Rattle.std.specs.declared.alloc.AllocError.{AllocError}
use Rattle.journal_model.specs.AwaitTree.{Single}
use Rattle.journal_model.specs.Notification.{Bytes}
use Rattle.journal_model.specs.declared.notification.NotificationId.TheVariants.{CompletionId}
use Rattle.attempt_model.specs.Machine.{FailedBy, Fault, Mismatch, UncompletedInReplay, EndInReplay, KeysNotText, ChildNotId, Refused}
use Rattle.vm_awaits.specs.Views.{slots_of}
use Rattle.vm_outcomes.specs.Causes.{TellsEither, CauseTells}
use Rattle.vm_outcomes.proofs.Midway.{stops_midway}
use Rattle.vm_progress.specs.UncompletedAwaits.{started_id}
use Rattle.vm_refusals.specs.Refusals.{refusal_code}
use Rattle.vm_types.specs.declared.options.JournalMismatchRetryBehavior.{JournalMismatchRetryBehavior}
use Rattle.vm_types.specs.declared.options.JournalReplay.{JournalReplay}
use Rattle.vm_types.specs.declared.options.JournalReplay.TheVariants.{Enabled, Disabled}
use Rattle.vm_waiting.specs.WaitsFor.{waits_as}
use Rattle.vm_waiting.specs.declared.waits_for.WaitsFor.{WaitsFor}
use Rattle.vm_waiting.specs.declared.waits_for.WaitsFor.TheVariants.{Future, Child}
use Rattle.vm_request_laws.proofs.RequestBounds.{all_append}
use Rattle.vm_attempt_laws.proofs.InputAndOutput.{turns_send}
use Rattle.vm_attempt_laws.proofs.Quiet.{commands_open, commands_quiet}
use Rattle.vm_attempt_laws.proofs.Notes.{TellsNotes, note_turn, cause_tells, fails_with}
use Rattle.vm_attempt_laws.specs.Bodies.{outcomes_in}
use Rattle.vm_attempt_laws.specs.Machine.phases
use Rattle.vm_attempt_laws.specs.AttemptInvariants.{FailsWith, IsNoFailure, TellsBy}
use Rattle.vm_attempt_laws.specs.Machine.{IsCopy, writes_frames, MachineState, Written, TellsFailureCause, out_of_memory, told_error, Fails, Cause, ByFault, NoNumber, TooLong, TooDeep, NoReplay, NoMemory, HasPut, requests_passed_on, FailsWhen}
use Rattle.vm_attempt_laws.specs.InputOfAttempt.{Kind}
use Rattle.vm_attempt_laws.specs.OutputOfAttempt.{Sent, Asks, Fails as SentFails, sent_stream, AllFit, frame_meant, IsOfStore}
use Rattle.vm_attempt_laws.specs.Words.{internal, unsupported_feature, journal_mismatch, Error, Version, Answer, Call, Frame, answers_of, Request, Handler, arrivals_carried, requests_carried, IsNote, AttemptInRun, Machine, VMOptions, Refusal, Commands, RepliesAsRun}
use Rattle.vm_attempt_laws.specs.TurnsInRun.{IsTurnOf, RunWaitsFor, IsOwnCause, IsToldAs, FailsBy}
use Rattle.vm_attempt_laws.proofs.Now.{Now, compares, call_of, reply_at}
use Rattle.vm_attempt_laws.proofs.Midway.{PassesOn, passes_on, no_front, none_written}
use Rattle.vm_attempt_laws.proofs.Stored.{notes_of_store}
use Rattle.vm_attempt_laws.proofs.Unfailed.{CauseAsksNoEnd, cause_open, refused_code, sent_open, told_open}
use Rattle.vm_attempt_laws.proofs.TurnOutput.{passed_of_store, of_output, opened, passed_may, passed_fit, passed_recorded}

-- what a failing turn has told, and why
pub record FailsSo (next : Handler) (version : Version) (is_closed : Bool) (live : AttemptInRun) (answers : List Answer) (vm new : MachineState) (error : Error) : Type 0 where
  pub coming : List Sent
  pub fit : AllFit version coming
  pub of_store : AllByRecursion IsOfStore coming
  pub bytes : new.active.output.bytes ≡ vm.active.output.bytes ++ sent_stream version coming
  pub makes : IsTurnOf next is_closed live (map (frame_meant version) coming)
  pub quiet : outcomes_in (map (frame_meant version) coming) ≡ []
  pub unfailed : AllByRecursion IsNoFailure (map (frame_meant version) coming)
  pub kept : Error
  pub phase : new.phase ≡ phases.Failed kept
  pub copies : IsCopy kept error
  pub by : FailsBy next version live (next live.start.given.input answers) vm new error coming

-- ---- what its own causes tell

pub either_code : (new : MachineState) (text : Option Bytes) (told : Error) → TellsEither new.active.journal internal text told → told.code.0 ≡ internal
either_code new text told (inl plain) = ap (λ (e : Error). e.code.0) plain.plain
either_code new text told (inr last) = ap (λ (e : Error). e.code.0) last.about

pub either_text : (new : MachineState) (text : Bytes) (told : Error) → TellsEither new.active.journal internal (Some text) told → told.message ≡ text
either_text new text told (inl plain) = plain.message
either_text new text told (inr last) = last.message

no_mismatch : (code : ℕ) → (code ≡ internal) ⊎ (code ≡ unsupported_feature) → (code == journal_mismatch) ≡ false
no_mismatch code (inl is) = ap (λ (n : ℕ). n == journal_mismatch) is
no_mismatch code (inr is) = ap (λ (n : ℕ). n == journal_mismatch) is

-- the machine fails with what tells such a cause, or for want of memory, behind requests of the call that were written by then
module _ (next : Handler) (version : Version) (asked : JournalMismatchRetryBehavior) (live : AttemptInRun) (call : Call) (old new : MachineState) (left : Commands) (invocation : Bytes) (error kept : Error)
    (more : List Request) (between : Written) (notes : List Sent) (tells : TellsFailureCause version asked (Ok error) (writes_frames more old.active.output) kept between) (sends : TellsBy kept notes) where
  abbrev Told : Cause → Type 0
  Told cause = IsToldAs version live call old new more cause kept (map Asks more ++ notes) ⊎ (kept ≡ out_of_memory)

  abbrev CauseTold : Cause → Type 0
  CauseTold cause = CauseTells version invocation left new.active.journal (slots_of new.active.results) old.runs call cause error

  abbrev TellsFrame : Type 0
  TellsFrame = FailsWith error old.active.output kept × (map Asks more ++ notes ≡ map Asks more ++ SentFails (told_error kept) ∷ [])

  with_code : (error.code.0 ≡ internal) ⊎ (error.code.0 ≡ unsupported_feature) → TellsFrame ⊎ (kept ≡ out_of_memory)
  with_code is = go (fails_with version asked error (writes_frames more old.active.output) kept between (no_mismatch error.code.0 is) tells) sends
    where
      go : FailsWith error (writes_frames more old.active.output) kept ⊎ (kept ≡ out_of_memory) → TellsBy kept notes → TellsFrame ⊎ (kept ≡ out_of_memory)
      go (inr lacks) told = inr lacks
      go (inl fails) (inr none) = inr none.0
      go (inl fails) (inl frame) = inl (fails, ap (λ (some : List Sent). map Asks more ++ some) frame)

  refusal_told : (refusal : Refusal) → CauseTold (ByFault (Refused refusal)) → Told (ByFault (Refused refusal))
  refusal_told refusal told =
      let code : error.code.0 ≡ refusal_code told.0 = ap (λ (e : Error). e.code.0) told.1.1.plain in
      elim (with_code (elim (refused_code told.0) [ inl is ↦ inl (code ∙ is) | inr is ↦ inr (code ∙ is) ])) [
        | inl fails ↦ inl (error, told, fails.0, fails.1)
        | inr lacks ↦ inr lacks
      ]

  number_told : CauseTold NoNumber → Told NoNumber
  number_told told = elim (with_code (inl (either_code new _ error told))) [
    | inl fails ↦ inl (error, told, fails.0, fails.1)
    | inr lacks ↦ inr lacks
  ]

  length_told : CauseTold TooLong → Told TooLong
  length_told told = elim (with_code (inl (either_code new _ error told))) [
    | inl fails ↦ inl (error, told, fails.0, fails.1)
    | inr lacks ↦ inr lacks
  ]

  depth_told : CauseTold TooDeep → Told TooDeep
  depth_told told = elim (with_code (inr (ap (λ (e : Error). e.code.0) told))) [
    | inl fails ↦ inl (error, told, fails.0, fails.1)
    | inr lacks ↦ inr lacks
  ]

  pub told_as : (cause : Cause) → IsOwnCause next live.start.given (arrivals_carried live.read) live.calls cause → CauseTold cause → Told cause
  told_as (ByFault (Refused refusal)) own told = refusal_told refusal told
  told_as (ByFault Mismatch) own told = absurd own
  told_as (ByFault UncompletedInReplay) own told = absurd own
  told_as (ByFault EndInReplay) own told = absurd own
  told_as (ByFault KeysNotText) own told = absurd own
  told_as (ByFault ChildNotId) own told = absurd own
  told_as NoNumber own told = number_told told
  told_as TooLong own told = length_told told
  told_as TooDeep own told = depth_told told
  told_as NoReplay own told = absurd own
  told_as NoMemory own told = absurd told

-- ---- such a cause

never_replayed : (replay : JournalReplay) → replay ≡ Enabled → replay ≡ Disabled → ⊥
never_replayed replay on off = cc

module _ (next : Handler) (version : Version) (options : VMOptions) (is_closed : Bool) (live : AttemptInRun) (vm : MachineState) (n : Now next version options is_closed live vm)
    (replays : options.journal_replay ≡ Enabled) where
  own_fault : (fault : Fault) → RepliesAsRun next live.start.given (requests_carried live.read) (arrivals_carried live.read) live.calls (FailedBy fault)
      → IsOwnCause next live.start.given (arrivals_carried live.read) live.calls (ByFault fault)
  own_fault Mismatch as_run = as_run
  own_fault UncompletedInReplay as_run = as_run
  own_fault EndInReplay as_run = as_run
  own_fault KeysNotText as_run = as_run
  own_fault ChildNotId as_run = as_run
  own_fault (Refused refusal) as_run = as_run

  own_wait : (waits : WaitsFor) (whole : Machine) → RepliesAsRun next live.start.given (requests_carried live.read) (arrivals_carried live.read) live.calls (waits_as waits whole)
      → RunWaitsFor next live.start.given (arrivals_carried live.read) live.calls
  own_wait (Future left) whole waits = (waits.ids, waits.waits)
  own_wait (Child child) whole waits = (Single (Some (CompletionId child)), waits.waits)

  own : (far : HasPut live.start.given live.machine (call_of next live n.at) vm) (cause : Cause) → FailsWhen live.start.given live.machine (call_of next live n.at) vm far cause
      → IsOwnCause next live.start.given (arrivals_carried live.read) live.calls cause
  own far (ByFault fault) when =
      own_fault fault (subst (RepliesAsRun next live.start.given (requests_carried live.read) (arrivals_carried live.read) live.calls) when n.as_run)
  own far NoNumber when = tt
  own far TooLong when = tt
  own far TooDeep when =
      own_wait when.0.waits when.0.machine
      (subst (RepliesAsRun next live.start.given (requests_carried live.read) (arrivals_carried live.read) live.calls) when.0.replies n.as_run)
  own far NoReplay when = never_replayed options.journal_replay replays (sym (ap (λ (k : Kind). k.options.journal_replay) n.kind) ∙ when.1)
  own far NoMemory when = tt

  module _ (error : Error) (new : MachineState) (far : HasPut live.start.given live.machine (call_of next live n.at) vm) (notes : List Sent) where
    abbrev By : Type 0
    By = FailsBy next version live (call_of next live n.at) vm new error (map Asks far.more ++ notes)

    for_memory : error ≡ out_of_memory → By
    for_memory lacks = record { far = far; cause = NoMemory; own = tt; when = tt; told = lacks }

    by_told : (cause : Cause) → FailsWhen live.start.given live.machine (call_of next live n.at) vm far cause → (invocation : Bytes) (told : Result Error AllocError)
        → IfOk told (λ e. CauseTells vm.version invocation far.put.left new.active.journal (slots_of new.active.results) vm.runs (call_of next live n.at) cause e)
        → (kept : Error) (between : Written) → TellsFailureCause vm.version vm.options.journal_mismatch_retry_behavior told (writes_frames far.more vm.active.output) kept between → TellsBy kept notes → error ≡ kept → By
    by_told cause when invocation (Err refused) told kept between tells sends same = for_memory (same ∙ tells.0)
    by_told cause when invocation (Ok e) told kept between tells sends same =
        elim (told_as next vm.version vm.options.journal_mismatch_retry_behavior live (call_of next live n.at) vm new far.put.left invocation e kept far.more between notes tells sends cause (own far cause when) told) [
          | inl is_told ↦ record {
            far = far;
            cause = cause;
            own = own far cause when;
            when = when;
            told = subst (λ (some : Error). IsToldAs version live (call_of next live n.at) vm new far.more cause some (map Asks far.more ++ notes)) (sym same)
                (subst (λ (v : Version). IsToldAs v live (call_of next live n.at) vm new far.more cause kept (map Asks far.more ++ notes)) (ap (λ (k : Kind). k.version) n.kind) is_told);
          }
          | inr lacks ↦ for_memory (same ∙ lacks)
        ]

  by_cause : (error : Error) (new : MachineState) (f : Fails live.start.given live.machine (call_of next live n.at) vm error new) (notes : List Sent) → TellsBy f.fails.told notes
      → FailsBy next version live (call_of next live n.at) vm new error (map Asks f.far.more ++ notes)
  by_cause error new f notes sends = elim f.fails.answers [
    | inl same ↦ by_told error new f.far notes f.has_cause.cause f.has_cause.when _ f.told f.has_cause.tells f.fails.told f.fails.before f.fails.tells sends same
    | inr lacks ↦ for_memory error new f.far notes lacks
  ]

  -- ---- what it has written by then

  module _ (far : HasPut live.start.given live.machine (call_of next live n.at) vm) where
    -- the run goes on with the others
    passed_follow : (notes : List Frame) → AllByRecursion IsNote notes → IsTurnOf next is_closed live (map Frame.Command far.more ++ notes)
    passed_follow notes all = by_reply (passes_on (compares vm) live.start.given live.machine (call_of next live n.at))
      where
        by_reply : PassesOn (reply_at next live vm n.at) (requests_passed_on live.start.given live.machine (call_of next live n.at))
            → IsTurnOf next is_closed live (map Frame.Command far.more ++ notes)
        by_reply (inl none) =
            subst (λ (more : List Request). IsTurnOf next is_closed live (map Frame.Command more ++ notes))
            (sym (none_written live.start.given live.machine (call_of next live n.at) vm far (no_front far.front far.behind (sym far.parts ∙ none)))) (note_turn next is_closed live notes all)
        by_reply (inr (inl mismatch)) = absurd (subst (RepliesAsRun next live.start.given (requests_carried live.read) (arrivals_carried live.read) live.calls) mismatch n.as_run)
        by_reply (inr (inr answers)) =
            n.makes.stops far.put far.more notes (stops_midway live.start.given live.machine (call_of next live n.at) vm far Answer.Cancelled answers.0 answers.1) far.written all

    all_of_store : (notes : List Sent) → AllByRecursion IsNote (map (frame_meant version) notes) → AllByRecursion IsOfStore (map Asks far.more ++ notes)
    all_of_store notes all = all_append IsOfStore (map Asks far.more) notes (passed_of_store far.more (passed_may next version options is_closed live vm n far)) (notes_of_store version notes all)

  pub fails_so : (answers : List Answer) → answers ≡ answers_of n.at.stands.steps → (error : Error) (new : MachineState)
      → Fails live.start.given live.machine (call_of next live n.at) vm error new
      → FailsSo next version is_closed live answers vm new error
  fails_so answers same error new f =
      let of_version = of_output next version options is_closed live vm n in
      let notes : AllByRecursion IsNote (map (frame_meant version) told.coming) = subst (λ (v : Version). AllByRecursion IsNote (map (frame_meant v) told.coming)) of_version told.notes in
      let stop = turns_send.stops f.far.more told.coming vm.active.output f.fails.before (passed_fit next version options is_closed live vm n f.far) (passed_recorded next version options is_closed live vm n f.far) told.fit told.written in
      record {
        coming = map Asks f.far.more ++ told.coming;
        fit = subst (λ (v : Version). AllFit v (map Asks f.far.more ++ told.coming)) of_version stop.fit;
        of_store = all_of_store f.far told.coming notes;
        bytes = ap (λ (o : Written). o.bytes) f.fails.output ∙ stop.written.bytes
            ∙ ap (λ (v : Version). vm.active.output.bytes ++ sent_stream v (map Asks f.far.more ++ told.coming)) of_version;
        makes = subst (λ (frames : List Frame). IsTurnOf next is_closed live frames) (sym (meant of_version stop.meant)) (passed_follow f.far (map (frame_meant version) told.coming) notes);
        quiet = ap outcomes_in (meant of_version stop.meant) ∙ commands_quiet f.far.more (map (frame_meant version) told.coming)
            ∙ subst (λ (v : Version). outcomes_in (map (frame_meant v) told.coming) ≡ []) of_version told.quiet;
        unfailed = subst (AllByRecursion IsNoFailure) (sym (meant of_version stop.meant))
            (commands_open f.far.more (map (frame_meant version) told.coming)
            (sent_open version f.fails.told told.coming
            (told_open vm.version vm.options.journal_mismatch_retry_behavior f.told (writes_frames f.far.more vm.active.output) f.fails.told f.fails.before (causes f.told f.has_cause.tells) f.fails.tells)
            told.tells));
        kept = f.fails.told;
        phase = f.fails.phase_is;
        copies = f.fails.answers;
        by = subst (λ (call : Call). FailsBy next version live call vm new error (map Asks f.far.more ++ told.coming)) (sym (ap (λ (some : List Answer). next live.start.given.input some) same))
            (by_cause error new f told.coming told.tells);
      }
    where
      causes : (cause : Result Error AllocError)
          → IfOk cause (λ e. CauseTells vm.version (started_id vm.start) f.far.put.left new.active.journal (slots_of new.active.results) vm.runs (call_of next live n.at) f.has_cause.cause e)
          → CauseAsksNoEnd vm.version vm.options.journal_mismatch_retry_behavior cause
      causes (Ok e) tells =
          cause_open vm.version vm.options.journal_mismatch_retry_behavior new e next live (call_of next live n.at) vm f.far.put.left (started_id vm.start) f.has_cause.cause
          (own f.far f.has_cause.cause f.has_cause.when) tells
      causes (Err refused) tells = tt

      told : TellsNotes f.fails.told (writes_frames f.far.more vm.active.output) f.fails.before
      told =
          cause_tells vm.version vm.options.journal_mismatch_retry_behavior f.told (writes_frames f.far.more vm.active.output) f.fails.told f.fails.before (opened next version options is_closed live vm n)
          f.fails.tells

      meant : vm.active.output.version ≡ version → map (frame_meant vm.active.output.version) (map Asks f.far.more ++ told.coming) ≡ map Frame.Command f.far.more ++ map (frame_meant vm.active.output.version) told.coming
          → map (frame_meant version) (map Asks f.far.more ++ told.coming) ≡ map Frame.Command f.far.more ++ map (frame_meant version) told.coming
      meant of_version is = subst (λ (v : Version). map (frame_meant v) (map Asks f.far.more ++ told.coming) ≡ map Frame.Command f.far.more ++ map (frame_meant v) told.coming) of_version is
