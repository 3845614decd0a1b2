-- A turn that executes the body of a run: its outcome is proposed, or it fails the attempt.
use Rattle.std.proofs.Common.{append-nil, ◌≡◌, inl, inr, ◌∙◌, ℕ, ◌≤◌, ◌^◌, ◌==◌, if◌then◌else◌, Bool, true, false, List, [], ◌∷◌, ◌++◌, map, length, Option, Some, None, option_and_then, Result, Ok, Err, IfOk, refl, sym, ap, subst}
use Rattle.std.specs.declared.alloc.AllocError.{AllocError}
use Rattle.protocol_errors.specs.Texts.{feature_text}
use Rattle.protocol_stream.specs.ErrorText.{too_long_text}
use Rattle.protocol_stream.specs.Frame.{spelled}
use Rattle.protocol_stream.specs.declared.encoder.EncodingError.{EncodingError}
use Rattle.protocol_stream.specs.declared.encoder.EncodingError.TheVariants.{PayloadTooLong, OutOfMemory}
use Rattle.protocol_types.specs.Feature.{first_version}
use Rattle.protocol_types.specs.declared.feature.Feature.{Feature}
use Rattle.body_laws.specs.Bodies.{proposing}
use Rattle.vm_attempt.proofs.Typing.{outcome_typed}
use Rattle.vm_awaits.specs.Children.{completion_in}
use Rattle.vm_awaits.specs.Views.{AsyncResults, slots_of}
use Rattle.vm_calls.specs.Active.{has_left}
use Rattle.vm_machine.specs.CallAdmission.{IsAbout}
use Rattle.vm_machine.specs.MachineFailure.{MachineFails}
use Rattle.vm_machine.specs.Causes.{TellsPlainError}
use Rattle.vm_proposals.specs.RunFailureCauses.{LacksMemoryToPropose, IsUnsupported}
use Rattle.vm_proposals.specs.ProposalEffects.{WritesProposal, UnwrittenCauses, SettlesProposal, let_go, GoesOnAs, open_run, EndsRun, tried_at_start, is_processing, ProposesIf, ProposesWhere}
use Rattle.std.specs.Duration.{as_nanos}
use Rattle.vm_refusals.specs.BodyExits.{as_ending, ending_by}
use Rattle.vm_refusals.specs.RetryDecisions.{Tried, inherits, AfterFailure, TriedAgain as TriesAgain, FailsAsTerminal, Pauses as PausesThen, after_failure, one_more}
use Rattle.vm_refusals.specs.declared.retries.RetryPolicy.{RetryPolicy}
use Rattle.protocol_records.specs.declared.start.StartMessage.{StartMessage}
use Rattle.vm_refusals.specs.declared.ending.BodyEnd.{BodyEnd}
use Rattle.vm_runs.specs.KeptBodies.{copy_of, ProposesOutcome}
use Rattle.vm_runs.specs.Runs.{body_of}
use Rattle.vm_runs.proofs.Tables.{running}
use Rattle.vm_start.specs.Failure.{failed_with}
use Rattle.vm_start.specs.Phases.{kept_error}
use Rattle.vm_types.specs.declared.options.JournalMismatchRetryBehavior.{JournalMismatchRetryBehavior}
use Rattle.vm_output_laws.specs.TurnFrames.{ProposalSends}
use Rattle.vm_attempt_laws.specs.Attempts.{RunsBody, ran_or_failed, Attempt, Turn}
use Rattle.vm_attempt_laws.specs.Bodies.{NonEmptyValue, Body, Executor, KeepsBodies, Runs, Run, run_at, run_told, with_delay, about, pausing, feature_name_of, tried_before, proposal, proposal_message, ending, feature_lacked, IsReplayed, outcome_frame, RunOutcome, retried, exit_by_policy, by_policy, RunExitResult, Outcome}
use Rattle.vm_attempt_laws.specs.AttemptInvariants.{FailsWith}
use Rattle.vm_attempt_laws.specs.Machine.phases
use Rattle.vm_attempt_laws.specs.Machine.{Active, are_any, CoreVM, Executes, IsDriven, MachineState, Phase, Sees, told_error, with_frame, Written}
use Rattle.vm_attempt_laws.specs.InputOfAttempt.{Kind, phase_kind}
use Rattle.vm_attempt_laws.specs.BodyExecution.{BodyCause, Lacks, TriedAgain, Pauses, IsLong, LacksMemory, BodyFailsWhen, BodyTells, BodyToldAs}
use Rattle.vm_attempt_laws.specs.OutputOfAttempt.{AllFit, Fails, frame_meant, Proposes, Sent, sent_stream}
use Rattle.vm_attempt_laws.specs.AttemptSimulation.{HasRead, HasBodies, kind_where, machine_failed, Serves}
use Rattle.vm_attempt_laws.specs.TurnsInRun.{MayNotEnd, OutcomeIs, tried_by, FailsForBody, RunsOne, TurnKeeps}
use Rattle.vm_attempt_laws.specs.Words.{after_turn, Error, Handler, internal, Invocation, journal_mismatch, AttemptInRun, Machine, NotificationId, unsupported_feature, Version, version_number, VMOptions}
use Rattle.vm_attempt_laws.proofs.Alone.{FailsAlone, failed_same, fails_alone, ToldBy}
use Rattle.vm_attempt_laws.proofs.Errors.{body_errors}
use Rattle.vm_attempt_laws.proofs.Executing.{WithBodies, ExecutesSo, executes_so}
use Rattle.vm_attempt_laws.proofs.Going.{OnlyTurns, serves_on}
use Rattle.vm_attempt_laws.proofs.Notes.{answers_kept, note_turn, waits_more}
use Rattle.vm_attempt_laws.proofs.Now.{Now, call_of}
use Rattle.vm_attempt_laws.proofs.InputAndOutput.{turns_send}
use Rattle.vm_attempt_laws.proofs.TurnOutput.{IsTold, is_told}
use Rattle.vm_attempt_laws.proofs.Unfailed.{body_open, CauseAsksNoEnd}
use Rattle.vm_attempt_laws.proofs.Stored.{notes_of_store}

the_error : (a b : Error) → ◌≡◌ {A = Result Error AllocError} (Ok a) (Ok b) → a ≡ b
the_error a b e = cc

-- what is known of a cause that is an error
known_of : (Causes : Error → Type 0) (cause : Result Error AllocError) (told : Error) → IfOk cause Causes → cause ≡ Ok told → Causes told
known_of Causes cause told known is = subst (λ (c : Result Error AllocError). IfOk c Causes) is known

-- calls see a machine in which other bytes wait
seen_with : (given : Invocation) (active : Active) (m : Machine) (output : Written) → output.is_closed ≡ false → Sees given active m → Sees given (record active { output = output }) m
seen_with given active m output opened s =
    record { left = s.left; replaying = s.replaying; results = s.results; state = s.state; completions = s.completions; signals = s.signals; opened = opened; children = s.children; made = s.made }

-- a frame that is no command's is written while frames can be written
frame_behind : (frame : List ℕ) (old new : Written) → old.is_closed ≡ false → new ≡ with_frame frame old → new ≡ record old { bytes = old.bytes ++ frame }
frame_behind frame old new opened is = is ∙ ap (λ (closed : Bool). if closed then old else record old { bytes = old.bytes ++ frame }) opened

-- an outcome says nothing of what becomes of the invocation
outcome_of_failure : (error : Error) (after : AfterFailure) (value : NonEmptyValue) → ending_by (retried error) after ≡ Outcome value → ending_by error after ≡ Outcome value
outcome_of_failure error (TriesAgain interval) value e = cc
outcome_of_failure error FailsAsTerminal value e = e
outcome_of_failure error PausesThen value e = cc

outcome_same : (policy : RetryPolicy) (tried : Tried) (exit : RunExitResult) (value : NonEmptyValue) → ending policy tried (exit_by_policy exit) ≡ Outcome value → ending policy tried exit ≡ Outcome value
outcome_same policy tried (RunExitResult.Success bytes) value e = e
outcome_same policy tried (RunExitResult.TerminalFailure failure) value e = e
outcome_same policy tried (RunExitResult.RetryableFailure duration error) value e = outcome_of_failure error (after_failure policy (one_more (as_nanos duration) tried)) value e

module _ {H : Type 0} (function : H → Handler) (next : Handler) (version : Version) (options : VMOptions) (is_closed : Bool) (live : AttemptInRun) (before : Attempt H)
    (proposed : List (ℕ × NonEmptyValue)) (given : RunOutcome) (b : HasBodies next live proposed before)
    (s : Serves function next version options live is_closed before) (r : HasRead function next version options live before)
    (n : Now next version options is_closed live before.vm.state) (w : WithBodies next version options is_closed live before.vm.state n proposed b.executor)
    (vm : CoreVM) (turn : Turn) (after : Attempt H) (handle : ℕ) (x : Executes live.start.given live.machine (call_of next live n.at) before.vm.state handle vm.state)
    (p : RunsBody given handle (record before { vm = vm }) turn after) where
  abbrev mid : MachineState
  mid = vm.state

  -- what is proposed says nothing of what becomes of the invocation
  abbrev ran : RunOutcome
  ran = by_policy given

  abbrev Keeps : Turn → Type 0
  Keeps some = TurnKeeps function next version options is_closed live before proposed given some after

  -- ---- the machine that has handed the body out

  waits_told : IsTold next version options is_closed live before.vm.state n x.waits x.machine
  waits_told = is_told next version options is_closed live before.vm.state n x.waits x.machine x.replies

  one : ExecutesSo next version options is_closed live before.vm.state proposed handle x.machine mid.runs
  one = executes_so next version options is_closed live before.vm.state n proposed b.executor w x.waits x.machine x.replies x.written handle mid.runs x.looks

  kind : phase_kind mid ≡ kind_where version options is_closed
  kind = ap phase_kind x.others ∙ n.kind

  of_version : mid.version ≡ version
  of_version = ap (λ (k : Kind). k.version) kind

  of_asked : mid.options.journal_mismatch_retry_behavior ≡ options.journal_mismatch_retry_behavior
  of_asked = ap (λ (k : Kind). k.options.journal_mismatch_retry_behavior) kind

  of_written : mid.active.output.version ≡ version
  of_written = x.driven.written ∙ of_version

  same_tried : tried_before mid ≡ tried_by live r.shows
  same_tried =
      ap (λ (o : Written). inherits o.has_commands (tried_at_start mid.start)) x.unwritten ∙ ap (λ (some : Bool). inherits some (tried_at_start mid.start)) r.driven.commands
      ∙ ap (λ (start : Option StartMessage). inherits (are_any live.machine.written) (tried_at_start start)) (ap (λ (m : MachineState). m.start) x.others ∙ r.start_is)

  processing : is_processing mid.phase mid.active.is_replaying ≡ true
  processing =
      ap (λ (phase : Phase). is_processing phase mid.active.is_replaying) x.driven.phase
      ∙ ap (λ (replaying : Bool). is_processing phases.Active replaying) (x.driven.sees.replaying ∙ ap has_left waits_told.left)

  -- ---- it fails

  abbrev ToldHere : BodyCause → Error → List Sent → Type 0
  ToldHere why error sent = BodyToldAs version options ran (tried_by live r.shows) before.vm.state one.run why error sent

  abbrev Alone : Result Error AllocError → Error → Type 0
  Alone cause error = FailsAlone version options.journal_mismatch_retry_behavior before.vm.state.active.output cause error after.vm.state

  alone : (cause : Result Error AllocError) (error : Error) → FailsAlone mid.version mid.options.journal_mismatch_retry_behavior mid.active.output cause error after.vm.state → Alone cause error
  alone cause error fails =
      subst (λ (o : Written). FailsAlone version options.journal_mismatch_retry_behavior o cause error after.vm.state) x.unwritten
      (subst (λ (asked : JournalMismatchRetryBehavior). FailsAlone version asked mid.active.output cause error after.vm.state) of_asked
      (subst (λ (v : Version). FailsAlone v mid.options.journal_mismatch_retry_behavior mid.active.output cause error after.vm.state) of_version fails))

  here_alone : (cause : Result Error AllocError) (error : Error) → MachineFails cause mid error after.vm.state → Alone cause error
  here_alone cause error fails = alone cause error (fails_alone cause mid error after.vm.state x.driven.phase x.driven.sees.opened x.driven.written fails)

  for_body : (error : Error) (sent : List Sent) (why : BodyCause) → BodyFailsWhen version ran (tried_by live r.shows) one.run.completion why → ToldHere why error sent
      → FailsForBody function next version options is_closed live before proposed given error sent
  for_body error sent why when told = record { body = one.body; first = one.first; run = one.run; kept = one.kept; completion = one.completion; shows = r.shows; cause = why; when = when; told = told }

  -- for this cause, of which each error tells so
  module _ (error : Error) (result : p.proposed ≡ Err error) (cause : Result Error AllocError) (fails : Alone cause error) (why : BodyCause) (when : BodyFailsWhen version ran (tried_by live r.shows) one.run.completion why)
      (tells : (told : Error) → cause ≡ Ok told → BodyTells version options ran (tried_by live r.shows) before.vm.state one.run why (failed_with (version_number version) options.journal_mismatch_retry_behavior told))
      (told_as : (told : Error) (sent : List Sent) → BodyTells version options ran (tried_by live r.shows) before.vm.state one.run why told → FailsWith told before.vm.state.active.output error → sent ≡ Fails (told_error error) ∷ [] → ToldHere why error sent) where
    opens : MayNotEnd options given → (some : Result Error AllocError) → cause ≡ some → CauseAsksNoEnd version options.journal_mismatch_retry_behavior some
    opens may (Ok told) is =
        body_open version options given (tried_by live r.shows) before.vm.state one.run may why when (failed_with (version_number version) options.journal_mismatch_retry_behavior told) (tells told is)
    opens may (Err refused) is = tt

    by_cause : (some : Result Error AllocError) → cause ≡ some → ToldBy version options.journal_mismatch_retry_behavior before.vm.state.active.output some error fails.coming
        → FailsForBody function next version options is_closed live before proposed given error fails.coming
    by_cause (Ok told) is (inl one_told) =
        for_body error fails.coming why when (told_as (failed_with (version_number version) options.journal_mismatch_retry_behavior told) fails.coming (tells told is) one_told.0 one_told.1)
    by_cause (Ok told) is (inr lacks) = for_body error fails.coming LacksMemory tt lacks
    by_cause (Err refused) is lacks = for_body error fails.coming LacksMemory tt lacks

    fails_keep : Keeps turn
    fails_keep = subst Keeps (sym (p.turn_is ∙ ap ran_or_failed result)) (record {
      sent = fails.coming;
      fit = fails.fit;
      of_store = notes_of_store version fails.coming fails.notes;
      output = waits_more version fails.coming before after (ap (λ (a : Attempt H). a.front ++ a.behind) p.others) fails.bytes;
      makes = note_turn next is_closed live (map (frame_meant version) fails.coming) fails.notes;
      proposes = fails.quiet;
      errors = body_errors next live proposed version options given before.vm.state error fails.coming (by_cause cause refl fails.told);
      unfailed = λ may. fails.unfailed (opens may cause refl);
      behind = (inr (by_cause cause refl fails.told), machine_failed fails.kept fails.phase, answers_kept fails.kept error after fails.phase fails.copies);
    })

  -- memory was refused
  lacks_alone : (error : Error) → p.proposed ≡ Err error → (cause : Result Error AllocError) → IfOk cause (λ told. ⊥) → Alone cause error → Keeps turn
  lacks_alone error result cause none fails =
      fails_keep error result cause fails LacksMemory tt (λ told is. absurd (known_of (λ some. ⊥) cause told none is)) (λ told sent never fails_with frame. absurd never)

  lacks : (error : Error) → p.proposed ≡ Err error → LacksMemoryToPropose mid error after.vm.state → Keeps turn
  lacks error result l = lacks_alone error result l.cause l.causes (here_alone l.cause error l.fails)

  abbrev LacksFeature : Option Feature → Type 0
  LacksFeature feature = feature_lacked (version_number version) ran.policy ran.result ≡ feature

  plain_same : (code : ℕ) (text : Option (List ℕ)) (told : Error) → (code == journal_mismatch) ≡ false → TellsPlainError code text told
      → TellsPlainError code text (failed_with (version_number version) options.journal_mismatch_retry_behavior told)
  plain_same code text told other t =
      subst (λ (e : Error). TellsPlainError code text e)
      (sym (failed_same version options.journal_mismatch_retry_behavior told (ap (λ (e : Error). e.code.0 == journal_mismatch) t.plain ∙ other))) t

  unsupported : (feature : Feature) (error : Error) → p.proposed ≡ Err error → LacksFeature (Some feature) → IsUnsupported feature mid error after.vm.state → Keeps turn
  unsupported feature error result lacked u =
      fails_keep error result u.cause (here_alone u.cause error u.fails) (Lacks feature) lacked
      (λ told is. plain_same unsupported_feature (Some (feature_text (feature_name_of feature) version (first_version feature))) told refl
      (subst (λ (v : Version). TellsPlainError unsupported_feature (Some (feature_text (feature_name_of feature) v (first_version feature))) told) of_version
      (known_of (TellsPlainError unsupported_feature (Some (feature_text (feature_name_of feature) mid.version (first_version feature)))) u.cause told u.causes is)))
      (λ told sent tells fails frame. (told, tells, fails, frame))

  -- a frame that is not written leaves what was written
  unwritten_alone : (value : NonEmptyValue) (error : Error) (output : Written) (cause : Result Error AllocError) → output ≡ mid.active.output
      → MachineFails cause (record (let_go handle value mid) { active = record mid.active { output = output } }) error after.vm.state → Alone cause error
  unwritten_alone value error output cause same fails =
      alone cause error (fails_alone cause (let_go handle value mid) error after.vm.state x.driven.phase x.driven.sees.opened x.driven.written
      (subst (λ (o : Written). MachineFails cause (record (let_go handle value mid) { active = record mid.active { output = o } }) error after.vm.state) same fails))

  -- the outcome's frame is not written
  unwritten : (value : NonEmptyValue) (error : Error) → p.proposed ≡ Err error → LacksFeature None → OutcomeIs ran (tried_by live r.shows) value → (written : Result (Unit {0}) EncodingError) (output : Written)
      → WritesProposal (proposal one.run.completion value) mid.active.output written output
      → SettlesProposal (run_told one.run) written (record (let_go handle value mid) { active = record mid.active { output = output } }) (Err error) after.vm.state → Keeps turn
  unwritten value error result lacked outcome (Ok done) output writes settles = absurd settles
  unwritten value error result lacked outcome (Err PayloadTooLong) output writes settles =
      fails_keep error result settles.cause (unwritten_alone value error output settles.cause writes.2 settles.fails) (IsLong value)
      (lacked, outcome, subst (λ (v : Version). 2 ^ 32 ≤ length (proposal_message v (proposal one.run.completion value)).payload) of_written writes.1)
      (λ told is. about_same told (known_of (IsAbout (run_told one.run) (TellsPlainError internal (Some too_long_text))) settles.cause told settles.causes is))
      (λ told sent tells fails frame. (told, tells, fails, frame))
    where
      about_same : (told : Error) → IsAbout (run_told one.run) (TellsPlainError internal (Some too_long_text)) told
          → IsAbout (run_told one.run) (TellsPlainError internal (Some too_long_text)) (failed_with (version_number version) options.journal_mismatch_retry_behavior told)
      about_same told t =
          subst (λ (e : Error). IsAbout (run_told one.run) (TellsPlainError internal (Some too_long_text)) e)
          (sym (failed_same version options.journal_mismatch_retry_behavior told
          (ap (λ (e : Error). e.code.0 == journal_mismatch) t.about ∙ ap (λ (e : Error). e.code.0 == journal_mismatch) t.causes.plain))) t
  unwritten value error result lacked outcome (Err OutOfMemory) output writes settles =
      lacks_alone error result settles.cause (no_error settles.cause settles.causes) (unwritten_alone value error output settles.cause writes settles.fails)
    where
      no_error : (cause : Result Error AllocError) → UnwrittenCauses (run_told one.run) OutOfMemory cause → IfOk cause (λ told. ⊥)
      no_error (Ok told) none = none
      no_error (Err refused) none = tt

  -- ---- its outcome is proposed

  module _ (value : NonEmptyValue) (done written : Unit {0}) (result : p.proposed ≡ Ok done) (outcome : OutcomeIs ran (tried_by live r.shows) value) (output : Written)
      (bodies : ProposesOutcome handle (copy_of (version_number mid.version) value) (run_at mid.runs.table handle) mid.runs (let_go handle value mid).runs)
      (writes : WritesProposal (proposal one.run.completion value) mid.active.output (Ok written) output)
      (is : after.vm.state ≡ record (let_go handle value mid) { active = record mid.active { output = output } }) where
    abbrev sent : List Sent
    sent = Proposes one.body.completion value ∷ []

    sends : ProposalSends one.body.completion value mid.active.output output
    sends =
        turns_send.proposals one.body.completion value written mid.active.output output x.driven.sees.opened one.short
        (outcome_typed ran.policy (tried_by live r.shows) ran.result value p.typed outcome)
        (subst (λ (c : ℕ). WritesProposal (proposal c value) mid.active.output (Ok written) output) one.completion writes)

    output_is : output ≡ record mid.active.output { bytes = mid.active.output.bytes ++ spelled (proposal_message mid.active.output.version (proposal one.run.completion value)) }
    output_is = frame_behind (spelled (proposal_message mid.active.output.version (proposal one.run.completion value))) mid.active.output output x.driven.sees.opened writes.1

    driven : IsDriven live.start.given x.machine after.vm.state
    driven = subst (λ (m : MachineState). IsDriven live.start.given x.machine m) (sym is) (record {
      sees = seen_with live.start.given mid.active x.machine output (ap (λ (o : Written). o.is_closed) output_is ∙ x.driven.sees.opened) x.driven.sees;
      phase = x.driven.phase;
      version = record { version = x.driven.version.version; cancellation = x.driven.version.cancellation };
      written = ap (λ (o : Written). o.version) output_is ∙ x.driven.written;
      commands = ap (λ (o : Written). o.has_commands) output_is ∙ x.driven.commands;
      id = x.driven.id;
      reads = x.driven.reads;
    })

    machine_is : after.vm.state ≡ record before.vm.state { active = record mid.active { output = output }; runs = (let_go handle value mid).runs }
    machine_is = is ∙ ap (λ (m : MachineState). record m { active = record mid.active { output = output }; runs = (let_go handle value mid).runs }) x.others

    only : OnlyTurns before after
    only = record {
      handler = ap (λ (a : Attempt H). a.handler) p.others;
      over = ap (λ (a : Attempt H). a.over) p.others;
      input = ap (λ (a : Attempt H). a.input) p.others;
      machine = machine_is ∙ ap (λ (m : MachineState). record before.vm.state { active = m.active; runs = m.runs }) (sym machine_is);
    }

    serves : Serves function next version options (after_turn live (map (frame_meant version) sent) live.calls x.machine) is_closed after
    serves =
        serves_on function next version options is_closed live before after s r only (map (frame_meant version) sent) live.calls x.machine driven waits_told.numbers
        (ap (λ (a : Attempt H). a.answers) p.others ∙ r.answers)

    abbrev now : Executor
    now = proposing live.start.given.version one.out one.body value

    same_body : body_of handle (running one.run) ≡ one.body
    same_body = λ i. record { handle = sym one.handle_is i; completion = one.completion i }

    keeps_now : KeepsBodies after.vm.state.runs now
    keeps_now =
        subst (λ (runs : Runs). KeepsBodies runs now) (sym (ap (λ (m : MachineState). m.runs) is))
        (subst (λ (some : Body). KeepsBodies (let_go handle value mid).runs (proposing live.start.given.version one.out some value)) same_body
        (subst (λ (found : Option Run). ProposesOutcome handle (copy_of (version_number mid.version) value) found mid.runs (let_go handle value mid).runs) one.found bodies
        live.start.given.version one.out value (ap (λ (v : ℕ). copy_of v value) (ap version_number of_version ∙ sym n.of_version)) one.keeps))

    bodies_now : HasBodies next (after_turn live (map (frame_meant version) sent) live.calls x.machine) (proposed ++ (one.body.completion, value) ∷ []) after
    bodies_now = record {
      executor = now;
      lives = subst (λ (v : ℕ). IsReplayed next (after_turn live (outcome_frame v one.body.completion value ∷ []) live.calls x.machine)
          (proposed ++ (one.body.completion, value) ∷ []) now) n.of_version (one.lives value);
      keeps = keeps_now;
      behind = inr waits_told.left;
    }

    bytes : after.vm.state.active.output.bytes ≡ before.vm.state.active.output.bytes ++ sent_stream version sent
    bytes =
        ap (λ (m : MachineState). m.active.output.bytes) is ∙ sends.written.bytes ∙ ap (λ (v : Version). mid.active.output.bytes ++ sent_stream v sent) of_written
        ∙ ap (λ (o : Written). o.bytes ++ sent_stream version sent) x.unwritten

    ran_one : RunsOne function next version options is_closed live before proposed given sent after
    ran_one = record {
      body = one.body;
      first = one.first;
      value = value;
      journal = r.journal;
      shows = r.shows;
      outcome = outcome_same ran.policy (tried_by live r.shows) given.result value outcome;
      sends = refl;
      machine = x.machine;
      goes_on = record { bodies = bodies_now; serves = serves; written = x.written ∙ sym (append-nil live.machine.written) };
      input = only.input;
    }

    proposes : Keeps turn
    proposes = subst Keeps (sym (p.turn_is ∙ ap ran_or_failed result)) (record {
      sent = sent;
      fit = subst (λ (v : Version). AllFit v sent) of_written sends.fit;
      of_store = (tt, tt);
      output = waits_more version sent before after (ap (λ (a : Attempt H). a.front ++ a.behind) p.others) bytes;
      makes = note_turn next is_closed live (map (frame_meant version) sent) (tt, tt);
      proposes = tt;
      errors = (tt, tt);
      unfailed = λ may. (tt, tt);
      behind = ran_one;
    })

  -- ---- the body has ended

  module _ (lacked : LacksFeature None) where
    abbrev End : BodyEnd → Type 0
    End end = as_ending end ≡ ending ran.policy (tried_before mid) ran.result

    -- by what was tried before this turn
    ends_so : (end : BodyEnd) → End end → ending ran.policy (tried_by live r.shows) ran.result ≡ as_ending end
    ends_so end is = sym (is ∙ ap (λ (tried : Tried). ending ran.policy tried ran.result) same_tried)

    ended_well : (done : Unit {0}) → p.proposed ≡ Ok done → (end : BodyEnd) → End end → GoesOnAs handle one.run.completion (run_told one.run) end mid (Ok done) after.vm.state → Keeps turn
    ended_well done result (BodyEnd.Outcome value) is goes = of_written_so goes.written goes.output goes.bodies goes.writes goes.settles
      where
        of_written_so : (written : Result (Unit {0}) EncodingError) (output : Written)
            → ProposesOutcome handle (copy_of (version_number mid.version) value) (run_at mid.runs.table handle) mid.runs (let_go handle value mid).runs
            → WritesProposal (proposal one.run.completion value) mid.active.output written output
            → SettlesProposal (run_told one.run) written (record (let_go handle value mid) { active = record mid.active { output = output } }) (Ok done) after.vm.state → Keeps turn
        of_written_so (Ok written) output bodies writes settles = proposes value done written result (ends_so (BodyEnd.Outcome value) is) output bodies writes settles
        of_written_so (Err error) output bodies writes settles = absurd settles
    ended_well done result (BodyEnd.Retry error delay) is goes = absurd goes
    ended_well done result (BodyEnd.Pause error) is goes = absurd goes

    ended_badly : (error : Error) → p.proposed ≡ Err error → (end : BodyEnd) → End end → GoesOnAs handle one.run.completion (run_told one.run) end mid (Err error) after.vm.state → Keeps turn
    ended_badly error result (BodyEnd.Outcome value) is (inl l) = unwritten value error result lacked (ends_so (BodyEnd.Outcome value) is) l.written l.output l.writes l.settles
    ended_badly error result (BodyEnd.Outcome value) is (inr l) = lacks error result l
    ended_badly error result (BodyEnd.Retry own delay) is fails =
        fails_keep error result (Ok (about (run_told one.run) (with_delay delay own))) (here_alone (Ok (about (run_told one.run) (with_delay delay own))) error fails) (TriedAgain own delay)
        (lacked, ends_so (BodyEnd.Retry own delay) is)
        (λ told same. ap (failed_with (version_number version) options.journal_mismatch_retry_behavior) (sym (the_error (about (run_told one.run) (with_delay delay own)) told same)))
        (λ told sent tells fails_so frame. (told, tells, fails_so, frame))
    ended_badly error result (BodyEnd.Pause own) is fails =
        fails_keep error result (Ok (about (run_told one.run) (pausing own))) (here_alone (Ok (about (run_told one.run) (pausing own))) error fails) (Pauses own)
        (lacked, ends_so (BodyEnd.Pause own) is)
        (λ told same. ap (failed_with (version_number version) options.journal_mismatch_retry_behavior) (sym (the_error (about (run_told one.run) (pausing own)) told same)))
        (λ told sent tells fails_so frame. (told, tells, fails_so, frame))

    of_run : (result : Result (Unit {0}) Error) → p.proposed ≡ result → EndsRun handle (Some (running one.run)) ran.result ran.policy mid result after.vm.state → Keeps turn
    of_run (Ok done) is e = ended_well done is e.end e.ends e.goes_on
    of_run (Err error) is (inl (inl e)) = ended_badly error is e.end e.ends e.goes_on
    of_run (Err error) is (inl (inr l)) = lacks error is l.1
    of_run (Err error) is (inr l) = lacks error is l

  -- the run is open: what is awaited of it was not taken
  is_open : open_run (slots_of mid.active.results) mid.runs.table handle ≡ Some (running one.run)
  is_open =
      ap (λ (results : AsyncResults). open_run results.slots mid.runs.table handle) x.driven.sees.results
      ∙ ap (λ (slot : Option NotificationId). option_and_then (λ completion. run_at mid.runs.table handle) (completion_in slot)) one.stands
      ∙ one.found

  lacks_of : (feature : Option Feature) → feature_lacked (version_number mid.version) ran.policy ran.result ≡ feature → LacksFeature feature
  lacks_of feature is = ap (λ (v : Version). feature_lacked (version_number v) ran.policy ran.result) (sym of_version) ∙ is

  by_lacked : (lacked : Option Feature) → feature_lacked (version_number mid.version) ran.policy ran.result ≡ lacked → (result : Result (Unit {0}) Error) → p.proposed ≡ result
      → ProposesWhere None lacked handle ran.result ran.policy mid result after.vm.state → Keeps turn
  by_lacked (Some feature) is (Ok done) result goes = absurd goes
  by_lacked (Some feature) is (Err error) result goes = unsupported feature error result (lacks_of (Some feature) is) goes
  by_lacked None is result same goes =
      of_run (lacks_of None is) result same
      (subst (λ (found : Option Run). EndsRun handle found ran.result ran.policy mid result after.vm.state) is_open
      (subst (λ (processing : Bool). ProposesIf processing handle ran.result ran.policy mid result after.vm.state) processing goes))

  pub ran_body : Keeps turn
  ran_body =
      by_lacked (feature_lacked (version_number mid.version) ran.policy ran.result) refl p.proposed refl
      (subst (λ (kept : Option Error). ProposesWhere kept (feature_lacked (version_number mid.version) ran.policy ran.result) handle ran.result ran.policy mid p.proposed after.vm.state)
      (ap kept_error x.driven.phase) p.proposes)
