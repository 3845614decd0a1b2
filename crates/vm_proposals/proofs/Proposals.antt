-- The end of a body comes to what its policy says.
use Rattle.std.proofs.Common.{◌≡◌, ◌≤◌, ◌^◌, ◌↔◌, inl, inr, ℕ, Bool, true, false, length, Option, Some, Result, Ok, Err, OnOk, OnErr, refl, sym, ap, ap₂, subst, ◌∙◌}
use Rattle.std.proofs.lemmas.Bool.{cases_lt}
use Rattle.journal_model.specs.declared.value.NonEmptyValue.{NonEmptyValue}
use Rattle.protocol_controls.specs.declared.propose_run_completion.ProposeRunCompletionMessage.{ProposeRunCompletionMessage}
use Rattle.protocol_controls.specs.declared.propose_run_completion.ProposeRunCompletionResult.{ProposeRunCompletionResult}
use Rattle.protocol_errors.specs.declared.metadata.CommandMetadata.{CommandMetadata}
use Rattle.protocol_errors.specs.declared.error.Error.{Error}
use Rattle.protocol_messages.specs.ProposedValues.{proposed_record}
use Rattle.protocol_stream.specs.Frame.{spelled}
use Rattle.protocol_stream.specs.declared.encoder.EncodingError.{EncodingError}
use Rattle.protocol_stream.specs.declared.encoder.EncodingError.TheVariants.{PayloadTooLong, OutOfMemory}
use Rattle.protocol_types.specs.Version.{version_number}
use Rattle.vm_context.specs.Output.{Written, with_frame}
use Rattle.vm_machine.specs.declared.machine_state.MachineState.{MachineState}
use Rattle.vm_refusals.specs.declared.retries.RetryPolicy.{RetryPolicy}
use Rattle.vm_refusals.specs.declared.runs.RunExitResult.{RunExitResult}
use Rattle.vm_refusals.specs.BodyExits.{as_ending, ending, makes_failure}
use Rattle.vm_refusals.specs.RetryDecisions.{Tried, inherits}
use Rattle.vm_refusals.specs.declared.ending.BodyEnd.{BodyEnd}
use Rattle.vm_runs.specs.KeptBodies.{copy_of, ProposesOutcome}
use Rattle.vm_runs.specs.Runs.{Runs, after_proposal, run_at}
use Rattle.vm_runs.specs.declared.run.Run.{Run}
use Rattle.vm_proposals.specs.RunFailureCauses.{LacksMemoryToPropose, run_told}
use Rattle.vm_proposals.specs.ProposalEffects.{tried_at_start, tried_before, proposal, proposal_message, WritesProposal, SettlesProposal, LetsGo, ProposesValue, GoesOnAs, EndsAs, EndsKnown, EndsRun}

-- ---- the frame

writes_of : (one : ProposeRunCompletionMessage) (result : Result (Unit {0}) EncodingError) (old new : Written) → OnOk result (new ≡ with_frame (spelled (proposal_message old.version one)) old) → OnErr result (new ≡ old)
    → ((result ≡ Err PayloadTooLong) ↔ ((old.is_closed ≡ false) × (2 ^ 32 ≤ length (proposal_message old.version one).payload))) → WritesProposal one old result new
writes_of one (Ok done) old new sent kept long = (
  λ opened. elim (cases_lt (length (proposal_message old.version one).payload) (2 ^ 32)) [
    | inl lt ↦ lt
    | inr ge ↦ let wrong = long.1 (opened, ge) in cc
  ],
  sent,
)
writes_of one (Err PayloadTooLong) old new sent kept long = let told = long.0 refl in (told.0, told.1, kept)
writes_of one (Err OutOfMemory) old new sent kept long = kept

abbrev holding : ℕ → ProposeRunCompletionResult → ProposeRunCompletionMessage
holding completion recorded = record { result_completion_id = completion; result = Some recorded }

pub writes_proposal : (completion : ℕ) (value : NonEmptyValue) (recorded : ProposeRunCompletionResult) (result : Result (Unit {0}) EncodingError) (old new : Written) → recorded ≡ proposed_record value
    → OnOk result (new ≡ with_frame (spelled (proposal_message old.version (record { result_completion_id = completion; result = Some recorded }))) old) → OnErr result (new ≡ old)
    → ((result ≡ Err PayloadTooLong) ↔ ((old.is_closed ≡ false) × (2 ^ 32 ≤ length (proposal_message old.version (record { result_completion_id = completion; result = Some recorded })).payload)))
    → WritesProposal (proposal completion value) old result new
writes_proposal completion value recorded result old new is sent kept long =
    subst (λ (one : ProposeRunCompletionMessage). WritesProposal one old result new) (ap (holding completion) is) (writes_of (holding completion recorded) result old new sent kept long)

-- ---- an outcome

module _ (handle completion : ℕ) (command : CommandMetadata) (value : NonEmptyValue) (old : MachineState) (runs : Runs) where
  lets_go : (written : Result (Unit {0}) EncodingError) (output : Written) (result : Result (Unit {0}) Error) (new : MachineState)
      → runs ≡ after_proposal handle (copy_of (version_number old.version) value) old.runs → ProposesOutcome handle (copy_of (version_number old.version) value) (run_at old.runs.table handle) old.runs runs
      → WritesProposal (proposal completion value) old.active.output written output
      → SettlesProposal command written (record old { runs = runs; active = record old.active { output = output } }) result new → LetsGo handle completion command value old result new
  lets_go written output result new is bodies writes settles = record {
    bodies = subst (λ (after : Runs). ProposesOutcome handle (copy_of (version_number old.version) value) (run_at old.runs.table handle) old.runs after) is bodies;
    written = written;
    output = output;
    writes = writes;
    settles = subst (λ (after : Runs). SettlesProposal command written (record old { runs = after; active = record old.active { output = output } }) result new) is settles;
  }

  proposes_by : (result : Result (Unit {0}) Error) (new : MachineState) → LetsGo handle completion command value old result new → ProposesValue handle completion command value old result new
  proposes_by (Ok done) new is = is
  proposes_by (Err told) new is = inl is

  pub proposes_value : (written : Result (Unit {0}) EncodingError) (output : Written) (result : Result (Unit {0}) Error) (new : MachineState)
      → runs ≡ after_proposal handle (copy_of (version_number old.version) value) old.runs → ProposesOutcome handle (copy_of (version_number old.version) value) (run_at old.runs.table handle) old.runs runs
      → WritesProposal (proposal completion value) old.active.output written output
      → SettlesProposal command written (record old { runs = runs; active = record old.active { output = output } }) result new → ProposesValue handle completion command value old result new
  proposes_value written output result new is bodies writes settles = proposes_by result new (lets_go written output result new is bodies writes settles)

-- ---- the end of a body

module _ (handle completion : ℕ) (command : CommandMetadata) (exit : RunExitResult) (policy : RetryPolicy) (old : MachineState) where
  ends_by : (result : Result (Unit {0}) Error) (new : MachineState) → EndsAs handle completion command exit policy old result new → EndsKnown handle completion command exit policy old result new
  ends_by (Ok done) new is = is
  ends_by (Err told) new is = inl is

  pub ends_known : (before : Tried) (end : BodyEnd) (result : Result (Unit {0}) Error) (new : MachineState) → before ≡ tried_before old → as_ending end ≡ ending policy before exit
      → GoesOnAs handle completion command end old result new → EndsKnown handle completion command exit policy old result new
  ends_known before end result new is ends goes_on = ends_by result new (record {
    end = end;
    ends = ends ∙ ap (λ (tried : Tried). ending policy tried exit) is;
    goes_on = goes_on;
  })

  pub ends_lacking : (before : Tried) (told : Error) (new : MachineState) → before ≡ tried_before old → makes_failure policy before exit ≡ true → LacksMemoryToPropose old told new
      → EndsKnown handle completion command exit policy old (Err told) new
  ends_lacking before told new is makes lacks = inr (sym (ap (λ (tried : Tried). makes_failure policy tried exit) is) ∙ makes, lacks)

-- what was tried before this attempt
pub tried_is : (vm : MachineState) (has_commands : Bool) (started before : Tried) → has_commands ≡ vm.active.output.has_commands → started ≡ tried_at_start vm.start → before ≡ inherits has_commands started
    → before ≡ tried_before vm
tried_is vm has_commands started before has starts is = is ∙ ap₂ inherits has starts

-- ---- the run

module _ (handle : ℕ) (exit : RunExitResult) (policy : RetryPolicy) (old : MachineState) (run : Run) where
  known_by : (result : Result (Unit {0}) Error) (new : MachineState) → EndsKnown handle run.completion (run_told run) exit policy old result new → EndsRun handle (Some run) exit policy old result new
  known_by (Ok done) new is = is
  known_by (Err told) new is = inl is

  pub run_ends : (found : Option Run) (command : CommandMetadata) (result : Result (Unit {0}) Error) (new : MachineState) → Some run ≡ found → command ≡ run_told run
      → EndsKnown handle run.completion command exit policy old result new → EndsRun handle found exit policy old result new
  run_ends found command result new is told ends =
      subst (λ (found : Option Run). EndsRun handle found exit policy old result new) is
      (known_by result new (subst (λ (command : CommandMetadata). EndsKnown handle run.completion command exit policy old result new) told ends))

  pub run_lacks : (found : Option Run) (told : Error) (new : MachineState) → Some run ≡ found → LacksMemoryToPropose old told new → EndsRun handle found exit policy old (Err told) new
  run_lacks found told new is lacks = subst (λ (found : Option Run). EndsRun handle found exit policy old (Err told) new) is (inr lacks)
