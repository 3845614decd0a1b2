-- A run is called, and what an attempt at its body has ended with is proposed.
use Rattle.std.proofs.Common.{◌≡◌, ℕ, Bool, true, false, Option, Some, None, Result, Ok, Err, inl, inr, refl, ap, ◌∙◌}
use Rattle.journal_model.specs.Notification.{Text}
use Rattle.journal_model.specs.declared.value.NonEmptyValue.{NonEmptyValue}
use Rattle.protocol_controls.specs.declared.propose_run_completion.ProposeRunCompletionMessage.{ProposeRunCompletionMessage}
use Rattle.protocol_errors.specs.declared.metadata.CommandMetadata.{CommandMetadata}
use Rattle.protocol_errors.specs.declared.error.Error.{Error}
use Rattle.protocol_stream.specs.Frame.{spelled}
use Rattle.protocol_stream.specs.declared.encoder.EncodingError.{EncodingError}
use Rattle.protocol_types.specs.Version.{version_number}
use Rattle.protocol_types.specs.declared.feature.Feature.{Feature}
use Rattle.vm_awaits.specs.Views.{slots_of}
use Rattle.vm_context.specs.Output.{Written}
use Rattle.vm_machine.specs.declared.machine_state.MachineState.{MachineState}
use Rattle.vm_refusals.specs.declared.retries.RetryPolicy.{RetryPolicy}
use Rattle.vm_refusals.specs.declared.runs.RunExitResult.{RunExitResult}
use Rattle.vm_refusals.specs.declared.runs.RunHandle.{RunHandle}
use Rattle.vm_refusals.specs.BodyExits.{feature_lacked}
use Rattle.vm_refusals.specs.declared.ending.BodyEnd.{BodyEnd}
use Rattle.vm_runs.specs.declared.run.Run.{Run}
use Rattle.vm_start.specs.Phases.{kept_error}
use Rattle.vm_proposals.specs.RunCallEffects.{CallsRun}
use Rattle.vm_proposals.specs.RunFailureCauses.{run_told}
use Rattle.vm_proposals.specs.ProposalEffects.{is_processing, let_go, proposal, proposal_message, WritesProposal, SettlesProposal, LetsGo, ProposesValue, GoesOnAs, EndsKnown, open_run, EndsRun, ProposesIf, ProposesWhere, ProposesRun}
use Rattle.vm_core_laws.proofs.Keeping.{Stands, moved, like_again, output_like, failed}
use Rattle.vm_core_laws.proofs.Making.{commands_stand}
use Rattle.vm_core_laws.proofs.Waiting.{frame_keeps}

-- ---- calls

pub run_stands : (name : Text) (old : MachineState) (result : Result RunHandle Error) (new : MachineState) → CallsRun name old result new → Stands old → Stands new
run_stands name old result new is stands = commands_stand _ _ refl _ _ _ _ (record old { runs = new.runs }) result new is.calls stands

-- ---- proposals

written_closed : (one : ProposeRunCompletionMessage) (old new : Written) → WritesProposal one old (Ok tt) new → new.is_closed ≡ old.is_closed
written_closed one old new writes = ap (λ (written : Written). written.is_closed) writes.1 ∙ frame_keeps (spelled (proposal_message old.version one)) old

module _ (handle completion : ℕ) (command : CommandMetadata) (value : NonEmptyValue) (old : MachineState) where
  settled : (written : Result (Unit {0}) EncodingError) (output : Written) (result : Result (Unit {0}) Error) (new : MachineState) → WritesProposal (proposal completion value) old.active.output written output
      → SettlesProposal command written (record (let_go handle value old) { active = record old.active { output = output } }) result new → Stands old → Stands new
  settled (Ok done) output (Ok proposed) new writes settles stands =
      like_again (let_go handle value old) (record old.active { output = output }) new settles
      (output_like old.active (record old.active { output = output }) refl (written_closed (proposal completion value) old.active.output output writes)) stands
  settled (Ok done) output (Err told) new writes settles stands = absurd settles
  settled (Err error) output (Ok proposed) new writes settles stands = absurd settles
  settled (Err error) output (Err told) new writes settles stands = failed settles.cause _ told new settles.fails

  let_gone : (result : Result (Unit {0}) Error) (new : MachineState) → LetsGo handle completion command value old result new → Stands old → Stands new
  let_gone result new is stands = settled is.written is.output result new is.writes is.settles stands

  proposed : (result : Result (Unit {0}) Error) (new : MachineState) → ProposesValue handle completion command value old result new → Stands old → Stands new
  proposed (Ok done) new is stands = let_gone (Ok done) new is stands
  proposed (Err told) new (inl is) stands = let_gone (Err told) new is stands
  proposed (Err told) new (inr lacks) stands = failed lacks.cause old told new lacks.fails

module _ (handle completion : ℕ) (command : CommandMetadata) (old : MachineState) where
  ended_as : (end : BodyEnd) (result : Result (Unit {0}) Error) (new : MachineState) → GoesOnAs handle completion command end old result new → Stands old → Stands new
  ended_as (BodyEnd.Outcome value) result new is stands = proposed handle completion command value old result new is stands
  ended_as (BodyEnd.Retry error delay) (Ok done) new is stands = absurd is
  ended_as (BodyEnd.Retry error delay) (Err told) new is stands = failed _ old told new is
  ended_as (BodyEnd.Pause error) (Ok done) new is stands = absurd is
  ended_as (BodyEnd.Pause error) (Err told) new is stands = failed _ old told new is

  ended : (exit : RunExitResult) (policy : RetryPolicy) (result : Result (Unit {0}) Error) (new : MachineState) → EndsKnown handle completion command exit policy old result new → Stands old → Stands new
  ended exit policy (Ok done) new is stands = ended_as is.end (Ok done) new is.goes_on stands
  ended exit policy (Err told) new (inl is) stands = ended_as is.end (Err told) new is.goes_on stands
  ended exit policy (Err told) new (inr lacks) stands = failed lacks.1.cause old told new lacks.1.fails

module _ (handle : ℕ) (exit : RunExitResult) (policy : RetryPolicy) (old : MachineState) where
  run_ended : (found : Option Run) (result : Result (Unit {0}) Error) (new : MachineState) → EndsRun handle found exit policy old result new → Stands old → Stands new
  run_ended None (Ok done) new is stands = absurd is
  run_ended None (Err told) new is stands = failed _ old told new is
  run_ended (Some run) (Ok done) new is stands = ended handle run.completion (run_told run) old exit policy (Ok done) new is stands
  run_ended (Some run) (Err told) new (inl is) stands = ended handle run.completion (run_told run) old exit policy (Err told) new is stands
  run_ended (Some run) (Err told) new (inr lacks) stands = failed lacks.cause old told new lacks.fails

  proposed_if : (processing : Bool) (result : Result (Unit {0}) Error) (new : MachineState) → ProposesIf processing handle exit policy old result new → Stands old → Stands new
  proposed_if true result new is stands = run_ended (open_run (slots_of old.active.results) old.runs.table handle) result new is stands
  proposed_if false result new is stands = moved old new is.1 stands

  proposed_where : (kept : Option Error) (lacked : Option Feature) (result : Result (Unit {0}) Error) (new : MachineState) → ProposesWhere kept lacked handle exit policy old result new → Stands old → Stands new
  proposed_where (Some kept) lacked (Ok done) new is stands = absurd is
  proposed_where (Some kept) lacked (Err told) new is stands = moved old new is.0 stands
  proposed_where None (Some feature) (Ok done) new is stands = absurd is
  proposed_where None (Some feature) (Err told) new is stands = failed is.cause old told new is.fails
  proposed_where None None result new is stands = proposed_if (is_processing old.phase old.active.is_replaying) result new is stands

pub proposal_stands : (handle : ℕ) (exit : RunExitResult) (policy : RetryPolicy) (old : MachineState) (result : Result (Unit {0}) Error) (new : MachineState)
    → ProposesRun handle exit policy old result new → Stands old → Stands new
proposal_stands handle exit policy old result new is stands =
    proposed_where handle exit policy old (kept_error old.phase) (feature_lacked (version_number old.version) policy exit) result new is stands
