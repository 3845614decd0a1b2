use Rattle.std.proofs.Common.{ℕ, List, Some, ap, subst, ◌∙◌}
use Rattle.protocol_errors.specs.declared.metadata.CommandMetadata.{CommandMetadata}
use Rattle.protocol_errors.specs.declared.error.Error.{Error}
use Rattle.vm_machine.specs.CallAdmission.{MissedCauses}
use Rattle.vm_progress.proofs.reading.next_cause.Goals as goal

pub returns-in-Ok : goal.returns-in-Ok
returns-in-Ok c =
    let plain : Error = c.in_ok-error.error in
    record {
      plain = plain;
      causes = subst (λ (event : List ℕ). MissedCauses 1 c.args.phase.now c.args.active.now event plain) (c.from_static.ensures ∙ c.words.ensures) c.in_ok-error.ensures;
      about = c.with_related_command_metadata.ensures ∙ ap (λ (command : CommandMetadata). record plain { related_command = Some command }) c.in-Ok.ensures.told;
    }
