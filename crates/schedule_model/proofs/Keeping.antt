-- An attempt of which memory has its last answer alone gives that again.
use Rattle.std.proofs.Common.{◌≡◌, Bool, true, false, Option, Err, refl, sym, subst, ◌∙◌}
use Rattle.journal_model.specs.Run.{Handler}
use Rattle.protocol_errors.specs.declared.error.Error.{Error}
use Rattle.vm_start.specs.declared.phase.Phase.{Phase}
use Rattle.vm_start.specs.declared.phase.Phase.TheVariants as phases
use Rattle.vm_attempt.specs.MachineInput.{TellsReady}
use Rattle.vm_attempt.specs.TurnOutcomes.{again, Turns, TurnsUnless}
use Rattle.vm_attempt.specs.declared.attempt.Attempt.{Attempt}
use Rattle.vm_attempt.specs.declared.run_outcome.RunOutcome.{RunOutcome}
use Rattle.vm_attempt.specs.declared.turn.Finish.{Finish}
use Rattle.vm_attempt.specs.declared.turn.Turn.{Turn}
use Rattle.schedule_model.specs.AttemptMemory.{closed_if, FailsAgain, IsFailed, IsFinished}

module _ {H : Type 0} where
  closed_over : (is_closed : Bool) (seen : Attempt H) → (closed_if is_closed seen).over ≡ seen.over
  closed_over true seen = refl
  closed_over false seen = refl

  closed_phase : (is_closed : Bool) (seen : Attempt H) → (closed_if is_closed seen).vm.state.phase ≡ seen.vm.state.phase
  closed_phase true seen = refl
  closed_phase false seen = refl

  pub turns_over : (function : H → Handler) (ran : RunOutcome) (finish : Finish) (seen : Attempt H) (turn : Turn) → IsFinished finish seen → turn ≡ again finish → Turns function ran seen turn seen
  turns_over function ran finish seen turn f is =
      subst (λ (over : Option Finish). TurnsUnless function ran over seen turn seen) (sym f.over) (is, refl)

  -- whether its input was closed since or not
  pub turns_again : (function : H → Handler) (ran : RunOutcome) (error : Error) (is_closed : Bool) (seen : Attempt H) (turn : Turn) → IsFailed error seen → FailsAgain error turn
      → Turns function ran (closed_if is_closed seen) turn (closed_if is_closed seen)
  turns_again function ran error is_closed seen turn f again =
      let kept = closed_if is_closed seen in
      subst (λ (over : Option Finish). TurnsUnless function ran over kept turn kept) (sym (closed_over is_closed seen ∙ f.going)) (record {
        ready = Err again.0;
        is_ready = subst (λ (phase : Phase). TellsReady phase (Err again.0)) (sym (closed_phase is_closed seen ∙ f.failed)) again.1;
        turns = (again.2, refl);
      })
