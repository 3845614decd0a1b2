-- What is recorded of an invocation is still of its run once others are forgotten; of one that is forgotten nothing is asked.
use Rattle.std.proofs.Common.{◌≡◌, refl, sym, ap, subst, ◌∙◌, Bool, true, false, List, Some, None}
use Rattle.journal_model.specs.Notification.{Text}
use Rattle.journal_model.specs.State.{StateMap}
use Rattle.journal_model.specs.declared.invocation.NewInvocation.{NewInvocation}
use Rattle.journal_model.specs.Event.{Event}
use Rattle.journal_model.specs.Journal.{invocation_begun}
use Rattle.journal_model.specs.Headline.{run_of}
use Rattle.journal_model.specs.Run.{Handler}
use Rattle.journal_laws.specs.Forgetting.{is_among, without_all}
use Rattle.journal_laws.proofs.Isolation.{invocation_begun-view}
use Rattle.journal_laws.proofs.Several.{several_forget}
use Rattle.run_laws.specs.HeldInvocations.{Holds}
use Rattle.run_laws.proofs.Forgetting.{all_stay, others_hold}
use Rattle.vm_types.specs.Options.{run_options}
use Rattle.vm_types.specs.declared.options.VMOptions.{VMOptions}
use Rattle.schedule_laws.specs.EventBounds.{AcceptedFits}
use Rattle.schedule_laws.specs.InvocationInRun.{FailsNot, HoldsOf, IsInRun, given_of}
use Rattle.durable_schedule.specs.Runs.{ForgottenHold}

module _ (next : Handler) (options : VMOptions) (id : Text) (events : List Event) (ids : List Text) (holds : HoldsOf next options id events) (new : NewInvocation)
    (begun : invocation_begun (without_all ids events) id ≡ Some new) where
  other_holds : is_among ids id ≡ false → IsInRun next options id (without_all ids events) new
  other_holds e =
      let was : invocation_begun events id ≡ Some new =
      sym (invocation_begun-view id events)
      ∙ ap (λ (view : List Event). invocation_begun view id) (sym ((several_forget events ids).views id e))
      ∙ invocation_begun-view id (without_all ids events)
      ∙ begun in
      let it = holds new was in
      record {
        fit = all_stay (AcceptedFits id) (λ object request. tt) ids events it.fit;
        holds =
            subst (λ (start : StateMap). Holds next (run_of (run_options options) options.fallback_random_seed new start) id (without_all ids events)) (sym ((several_forget events ids).starts id e))
            (others_hold next (given_of options id events new) events ids id e it.holds);
        unfailed = all_stay (FailsNot id) (λ object request. tt) ids events it.unfailed;
      }

  any_holds : (b : Bool) → is_among ids id ≡ b → IsInRun next options id (without_all ids events) new
  any_holds true e = let gone : invocation_begun (without_all ids events) id ≡ None = (several_forget events ids).unknown id e in cc
  any_holds false e = other_holds e

pub forgotten_hold : ForgottenHold
forgotten_hold next options id events ids holds new begun = any_holds next options id events ids holds new begun (is_among ids id) refl
