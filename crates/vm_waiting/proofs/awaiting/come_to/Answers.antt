use Rattle.std.proofs.Common.{refl, inl}
use Rattle.journal_model.specs.Future.{tree_of}
use Rattle.vm_awaits.specs.Views.{results_of}
use Rattle.vm_awaits.specs.declared.resolving.ResolveFutureResult.TheVariants as resolved
use Rattle.vm_waiting.proofs.ResolveLemmas.{resolves_so}
use Rattle.vm_waiting.proofs.awaiting.come_to.Goals as goal

pub returns-in-Ok-AnyCompleted : goal.returns-in-Ok-AnyCompleted
returns-in-Ok-AnyCompleted c =
    let old = c.args.active.now in
    inl (record {
      answer = resolved.AnyCompleted;
      looked = record old { results = c.resolve.new.results };
      resolves = resolves_so c.args.cancellation (tree_of c.args.future) (results_of old.results) (results_of c.resolve.new.results) _ resolved.AnyCompleted c.in-Ok-AnyCompleted.field-0-is c.in-Ok-AnyCompleted.ensures;
      others = refl;
      goes_on = c.wake.ensures;
    })

pub returns-in-Ok-WaitExternalInput : goal.returns-in-Ok-WaitExternalInput
returns-in-Ok-WaitExternalInput c =
    let old = c.args.active.now in
    inl (record {
      answer = resolved.WaitExternalInput _;
      looked = record old { results = c.resolve.new.results };
      resolves = resolves_so c.args.cancellation (tree_of c.args.future) (results_of old.results) (results_of c.resolve.new.results) _ _ c.in-Ok-WaitExternalInput.field-0-is c.in-Ok-WaitExternalInput.ensures;
      others = refl;
      goes_on = (c.stay_asleep.ensures, refl);
    })
