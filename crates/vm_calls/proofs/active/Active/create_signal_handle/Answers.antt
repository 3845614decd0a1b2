use Rattle.std.proofs.Common.{◌+◌, ◌^◌, length, refl, sym, ap, ◌∙◌}
use Rattle.journal_model.specs.declared.notification.NotificationId.TheVariants.{SignalName}
use Rattle.journal_model.specs.declared.call.Answer.{Answer}
use Rattle.vm_awaits.specs.Views.{slots_of}
use Rattle.vm_calls.proofs.Calls.{one_before}
use Rattle.vm_calls.proofs.Handling.{as_many, handles, signal_handles, slot_is}
use Rattle.vm_calls.proofs.active.Active.create_signal_handle.Goals as goal

pub returns-in-Ok-clause-gives : goal.returns-in-Ok-clause-gives
returns-in-Ok-clause-gives c = record {
  handle = c.in-Ok.ensures.handle;
  results = c.in-Ok.ensures.made;
  others = refl;
  has = λ none. c.in-Ok.ensures.left (one_before (17 + length (slots_of c.args.self.now.results)) (2 ^ 32) none);
}

pub returns-in-Ok-clause-made : goal.returns-in-Ok-clause-made
returns-in-Ok-clause-made c =
    λ checks_off given m sees.
    let old = c.args.self.now in
    handles checks_off given m _ (SignalName c.args.name) 0 (signal_handles given m c.args.name) old sees _ c.in-Ok.ensures.made refl (as_many old.journal.signals 0 refl) refl
    (λ none. c.in-Ok.ensures.left (one_before (17 + length (slots_of old.results)) (2 ^ 32) none)) (Answer.Handle c.in-Ok.handle) (ap Answer.Handle (sym (c.in-Ok.ensures.handle ∙ slot_is given old m sees)))
