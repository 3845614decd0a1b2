use Rattle.std.proofs.Common.{refl, sym, ap, ◌∙◌, ℕ}
use Rattle.journal_model.specs.declared.notification.NotificationId.TheVariants.{SignalId}
use Rattle.journal_model.specs.declared.call.Answer.{Answer}
use Rattle.journal_model.specs.Awakeable.{awakeable_id}
use Rattle.vm_context.specs.Journal.{JournalCounts}
use Rattle.vm_awaits.specs.Views.{results_of}
use Rattle.vm_awaits.specs.Calls.{with_handle}
use Rattle.vm_calls.specs.declared.active.Active.{Active}
use Rattle.vm_calls.proofs.Handling.{handles, awakeable_handles, slot_is}
use Rattle.vm_calls.proofs.active.Active.awakeable.Goals as goal

pub returns-in-Ok-clause-gives : goal.returns-in-Ok-clause-gives
returns-in-Ok-clause-gives c =
    let takes = c.in_ok-signal.ensures.ok in
    record {
      text = c.in-Ok.ensures ∙ ap (λ (n : ℕ). awakeable_id c.args.invocation_id.now n) takes.id;
      takes = record { id = refl; handle = takes.handle; results = takes.results; others = takes.others; has = takes.has };
    }

pub returns-in-Ok-clause-made : goal.returns-in-Ok-clause-made
returns-in-Ok-clause-made c =
    λ checks_off given m named sees.
    let old = c.args.self.now in
    let new = c.next_signal.new.self in
    let takes = c.in_ok-signal.ensures.ok in
    let signal = takes.id ∙ sees.signals in
    let text = (λ i. awakeable_id (named i) (sym signal i)) ∙ sym c.in-Ok.ensures in
    let handle = sym (takes.handle ∙ slot_is given old m sees) in
    handles checks_off given m _ (SignalId m.signals) 1 (awakeable_handles given m) old sees new
    (takes.results ∙ ap (λ (n : ℕ). with_handle (SignalId n) (results_of old.results)) sees.signals)
    (ap (λ (a : Active). a.journal.completions) takes.others) (ap (λ (a : Active). a.journal.signals) takes.others)
    (takes.others ∙ ap (λ (counts : JournalCounts). record old { journal = counts; results = new.results }) (sym (ap (λ (a : Active). a.journal) takes.others)))
    takes.has (Answer.Awakeable c.in-Ok.id c.in_ok-signal.handle) (λ i. Answer.Awakeable (text i) (handle i))
