use Rattle.std.proofs.Common.{◌≡◌, false, true, ap, ◌∙◌, ℕ}
use Rattle.journal_model.specs.declared.notification.NotificationId.TheVariants.{SignalId}
use Rattle.vm_context.specs.Journal.{JournalCounts}
use Rattle.vm_awaits.specs.Views.{results_of}
use Rattle.vm_awaits.specs.Calls.{with_handle}
use Rattle.vm_calls.proofs.Calls.{has_signal}
use Rattle.vm_calls.proofs.active.Active.next_signal.Goals as goal

pub returns-clause-ok : goal.returns-clause-ok
returns-clause-ok c =
    let old = c.args.self.now in
    let made = c.in_ok-handle.ensures in
    record {
      id = c.in-Ok.ensures.id;
      handle = made.handle;
      results = made.made ∙ ap (λ (n : ℕ). with_handle (SignalId n) (results_of old.results)) c.in-Ok.ensures.id;
      others = ap (λ (counts : JournalCounts). record old { journal = counts; results = c.handle_for.new.results }) c.in-Ok.ensures.ok;
      has = has_signal old (λ none. let wrong : false ≡ true = c.in-Ok.ensures.exhausted.1 none in cc) made.left;
    }
