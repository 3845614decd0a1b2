use Rattle.std.proofs.Common.{◌≡◌, false, true, ap, ◌∙◌, ℕ}
use Rattle.journal_model.specs.declared.notification.NotificationId.TheVariants.{CompletionId}
use Rattle.vm_context.specs.Journal.{JournalCounts}
use Rattle.vm_awaits.specs.Views.{results_of}
use Rattle.vm_awaits.specs.Calls.{with_handle}
use Rattle.vm_calls.proofs.Calls.{has_one}
use Rattle.vm_calls.proofs.active.Active.next_completion.Goals as goal

pub returns-clause-ok : goal.returns-clause-ok
returns-clause-ok c =
    let old = c.args.self.now in
    record {
      id = c.in-Ok.ensures.id;
      handle = c.in_ok-handle.ensures.handle;
      results = c.in_ok-handle.ensures.made ∙ ap (λ (n : ℕ). with_handle (CompletionId n) (results_of old.results)) c.in-Ok.ensures.id;
      others = ap (λ (journal : JournalCounts). record old { journal = journal; results = c.handle_for.new.results }) c.in-Ok.ensures.ok;
      has = has_one old (λ none. let wrong : false ≡ true = c.in-Ok.ensures.exhausted.1 none in cc) c.in_ok-handle.ensures.left;
    }
