use Rattle.std.proofs.Common.{◌≡◌, false, true, ◌+◌, Some, length, ap, ◌∙◌}
use Rattle.journal_model.specs.declared.notification.NotificationId.TheVariants.{CompletionId}
use Rattle.vm_awaits.specs.Views.{AsyncResults, results_of, slots_of}
use Rattle.vm_awaits.specs.Calls.{with_handle}
use Rattle.vm_context.specs.Journal.{JournalCounts}
use Rattle.vm_waiting.proofs.CompletionPairs.{next_behind, has_two}
use Rattle.vm_waiting.proofs.calling.next_two.Goals as goal

pub returns-clause-ok : goal.returns-clause-ok
returns-clause-ok c =
    let old = c.args.active.now in
    let ids = c.in-Ok.ensures.ids in
    let first = c.in_ok-invocation_id_notification_handle.ensures in
    let second = c.in_ok-call_notification_handle.ensures in
    let last = ap (λ (r : AsyncResults). 17 + length r.slots) first.made ∙ next_behind (slots_of old.results) (Some (CompletionId c.in-Ok.first)) in
    record {
      first_id = ids.0;
      second_id = ids.1;
      first_handle = first.handle;
      second_handle = second.handle ∙ last;
      results = second.made ∙ ap (λ (r : AsyncResults). with_handle (CompletionId c.in-Ok.second) r) first.made
          ∙ (λ i. with_handle (CompletionId (ids.1 i)) (with_handle (CompletionId (ids.0 i)) (results_of old.results)));
      others = ap (λ (counts : JournalCounts). record old { journal = counts; results = c.handle_for-2.new.results }) c.in-Ok.ensures.ok;
      has = has_two old _ last (λ none. let wrong : false ≡ true = c.in-Ok.ensures.exhausted.1 none in cc) second.left;
    }
