use Rattle.store_reads.proofs.DuePage.{due_is_read}
use Rattle.store_reads.proofs.due_page.due_after.Goals as goal

pub returns-clause-told : goal.returns-clause-told
returns-clause-told g c clean events store agree =
    due_is_read events c.args.live.now.attempts c.args.after.now c.args.most c.add_due.new.ids.items store.accepted agree (c.in_ok-add_due.ensures.told clean events store c.new-ids.ensures.items)
