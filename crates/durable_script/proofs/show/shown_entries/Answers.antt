use Rattle.durable_script.proofs.Showing.{entries_read, entries_unread, refused_as, refused_so}
use Rattle.durable_script.proofs.show.shown_entries.Goals as goal

pub returns-in_err-entries-clause-err : goal.returns-in_err-entries-clause-err
returns-in_err-entries-clause-err g c =
    refused_as c.from_residual.result c.in_err-entries.field-0.0 c.from_residual.ensures.1 _
    (refused_so g.S.Store c.args.id.now c.args.scheduler.now c.entries.new.self c.entries.ensures.crash c.entries.ensures.kept c.in_err-entries.field-0.0 c.in_err-entries.ensures.told)

pub returns-clause-ok : goal.returns-clause-ok
returns-clause-ok g c =
    entries_read g.S.Store c.args.id.now c.args.scheduler.now c.entries.new.self c.entries.ensures.crash c.entries.ensures.kept c.in_ok-entries.entries.items c.in_ok-entries.ensures.told
    (λ shown. shown.items) c.read_entries.result c.read_entries.ensures.ok

pub returns-clause-err : goal.returns-clause-err
returns-clause-err g c =
    entries_unread g.S.Store c.args.id.now c.args.scheduler.now c.entries.new.self c.entries.ensures.crash c.entries.ensures.kept c.in_ok-entries.entries.items c.in_ok-entries.ensures.told
    c.read_entries.result c.read_entries.ensures.err
