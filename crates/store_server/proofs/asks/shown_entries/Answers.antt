use Rattle.store_server.proofs.Reaching.{reaches_told}
use Rattle.store_server.proofs.Showing.{KnownRecorded, Unknown, entries_read, entries_unread, refused_so}
use Rattle.store_server.proofs.asks.shown_entries.Goals as goal

pub returns-in-Ok-clause-ok : goal.returns-in-Ok-clause-ok
returns-in-Ok-clause-ok g c =
    let asked = c.entries in
    let entries = c.in-Ok.entries.items in
    entries_read g.S.Store c.args.id.now c.args.store.now asked.new.self entries
    (reaches_told g.S.Store c.args.store.now asked.new.self asked.ensures.crash asked.ensures.live (KnownRecorded c.args.id.now entries) c.in-Ok.ensures.told)
    (λ shown. shown.items) c.read_entries.result c.read_entries.ensures.ok

pub returns-in-Ok-clause-err : goal.returns-in-Ok-clause-err
returns-in-Ok-clause-err g c =
    let asked = c.entries in
    let entries = c.in-Ok.entries.items in
    entries_unread g.S.Store c.args.id.now c.args.store.now asked.new.self entries
    (reaches_told g.S.Store c.args.store.now asked.new.self asked.ensures.crash asked.ensures.live (KnownRecorded c.args.id.now entries) c.in-Ok.ensures.told)
    c.read_entries.result c.read_entries.ensures.err

pub returns-in-Err-clause-err : goal.returns-in-Err-clause-err
returns-in-Err-clause-err g c =
    let asked = c.entries in
    let why = c.in-Err.refusal in
    refused_so g.S.Store c.args.id.now c.args.store.now asked.new.self why
    (reaches_told g.S.Store c.args.store.now asked.new.self asked.ensures.crash asked.ensures.live (Unknown c.args.id.now why) c.in-Err.ensures.told)
