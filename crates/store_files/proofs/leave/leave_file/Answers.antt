use Rattle.store_files.proofs.Leaving.{left_before, left_so}
use Rattle.store_files.proofs.leave.leave_file.Goals as goal

pub returns-clause-left : goal.returns-clause-left
returns-clause-left g c = λ honest.
    let store = c.into_store.ensures in
    left_so g.met.D.Disk.seen_may_stay c.args.store.connection c.into_connection-connection.result c.into_connection-connection.ensures c.into_store.result store.numbered store.sound store.quiet c.close.result c.close.ensures honest

pub returns-clause-open : goal.returns-clause-open
returns-clause-open g c = λ honest is_open.
    let store = c.into_store.ensures in
    left_before g.met.D.Disk.seen_may_stay c.args.store.connection c.into_connection-connection.result c.into_connection-connection.ensures c.into_store.result store.numbered store.sound store.quiet c.close.result c.close.ensures honest
    store.undone c.schema.ensures.live is_open
