use Rattle.std.proofs.Common.{[]}
use Rattle.store_server.proofs.LinesServed.{goes_on, none_served, stops}
use Rattle.store_server.proofs.serving.serve.Goals as goal

pub loop-init : goal.loop-init
loop-init g c = ([], none_served g.S.Store (g.R.Read.remaining c.args.reader.now) (g.W.Write.contents c.args.writer.now) c.args.store.now)

pub returns-in-Err : goal.returns-in-Err
returns-in-Err g c =
    let before = c.loop.invariant in
    stops g.S.Store (g.R.Read.remaining c.args.reader.now) (g.R.Read.remaining c.loop.reader) (g.R.Read.remaining c.do_next.new.reader) (g.W.Write.contents c.args.writer.now) (g.W.Write.contents c.loop.writer)
    (g.W.Write.contents c.do_next.new.writer) c.args.store.now c.loop.store c.do_next.new.store before.0 before.1 c.in-Err.fault c.in-Err.ensures

pub loop-preserved : goal.loop-preserved
loop-preserved g c =
    let before = c.loop.invariant in
    goes_on g.S.Store (g.R.Read.remaining c.args.reader.now) (g.R.Read.remaining c.loop.reader) (g.R.Read.remaining c.do_next.new.reader) (g.W.Write.contents c.args.writer.now) (g.W.Write.contents c.loop.writer)
    (g.W.Write.contents c.do_next.new.writer) c.args.store.now c.loop.store c.do_next.new.store before.0 before.1 c.in-Ok-true.field-0 c.in-Ok-true.field-0-test c.in-Ok-true.ensures
