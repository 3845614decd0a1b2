use Rattle.std.proofs.Common.{[]}
use Rattle.store_server.proofs.PagesListed.{last_page, none_listed, one_page, stops_at_page}
use Rattle.store_server.proofs.listing.list_pages.Goals as goal

pub loop-init : goal.loop-init
loop-init g c = ([], none_listed g.S.Store (g.W.Write.contents c.args.writer.now) c.args.store.now c.new-after.result c.new-after.ensures)

pub loop-preserved : goal.loop-preserved
loop-preserved g c =
    let before = c.loop.invariant in
    one_page g.S.Store (g.W.Write.contents c.args.writer.now) (g.W.Write.contents c.loop.writer) (g.W.Write.contents c.list_page.new.writer) c.args.store.now c.loop.store c.list_page.new.store c.loop.after before.0 before.1
    c.in-Ok-Some.field-0 c.in-Ok-Some.last c.in-Ok-Some.field-0-is c.in-Ok-Some.ensures

pub returns-in-Ok-None : goal.returns-in-Ok-None
returns-in-Ok-None g c =
    let before = c.loop.invariant in
    last_page g.S.Store (g.W.Write.contents c.args.writer.now) (g.W.Write.contents c.loop.writer) (g.W.Write.contents c.list_page.new.writer) c.args.store.now c.loop.store c.list_page.new.store c.loop.after before.0 before.1
    c.in-Ok-None.field-0 c.in-Ok-None.field-0-is c.in-Ok-None.ensures

pub returns-in-Err : goal.returns-in-Err
returns-in-Err g c =
    let before = c.loop.invariant in
    stops_at_page g.S.Store (g.W.Write.contents c.args.writer.now) (g.W.Write.contents c.loop.writer) (g.W.Write.contents c.list_page.new.writer) c.args.store.now c.loop.store c.list_page.new.store c.loop.after before.0 before.1
    c.in-Err.fault c.in-Err.ensures
