use Rattle.store_server.proofs.PagesListed.{ends_listing}
use Rattle.store_server.proofs.listing.list_store.Goals as goal

pub returns-in-Ok : goal.returns-in-Ok
returns-in-Ok g c =
    ends_listing g.S.Store (g.W.Write.contents c.args.writer.now) (g.W.Write.contents c.list_pages.new.writer) (g.W.Write.contents c.send.new.writer) c.args.store.now c.list_pages.new.store c.in-Ok.ensures
    c.send.result c.send.ensures.ok c.send.ensures.err
