use Rattle.std.proofs.Common.{[]}
use Rattle.std.proofs.KnownBytes.{Appends-nil}
use Rattle.store_refusals.specs.RefusalConditions.{IsRefused}
use Rattle.store_server.proofs.Showing.{shown_so}
use Rattle.store_server.proofs.listing.list_page.Goals as goal

pub returns-in-Err : goal.returns-in-Err
returns-in-Err g c = (
  shown_so g.S.Store (λ events. IsRefused [] c.in-Err.field-0) (λ events. Unit {0}) c.args.store.now c.page.new.store (λ events p. tt) c.in-Err.ensures,
  Appends-nil (g.W.Write.contents c.args.writer.now),
)
