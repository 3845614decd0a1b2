use Rattle.std.proofs.Common.{List}
use Rattle.store_server.specs.declared.rows.ListedInvocation.{ListedInvocation}
use Rattle.store_server.specs.Pages.{HasListed}
use Rattle.store_server.proofs.listing.list_pages.Given as goal

abbrev pub invariant-loop : goal.invariant-loop
invariant-loop g l = (pages : List (List ListedInvocation)) × HasListed g.S.Store (g.W.Write.contents l.initial.writer) (g.W.Write.contents l.writer) l.initial.store l.store l.after pages
