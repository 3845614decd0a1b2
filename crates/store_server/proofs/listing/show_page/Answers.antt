use Rattle.std.proofs.Common.{length, refl, sym, inl, arith, take_all}
use Rattle.store_server.specs.Rows.{all_listed_text}
use Rattle.store_server.proofs.listing.show_page.Goals as goal

pub returns-in-Err-next : goal.returns-in-Err-next
returns-in-Err-next g c = let text = all_listed_text c.args.invocations.items in (inl refl, (text, (length text, omega arith, sym (take_all (length text) text (omega arith))), c.in-Ok.ensures.ok))
