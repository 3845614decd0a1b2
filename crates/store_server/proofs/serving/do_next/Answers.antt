use Rattle.store_server.proofs.LinesRead.{line_is_read}
use Rattle.store_server.proofs.LinesServed.{given_goes_on}
use Rattle.store_server.proofs.serving.do_next.Goals as goal

pub returns-in-Ok-Some : goal.returns-in-Ok-Some
returns-in-Ok-Some g c =
    let line = c.in-Ok-Some.line in
    let input = g.R.Read.remaining c.args.reader.now in
    let left = g.R.Read.remaining c.read_line.new.reader in
    given_goes_on g.S.Store input left (g.W.Write.contents c.args.writer.now) (g.W.Write.contents c.do_line.new.writer) c.args.store.now c.do_line.new.store
    line.items c.do_line.result (line_is_read (λ bytes. bytes.items) input left c.in-Ok-Some.field-0 line c.in-Ok-Some.field-0-is c.in-Ok-Some.ensures.ok) c.do_line.ensures
