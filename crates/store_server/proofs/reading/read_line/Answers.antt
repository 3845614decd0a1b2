use Rattle.store_server.proofs.LinesRead.{stops_so}
use Rattle.store_server.proofs.reading.read_line.Goals as goal

pub returns-in-Err-clause-err : goal.returns-in-Err-clause-err
returns-in-Err-clause-err g c =
    stops_so (g.R.Read.remaining c.args.reader.now) (g.R.Read.remaining c.loop.reader) (g.R.Read.remaining c.read_part.new.reader) c.loop.line.items c.loop.invariant
    c.read_part.new.line.items c.in-Err.fault c.in-Err.ensures
