use Rattle.store_server.proofs.LinesRead.{HasRead}
use Rattle.store_server.proofs.reading.read_line.Given as goal

abbrev pub invariant-loop : goal.invariant-loop
invariant-loop g l = HasRead (g.R.Read.remaining l.initial.reader) (g.R.Read.remaining l.reader) l.line.items
