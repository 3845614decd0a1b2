use Rattle.std.proofs.Common.{List}
use Rattle.store_server.specs.Dialogue.{DoneLine, HasServed}
use Rattle.store_server.proofs.serving.serve.Given as goal

abbrev pub invariant-loop : goal.invariant-loop
invariant-loop g l = (done : List DoneLine) × HasServed g.S.Store (g.R.Read.remaining l.initial.reader) (g.R.Read.remaining l.reader) (g.W.Write.contents l.initial.writer) (g.W.Write.contents l.writer) l.initial.store l.store done
