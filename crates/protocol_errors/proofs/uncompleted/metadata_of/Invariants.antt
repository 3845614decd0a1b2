-- What is left of the pairs holds what all of them hold: none before is of the id.
use Rattle.std.proofs.Common.{◌≡◌, drop}
use Rattle.protocol_errors.specs.Texts.{metadata_of}
use Rattle.protocol_errors.proofs.uncompleted.metadata_of.Given as goal

abbrev pub invariant-loop-pair : goal.invariant-loop-pair
invariant-loop-pair l = metadata_of l.id (drop l.pair-index l.known) ≡ metadata_of l.id l.known
