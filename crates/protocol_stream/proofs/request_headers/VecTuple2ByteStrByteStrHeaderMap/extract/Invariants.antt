-- What is left of the pairs holds what all of them hold: none before has the name.
use Rattle.std.proofs.Common.{◌≡◌, drop}
use Rattle.protocol_stream.specs.RequestHeaders.{header_text}
use Rattle.protocol_stream.proofs.request_headers.VecTuple2ByteStrByteStrHeaderMap.extract.Given as goal

abbrev pub invariant-loop-pair : goal.invariant-loop-pair
invariant-loop-pair l = header_text l.name (drop l.pair-index l.pair-items) ≡ header_text l.name l.pair-items
