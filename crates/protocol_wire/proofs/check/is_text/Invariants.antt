use Rattle.std.proofs.Common.{take}
use Rattle.std.specs.Str.{IsAscii}
use Rattle.protocol_wire.proofs.check.is_text.Given as goal

abbrev pub invariant-loop-byte : goal.invariant-loop-byte
invariant-loop-byte l = IsAscii (take l.byte-index l.bytes)
