use Rattle.protocol_wire.proofs.varint.+varint_within.Given as goal

abbrev pub decreases-varint_within : goal.decreases-varint_within
decreases-varint_within l = l.most
