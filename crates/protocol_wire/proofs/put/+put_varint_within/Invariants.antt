use Rattle.protocol_wire.proofs.put.+put_varint_within.Given as goal

abbrev pub decreases-put_varint_within : goal.decreases-put_varint_within
decreases-put_varint_within l = l.most
