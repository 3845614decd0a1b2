use Rattle.protocol_wire.proofs.len.+len_varint_within.Given as goal

abbrev pub decreases-len_varint_within : goal.decreases-len_varint_within
decreases-len_varint_within l = l.most
