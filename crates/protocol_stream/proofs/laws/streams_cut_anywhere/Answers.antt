-- Proved in `Streams` and `Decoding`.
use Rattle.protocol_stream.proofs.Streams.{items-append}
use Rattle.protocol_stream.proofs.Decoding.{decoders_answer_items}
use Rattle.protocol_stream.proofs.laws.streams_cut_anywhere.Goals as goal

pub returns-clause-cut : goal.returns-clause-cut
returns-clause-cut c = items-append

pub returns-clause-decoder : goal.returns-clause-decoder
returns-clause-decoder c = decoders_answer_items
