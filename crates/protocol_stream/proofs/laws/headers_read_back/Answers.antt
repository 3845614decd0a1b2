-- Proved in `Headers`.
use Rattle.protocol_stream.proofs.Headers.{header_in-word_of}
use Rattle.protocol_stream.proofs.laws.headers_read_back.Goals as goal

pub returns : goal.returns
returns c = header_in-word_of
