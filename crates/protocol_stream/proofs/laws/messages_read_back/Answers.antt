-- Proved in `Fronts` and `Streams`.
use Rattle.protocol_stream.proofs.Fronts.{item_at-spelled}
use Rattle.protocol_stream.proofs.Streams.{items-stream, left-stream}
use Rattle.protocol_stream.proofs.laws.messages_read_back.Goals as goal

pub returns-clause-front : goal.returns-clause-front
returns-clause-front c = item_at-spelled

pub returns-clause-stream : goal.returns-clause-stream
returns-clause-stream c = λ messages p. (items-stream messages p, left-stream messages p)
