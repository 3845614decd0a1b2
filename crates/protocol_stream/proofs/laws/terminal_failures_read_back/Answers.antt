-- Proved in `RecordSpellings`.
use Rattle.protocol_stream.proofs.RecordSpellings.{terminal_failures_read_back}
use Rattle.protocol_stream.proofs.laws.terminal_failures_read_back.Goals as goal

pub returns : goal.returns
returns c = terminal_failures_read_back
