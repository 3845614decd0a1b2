-- Proved in `Facts`.
use Rattle.protocol_stream.proofs.Facts.{requests_typed, requests_have_lines}
use Rattle.protocol_stream.proofs.laws.commands_have_lines.Goals as goal

pub returns-clause-types : goal.returns-clause-types
returns-clause-types c = requests_typed

pub returns-clause-lines : goal.returns-clause-lines
returns-clause-lines c = requests_have_lines
