use Rattle.server_lines.proofs.RequestLaws.{reads_back}
use Rattle.server_lines.proofs.laws.requests_read_back.Goals as goal

pub returns : goal.returns
returns c = reads_back
