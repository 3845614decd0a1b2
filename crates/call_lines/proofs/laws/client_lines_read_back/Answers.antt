use Rattle.call_lines.proofs.LineLaws.{reads_back}
use Rattle.call_lines.proofs.laws.client_lines_read_back.Goals as goal

pub returns : goal.returns
returns c = reads_back
