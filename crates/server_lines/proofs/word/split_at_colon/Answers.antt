use Rattle.script_lines.proofs.ValueLaws.{at_none, at_some}
use Rattle.server_lines.proofs.word.split_at_colon.Goals as goal

pub returns-in_default : goal.returns-in_default
returns-in_default c = at_none c.args.bytes.now c.in_default.ensures.place

pub returns : goal.returns
returns c = at_some c.args.bytes.now c.in-Some.place c.in-Some.ensures.place
