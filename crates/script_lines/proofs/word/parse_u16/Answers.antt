use Rattle.std.proofs.Common.{◌∙◌, ◌^◌, arith}
use Rattle.script_lines.proofs.WordLaws.{unread_below, narrowed}
use Rattle.script_lines.proofs.word.parse_u16.Goals as goal

pub returns-in_err-parse_u64 : goal.returns-in_err-parse_u64
returns-in_err-parse_u64 c = c.from_residual.ensures ∙ unread_below (2 ^ 16) c.args.word.now c.parse_u64.result (omega arith) c.parse_u64.ensures c.in_err-parse_u64.was

pub returns : goal.returns
returns c = c.ok.ensures.value ∙ narrowed (2 ^ 16) c.args.word.now c.parse_u64.result c.in_ok-parse_u64.field-0 c.try_from.result (omega arith) c.parse_u64.ensures c.in_ok-parse_u64.was c.try_from.ensures
