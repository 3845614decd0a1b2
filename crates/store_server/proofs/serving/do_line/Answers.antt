use Rattle.std.proofs.Common.{ℕ, List, subst}
use Rattle.std.specs.Prelude.{string_bytes}
use Rattle.store_server.specs.Dialogue.{StopsAtLine}
use Rattle.store_server.proofs.Answering.{part_given, text_given}
use Rattle.store_server.proofs.LinesServed.{stops_given}
use Rattle.store_server.proofs.serving.do_line.Goals as goal

pub returns-in-Ok-sent : goal.returns-in-Ok-sent
returns-in-Ok-sent g c =
    text_given g.S.Store c.args.line.items c.args.store.now c.answer_line-answer.new.store c.as_slice.result.now c.as_slice.ensures.value (string_bytes c.in-Ok.text) c.as_bytes.result.now c.as_bytes.ensures.value
    (g.W.Write.contents c.args.writer.now) (g.W.Write.contents c.send-sent.new.writer) c.in-Ok.ensures.ok c.in-Ok-sent.ensures.ok

pub returns-in-Err-sent : goal.returns-in-Err-sent
returns-in-Err-sent g c =
    part_given g.S.Store c.args.line.items c.args.store.now c.answer_line-answer.new.store c.as_slice.result.now c.as_slice.ensures.value (string_bytes c.in-Ok.text) c.as_bytes.result.now c.as_bytes.ensures.value
    (g.W.Write.contents c.args.writer.now) (g.W.Write.contents c.send-sent.new.writer) c.in-Ok.ensures.ok c.in-Err-sent.fault c.in-Err-sent.ensures.err

pub returns-in-Err : goal.returns-in-Err
returns-in-Err g c =
    let a = c.args.store.now in
    let b = c.answer_line-answer.new.store in
    let fault = c.in-Err.fault in
    stops_given g.S.Store c.args.line.items (g.W.Write.contents c.args.writer.now) a b fault
    (subst (λ (line : List ℕ). StopsAtLine g.S.Store line fault a b) c.as_slice.ensures.value c.in-Err.ensures.err)
