use Rattle.std.proofs.Common.{◌≡◌, ℕ, ◌<◌, length, take, List, [], ◌∷◌, subst, rules}
use Rattle.std.proofs.lemmas.Result.{err_from_is_err_and}
use Rattle.std.proofs.KnownBytes.{Appends-trans}
use Rattle.std.specs.Io.KnownBytes.{Appends}
use Rattle.std.specs.Prelude.{string_bytes}
use Rattle.script_lines.specs.Script.{numbered_lines}
use Rattle.script_lines.specs.ScriptLines.{lines_left}
use Rattle.durable_script.specs.Runner.{DoesNext}
use Rattle.durable_script.specs.Run.{texts_of}
use Rattle.durable_script.proofs.Lasting.{none_run}
use Rattle.durable_script.proofs.Doing.{next_line, one_more, stops, breaks}
use Rattle.durable_script.proofs.run.do_lines.Goals as goal

pub loop-line-init : goal.loop-line-init
loop-line-init g c = record {
  can = tt;
  finite = tt;
  done = [];
  has_done = record { lines_are = search rules; understood = tt; does = none_run g.S.Store c.args.runner.now.scheduler };
  written = search rules;
}

pub returns-in_err-text : goal.returns-in_err-text
returns-in_err-text g c =
    let inv = c.loop-line.invariant in
    let p = err_from_is_err_and c.from_residual.result c.from_residual.ensures.1 in
    rw (p.1, p.2)
    (stops g.S.Store (numbered_lines c.args.script.now) c.args.runner.now.scheduler inv.done c.in-Some.line.number c.in-Some.line.bytes.now c.in_err-text.field-0.0 c.loop-line.runner c.do_line.new.self
    (lines_left c.loop-line.line-iterator) (lines_left c.next.new.self) (g.W.Write.contents c.args.writer.now) (g.W.Write.contents c.loop-line.writer)
    c.in_err-text.ensures.err inv.has_done c.in-Some.ensures.steps inv.written)

pub returns-in_err-write_text : goal.returns-in_err-write_text
returns-in_err-write_text g c =
    let inv = c.loop-line.invariant in
    let p = err_from_is_err_and c.from_residual-in_err-write_text.result c.from_residual-in_err-write_text.ensures.1 in
    let text = string_bytes c.in_ok-text.text in
    let between = g.W.Write.contents c.loop-line.writer in
    let has = g.W.Write.contents c.write_text.new.writer in
    let failed = c.in_err-write_text.ensures.err in
    rw (p.1, p.2, failed.0)
    (breaks g.S.Store (numbered_lines c.args.script.now) c.args.runner.now.scheduler inv.done c.in-Some.line.number c.in-Some.line.bytes.now text c.loop-line.runner c.do_line.new.self
    (lines_left c.loop-line.line-iterator) (lines_left c.next.new.self) (g.W.Write.contents c.args.writer.now) between has failed.1
    c.in_ok-text.ensures.ok inv.has_done c.in-Some.ensures.steps inv.written
    (subst (λ (bs : List ℕ). failed.1 < length bs) c.as_bytes.ensures.value failed.2)
    (subst (λ (bs : List ℕ). Appends between has (take failed.1 bs)) c.as_bytes.ensures.value failed.3))

pub loop-line-preserved : goal.loop-line-preserved
loop-line-preserved g c =
    let inv = c.loop-line.invariant in
    let lines = numbered_lines c.args.script.now in
    let start = c.args.runner.now.scheduler in
    let number = c.in-Some.line.number in
    let bytes = c.in-Some.line.bytes.now in
    let text = string_bytes c.in_ok-text.text in
    let old = c.loop-line.runner in
    let new = c.do_line.new.self in
    let next : lines_left c.loop-line.line-iterator ≡ (number, bytes) ∷ lines_left c.next.new.self = c.in-Some.ensures.steps in
    let does : DoesNext g.S.Store bytes text old new = c.in_ok-text.ensures.ok in
    record {
      can = tt;
      finite = tt;
      done = next_line g.S.Store lines start inv.done number bytes text old new does ∷ inv.done;
      has_done = one_more g.S.Store lines start inv.done number bytes text old new (lines_left c.loop-line.line-iterator) (lines_left c.next.new.self) does inv.has_done next;
      written = Appends-trans (g.W.Write.contents c.args.writer.now) (g.W.Write.contents c.loop-line.writer) (g.W.Write.contents c.write_text.new.writer) (texts_of inv.done) text
          inv.written (subst (λ (bs : List ℕ). Appends (g.W.Write.contents c.loop-line.writer) (g.W.Write.contents c.write_text.new.writer) bs) c.as_bytes.ensures.value c.in_ok-write_text.ensures.ok);
    }
