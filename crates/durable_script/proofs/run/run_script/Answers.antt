use Rattle.std.proofs.Common.{ℕ, List, subst, inr}
use Rattle.script_lines.specs.Script.{numbered_lines}
use Rattle.durable_script.specs.Run.{DoneLine, DoesLines, AreDone, HasRun}
use Rattle.durable_script.proofs.Doing.{comes_so}
use Rattle.durable_script.proofs.Leaving.{are_done}
use Rattle.script_lines.proofs.Writing.{appends_kept}
use Rattle.durable_script.proofs.run.run_script.Goals as goal

pub returns-clause-runs : goal.returns-clause-runs
returns-clause-runs g c =
    let had = g.W.Write.contents c.args.writer.now in
    let between = g.W.Write.contents c.do_lines-reached.new.writer in
    let has = g.W.Write.contents c.finish-result.new.writer in
    let start = c.new-runner.result.scheduler in
    let end = c.do_lines-reached.new.runner.scheduler in
    let store = c.args.store in
    let after = c.into_store-store.result in
    let reached = c.do_lines-reached.result in
    let lines = numbered_lines c.in-Ok.script.items in
    let does : DoesLines lines (λ (done : List DoneLine). HasRun g.S.Store done start end) had between reached =
    subst (λ (bs : List ℕ). DoesLines (numbered_lines bs) (λ (done : List DoneLine). HasRun g.S.Store done start end) had between reached) c.deref.ensures.value c.do_lines-reached.ensures in
    inr (record {
      script = c.in-Ok.script.items;
      known = c.in-Ok.ensures.bytes;
      at_end = c.in-Ok.ensures.end;
      small = c.in-Ok.ensures.limit;
      reached = reached;
      does = record {
        output = does.output;
        appended = appends_kept had between has does.output does.appended c.finish-result.ensures.bytes;
        comes_to = comes_so lines (λ (done : List DoneLine). HasRun g.S.Store done start end) (AreDone g.S.Store store after)
            (λ done understood reached. are_done c.schedules_leave.ensures c.records_of_runs.ensures.headline c.records_of_runs.ensures.closed c.records_of_runs.ensures.never_late c.records_of_runs.ensures.wakes_exactly c.frames_are_taken.ensures c.invocations_stand_alone.ensures.stand c.invocations_stand_alone.ensures.state c.invocations_stand_alone.ensures.answer c.schedules_keep.ensures.begins_told c.schedules_keep.ensures.told g.S.Store store after start end c.new-runner.ensures.store c.new-runner.ensures.options c.new-runner.ensures.held c.into_store-store.ensures done reached)
            does.output reached does.comes_to;
      };
      ends = c.finish-result.ensures.ends;
    })
