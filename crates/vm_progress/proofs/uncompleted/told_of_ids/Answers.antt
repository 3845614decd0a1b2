use Rattle.vm_awaits.specs.Views.{slots_of}
use Rattle.vm_waiting.specs.WaitsFor.{ids_over}
use Rattle.vm_progress.specs.UncompletedAwaits.{started_id}
use Rattle.vm_progress.proofs.Naming.{told_by}
use Rattle.vm_progress.proofs.uncompleted.told_of_ids.Goals as goal

pub returns : goal.returns
returns c =
    told_by (started_id c.args.start.now) c.args.runs.now.table (ids_over (slots_of c.args.results.now) c.args.waits.now) c.in_ok-error.error c.about_nothing-told.result
    c.in_ok-error.ensures c.about_nothing-told.ensures
