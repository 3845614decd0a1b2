use Rattle.std.proofs.Common.{sym, ap, ◌∙◌}
use Rattle.std.specs.BTreeMap.{BTreeMap}
use Rattle.vm_runs.specs.declared.run.Run.{Run}
use Rattle.vm_runs.proofs.Tables.{running, started-set, started-none}
use Rattle.vm_runs.proofs.table.start.Goals as goal

pub returns-in-Some-clause-entries : goal.returns-in-Some-clause-entries
returns-in-Some-clause-entries c =
    (c.get_mut.follows.holds (running c.in-Some.run'.now)).0 ∙ started-set c.args.handle c.args.table.now.entries c.in-Some.run'.now (sym c.in-Some.ensures.value)

pub returns-in_default-clause-entries : goal.returns-in_default-clause-entries
returns-in_default-clause-entries c =
    ap (λ (map : BTreeMap _ Run). map.entries) c.get_mut.follows.holds-at-none ∙ sym (started-none c.args.handle c.args.table.now.entries (sym c.in_default.ensures.value))
