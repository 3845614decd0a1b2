use Rattle.std.proofs.Common.{sym, subst}
use Rattle.vm_machine.specs.Causes.{NumberCauses}
use Rattle.vm_types.specs.declared.options.JournalReplay.{JournalReplay}
use Rattle.vm_feeding.specs.Handles.{started_id, MakesAwakeable, IsAwakeableWhere}
use Rattle.vm_feeding.proofs.Called.{called}
use Rattle.vm_feeding.proofs.awakeables.make.Goals as goal

pub returns-in-Enabled : goal.returns-in-Enabled
returns-in-Enabled c =
    subst (λ (replay : JournalReplay). IsAwakeableWhere replay c.args.vm.now c.answer.result c.answer.new.vm) (sym c.in-Enabled.is)
    (called (MakesAwakeable (started_id c.args.vm.now.start)) NumberCauses c.args.vm.now
    c.named_by-made.result c.named_by-made.new.active c.answer.result c.answer.new.vm
    c.named_by-made.ensures c.answer.ensures)
