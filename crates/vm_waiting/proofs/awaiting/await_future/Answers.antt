use Rattle.journal_model.specs.Future.{tree_of}
use Rattle.vm_waiting.proofs.AwaitReplies.{awaits_as}
use Rattle.vm_waiting.proofs.awaiting.await_future.Goals as goal

pub returns-clause-awaits : goal.returns-clause-awaits
returns-clause-awaits c = awaits_as c.args.cancellation c.args.checks_off (tree_of c.args.future) c.args.active.now c.come_to.result c.come_to.new.active c.come_to.ensures
