use Rattle.journal_model.specs.Future.{tree_of}
use Rattle.vm_outcomes.proofs.Awaiting.{await_carried}
use Rattle.vm_core.proofs.awaits.await_future.Goals as goal

pub returns : goal.returns
returns c =
    await_carried c.args.future (tree_of c.into_future.result) c.args.vm.now.state c.do_await.result c.do_await.new.self.state c.awaited.result
    c.into_future.ensures c.awaited.ensures c.do_await.ensures
