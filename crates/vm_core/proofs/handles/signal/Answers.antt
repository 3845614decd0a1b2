use Rattle.vm_outcomes.proofs.Handling.{signal_carried}
use Rattle.vm_core.proofs.handles.signal.Goals as goal

pub returns : goal.returns
returns c =
    signal_carried c.args.name c.args.vm.now.state c.create_signal_handle.result c.create_signal_handle.new.self.state c.handled.result c.handled.ensures
    c.create_signal_handle.ensures
