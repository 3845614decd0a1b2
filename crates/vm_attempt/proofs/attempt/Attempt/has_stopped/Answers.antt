use Rattle.vm_attempt.proofs.Stopped.{goes_on, stops}
use Rattle.vm_attempt.proofs.attempt.Attempt.has_stopped.Goals as goal

pub returns-in-Ok : goal.returns-in-Ok
returns-in-Ok g c = goes_on c.args.self.now.vm.state.phase c.in-Ok.field-0 c.in-Ok.ensures

pub returns-in-Err : goal.returns-in-Err
returns-in-Err g c = stops c.args.self.now.vm.state.phase c.in-Err.error c.in-Err.ensures
