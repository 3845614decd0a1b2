use Rattle.vm_calls.proofs.PromiseCalls.{promise_told}
use Rattle.vm_calls.proofs.promises.completing_command.Goals as goal

pub returns : goal.returns
returns c = promise_told c.args.key c.args.value _ c.args.result_completion_id c.args.name c.in_ok-completion.ensures
