-- Proved in `Hosting`.
use Rattle.vm_core_laws.proofs.HostCalls.{calls_speak}
use Rattle.vm_core_laws.proofs.calls_speak.Goals as goal

pub returns : goal.returns
returns c = calls_speak
