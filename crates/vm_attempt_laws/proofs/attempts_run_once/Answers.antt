-- What was proposed of a completion is one outcome at most, as its bodies stand.
use Rattle.std.proofs.Common.{arith}
use Rattle.vm_attempt_laws.proofs.attempts_run_once.Goals as goal

pub returns : goal.returns
returns g c = λ function next version options live proposed a bodies n. (let few = bodies.lives.bodies.once n in omega (arith, few))
