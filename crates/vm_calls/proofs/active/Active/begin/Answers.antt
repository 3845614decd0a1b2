use Rattle.std.proofs.Common.{subst}
use Rattle.vm_calls.specs.declared.active.Active.{Active}
use Rattle.vm_calls.specs.Active.{TakesCompletion}
use Rattle.vm_calls.proofs.active.Active.begin.Goals as goal

pub returns-in-Ok-clause-taken : goal.returns-in-Ok-clause-taken
returns-in-Ok-clause-taken c =
    subst (λ (active : Active). TakesCompletion (c.in_ok-id.id, c.in_ok-id.handle) active c.next_completion.new.self) c.ask-copy.ensures.journal c.in_ok-id.ensures.ok
