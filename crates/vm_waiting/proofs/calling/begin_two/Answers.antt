use Rattle.std.proofs.Common.{subst}
use Rattle.vm_calls.specs.declared.active.Active.{Active}
use Rattle.vm_waiting.specs.CompletionPairs.{TakesTwo}
use Rattle.vm_waiting.proofs.calling.begin_two.Goals as goal

pub returns-in-Ok-clause-taken : goal.returns-in-Ok-clause-taken
returns-in-Ok-clause-taken c =
    subst (λ (active : Active). TakesTwo c.in_ok-first.first c.in_ok-first.second (c.in_ok-first.handles.invocation_id_notification_handle, c.in_ok-first.handles.call_notification_handle) active c.next_two.new.active) c.ask-copy.ensures.journal c.in_ok-first.ensures.ok
