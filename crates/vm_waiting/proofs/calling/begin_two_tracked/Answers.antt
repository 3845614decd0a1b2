use Rattle.std.proofs.Common.{ap, List}
use Rattle.attempt_model.specs.Children.{Child}
use Rattle.vm_waiting.proofs.calling.begin_two_tracked.Goals as goal

pub returns-in-Ok-clause-taken : goal.returns-in-Ok-clause-taken
returns-in-Ok-clause-taken c = record {
  between = c.begin_two.new.active;
  takes = c.in_ok-name.ensures.taken;
  keeps = ap (λ (children : List Child). record c.begin_two.new.active { children = children }) c.in-Ok.ensures;
}
