use Rattle.std.proofs.Common.{ap, List}
use Rattle.attempt_model.specs.Children.{Child}
use Rattle.vm_waiting.proofs.tracking.begin_tracked.Goals as goal

pub returns-in-Ok-clause-taken : goal.returns-in-Ok-clause-taken
returns-in-Ok-clause-taken c = record {
  between = c.begin.new.self;
  takes = c.in_ok-name.ensures.taken;
  keeps = ap (λ (children : List Child). record c.begin.new.self { children = children }) c.in-Ok.ensures;
}
