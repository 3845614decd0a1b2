use Rattle.std.proofs.Common.{List, true, refl, ap, ◌∙◌}
use Rattle.std.specs.Prelude.{ℕ}
use Rattle.vm_context.specs.Eager.{known_from}
use Rattle.vm_machine.proofs.starting.fresh_active.Goals as goal

pub returns : goal.returns
returns c = record {
  replaying = refl;
  commands = c.new.ensures.items;
  results = c.new-2.ensures;
  state = c.in_ok-new.ensures.made ∙ ap (λ (pairs : List (List ℕ × List ℕ)). known_from true pairs) c.new-3.ensures.items;
  journal = c.new-5.ensures;
  output = c.new-6.ensures;
  children = c.new-7.ensures;
}
