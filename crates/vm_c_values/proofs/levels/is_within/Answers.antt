use Rattle.std.proofs.Common.{ap, ◌∙◌}
use Rattle.std.specs.Prelude.{nat_le}
use Rattle.std.specs.List.{list_all}
use Rattle.vm_c_values.specs.declared.levels.TheConstants.{NODE_LEVELS}
use Rattle.vm_c_values.proofs.Nesting.{within_is}
use Rattle.vm_c_values.proofs.levels.is_within.Goals as goal

pub returns : goal.returns
returns c =
    within_is c.args.nodes.now c.in_ok-levels.levels.items c.are_within.result c.in_ok-levels.ensures (c.are_within.ensures ∙ ap (list_all (λ level. nat_le level NODE_LEVELS)) c.deref.ensures.value)
