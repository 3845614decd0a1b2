use Rattle.std.proofs.Common.{◌∙◌, [], ap}
use Rattle.protocol_wire.specs.ComingFields.{coming}
use Rattle.protocol_wire.specs.Selection.{run}
use Rattle.protocol_wire.proofs.Steps.{field_at_nil, fields-none}
use Rattle.protocol_wire.proofs.Choices.{among_nothing}
use Rattle.protocol_wire.proofs.chosen.last_run_at.Goals as goal

pub returns-in-None : goal.returns-in-None
unfolding coming
returns-in-None c = among_nothing c.args.variants.now _ _ (fields-none [] field_at_nil) c.in-None.ensures.none ∙ ap (run c.args.variants.now) c.fields.ensures.all
