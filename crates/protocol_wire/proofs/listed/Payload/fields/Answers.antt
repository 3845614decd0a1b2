use Rattle.std.proofs.Common.{◌∙◌, ap}
use Rattle.protocol_wire.specs.Fields.{fields, are_fields}
use Rattle.protocol_wire.specs.ComingFields.{coming, are_all}
use Rattle.protocol_wire.proofs.listed.Payload.fields.Goals as goal

pub returns-clause-all : goal.returns-clause-all
unfolding coming
returns-clause-all c = c.self.invariant.all ∙ ap fields c.self.view_is

pub returns-clause-whole : goal.returns-clause-whole
unfolding are_all
returns-clause-whole c = c.self.invariant.whole ∙ ap are_fields c.self.view_is
