use Rattle.std.proofs.Common.{sym}
use Rattle.vm_types.proofs.Ready.{at_most, first_is, none_first}
use Rattle.vm_types.proofs.commands.EphemeralCommands.least_ready.Goals as goal

pub returns-in-Some-clause-least : goal.returns-in-Some-clause-least
returns-in-Some-clause-least c = rw (← c.self.view_is) (sym (first_is c.self.inside.ready.entries c.in-Some.number.now _ c.in-Some.ensures.first))

pub returns-in-Some-clause-below : goal.returns-in-Some-clause-below
returns-in-Some-clause-below c = rw (← c.self.view_is) (λ number is. at_most c.in-Some.number.now number (c.in-Some.ensures.least number is))

pub returns-in-None-clause-least : goal.returns-in-None-clause-least
returns-in-None-clause-least c = rw (← c.self.view_is) (sym (none_first c.self.inside.ready.entries c.in-None.ensures.variant.1))
