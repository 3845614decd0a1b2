use Rattle.vm_commands.proofs.Comparing.{compares_reflexively, compares_types, compares_headers}
use Rattle.vm_commands.proofs.laws.headers_are_compared.Goals as goal

pub returns-clause-reflexive : goal.returns-clause-reflexive
returns-clause-reflexive c = compares_reflexively

pub returns-clause-types : goal.returns-clause-types
returns-clause-types c = compares_types

pub returns-clause-headers : goal.returns-clause-headers
returns-clause-headers c = compares_headers
