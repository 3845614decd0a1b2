use Rattle.durable_script.proofs.Naming.{names_function}
use Rattle.durable_script.proofs.laws.handlers_are_named.Goals as goal

pub returns : goal.returns
returns c = λ name handler is. names_function is.0 name handler is.1
