-- All are proved in `Begun`.
use Rattle.live_laws.proofs.Begun.{input_first, input_on, input_sent}
use Rattle.live_laws.proofs.inputs_have_journals.Goals as goal

pub returns : goal.returns
returns c = record { begins = input_first; events = input_on; turns = input_sent }
