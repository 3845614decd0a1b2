-- The law is proved in `Telling`.
use Rattle.input_laws.proofs.Telling.{input_brings}
use Rattle.input_laws.proofs.inputs_are_messages.Goals as goal

pub returns : goal.returns
returns c = λ events id accepted.
    let brings = input_brings events accepted id in
    (brings.messages, record { pieces = brings.pieces_are; arrivals = brings.arrivals_are })
