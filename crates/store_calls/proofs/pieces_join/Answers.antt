-- The law is proved in `Pieces`.
use Rattle.store_calls.proofs.Pieces.{pieces}
use Rattle.store_calls.proofs.pieces_join.Goals as goal

pub returns : goal.returns
returns c = pieces
