-- The laws are proved in `Steps`.
use Rattle.store_live_laws.proofs.Steps.{is_read, handed_out, closed}
use Rattle.store_live_laws.proofs.input_kept.Goals as goal

pub returns : goal.returns
returns c = record { read = is_read; handed_out = handed_out; closed = closed }
