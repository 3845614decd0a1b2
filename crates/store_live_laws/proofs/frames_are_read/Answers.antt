-- Both are proved in `Places`.
use Rattle.store_live_laws.proofs.Places.{frames_are_read, known_at_begin}
use Rattle.store_live_laws.proofs.frames_are_read.Goals as goal

pub returns-clause-frames : goal.returns-clause-frames
returns-clause-frames c = frames_are_read

pub returns-clause-known : goal.returns-clause-known
returns-clause-known c = known_at_begin
