-- The law is proved in `FrameSoundness`.
use Rattle.schedule_laws.proofs.FrameSoundness.{none_lie_in_frames}
use Rattle.schedule_laws.proofs.none_lie_in_frames.Goals as goal

pub returns : goal.returns
returns c = none_lie_in_frames
