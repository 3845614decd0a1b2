-- All are proved in `LiveInput`.
use Rattle.live_laws.proofs.LiveInput.{begin_live, keep_live, hand_live, live_asked}
use Rattle.live_laws.proofs.attempts_are_live.Goals as goal

pub returns : goal.returns
returns c = record { begins = begin_live; events = keep_live; handed = hand_live; asked = live_asked }
