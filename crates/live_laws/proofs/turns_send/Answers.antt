-- The law is proved in `Living`.
use Rattle.live_laws.proofs.LiveTurns.{turn_sends}
use Rattle.live_laws.proofs.turns_send.Goals as goal

pub returns : goal.returns
returns c = λ next given id events held read unread asked sent. turn_sends next given id events held read unread asked sent
