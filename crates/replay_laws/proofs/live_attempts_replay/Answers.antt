-- The laws are proved in `Living` and `Going`.
use Rattle.replay_laws.proofs.LiveReplay.{lives_replay}
use Rattle.replay_laws.proofs.Going.{lives_stay}
use Rattle.replay_laws.proofs.live_attempts_replay.Goals as goal

pub returns-clause-replays : goal.returns-clause-replays
returns-clause-replays c = lives_replay

pub returns-clause-stays : goal.returns-clause-stays
returns-clause-stays c = lives_stay
