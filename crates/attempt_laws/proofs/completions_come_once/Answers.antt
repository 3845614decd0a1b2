-- The law is proved in `Apart`.
use Rattle.attempt_laws.proofs.Apart.{comes_once}
use Rattle.attempt_laws.proofs.completions_come_once.Goals as goal

pub returns : goal.returns
returns c = comes_once
