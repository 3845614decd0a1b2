-- The laws are proved in `Posted`.
use Rattle.std.specs.Prelude.{[], ◌∷◌}
use Rattle.delivery_laws.specs.Log.{Found}
use Rattle.delivery_laws.proofs.Posted.{first_posted, posted_accepted, steps_posted}
use Rattle.delivery_laws.proofs.logs_stay_posted.Goals as goal

pub returns-clause-steps : goal.returns-clause-steps
returns-clause-steps c = λ rules before steps accepted. steps_posted rules steps (Found before ∷ []) (first_posted rules before accepted)

pub returns-clause-accepted : goal.returns-clause-accepted
returns-clause-accepted c = posted_accepted
