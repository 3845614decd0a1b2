-- The laws are proved in `Following`.
use Rattle.body_laws.proofs.Following.{attempts_follow, proposes_once, turns_tell}
use Rattle.body_laws.proofs.attempts_follow_with_bodies.Goals as goal

pub returns-clause-follows : goal.returns-clause-follows
returns-clause-follows c = attempts_follow

pub returns-clause-once : goal.returns-clause-once
returns-clause-once c = proposes_once

pub returns-clause-tells : goal.returns-clause-tells
returns-clause-tells c = λ same_header handler given journal arrivals a end reflexive fits f kinds. turns_tell same_header reflexive handler given journal arrivals a end fits f kinds
