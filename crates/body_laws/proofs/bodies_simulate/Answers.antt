-- The laws are proved in `Calling` and `Standing`.
use Rattle.body_laws.proofs.Calling.{calls_simulate, leaves_none}
use Rattle.body_laws.proofs.BodySimulation.{are_requested}
use Rattle.body_laws.proofs.bodies_simulate.Goals as goal

pub returns-clause-answers : goal.returns-clause-answers
returns-clause-answers c = λ same_header handler given journal arrivals calls proposed e reflexive fits kinds at. calls_simulate same_header handler given journal arrivals calls proposed e reflexive fits kinds at

pub returns-clause-requested : goal.returns-clause-requested
returns-clause-requested c = λ handler given journal arrivals calls proposed e at body a. are_requested handler given journal arrivals calls proposed e at body a

pub returns-clause-suspends : goal.returns-clause-suspends
returns-clause-suspends c = λ handler given journal arrivals calls proposed tree e is_closed waits suspended body a h. leaves_none handler given journal arrivals calls proposed tree e is_closed waits suspended body a h
