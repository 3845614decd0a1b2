-- The laws are proved in `Standing`.
use Rattle.body_laws.proofs.BodySimulation.{begins_with, reads, comes, others_refused, proposes}
use Rattle.body_laws.proofs.bodies_stand.Goals as goal

pub returns-clause-begins : goal.returns-clause-begins
returns-clause-begins c = begins_with

pub returns-clause-reads : goal.returns-clause-reads
returns-clause-reads c = λ handler given journal arrivals calls proposed e arrival late at. reads handler given journal arrivals calls proposed e arrival late at

pub returns-clause-comes : goal.returns-clause-comes
returns-clause-comes c = λ handler given journal arrivals calls proposed e n value is a once at. comes handler given journal arrivals calls proposed e n value is a once at

pub returns-clause-refuses : goal.returns-clause-refuses
returns-clause-refuses c = λ handler given journal arrivals calls proposed e n none at. others_refused handler given journal arrivals calls proposed e n none at

pub returns-clause-proposes : goal.returns-clause-proposes
returns-clause-proposes c = λ handler given journal arrivals calls proposed e body value a at. proposes handler given journal arrivals calls proposed e body value a at
