-- The laws are proved in `Posted` and `Outbox`.
use Rattle.delivery_laws.proofs.Posted.{advances, calls_made, signals_arrive, values_arrive}
use Rattle.delivery_laws.proofs.Outbox.{reaches_once}
use Rattle.delivery_laws.proofs.messages_reach_once.Goals as goal

pub returns-clause-once : goal.returns-clause-once
returns-clause-once c = reaches_once

pub returns-clause-made : goal.returns-clause-made
returns-clause-made c = calls_made

pub returns-clause-arrived : goal.returns-clause-arrived
returns-clause-arrived c = signals_arrive

pub returns-clause-valued : goal.returns-clause-valued
returns-clause-valued c = values_arrive

pub returns-clause-advance : goal.returns-clause-advance
returns-clause-advance c = advances
