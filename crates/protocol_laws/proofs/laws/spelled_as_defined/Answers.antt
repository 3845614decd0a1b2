use Rattle.protocol_laws.proofs.Requests.{requests_spelled}
use Rattle.protocol_laws.proofs.Notifications.{notifications_spelled, acknowledgements_spelled, suspensions_spelled}
use Rattle.protocol_laws.proofs.laws.spelled_as_defined.Goals as goal

pub returns : goal.returns
returns c = record { request = requests_spelled; notification = notifications_spelled; acknowledgement = acknowledgements_spelled; suspension = suspensions_spelled }
