use Rattle.protocol_laws.proofs.Told.{requests_told}
use Rattle.protocol_laws.proofs.Back.{records_told}
use Rattle.protocol_laws.proofs.laws.told_as_spelled.Goals as goal

pub returns-clause-requests : goal.returns-clause-requests
returns-clause-requests c = requests_told

pub returns-clause-records : goal.returns-clause-records
returns-clause-records c = records_told
