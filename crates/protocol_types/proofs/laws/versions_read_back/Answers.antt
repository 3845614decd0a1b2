-- Proved in `Versions`.
use Rattle.protocol_types.proofs.Versions.{content_types_read_back, versions_read_back, spoken_versions_have_numbers}
use Rattle.protocol_types.proofs.laws.versions_read_back.Goals as goal

pub returns-clause-content_type : goal.returns-clause-content_type
returns-clause-content_type c = content_types_read_back

pub returns-clause-number : goal.returns-clause-number
returns-clause-number c = versions_read_back

pub returns-clause-spoken : goal.returns-clause-spoken
returns-clause-spoken c = spoken_versions_have_numbers
