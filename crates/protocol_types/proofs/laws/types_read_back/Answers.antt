-- Proved in `Types`.
use Rattle.protocol_types.proofs.Types.{names_read_back, custom_entries_read_back, numbers_read_back, rest_is_unknown}
use Rattle.protocol_types.proofs.laws.types_read_back.Goals as goal

pub returns-clause-named : goal.returns-clause-named
returns-clause-named c = names_read_back

pub returns-clause-custom : goal.returns-clause-custom
returns-clause-custom c = custom_entries_read_back

pub returns-clause-number : goal.returns-clause-number
returns-clause-number c = numbers_read_back

pub returns-clause-unknown : goal.returns-clause-unknown
returns-clause-unknown c = rest_is_unknown
