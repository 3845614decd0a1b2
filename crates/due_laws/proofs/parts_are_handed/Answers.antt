-- All are proved in `Handing` and in `Told`.
use Rattle.due_laws.proofs.InputParts.{part_is_taken, taken_is_part, given_is_asked, count_is_unseen, part_is_handed, chains_are_one}
use Rattle.due_laws.proofs.Told.{chain_is_handed_out, chain_goes_on}
use Rattle.due_laws.proofs.parts_are_handed.Goals as goal

pub returns-clause-taken : goal.returns-clause-taken
returns-clause-taken c = part_is_taken

pub returns-clause-part : goal.returns-clause-part
returns-clause-part c = taken_is_part

pub returns-clause-given : goal.returns-clause-given
returns-clause-given c = given_is_asked

pub returns-clause-unseen : goal.returns-clause-unseen
returns-clause-unseen c = count_is_unseen

pub returns-clause-handed : goal.returns-clause-handed
returns-clause-handed c = part_is_handed

pub returns-clause-chain : goal.returns-clause-chain
returns-clause-chain c = chains_are_one

pub returns-clause-out : goal.returns-clause-out
returns-clause-out c = chain_is_handed_out

pub returns-clause-goes_on : goal.returns-clause-goes_on
returns-clause-goes_on c = chain_goes_on
