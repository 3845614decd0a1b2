use Rattle.vm_feeding.proofs.Cuts.{cuts_are_one, one_is_cuts}
use Rattle.vm_feeding.proofs.laws.bytes_come_in_any_cut.Goals as goal

pub returns-clause-one : goal.returns-clause-one
returns-clause-one c = cuts_are_one

pub returns-clause-cuts : goal.returns-clause-cuts
returns-clause-cuts c = one_is_cuts
