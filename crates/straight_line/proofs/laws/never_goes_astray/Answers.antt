use Rattle.straight_line.proofs.FittingRuns.{never_goes_astray}
use Rattle.straight_line.proofs.laws.never_goes_astray.Goals as goal

pub returns : goal.returns
returns c = never_goes_astray
