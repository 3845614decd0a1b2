use Rattle.store_files.proofs.Lasting.{bare_stand, opened_keep, opened_keep_none}
use Rattle.store_files.proofs.laws.opened_files_last.Goals as goal

pub returns-clause-kept : goal.returns-clause-kept
returns-clause-kept g c = opened_keep g.D.Disk g.met.D.Disk.seen_may_stay

pub returns-clause-none : goal.returns-clause-none
returns-clause-none g c = opened_keep_none g.D.Disk g.met.D.Disk.seen_may_stay

pub returns-clause-bare : goal.returns-clause-bare
returns-clause-bare g c = bare_stand g.D.Disk
