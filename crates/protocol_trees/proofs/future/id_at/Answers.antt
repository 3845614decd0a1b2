use Rattle.std.proofs.Common.{sym}
use Rattle.protocol_trees.proofs.Places.{name_at}
use Rattle.protocol_trees.proofs.future.id_at.Goals as goal

pub returns : goal.returns
returns c = name_at c.args.completions.now c.args.signals.now c.args.names.now c.args.index c.in-Some-at-2.name.now
    (sym (rw c.in_default.is at c.at.ensures)) (sym (rw c.in_default-at.is at c.at-2.ensures)) (sym (rw c.in-Some-at-2.is at c.at-3.ensures))
