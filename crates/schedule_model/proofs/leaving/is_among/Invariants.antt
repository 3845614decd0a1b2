-- Whether the invocation is one of those that are left, is whether it is one of them all.
use Rattle.std.proofs.Common.{◌≡◌, drop}
use Rattle.schedule_model.specs.LettingGo.{is_among}
use Rattle.schedule_model.proofs.leaving.is_among.Given as goal

abbrev pub invariant-loop-other : goal.invariant-loop-other
invariant-loop-other l = is_among (drop l.other-index l.ids) l.id ≡ is_among l.ids l.id
