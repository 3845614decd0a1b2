use Rattle.std.proofs.Common.{take}
use Rattle.store_tables.specs.Questions.{AreInPlace}
use Rattle.store_tables.proofs.order.are_in_place.Given as goal

abbrev pub invariant-loop-place : goal.invariant-loop-place
invariant-loop-place l = AreInPlace 0 (take l.place l.entries)
