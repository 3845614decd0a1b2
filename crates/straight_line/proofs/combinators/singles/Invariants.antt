-- The children so far are those of the first handles.
use Rattle.std.proofs.Common.{◌≡◌, map, take}
use Rattle.journal_model.specs.declared.future.UnresolvedFuture.TheVariants.{Single}
use Rattle.straight_line.proofs.combinators.singles.Given as goal

abbrev pub invariant-loop-handle : goal.invariant-loop-handle
invariant-loop-handle l = l.children ≡ map Single (take l.handle-index l.handles)
