-- So many groups were ended.
use Rattle.std.proofs.Common.{length, map, List}
use Rattle.sqlite.specs.Held.{state}
use Rattle.sqlite.specs.State.{HasCleanDisk}
use Rattle.journal_model.specs.Event.{Event}
use Rattle.store_tables.specs.Looks.{OnlyAsks}
use Rattle.store_invocations.specs.Rows.{IsStoreOf}
use Rattle.store_arrivals.specs.SleepGroups.{as_group}
use Rattle.store_arrivals.specs.PreparedTicks.{AreOpen}
use Rattle.store_arrivals.proofs.Rowed.{HasEnded}
use Rattle.store_arrivals.proofs.tick.end_groups.Given as goal

abbrev pub invariant-loop-group : goal.invariant-loop-group
invariant-loop-group g l = record {
  ended : HasCleanDisk (state g.S.Store l.tables) → (events : List Event) → IsStoreOf events (state g.S.Store l.initial.tables) → AreOpen events (map as_group l.initial.groups.items)
      → HasEnded events (map as_group l.initial.groups.items) (map as_group l.groups.items) l.initial.writes.items l.writes.items;
  looks : OnlyAsks g.S.Store l.initial.tables l.tables;
}

abbrev pub decreases-loop-group : goal.decreases-loop-group
decreases-loop-group g l = length l.groups.items
