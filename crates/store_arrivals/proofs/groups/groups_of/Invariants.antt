-- The rows that are left, put before the groups that stand, are the groups of all.
use Rattle.std.proofs.Common.{◌≡◌, length, map}
use Rattle.store_arrivals.specs.Groups.{grouped}
use Rattle.store_arrivals.specs.SleepGroups.{as_group}
use Rattle.store_arrivals.proofs.Grouping.{put_each}
use Rattle.store_arrivals.proofs.groups.groups_of.Given as goal

abbrev pub invariant-loop-row : goal.invariant-loop-row
invariant-loop-row l = put_each l.rows.items (map as_group l.groups.items) ≡ grouped l.initial.rows.items

abbrev pub decreases-loop-row : goal.decreases-loop-row
decreases-loop-row l = length l.rows.items
