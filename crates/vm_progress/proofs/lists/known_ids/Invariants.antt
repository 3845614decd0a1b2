use Rattle.std.proofs.Common.{◌≡◌, ◌++◌, drop}
use Rattle.std.specs.List.{flat_map}
use Rattle.vm_progress.specs.UncompletedAwaits.{started_id, known_of, known_runs}
use Rattle.vm_progress.proofs.lists.known_ids.Given as goal

abbrev pub invariant-loop-signal : goal.invariant-loop-signal
invariant-loop-signal l = l.known.items ++ flat_map (known_of (started_id l.start)) (drop l.signal-index l.signals) ≡ known_runs l.runs.table ++ flat_map (known_of (started_id l.start)) l.signals
