-- Those so far have come behind whatever came before.
use Rattle.std.proofs.Common.{List, ◌++◌, take}
use Rattle.journal_model.specs.Notification.{Arrival}
use Rattle.store_frames.specs.First.{AreFirst}
use Rattle.store_frames.proofs.first.FirstArrivals.hear_all.Given as goal

abbrev pub invariant-loop-arrival : goal.invariant-loop-arrival
invariant-loop-arrival l = (before : List Arrival) → AreFirst l.initial.self before → AreFirst l.self (before ++ take l.arrival-index l.arrivals)
