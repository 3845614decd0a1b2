-- The arrivals of the rows so far are heard.
use Rattle.std.proofs.Common.{List, take}
use Rattle.journal_model.specs.Notification.{Arrival}
use Rattle.store_frames.specs.First.{AreFirst}
use Rattle.store_arrivals.specs.ArrivalRows.{AreRowsOf}
use Rattle.store_arrivals.proofs.wake.hear_rows.Given as goal

abbrev pub invariant-loop-row : goal.invariant-loop-row
invariant-loop-row l = (arrivals : List Arrival) → AreRowsOf arrivals l.rows → AreFirst l.first (take l.row-index arrivals)
