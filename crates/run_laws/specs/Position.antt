-- How requests stand to the run over these arrivals.
use Rattle.std.specs.Prelude.{◌≡◌, ℕ, List, ◌++◌}
use Rattle.journal_model.specs.Notification.{Arrival}
use Rattle.journal_model.specs.Request.{Request}
use Rattle.journal_model.specs.Run.{Handler, Invocation, GoesOn, run, run_requests}

-- so many calls of the run were answered. What the attempt was handed of requests and what it has written, one behind the other, are
-- those of the run so far, and behind them what is left of the journal to be replayed
pub record IsAtCall (next : Handler) (given : Invocation) (arrivals : List Arrival) (asked : List Request) (calls : ℕ) (left : List Request) : Type 0 where
  pub going : (run next given arrivals calls).ending ≡ GoesOn
  pub asked_is : asked ≡ run_requests next given arrivals calls ++ left
