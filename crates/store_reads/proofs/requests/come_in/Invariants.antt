use Rattle.std.proofs.Common.{drop}
use Rattle.store_reads.proofs.OpenRequests.{IsCounted}
use Rattle.store_reads.proofs.requests.come_in.Given as goal

-- what has come is in the set or among the rows that are left
abbrev pub invariant-loop-row : goal.invariant-loop-row
invariant-loop-row l = IsCounted l.rows l.come.keys (drop l.row-index l.rows)
