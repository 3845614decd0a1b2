use Rattle.std.proofs.Common.{◌≡◌, ◌++◌, drop}
use Rattle.std.specs.List.{list_any}
use Rattle.std.specs.BTreeMap.{is_at}
use Rattle.std.specs.Ordering.{nat_cmp}
use Rattle.store_reads.specs.OpenRequests.{rows_told}
use Rattle.store_reads.proofs.requests.requests_but.Given as goal

-- what was told, and what is left
abbrev pub invariant-loop-row : goal.invariant-loop-row
invariant-loop-row l = rows_told (λ n. list_any (is_at (nat_cmp n)) l.come.keys) l.rows ≡ l.open.items ++ rows_told (λ n. list_any (is_at (nat_cmp n)) l.come.keys) (drop l.row-index l.rows)
